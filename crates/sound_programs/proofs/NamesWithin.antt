-- Where all places of a program have a property, so has the place of each fault of names.
use Rattle.std.proofs.Common.{List, [], ◌∷◌, ◌++◌, map, Option, None, Some}
use Rattle.std.specs.Prelude.{flat_map}
use Rattle.std.specs.List.{filter}
use Rattle.std.specs.Option.{option_to_list}
use Rattle.std.specs.Str.{bytes_eq}
use Rattle.fort_tree.specs.declared.place.Place.{Place}
use Rattle.fort_tree.specs.declared.stmt.Named.{Named}
use Rattle.fort_tree.specs.declared.unit.Use.{Use}
use Rattle.claw_meaning.specs.Syntax as plain
use Rattle.claw_meaning.specs.Syntax.{Text}
use Rattle.claw_meaning.specs.Scope.{Entity}
use Rattle.sound_programs.specs.DeclarationFaults.{clashes, seconds, two_dummies, declared_and_used, uses_clash, two_uses, two_units_or_modules, declared_twice_in, declared_twice, Used, used_by, uses_of_modules, first_on_cycle, module_faults_in, module_faults, dummy_without_intent, intent_faults}
use Rattle.sound_programs.specs.Laws.{Each}
use Rattle.sound_programs.specs.LoopFaults.{passed_inside, loop_faults_in_step, loop_faults_in_unit, loop_faults}
use Rattle.sound_programs.specs.NameFaults.{in_each_step, undeclared_in_step, undeclared_in_bounds, undeclared_private, undeclared_dummies, undeclared_in_scope, undeclared_names, unit_faults_in_step, unit_faults}
use Rattle.sound_programs.specs.Placed.{Decl, Unit, Program, bare_program}
use Rattle.sound_programs.specs.Places.{later_of, where_place}
use Rattle.sound_programs.specs.Scopes.{Scope, Of_unit, Of_module, scopes, uses_of, declared, named_decl, named_unit, named_module, units_within, place_of_only, only_names, place_of_use, entity_in, entities_of_modules}
use Rattle.sound_programs.specs.Walks.{Step, Stands, steps_of, parts, parts_read, left_of, name_in, bare_name, name_before_parenthesis, bounds_in, sites, actuals, is_written, name_of_actual}
use Rattle.sound_programs.specs.Within.{InOption, AllInExpr, AllInDecl, AllInUse, AllInUnit, AllInModule, AtNamed, AllPlaces}
use Rattle.sound_programs.proofs.WithinLists.{each_append, each_of_each, each_image, each_kept, each_in_option}
use Rattle.sound_programs.proofs.WithinPlaces.{Within, within_both, within_each, within_any, within_where, within_names, within_decls, at_one_of, at_later, AllInScope, each_scope, each_decl}
use Rattle.sound_programs.proofs.WithinSteps.{AllInStep, AllInStands, AllInActual, each_step_of, each_part_of, each_part_read, each_left, each_name_of, each_bare_name, each_name_before_parenthesis, each_call_name, each_loop_variable, each_private_name, each_name_in_step, each_bound_in, each_actual_in_step, each_name_of_actual}

module _ (P : Place → Type 0) where
  -- ---- Names that are used and not declared

  within_each_step : (faults : Step → List Place) (u : Unit) → ((step : Step) → AllInStep P step → Within P (faults step)) → AllInUnit P u → Within P (in_each_step faults u)
  within_each_step faults u by h = within_each P (AllInStands P) (λ s. faults s.step) (steps_of u) (λ s. by s.step) (each_step_of P u h)

  within_undeclared_in_step : (entity : Text → Entity) (step : Step) → AllInStep P step → Within P (undeclared_in_step entity step)
  within_undeclared_in_step entity step h =
      within_both P _ _ (within_names P _ _ (each_of_each (AllInExpr P) (AtNamed P) bare_name (parts_read step) (each_bare_name P) (each_part_read P step h)))
      (within_both P _ _ (within_names P _ _ (each_name_of P (left_of step) (each_left P step h))) (within_names P _ _ (each_loop_variable P step h)))

  -- each name in a bound of a declaration
  each_name_in_bounds : (decls : List Decl) → Each decls (AllInDecl P) → Each (flat_map name_in (flat_map parts (bounds_in decls))) (AtNamed P)
  each_name_in_bounds decls all = each_name_of P (flat_map parts (bounds_in decls)) (each_part_of P (bounds_in decls) (each_bound_in P decls all))

  within_undeclared_in_bounds : (entity : Text → Entity) (decls : List Decl) → Each decls (AllInDecl P) → Within P (undeclared_in_bounds entity decls)
  within_undeclared_in_bounds entity decls all = within_names P _ _ (each_name_in_bounds decls all)

  within_undeclared_dummies : (u : Unit) → AllInUnit P u → Within P (undeclared_dummies u)
  within_undeclared_dummies u h = within_names P _ _ (each_append (AtNamed P) u.dummies (option_to_list u.result) h.dummies (each_in_option (AtNamed P) u.result h.result))

  within_undeclared_in_scope : (q : plain.Program) (s : Scope) → AllInScope P s → Within P (undeclared_in_scope q s)
  within_undeclared_in_scope q (Of_unit u) h =
      let entity : Text → Entity = entity_in q (Of_unit u) in
      within_both P _ _ (within_each_step (undeclared_in_step entity) u (within_undeclared_in_step entity) h)
      (within_both P _ _ (within_undeclared_in_bounds entity u.decls h.decls)
      (within_both P _ _ (within_undeclared_dummies u h) (within_each_step (undeclared_private entity) u (λ step h. within_names P _ _ (each_private_name P step h)) h)))
  within_undeclared_in_scope q (Of_module n m) h = within_undeclared_in_bounds (entity_in q (Of_module n m)) m.decls h.decls

  pub within_undeclared_names : (p : Program) → AllPlaces P p → Within P (undeclared_names p)
  within_undeclared_names p h = within_each P (AllInScope P) _ (scopes p) (within_undeclared_in_scope (bare_program p)) (each_scope P p h)

  -- ---- Names that are no unit

  within_unit_faults_in_step : (entity : Text → Entity) (step : Step) → AllInStep P step → Within P (unit_faults_in_step entity step)
  within_unit_faults_in_step entity step h =
      within_both P _ _ (within_names P _ _ (each_call_name P step h))
      (within_both P _ _ (within_names P _ _ (each_of_each (AllInExpr P) (AtNamed P) name_before_parenthesis (parts_read step) (each_name_before_parenthesis P) (each_part_read P step h)))
      (within_names P _ _ (each_of_each (AllInExpr P) (AtNamed P) name_before_parenthesis (left_of step) (each_name_before_parenthesis P) (each_left P step h))))

  pub within_unit_faults : (p : Program) → AllPlaces P p → Within P (unit_faults p)
  within_unit_faults p h =
      within_each P (AllInUnit P) _ p.units
      (λ u. within_each_step (unit_faults_in_step (entity_in (bare_program p) (Of_unit u))) u (within_unit_faults_in_step (entity_in (bare_program p) (Of_unit u))))
      h.1

  -- ---- Names that are declared twice

  within_clashes : (xs ys : List Named) → Each xs (AtNamed P) → Each ys (AtNamed P) → Within P (clashes xs ys)
  within_clashes xs ys all all' =
      within_each P (AtNamed P) _ xs
      (λ a h. within_each P (AtNamed P) (λ b. where_place (bytes_eq a.name b.name) (later_of a.at b.at)) ys (λ b h'. within_where P _ _ (at_later P a.at b.at h h')) all')
      all

  within_seconds : (names : List Named) → Each names (AtNamed P) → Within P (seconds names)
  within_seconds [] all = tt
  within_seconds (n ∷ rest) all = within_both P _ _ (within_clashes (n ∷ []) rest (all.0, tt) all.1) (within_seconds rest all.1)

  each_declared : (p : Program) → AllPlaces P p → (s : Scope) → AllInScope P s → Each (declared p s) (AtNamed P)
  each_declared p all (Of_unit u) h = each_image (AllInDecl P) (AtNamed P) named_decl u.decls (λ d h. h.0) h.decls
  each_declared p all (Of_module n m) h =
      each_append (AtNamed P) (map named_decl m.decls) (map named_unit (units_within p n))
      (each_image (AllInDecl P) (AtNamed P) named_decl m.decls (λ d h. h.0) h.decls)
      (each_image (AllInUnit P) (AtNamed P) named_unit (units_within p n) (λ u h. h.at) (each_kept (AllInUnit P) _ p.units all.1))

  within_two_dummies : (s : Scope) → AllInScope P s → Within P (two_dummies s)
  within_two_dummies (Of_unit u) h =
      within_both P _ _ (within_seconds u.dummies h.dummies) (within_clashes u.dummies (option_to_list u.result) h.dummies (each_in_option (AtNamed P) u.result h.result))
  within_two_dummies (Of_module n m) h = tt

  each_use : (s : Scope) → AllInScope P s → Each (uses_of s) (AllInUse P)
  each_use (Of_unit u) h = h.uses
  each_use (Of_module n m) h = h.uses

  each_only_name : (only : Option (List Named)) → InOption (λ (names : List Named). Each names (AtNamed P)) only → Each (only_names only) (AtNamed P)
  each_only_name None h = tt
  each_only_name (Some names) h = h

  at_only : (names : List Named) (x : Text) (place : Place) → Each names (AtNamed P) → P place → P (place_of_only names x place)
  at_only [] x place all h = h
  at_only (n ∷ rest) x place all h = at_one_of P (bytes_eq n.name x) n.at (place_of_only rest x place) all.0 (at_only rest x place all.1 h)

  at_use : (line : Use) (x : Text) → AllInUse P line → P (place_of_use line x)
  at_use line x h = at_only (only_names line.only) x line.at (each_only_name line.only h.1) h.0

  within_declared_and_used : (p : Program) (q : plain.Program) → AllPlaces P p → (s : Scope) → AllInScope P s → Within P (declared_and_used p q s)
  within_declared_and_used p q all s h =
      within_each P (AtNamed P) _ (declared p s)
      (λ n h'. within_each P (AllInUse P) _ (uses_of s) (λ line h''. within_where P _ _ (at_later P n.at (place_of_use line n.name) h' (at_use line n.name h''))) (each_use s h))
      (each_declared p all s h)

  within_uses_clash : (p : Program) (q : plain.Program) (a b : Use) → AllInUse P a → AllInUse P b → Within P (uses_clash p q a b)
  within_uses_clash p q a b h h' =
      within_any P _ (entities_of_modules p) (λ e. within_where P _ _ (at_later P (place_of_use a e.1) (place_of_use b e.1) (at_use a e.1 h) (at_use b e.1 h')))

  within_two_uses : (p : Program) (q : plain.Program) (uses : List Use) → Each uses (AllInUse P) → Within P (two_uses p q uses)
  within_two_uses p q [] all = tt
  within_two_uses p q (a ∷ rest) all =
      within_both P _ _ (within_each P (AllInUse P) (uses_clash p q a) rest (λ b. within_uses_clash p q a b all.0) all.1) (within_two_uses p q rest all.1)

  within_two_units_or_modules : (p : Program) → AllPlaces P p → Within P (two_units_or_modules p)
  within_two_units_or_modules p h =
      within_seconds (map named_module p.modules ++ map named_unit p.units)
      (each_append (AtNamed P) (map named_module p.modules) (map named_unit p.units)
      (each_image (AllInModule P) (AtNamed P) named_module p.modules (λ m h. h.at) h.0)
      (each_image (AllInUnit P) (AtNamed P) named_unit p.units (λ u h. h.at) h.1))

  within_declared_twice_in : (p : Program) (q : plain.Program) → AllPlaces P p → (s : Scope) → AllInScope P s → Within P (declared_twice_in p q s)
  within_declared_twice_in p q all s h =
      within_both P _ _ (within_seconds (declared p s) (each_declared p all s h))
      (within_both P _ _ (within_two_dummies s h)
      (within_both P _ _ (within_declared_and_used p q all s h) (within_two_uses p q (uses_of s) (each_use s h))))

  pub within_declared_twice : (p : Program) → AllPlaces P p → Within P (declared_twice p)
  within_declared_twice p h =
      within_both P _ _ (within_each P (AllInScope P) _ (scopes p) (within_declared_twice_in p (bare_program p) h) (each_scope P p h)) (within_two_units_or_modules p h)

  -- ---- USE

  within_module_faults_in : (p : Program) (q : plain.Program) (s : Scope) → AllInScope P s → Within P (module_faults_in p q s)
  within_module_faults_in p q s h =
      within_each P (AllInUse P) _ (uses_of s)
      (λ line h'. within_both P _ _ (within_where P _ line.at h'.0) (within_names P _ (only_names line.only) (each_only_name line.only h'.1)))
      (each_use s h)

  abbrev AtUsed : Used → Type 0
  AtUsed l = P l.at

  each_used : (p : Program) → AllPlaces P p → Each (uses_of_modules p) AtUsed
  each_used p h =
      each_of_each (AllInModule P) AtUsed used_by p.modules
      (λ m h'. each_image (AllInUse P) AtUsed (λ line. record { user = m.name; name = line.name; at = line.at }) m.uses (λ line h''. h''.0) h'.uses)
      h.0

  within_first_on_cycle : (p : Program) → AllPlaces P p → Within P (first_on_cycle p)
  within_first_on_cycle p h = within_each P AtUsed _ (uses_of_modules p) (λ l h'. within_where P _ l.at h') (each_used p h)

  pub within_module_faults : (p : Program) → AllPlaces P p → Within P (module_faults p)
  within_module_faults p h =
      within_both P _ _ (within_each P (AllInScope P) _ (scopes p) (within_module_faults_in p (bare_program p)) (each_scope P p h)) (within_first_on_cycle p h)

  -- ---- INTENT

  within_dummy_without_intent : (s : Scope) → AllInScope P s → Within P (dummy_without_intent s)
  within_dummy_without_intent (Of_unit u) h = within_decls P _ u.decls h.decls
  within_dummy_without_intent (Of_module n m) h = tt

  pub within_intent_faults : (p : Program) → AllPlaces P p → Within P (intent_faults p)
  within_intent_faults p h =
      within_each P (AllInScope P) _ (scopes p)
      (λ s h'. within_both P _ _ (within_dummy_without_intent s h') (within_decls P _ _ (each_decl P s h')))
      (each_scope P p h)

  -- ---- Variables of loops

  within_passed_inside : (entity : Text → Entity) (s : Stands) → AllInStep P s.step → Within P (passed_inside entity s)
  within_passed_inside entity s h =
      let passed = flat_map (actuals entity) (sites entity s.step) in
      within_names P _ (flat_map (λ a. name_of_actual a.expr) (filter is_written passed))
      (each_of_each (AllInActual P) (AtNamed P) (λ a. name_of_actual a.expr) (filter is_written passed) (λ a h'. each_name_of_actual P a.expr h'.1)
      (each_kept (AllInActual P) is_written passed (each_actual_in_step P entity s.step h)))

  within_loop_faults_in_step : (entity : Text → Entity) (u : Unit) (s : Stands) → AllInStep P s.step → Within P (loop_faults_in_step entity u s)
  within_loop_faults_in_step entity u s h =
      within_both P _ _ (within_names P _ _ (each_loop_variable P s.step h))
      (within_both P _ _ (within_names P _ _ (each_name_in_step P s.step h))
      (within_both P _ _ (within_names P _ _ (each_name_of P (left_of s.step) (each_left P s.step h)))
      (within_both P _ _ (within_passed_inside entity s h) (within_names P _ _ (each_loop_variable P s.step h)))))

  within_loop_faults_in_unit : (entity : Text → Entity) (u : Unit) → AllInUnit P u → Within P (loop_faults_in_unit entity u)
  within_loop_faults_in_unit entity u h =
      within_both P _ _ (within_each P (AllInStands P) (loop_faults_in_step entity u) (steps_of u) (within_loop_faults_in_step entity u) (each_step_of P u h))
      (within_names P _ _ (each_name_in_bounds u.decls h.decls))

  pub within_loop_faults : (p : Program) → AllPlaces P p → Within P (loop_faults p)
  within_loop_faults p h = within_each P (AllInUnit P) _ p.units (λ u. within_loop_faults_in_unit (entity_in (bare_program p) (Of_unit u)) u) h.1
