-- Where all places of a program have a property, so has the place of each fault of arguments and of writes.
use Rattle.std.proofs.Common.{List, [], ◌∷◌, Option, None, Some}
use Rattle.std.specs.Prelude.{is_some, flat_map}
use Rattle.std.specs.List.{filter}
use Rattle.std.specs.Option.{option_to_list}
use Rattle.fort_tree.specs.declared.place.Place.{Place}
use Rattle.claw_meaning.specs.Syntax as plain
use Rattle.claw_meaning.specs.Syntax.{Text}
use Rattle.claw_meaning.specs.Scope.{Entity}
use Rattle.sound_programs.specs.ArgumentFaults.{counts_differ, count_faults, share, shared_actuals, reached_from, named_behind, behind_site, alias_at_site, alias_faults, passes_fixed, writes_fixed, function_dummies, names_written, module_writes, function_writes, write_faults_in_unit, write_faults}
use Rattle.sound_programs.specs.CallFaults.{sites_of}
use Rattle.sound_programs.specs.Laws.{Each}
use Rattle.sound_programs.specs.Placed.{Unit, Program, first, bare_program}
use Rattle.sound_programs.specs.Scopes.{Of_unit, entity_in, unit_of}
use Rattle.sound_programs.specs.Walks.{Step, steps_of, parts_of, left_of, name_in, reference, Site, sites, Actual, actuals, is_written}
use Rattle.sound_programs.specs.Within.{AllInExpr, AllInUnit, AtNamed, AllPlaces}
use Rattle.sound_programs.proofs.CallsWithin.{each_site_of}
use Rattle.sound_programs.proofs.WithinLists.{each_append, each_of_each, each_chosen, each_kept, each_in_option}
use Rattle.sound_programs.proofs.WithinPlaces.{Within, within_both, within_each, within_where, within_names, within_decls}
use Rattle.sound_programs.proofs.WithinSteps.{AllInStep, AllInStands, AllInSite, AllInActual, at_first, each_left, each_name_of, each_step_of, each_part_of_step, each_reference, each_site, each_actual, each_actual_in_step}

module _ (P : Place → Type 0) where
  -- ---- The number of arguments

  within_counts_differ : (entity : Text → Entity) (step : Step) → AllInStep P step → Within P (counts_differ entity step)
  within_counts_differ entity step h =
      within_both P _ _ (within_each P (AllInSite P) _ (sites entity step) (λ s h'. within_where P _ s.name.at h'.0) (each_site P entity step h))
      (within_each P (AllInSite P) _ (flat_map reference (parts_of step)) (λ s h'. within_where P _ s.name.at h'.0)
      (each_of_each (AllInExpr P) (AllInSite P) reference (parts_of step) (each_reference P) (each_part_of_step P step h)))

  pub within_count_faults : (p : Program) → AllPlaces P p → Within P (count_faults p)
  within_count_faults p h =
      within_each P (AllInUnit P) _ p.units
      (λ u h'. within_each P (AllInStands P) _ (steps_of u) (λ s. within_counts_differ (entity_in (bare_program p) (Of_unit u)) s.step) (each_step_of P u h'))
      h.1

  -- ---- Alias

  within_shared_actuals : (entity : Text → Entity) (args : List Actual) → Each args (AllInActual P) → Within P (shared_actuals entity args)
  within_shared_actuals entity [] all = tt
  within_shared_actuals entity (a ∷ rest) all =
      within_both P _ _ (within_each P (AllInActual P) (share entity a) rest (λ b h. within_where P _ b.at h.0) all.1) (within_shared_actuals entity rest all.1)

  within_behind_site : (p : Program) (q : plain.Program) (u : Unit) (s : Site) (v : Option plain.Unit) → AllInSite P s → Within P (behind_site p q u s v)
  within_behind_site p q u s None h = tt
  within_behind_site p q u s (Some v) h =
      within_each P (AllInActual P) (named_behind p q u v.name) (actuals (entity_in q (Of_unit u)) s) (λ a h'. within_where P _ a.at h'.0) (each_actual P (entity_in q (Of_unit u)) s h)

  within_alias_at_site : (p : Program) (q : plain.Program) (u : Unit) (s : Site) → AllInSite P s → Within P (alias_at_site p q u s)
  within_alias_at_site p q u s h =
      let entity : Text → Entity = entity_in q (Of_unit u) in
      within_both P _ _ (within_shared_actuals entity (actuals entity s) (each_actual P entity s h)) (within_behind_site p q u s (unit_of (entity s.name.name)) h)

  pub within_alias_faults : (p : Program) → AllPlaces P p → Within P (alias_faults p)
  within_alias_faults p h =
      let q : plain.Program = bare_program p in
      within_each P (AllInUnit P) _ p.units
      (λ u h'. within_each P (AllInSite P) (alias_at_site p q u) (sites_of (entity_in q (Of_unit u)) u) (within_alias_at_site p q u) (each_site_of P (entity_in q (Of_unit u)) u h'))
      h.1

  -- ---- Writes

  each_written : (entity : Text → Entity) (step : Step) → AllInStep P step → Each (filter is_written (flat_map (actuals entity) (sites entity step))) (AllInActual P)
  each_written entity step h = each_kept (AllInActual P) is_written (flat_map (actuals entity) (sites entity step)) (each_actual_in_step P entity step h)

  each_name_left : (step : Step) → AllInStep P step → Each (flat_map name_in (left_of step)) (AtNamed P)
  each_name_left step h = each_name_of P (left_of step) (each_left P step h)

  within_passes_fixed : (entity : Text → Entity) (step : Step) → AllInStep P step → Within P (passes_fixed entity step)
  within_passes_fixed entity step h =
      within_each P (AllInActual P) _ (filter is_written (flat_map (actuals entity) (sites entity step)))
      (λ a h'. within_each P (AllInExpr P) _ (option_to_list a.expr) (λ e h''. within_where P _ (first e) (at_first P e h'')) (each_in_option (AllInExpr P) a.expr h'.1))
      (each_written entity step h)

  within_writes_fixed : (entity : Text → Entity) (step : Step) → AllInStep P step → Within P (writes_fixed entity step)
  within_writes_fixed entity step h = within_both P _ _ (within_names P _ _ (each_name_left step h)) (within_passes_fixed entity step h)

  within_function_dummies : (u : Unit) → AllInUnit P u → Within P (function_dummies u)
  within_function_dummies u h = each_chosen P (is_some u.result) _ [] (within_decls P _ u.decls h.decls) tt

  each_name_written : (entity : Text → Entity) (step : Step) → AllInStep P step → Each (names_written entity step) (AtNamed P)
  each_name_written entity step h =
      let written : List Actual = filter is_written (flat_map (actuals entity) (sites entity step)) in
      each_append (AtNamed P) (flat_map name_in (left_of step)) (flat_map (λ a. flat_map name_in (option_to_list a.expr)) written) (each_name_left step h)
      (each_of_each (AllInActual P) (AtNamed P) (λ a. flat_map name_in (option_to_list a.expr)) written
      (λ a h'. each_name_of P (option_to_list a.expr) (each_in_option (AllInExpr P) a.expr h'.1))
      (each_written entity step h))

  within_module_writes : (q : plain.Program) (u : Unit) → AllInUnit P u → Within P (module_writes q u)
  within_module_writes q u h =
      let entity : Text → Entity = entity_in q (Of_unit u) in
      within_names P _ _ (each_of_each (AllInStands P) (AtNamed P) (λ s. names_written entity s.step) (steps_of u) (λ s. each_name_written entity s.step) (each_step_of P u h))

  within_function_writes : (p : Program) (q : plain.Program) → AllPlaces P p → (u : Unit) → Within P (function_writes p q u)
  within_function_writes p q all u =
      each_chosen P (is_some u.result) (flat_map (module_writes q) (reached_from p u.name)) []
      (within_each P (AllInUnit P) (module_writes q) (reached_from p u.name) (within_module_writes q) (each_kept (AllInUnit P) _ p.units all.1))
      tt

  within_write_faults_in_unit : (p : Program) (q : plain.Program) → AllPlaces P p → (u : Unit) → AllInUnit P u → Within P (write_faults_in_unit p q u)
  within_write_faults_in_unit p q all u h =
      within_both P _ _ (within_each P (AllInStands P) _ (steps_of u) (λ s. within_writes_fixed (entity_in q (Of_unit u)) s.step) (each_step_of P u h))
      (within_both P _ _ (within_function_dummies u h) (within_function_writes p q all u))

  pub within_write_faults : (p : Program) → AllPlaces P p → Within P (write_faults p)
  within_write_faults p h = within_each P (AllInUnit P) (write_faults_in_unit p (bare_program p)) p.units (within_write_faults_in_unit p (bare_program p) h) h.1
