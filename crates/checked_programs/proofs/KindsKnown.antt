-- In a sound program each expression in a step has a kind, and so has each of its parts. What leaves a kind open is a fault:
-- a name that is read or assigned and is no variable or constant, or a function's result that isn't declared (E30); a reference
-- to no array, function or intrinsic (E35); LOGICAL where INTEGER is needed, arguments that differ in kind, and a wrong second
-- argument of INT (E32); a range as argument (E33); an intrinsic without arguments (E37). A left side is a name, since forms nest.
use Rattle.std.proofs.Common.{◌≡◌, List, [], ◌∷◌, ◌++◌, map, Bool, true, false, ◌||◌, not, cond, Option, None, Some, refl, sym, subst}
use Rattle.std.proofs.lemmas.Bool.{false≢true, not-false}
use Rattle.std.specs.Prelude.{flat_map, is_some}
use Rattle.std.specs.Option.{option_map, option_to_list}
use Rattle.std.specs.Str.{bytes_eq}
use Rattle.fort_tree.specs.Intrinsic.{intrinsic_named}
use Rattle.fort_tree.specs.declared.choice.Mode.{Mode}
use Rattle.fort_tree.specs.declared.stmt.Named.{Named}
use Rattle.fort_tree.specs.declared.unit.File.{File}
use Rattle.claw_meaning.specs.Syntax as plain
use Rattle.claw_meaning.specs.Syntax.{Text}
use Rattle.claw_meaning.specs.Scope.{Entity, Unknown, Variable, Constant, Procedure, decl_named}
use Rattle.claw_meaning.specs.Units.{is_listed}
use Rattle.sound_programs.specs.ArgumentFaults.{intrinsic_takes, counts_differ, count_faults}
use Rattle.sound_programs.specs.KindFaults.{kind_faults_of_part, kind_faults_in_step, kind_faults_in_scope, kind_faults}
use Rattle.sound_programs.specs.Kinding.{kind_of_decl, kind_of_entity, kind_of_result}
use Rattle.sound_programs.specs.Laws.{Each, entity_of}
use Rattle.sound_programs.specs.NameFaults.{in_each_step, is_no_value, undeclared_in_step, undeclared_dummies, undeclared_in_scope, undeclared_names, unit_faults_in_step, unit_faults}
use Rattle.sound_programs.specs.Placed.{Expr, Numeral, Boolean, Name, Reference, Signed, Binary, Paren, Subscripts, No_more, One, Section, Limit, Unbounded, Bounded, Decl, Unit, Program, bare_decl, bare_unit, bare_program}
use Rattle.sound_programs.specs.Placing.{placed}
use Rattle.sound_programs.specs.RankFaults.{rank_faults_of_part, rank_faults_in_step, rank_faults_in_scope, rank_faults}
use Rattle.sound_programs.specs.Scopes.{Scope, Of_unit, scopes, entity_in, is_variable_or_constant, is_array, is_function}
use Rattle.sound_programs.specs.Sound.{Sound}
use Rattle.sound_programs.specs.Walks.{Stands, Step, Assigns, Calls, Tests, Chooses, Repeats, Site, steps_of, left_of, beside, read_by, parts, parts_in, parts_in_limit, parts_read, parts_of, in_limit, in_subscripts, reference, count_of, name_in, bare_name, name_before_parenthesis}
use Rattle.sound_programs.proofs.SoundLaws.{empty_if_nowhere}
use Rattle.sound_programs.proofs.WithinLists.{each_append, each_image, each_by, each_right, each_left, each_before_map, each_flat, both_of}
use Rattle.checked_programs.specs.Fitting.{HasKind}
use Rattle.checked_programs.proofs.Lefts.{lefts_of_file}
use Rattle.sound_programs.proofs.LeftSides.{IsLeft}
use Rattle.checked_programs.proofs.PartsFit.{InsideHasKinds, NamedHasKind, IsFaultless, part_known}
use Rattle.sound_programs.proofs.SeenUnits.{Sees, sees}
use Rattle.sound_programs.proofs.Empties.{left_empty, right_empty, each_empty, none_where, not_placed}

-- ---- Expressions in whose parts no fault stands

module _ (entity : Text → Entity) where
  -- it has a kind, and so has what stands right inside it
  abbrev pub IsSettled : Expr → Type 0
  IsSettled e = HasKind entity e × InsideHasKinds entity e

  whole : (e : Expr) → Each (parts e) IsSettled → HasKind entity e
  whole (Numeral n suffix at) h = h.0.0
  whole (Boolean b at) h = h.0.0
  whole (Name x at) h = h.0.0
  whole (Reference x subs at) h = h.0.0
  whole (Signed sign e at) h = h.0.0
  whole (Binary op a b) h = h.0.0
  whole (Paren e at) h = h.0.0

  settle : (e : Expr) → InsideHasKinds entity e → IsFaultless entity e → IsSettled e
  settle e inside none = (part_known entity e inside none, inside)

  mutual
    settled : (e : Expr) → Each (parts e) (IsFaultless entity) → Each (parts e) IsSettled
    settled (Numeral n suffix at) h = (settle (Numeral n suffix at) tt h.0, tt)
    settled (Boolean b at) h = (settle (Boolean b at) tt h.0, tt)
    settled (Name x at) h = (settle (Name x at) tt h.0, tt)
    settled (Reference x subs at) h = let s = settled_in subs h.1 in (settle (Reference x subs at) s.1 h.0, s.0)
    settled (Signed sign e at) h = let s = settled e h.1 in (settle (Signed sign e at) (whole e s) h.0, s)
    settled (Binary op a b) h =
        let s = settled a (each_left (IsFaultless entity) (parts a) (parts b) h.1) in
        let t = settled b (each_right (IsFaultless entity) (parts a) (parts b) h.1) in
        (settle (Binary op a b) (whole a s, whole b t) h.0, each_append IsSettled (parts a) (parts b) s t)
    settled (Paren e at) h = let s = settled e h.1 in (settle (Paren e at) (whole e s) h.0, s)

    settled_in : (subs : Subscripts) → Each (parts_in subs) (IsFaultless entity) → Each (parts_in subs) IsSettled × Each (in_subscripts subs) (HasKind entity)
    settled_in No_more h = (tt, tt)
    settled_in (One e rest) h =
        let s = settled e (each_left (IsFaultless entity) (parts e) (parts_in rest) h) in
        let t = settled_in rest (each_right (IsFaultless entity) (parts e) (parts_in rest) h) in
        (each_append IsSettled (parts e) (parts_in rest) s t.0, (whole e s, t.1))
    settled_in (Section lower upper at rest) h =
        let behind = each_right (IsFaultless entity) (parts_in_limit lower) (parts_in_limit upper ++ parts_in rest) h in
        let s = settled_limit lower (each_left (IsFaultless entity) (parts_in_limit lower) (parts_in_limit upper ++ parts_in rest) h) in
        let t = settled_limit upper (each_left (IsFaultless entity) (parts_in_limit upper) (parts_in rest) behind) in
        let r = settled_in rest (each_right (IsFaultless entity) (parts_in_limit upper) (parts_in rest) behind) in (
          each_append IsSettled (parts_in_limit lower) (parts_in_limit upper ++ parts_in rest) s.0 (each_append IsSettled (parts_in_limit upper) (parts_in rest) t.0 r.0),
          each_append (HasKind entity) (in_limit lower) (in_limit upper ++ in_subscripts rest) s.1 (each_append (HasKind entity) (in_limit upper) (in_subscripts rest) t.1 r.1),
        )

    settled_limit : (l : Limit) → Each (parts_in_limit l) (IsFaultless entity) → Each (parts_in_limit l) IsSettled × Each (in_limit l) (HasKind entity)
    settled_limit Unbounded h = (tt, tt)
    settled_limit (Bounded e) h = let s = settled e h in (s, (whole e s, tt))

  all_settled : (es : List Expr) → Each (flat_map parts es) (IsFaultless entity) → Each (flat_map parts es) IsSettled × Each es (HasKind entity)
  all_settled [] h = (tt, tt)
  all_settled (e ∷ es) h =
      let s = settled e (each_left (IsFaultless entity) (parts e) (flat_map parts es) h) in
      let t = all_settled es (each_right (IsFaultless entity) (parts e) (flat_map parts es) h) in
      (each_append IsSettled (parts e) (flat_map parts es) s t.0, (whole e s, t.1))

  -- a left side is a name
  left_settled : (e : Expr) → IsLeft e → IsFaultless entity e → Each (beside e) (HasKind entity) → IsSettled e
  left_settled (Name x at) left none inside = settle (Name x at) tt none
  left_settled (Reference x subs at) left none inside = settle (Reference x subs at) inside none
  left_settled (Numeral n suffix at) left none inside = absurd left
  left_settled (Boolean b at) left none inside = absurd left
  left_settled (Signed sign e at) left none inside = absurd left
  left_settled (Binary op a b) left none inside = absurd left
  left_settled (Paren e at) left none inside = absurd left

  lefts_settled : (step : Step) → Each (left_of step) IsLeft → Each (left_of step) (IsFaultless entity) → Each (read_by step) (HasKind entity) → Each (left_of step) IsSettled
  lefts_settled (Assigns left right) is none reads = (left_settled left is.0 none.0 (each_left (HasKind entity) (beside left) (right ∷ []) reads), tt)
  lefts_settled (Calls name args) is none reads = tt
  lefts_settled (Tests e) is none reads = tt
  lefts_settled (Chooses e ranges) is none reads = tt
  lefts_settled (Repeats head mark) is none reads = tt

  -- the expressions of a step and all their parts
  pub record StepIsSettled (step : Step) : Type 0 where
    pub inside : Each (parts_of step) IsSettled
    pub lefts : Each (left_of step) (HasKind entity)
    pub reads : Each (read_by step) (HasKind entity)

  step_settled : (step : Step) → Each (left_of step) IsLeft → Each (parts_of step) (IsFaultless entity) → StepIsSettled step
  step_settled step is none =
      let s = all_settled (read_by step) (each_right (IsFaultless entity) (left_of step) (parts_read step) none) in
      let l = lefts_settled step is (each_left (IsFaultless entity) (left_of step) (parts_read step) none) s.1 in
      record {
        inside = each_append IsSettled (left_of step) (parts_read step) l s.0;
        lefts = each_by (left_of step) (λ (e : Expr) (h : IsSettled e). h.0) l;
        reads = s.1;
      }

-- ---- Names

-- a function's result is declared in it
abbrev ResultHasKind : plain.Unit → Type 0
ResultHasKind v = is_some v.result ≡ true → is_some (kind_of_result v.result v) ≡ true

listed_decl : (decls : List Decl) (x : Text) → is_listed (map (λ d. d.name) decls) x ≡ true → is_some (kind_of_decl (decl_named (map bare_decl decls) x)) ≡ true
listed_decl [] x h = h
listed_decl (d ∷ decls) x h = go (bytes_eq d.name x) (listed_decl decls x) h
  where
    go : (b : Bool) → (is_listed (map (λ d. d.name) decls) x ≡ true → is_some (kind_of_decl (decl_named (map bare_decl decls) x)) ≡ true)
        → b || is_listed (map (λ d. d.name) decls) x ≡ true → is_some (kind_of_decl (cond b (Some (bare_decl d)) (decl_named (map bare_decl decls) x))) ≡ true
    go true rest h = refl
    go false rest h = rest h

result_has_kind : (u : Unit) → undeclared_dummies u ≡ [] → ResultHasKind (bare_unit u)
result_has_kind u none =
    go u.result (each_right _ u.dummies (option_to_list u.result) (none_where (λ n. not (is_listed (map (λ d. d.name) u.decls) n.name)) (u.dummies ++ option_to_list u.result) none))
  where
    go : (o : Option Named) → Each (option_to_list o) (λ n. not (is_listed (map (λ d. d.name) u.decls) n.name) ≡ false)
        → is_some (option_map (λ (r : Named). r.name) o) ≡ true → is_some (kind_of_result (option_map (λ (r : Named). r.name) o) (bare_unit u)) ≡ true
    go None h e = e
    go (Some r) h e = listed_decl u.decls r.name (not-false _ h.0)

value_has_kind : (a : Entity) → not (is_variable_or_constant a) ≡ false → is_some (kind_of_entity a) ≡ true
value_has_kind Unknown h = absurd (false≢true (sym h))
value_has_kind (Variable home d) h = refl
value_has_kind (Constant d) h = refl
value_has_kind (Procedure v) h = absurd (false≢true (sym h))

module _ (q : plain.Program) (results : Each q.units ResultHasKind) where
  referred_has_kind : (x : Text) (a : Entity) → Sees q ResultHasKind results x a → is_array a || is_function a ≡ true → is_some (kind_of_entity a) ≡ true
  referred_has_kind x Unknown s h = h
  referred_has_kind x (Variable home d) s h = refl
  referred_has_kind x (Constant d) s h = refl
  referred_has_kind x (Procedure v) s h = s.0 h

  no_intrinsic : {A : Type 0} (o : Option A) (b : Bool) → o ≡ None → not (is_some o || b) ≡ false → b ≡ true
  no_intrinsic o b own h = not-false _ (subst (λ p. not (is_some p || b) ≡ false) own h)

  module _ (u : Unit) where
    abbrev entity : Text → Entity
    entity = entity_in q (Of_unit u)

    abbrev ReadName : Expr → Type 0
    ReadName e = Each (bare_name e) (λ n. is_no_value entity n ≡ false)

    abbrev ReadReference : Expr → Type 0
    ReadReference e = Each (name_before_parenthesis e) (λ n. not (is_some (intrinsic_named n.name) || (is_array (entity n.name) || is_function (entity n.name))) ≡ false)

    read_named : (e : Expr) → ReadName e × ReadReference e → NamedHasKind entity e
    read_named (Name x at) h = value_has_kind (entity x) h.0.0
    read_named (Reference x subs at) h = λ own. referred_has_kind x (entity x) (sees q ResultHasKind results (bare_unit u) x) (no_intrinsic (intrinsic_named x) _ own h.1.0)
    read_named (Numeral n suffix at) h = tt
    read_named (Boolean b at) h = tt
    read_named (Signed sign e at) h = tt
    read_named (Binary op a b) h = tt
    read_named (Paren e at) h = tt

    left_named : (e : Expr) → Each (name_in e) (λ n. is_no_value entity n ≡ false) → NamedHasKind entity e
    left_named (Name x at) h = value_has_kind (entity x) h.0
    left_named (Reference x subs at) h = λ own. value_has_kind (entity x) h.0
    left_named (Numeral n suffix at) h = tt
    left_named (Boolean b at) h = tt
    left_named (Signed sign e at) h = tt
    left_named (Binary op a b) h = tt
    left_named (Paren e at) h = tt

    all_named : (step : Step) → undeclared_in_step entity step ≡ [] → unit_faults_in_step entity step ≡ [] → Each (parts_of step) (NamedHasKind entity)
    all_named step undeclared unknown =
        let bare : Each (parts_read step) ReadName =
        each_flat bare_name (λ n. is_no_value entity n ≡ false) (parts_read step) (none_where (is_no_value entity) _ (left_empty _ _ undeclared)) in
        let left : Each (left_of step) (λ e. Each (name_in e) (λ n. is_no_value entity n ≡ false)) =
        each_flat name_in (λ n. is_no_value entity n ≡ false) (left_of step) (none_where (is_no_value entity) _ (left_empty _ _ (right_empty _ _ undeclared))) in
        let references : Each (parts_read step) ReadReference =
        each_flat name_before_parenthesis (λ n. not (is_some (intrinsic_named n.name) || (is_array (entity n.name) || is_function (entity n.name))) ≡ false) (parts_read step)
        (none_where (λ n. not (is_some (intrinsic_named n.name) || (is_array (entity n.name) || is_function (entity n.name)))) _ (left_empty _ _ (right_empty _ _ unknown))) in
        each_append (NamedHasKind entity) (left_of step) (parts_read step) (each_by (left_of step) left_named left)
        (each_by (parts_read step) read_named (both_of ReadName ReadReference (parts_read step) bare references))

    -- the faults of a step that leave kinds open
    pub record NoFault (mode : Mode) (step : Step) : Type 0 where
      pub undeclared : undeclared_in_step entity step ≡ []
      pub unknown : unit_faults_in_step entity step ≡ []
      pub kinds : kind_faults_in_step entity step ≡ []
      pub ranks : rank_faults_in_step entity step ≡ []
      pub counts : counts_differ entity step ≡ []

    all_faultless : (mode : Mode) (step : Step) → NoFault mode step → Each (parts_of step) (IsFaultless entity)
    all_faultless mode step none =
        let kinds : Each (parts_of step) (λ e. kind_faults_of_part entity e ≡ []) =
        each_empty (kind_faults_of_part entity) (parts_of step) (left_empty _ _ (right_empty _ _ none.kinds)) in
        let ranks : Each (parts_of step) (λ e. rank_faults_of_part entity e ≡ []) =
        each_empty (rank_faults_of_part entity) (parts_of step) (left_empty _ _ (right_empty _ _ none.ranks)) in
        let counts : Each (parts_of step) (λ e. Each (reference e) (λ s. not (intrinsic_takes (intrinsic_named s.name.name) (count_of s.args)) ≡ false)) =
        each_flat reference (λ s. not (intrinsic_takes (intrinsic_named s.name.name) (count_of s.args)) ≡ false) (parts_of step)
        (each_by (flat_map reference (parts_of step)) (λ (s : Site) h. not_placed _ _ h) (each_empty _ (flat_map reference (parts_of step)) (right_empty _ _ none.counts))) in
        each_by (parts_of step) (λ e h. record { named = h.0.0; kinds = h.0.1; ranges = left_empty _ _ (right_empty _ _ (right_empty _ _ h.1.0)); counts = h.1.1 })
        (both_of _ _ (parts_of step)
        (both_of _ _ (parts_of step) (all_named step none.undeclared none.unknown) kinds)
        (both_of _ _ (parts_of step) ranks counts))

    pub known_in_step : (mode : Mode) (step : Step) → Each (left_of step) IsLeft → NoFault mode step → StepIsSettled entity step
    known_in_step mode step is none = step_settled entity step is (all_faultless mode step none)

    pub known_in_unit : (mode : Mode) → Each (steps_of u) (λ s. Each (left_of s.step) IsLeft)
        → undeclared_in_scope q (Of_unit u) ≡ [] → in_each_step (unit_faults_in_step entity) u ≡ [] → kind_faults_in_scope q (Of_unit u) ≡ [] → rank_faults_in_scope mode q (Of_unit u) ≡ []
        → flat_map (λ (s : Stands). counts_differ entity s.step) (steps_of u) ≡ []
        → Each (steps_of u) (λ s. StepIsSettled entity s.step × (kind_faults_in_step entity s.step ≡ []))
    known_in_unit mode lefts undeclared unknown kinds ranks counts =
        let names : Each (steps_of u) (λ s. (undeclared_in_step entity s.step ≡ []) × (unit_faults_in_step entity s.step ≡ [])) =
        both_of _ _ (steps_of u)
        (each_empty (λ (s : Stands). undeclared_in_step entity s.step) (steps_of u) (left_empty _ _ undeclared))
        (each_empty (λ (s : Stands). unit_faults_in_step entity s.step) (steps_of u) unknown) in
        let rest : Each (steps_of u) (λ s. (kind_faults_in_step entity s.step ≡ []) × ((rank_faults_in_step entity s.step ≡ []) × (counts_differ entity s.step ≡ []))) =
        both_of _ _ (steps_of u)
        (each_empty (λ (s : Stands). kind_faults_in_step entity s.step) (steps_of u) (right_empty _ _ (right_empty _ _ kinds)))
        (both_of _ _ (steps_of u)
        (each_empty (λ (s : Stands). rank_faults_in_step entity s.step) (steps_of u) (right_empty _ _ (right_empty _ _ ranks)))
        (each_empty (λ (s : Stands). counts_differ entity s.step) (steps_of u) counts)) in
        each_by (steps_of u)
        (λ (s : Stands) h. (known_in_step mode s.step h.0 (record { undeclared = h.1.0.0; unknown = h.1.0.1; kinds = h.1.1.0; ranks = h.1.1.1.0; counts = h.1.1.1.1 }), h.1.1.0))
        (both_of _ _ (steps_of u) lefts (both_of _ _ (steps_of u) names rest))

-- what holds of each scope holds of each unit
of_units : (p : Program) (P : Scope → Type 0) → Each (scopes p) P → Each p.units (λ u. P (Of_unit u))
of_units p P all = each_before_map Of_unit P p.units (each_right P _ _ all)

-- each step of a sound program is settled, and has no fault of kinds
pub all_known : (mode : Mode) (file : File) → Sound mode file
    → Each (placed file).units (λ u. Each (steps_of u) (λ s. StepIsSettled (entity_of file u) s.step × (kind_faults_in_step (entity_of file u) s.step ≡ [])))
all_known mode file sound =
    let p = placed file in
    let q = bare_program p in
    let undeclared : Each p.units (λ u. undeclared_in_scope q (Of_unit u) ≡ []) =
    of_units p (λ s. undeclared_in_scope q s ≡ []) (each_empty (undeclared_in_scope q) (scopes p) (empty_if_nowhere (undeclared_names p) sound.each_name_is_declared)) in
    let kinds : Each p.units (λ u. kind_faults_in_scope q (Of_unit u) ≡ []) =
    of_units p (λ s. kind_faults_in_scope q s ≡ []) (each_empty (kind_faults_in_scope q) (scopes p) (empty_if_nowhere (kind_faults p) sound.kinds_fit)) in
    let ranks : Each p.units (λ u. rank_faults_in_scope mode q (Of_unit u) ≡ []) =
    of_units p (λ s. rank_faults_in_scope mode q s ≡ []) (each_empty (rank_faults_in_scope mode q) (scopes p) (empty_if_nowhere (rank_faults mode p) sound.ranks_fit)) in
    let unknown : Each p.units (λ u. in_each_step (unit_faults_in_step (entity_of file u)) u ≡ []) =
    each_empty (λ (u : Unit). in_each_step (unit_faults_in_step (entity_of file u)) u) p.units (empty_if_nowhere (unit_faults p) sound.calls_name_units) in
    let counts : Each p.units (λ u. flat_map (λ (s : Stands). counts_differ (entity_of file u) s.step) (steps_of u) ≡ []) =
    each_empty (λ (u : Unit). flat_map (λ (s : Stands). counts_differ (entity_of file u) s.step) (steps_of u)) p.units (empty_if_nowhere (count_faults p) sound.arguments_are_counted) in
    let results : Each q.units ResultHasKind =
    each_image (λ u. undeclared_in_scope q (Of_unit u) ≡ []) ResultHasKind bare_unit p.units (λ u e. result_has_kind u (left_empty _ _ (right_empty _ _ (right_empty _ _ e)))) undeclared in
    each_by p.units (λ u h. known_in_unit q results u mode h.0 h.1.0.0 h.1.0.1 h.1.1.0 h.1.1.1.0 h.1.1.1.1)
    (both_of _ _ p.units (lefts_of_file mode file sound.nested)
    (both_of _ _ p.units
    (both_of _ _ p.units undeclared unknown)
    (both_of _ _ p.units kinds (both_of _ _ p.units ranks counts))))
