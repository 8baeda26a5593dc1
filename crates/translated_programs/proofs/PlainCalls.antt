-- A plain unit of a sound program of which nothing is unbuilt calls no column unit.
use Rattle.std.proofs.Common.{◌≡◌, List, [], Bool, true, false, ◌||◌, Some, None, refl, sym, ap, ◌∙◌}
use Rattle.std.specs.Prelude.{flat_map, is_some}
use Rattle.std.specs.List.{filter}
use Rattle.std.specs.Str.{bytes_eq}
use Rattle.std.proofs.lemmas.Bool.{false≢true, not-false}
use Rattle.fort_tree.specs.declared.stmt.Named.{Named}
use Rattle.fort_tree.specs.Intrinsic.{intrinsic_named}
use Rattle.claw_meaning.specs.Syntax.{Text, Unit, Program}
use Rattle.claw_meaning.specs.Scope.{Entity, Unknown, Variable, Constant, Procedure, visible, unit_named}
use Rattle.claw_meaning.specs.Dependence.{unit_called, is_column_called}
use Rattle.claw_meaning.specs.Units.{is_column_unit}
use Rattle.plain_units.specs.Calling.{unit_run, runs_column, CallsPlain}
use Rattle.column_scalars.proofs.MemberCases.{names_equal}
use Rattle.sound_programs.specs.Laws.{Each}
use Rattle.sound_programs.specs.NameFaults.{places_where, in_each_step, is_no_value, undeclared_in_step, refers_to_nothing, calls_no_subroutine, assigns_to_no_array, unit_faults_in_step}
use Rattle.sound_programs.specs.Placed as placed
use Rattle.sound_programs.specs.Placed.{bare_unit}
use Rattle.sound_programs.specs.Scopes.{is_array, is_function, is_variable_or_constant}
use Rattle.sound_programs.specs.Walks.{Stands, steps_of, parts, parts_read, read_by, left_of, loop_variable, name_in, bare_name, name_before_parenthesis}
use Rattle.sound_programs.proofs.Empties.{left_empty, right_empty, map_empty, each_empty, none_kept}
use Rattle.sound_programs.proofs.WithinLists.{each_by, each_two, each_flat}
use Rattle.sound_programs.proofs.LeftSides.{HaveLefts}
use Rattle.sound_programs.proofs.SeenUnits.{Sees, sees}
use Rattle.translated_programs.specs.Directed.{directed_in}
use Rattle.translated_programs.proofs.Walking.{StepSo, PartSo, all_call}

-- ---- What a name runs

never : (b : Bool) → (b ≡ true → ⊥) → b ≡ false
never true h = absurd (h refl)
never false h = refl

twice : (b : Bool) → b || b ≡ b
twice true = refl
twice false = refl

-- a unit is found by its name, and a column unit has a name of those and no result
pub record Known (p : Program) (is_named : Text → Bool) (v : Unit) : Type 0 where
  pub found : unit_named p v.name ≡ Some v
  pub named : is_column_unit v ≡ true → is_named v.name ≡ true
  pub subroutine : is_column_unit v ≡ true → v.result ≡ None

module _ (p : Program) (is_named : Text → Bool) (all : Each p.units (Known p is_named)) where
  abbrev runs : Entity → Bool
  runs e = is_column_called (unit_called e) || is_column_called (unit_run p e)

  abbrev Seen : Text → Entity → Type 0
  Seen = Sees p (Known p is_named) all

  same_name : (x : Text) (v : Unit) → bytes_eq v.name x ≡ true → v.name ≡ x
  same_name x v e = names_equal v.name x e

  runs_itself : (v : Unit) → Known p is_named v → runs (Procedure v) ≡ is_column_unit v
  runs_itself v known = ap (λ o. is_column_unit v || is_column_called o) known.found ∙ twice (is_column_unit v)

  call_runs : (x : Text) → is_named x ≡ false → (e : Entity) → Seen x e → runs e ≡ false
  call_runs x off Unknown s = refl
  call_runs x off (Variable home d) s = refl
  call_runs x off (Constant d) s = refl
  call_runs x off (Procedure v) s =
      runs_itself v s.0 ∙ never (is_column_unit v) (λ is. false≢true (sym off ∙ (ap is_named (sym (same_name x v s.1)) ∙ s.0.named is)))

  function_runs : (x : Text) (e : Entity) → is_function e ≡ true → Seen x e → runs e ≡ false
  function_runs x Unknown f s = refl
  function_runs x (Variable home d) f s = refl
  function_runs x (Constant d) f s = refl
  function_runs x (Procedure v) f s = runs_itself v s.0 ∙ never (is_column_unit v) (λ is. false≢true (ap is_some (sym (s.0.subroutine is)) ∙ f))

  array_runs : (e : Entity) → is_array e ≡ true → runs e ≡ false
  array_runs Unknown a = refl
  array_runs (Variable home d) a = refl
  array_runs (Constant d) a = refl
  array_runs (Procedure v) a = absurd (false≢true a)

  value_runs : (e : Entity) → is_variable_or_constant e ≡ true → runs e ≡ false
  value_runs Unknown a = refl
  value_runs (Variable home d) a = refl
  value_runs (Constant d) a = refl
  value_runs (Procedure v) a = absurd (false≢true a)

  reference_runs : (x : Text) (e : Entity) → Seen x e → (is_some (intrinsic_named x) || (is_array e || is_function e)) ≡ true → intrinsic_named x ≡ None → runs e ≡ false
  reference_runs x e s h own = go (is_some (intrinsic_named x)) (is_array e) refl refl h
    where
      go : (i a : Bool) → is_some (intrinsic_named x) ≡ i → is_array e ≡ a → (i || (a || is_function e)) ≡ true → runs e ≡ false
      go true a is of h = absurd (false≢true (ap is_some (sym own) ∙ is))
      go false true is of h = array_runs e of
      go false false is of h = function_runs x e h s

  -- ---- The steps of a unit

  module _ (u : placed.Unit) where
    abbrev entity : Text → Entity
    entity x = visible p (bare_unit u) x

    abbrev IsSo : Text → Type 0
    IsSo x = runs_column p (bare_unit u) x ≡ false

    none_where : (test : Named → Bool) (names : List Named) → places_where test names ≡ [] → Each names (λ n. test n ≡ false)
    none_where test names e = none_kept test names (map_empty (λ (n : Named). n.at) (filter test names) e)

    step_is : (s : Stands) → undeclared_in_step entity s.step ≡ [] → unit_faults_in_step entity s.step ≡ [] → StepSo IsSo s
    step_is s names units =
        let step = s.step in
        let left : places_where (is_no_value entity) (flat_map name_in (left_of step)) ≡ [] =
        left_empty _ (places_where (is_no_value entity) (loop_variable step)) (right_empty (places_where (is_no_value entity) (flat_map bare_name (parts_read step))) _ names) in
        let read : refers_to_nothing entity step ≡ [] = left_empty _ (assigns_to_no_array entity step) (right_empty (calls_no_subroutine entity step) _ units) in (
          each_flat parts (PartSo IsSo) (read_by step)
              (each_flat name_before_parenthesis (λ n. intrinsic_named n.name ≡ None → IsSo n.name) (parts_read step)
              (each_by (flat_map name_before_parenthesis (parts_read step)) (λ n h. reference_runs n.name (entity n.name) (sees p (Known p is_named) all (bare_unit u) n.name) (not-false _ h))
              (none_where _ (flat_map name_before_parenthesis (parts_read step)) read))),
          each_flat name_in (λ n. IsSo n.name) (left_of step)
              (each_by (flat_map name_in (left_of step)) (λ n h. value_runs (entity n.name) (not-false _ h)) (none_where _ (flat_map name_in (left_of step)) left)),
        )

    pub calls_plain : in_each_step (undeclared_in_step entity) u ≡ [] → in_each_step (unit_faults_in_step entity) u ≡ [] → HaveLefts u.body → directed_in is_named u.body ≡ [] → CallsPlain p (bare_unit u)
    calls_plain names units lefts undirected =
        all_call IsSo is_named (λ x off. call_runs x off (entity x) (sees p (Known p is_named) all (bare_unit u) x)) [] u.body lefts undirected
        (each_two (steps_of u) (λ s a b. step_is s a b)
        (each_empty (λ (s : Stands). undeclared_in_step entity s.step) (steps_of u) names) (each_empty (λ (s : Stands). unit_faults_in_step entity s.step) (steps_of u) units))
