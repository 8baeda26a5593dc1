-- In a sound program each step has the ranks that it needs.
use Rattle.std.proofs.Common.{◌≡◌, ℕ, zero, suc, List, [], ◌∷◌, ◌++◌, length, Bool, true, false, ◌&&◌, not, cond, Option, Some, refl, subst, arith}
use Rattle.std.proofs.lemmas.Bool.Decides.{nat_tests}
use Rattle.std.proofs.lemmas.Bool.{false≢true, or_parts, eqb-true, eq-eqb, not-false}
use Rattle.std.specs.Prelude.{flat_map, is_none, nat_eq, nat_lt}
use Rattle.std.specs.Option.{option_to_list}
use Rattle.fort_tree.specs.Intrinsic.{intrinsic_named}
use Rattle.fort_tree.specs.declared.choice.Mode.{Mode}
use Rattle.fort_tree.specs.declared.unit.File.{File}
use Rattle.claw_meaning.specs.Syntax as plain
use Rattle.claw_meaning.specs.Syntax.{Text}
use Rattle.claw_meaning.specs.Scope.{Entity}
use Rattle.sound_programs.specs.Laws.{Each, entity_of}
use Rattle.sound_programs.specs.Placed.{Expr, Numeral, Boolean, Name, Reference, Signed, Binary, Paren, bare_program, first}
use Rattle.sound_programs.specs.Placing.{placed}
use Rattle.sound_programs.specs.Places.{where_place}
use Rattle.sound_programs.specs.RankFaults.{needs_scalar, differing_in_each, rank_faults_of_part, is_array_reference, is_rank_fault, rank_fault_of_actual, ranks_of_step, rank_faults_in_step, rank_faults_in_scope, rank_faults}
use Rattle.sound_programs.specs.Ranking.{Operand, operands, rank, first_other, differing}
use Rattle.sound_programs.specs.Scopes.{Of_unit, scopes, is_array}
use Rattle.sound_programs.specs.Sound.{Sound}
use Rattle.sound_programs.specs.Walks.{Stands, Step, Assigns, Calls, Tests, Chooses, Repeats, Actual, actuals, sites, steps_of, parts_of, in_head}
use Rattle.sound_programs.proofs.SoundLaws.{empty_if_nowhere}
use Rattle.sound_programs.proofs.Empties.{left_empty, right_empty, no_head, each_from, each_empty, not_placed, then_true, chosen_empty, other_empty}
use Rattle.sound_programs.proofs.WithinLists.{each_by, each_right, each_before_map}
use Rattle.checked_programs.specs.Fitting.{AreOfOneRank, IsScalar, IsOfOneRank, PartIsRanked, WholesAreRanked, ActualIsRanked, HasFittingRanks, RanksFit}

-- ---- Ranks

none_above : (n : ℕ) → nat_lt 0 n ≡ false → n ≡ 0
none_above zero h = refl
none_above (suc n) h = grind (arith, nat_tests)

of_this_rank : (n : ℕ) (os : List Operand) → first_other n os ≡ [] → Each os (λ o. o.rank ≡ n)
of_this_rank n [] none = tt
of_this_rank n (o ∷ os) none = go (of_this_rank n os) (nat_eq o.rank n) refl
  where
    go : (first_other n os ≡ [] → Each os (λ o. o.rank ≡ n)) → (b : Bool) → nat_eq o.rank n ≡ b → Each (o ∷ os) (λ o. o.rank ≡ n)
    go rest true h = (eqb-true _ _ h, rest (subst (λ b. cond b (first_other n os) (o.at ∷ []) ≡ []) h none))
    go rest false h = absurd (no_head o.at [] (subst (λ b. cond b (first_other n os) (o.at ∷ []) ≡ []) h none))

as_many : (a b c : Bool) → a && (b && not c) ≡ false → a && b ≡ true → c ≡ true
as_many true b c none h = then_true _ _ none h
as_many false b c none h = absurd (false≢true h)

module _ (entity : Text → Entity) where
  of_one_rank : (os : List Operand) → differing os ≡ [] → AreOfOneRank entity os
  of_one_rank [] none = tt
  of_one_rank (o ∷ os) none = (refl, of_this_rank o.rank os none)

  is_scalar : (e : Expr) → needs_scalar entity e ≡ [] → IsScalar entity e
  is_scalar e none = none_above (rank entity e) (not_placed _ _ none)

  all_scalar : (es : List Expr) → flat_map (needs_scalar entity) es ≡ [] → Each es (IsScalar entity)
  all_scalar es none = each_from (needs_scalar entity) es is_scalar none

  all_of_one_rank : (es : List Expr) → differing_in_each entity es ≡ [] → Each es (IsOfOneRank entity)
  all_of_one_rank es none = each_from (λ e. differing (operands entity e)) es (λ e h. of_one_rank (operands entity e) h) none

  -- ---- Parts

  part_is_ranked : (e : Expr) → rank_faults_of_part entity e ≡ [] → PartIsRanked entity e
  part_is_ranked (Numeral n suffix at) none = tt
  part_is_ranked (Boolean b at) none = tt
  part_is_ranked (Name x at) none = tt
  part_is_ranked (Reference x subs at) none =
      let rest = right_empty _ _ none in
      let later = right_empty _ _ rest in
      let last = right_empty _ _ later in
      let arrays = left_empty _ _ last in
      record {
        counted = λ takes. eqb-true _ _ (as_many (is_none (intrinsic_named x)) (is_array (entity x)) _ (not_placed _ _ (left_empty _ _ none)) takes);
        intrinsic = not-false _ (not_placed _ _ (left_empty _ _ rest));
        sections = other_empty _ _ (left_empty _ _ later);
        subscripts = λ takes. all_scalar _ (chosen_empty _ _ (left_empty _ _ arrays) takes);
        bounds = all_scalar _ (right_empty _ _ arrays);
        operands = all_of_one_rank _ (right_empty _ _ last);
      }
  part_is_ranked (Signed sign e at) none = tt
  part_is_ranked (Binary op a b) none = tt
  part_is_ranked (Paren e at) none = tt

  -- ---- Actuals

  one_actual : (e : Expr) (d : plain.Decl) → is_rank_fault entity e (Some d) ≡ false → (rank entity e ≡ length d.shape) × (nat_lt 0 (rank entity e) ≡ true → is_array_reference entity e ≡ true)
  one_actual e d h =
      let both : (not (nat_eq (rank entity e) (length d.shape)) ≡ false) × (nat_lt 0 (rank entity e) && not (is_array_reference entity e) ≡ false) =
      or_parts _ _ h in (
        eqb-true _ _ (not-false _ both.0),
        then_true _ _ both.1,
      )

  any_actual : (o : Option Expr) (p : Option plain.Decl) → flat_map (λ e. where_place (is_rank_fault entity e p) (first e)) (option_to_list o) ≡ []
      → (e : Expr) (d : plain.Decl) → o ≡ Some e → p ≡ Some d → (rank entity e ≡ length d.shape) × (nat_lt 0 (rank entity e) ≡ true → is_array_reference entity e ≡ true)
  any_actual o p none e d a b =
      let of_this : flat_map (λ e. where_place (is_rank_fault entity e (Some d)) (first e)) (option_to_list (Some e)) ≡ [] =
      subst (λ q. flat_map (λ e. where_place (is_rank_fault entity e q) (first e)) (option_to_list (Some e)) ≡ []) b
      (subst (λ r. flat_map (λ e. where_place (is_rank_fault entity e p) (first e)) (option_to_list r) ≡ []) a none) in
      one_actual e d (not_placed _ _ (left_empty _ _ of_this))

  actual_is_ranked : (a : Actual) → rank_fault_of_actual entity a ≡ [] → ActualIsRanked entity a
  actual_is_ranked a none = any_actual a.expr a.dummy none

  -- ---- Steps

  wholes_are_ranked : (step : Step) → ranks_of_step entity step ≡ [] → WholesAreRanked entity step
  wholes_are_ranked (Assigns left right) none = (
    of_one_rank (operands entity left ++ operands entity right) (left_empty _ _ none),
    λ scalar. is_scalar right (chosen_empty _ _ (right_empty _ _ none) (eq-eqb (rank entity left) 0 scalar)),
  )
  wholes_are_ranked (Calls name args) none =
      let rest = right_empty _ _ none in (
        all_of_one_rank _ (left_empty _ _ none),
        left_empty _ _ rest,
        all_scalar _ (right_empty _ _ rest),
      )
  wholes_are_ranked (Tests e) none = is_scalar e (right_empty _ _ none)
  wholes_are_ranked (Chooses e ranges) none = is_scalar e (right_empty _ _ none)
  wholes_are_ranked (Repeats head mark) none = all_scalar (in_head head) (right_empty _ _ none)

  ranks_of_one_step : (step : Step) → rank_faults_in_step entity step ≡ [] → HasFittingRanks entity step
  ranks_of_one_step step none =
      let rest = right_empty _ _ none in
      record {
        wholes = wholes_are_ranked step (left_empty _ _ none);
        parts = each_from (rank_faults_of_part entity) (parts_of step) part_is_ranked (left_empty _ _ rest);
        actuals = each_from (rank_fault_of_actual entity) (flat_map (actuals entity) (sites entity step)) actual_is_ranked (right_empty _ _ rest);
      }

pub ranks_fit : (mode : Mode) (file : File) → Sound mode file → RanksFit file
ranks_fit mode file sound =
    let p = placed file in
    let q = bare_program p in
    let none : rank_faults mode p ≡ [] = empty_if_nowhere (rank_faults mode p) sound.ranks_fit in
    let in_scopes : Each (scopes p) (λ s. rank_faults_in_scope mode q s ≡ []) = each_empty (rank_faults_in_scope mode q) (scopes p) none in
    let in_units : Each p.units (λ u. rank_faults_in_scope mode q (Of_unit u) ≡ []) =
    each_before_map Of_unit (λ s. rank_faults_in_scope mode q s ≡ []) p.units (each_right (λ s. rank_faults_in_scope mode q s ≡ []) _ _ in_scopes) in
    each_by p.units (λ u e.
    each_from (λ (s : Stands). rank_faults_in_step (entity_of file u) s.step) (steps_of u) (λ s h. ranks_of_one_step (entity_of file u) s.step h)
    (right_empty _ _ (right_empty _ _ e))) in_units
