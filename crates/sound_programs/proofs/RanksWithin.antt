-- Where all places of a program have a property, so has the place of each fault of ranks.
use Rattle.std.proofs.Common.{ℕ, zero, suc, List, [], ◌∷◌, ◌++◌, Bool, true, false, Option, None, Some}
use Rattle.std.specs.Prelude.{flat_map, nat_eq}
use Rattle.std.specs.Option.{option_to_list}
use Rattle.fort_arith.specs.declared.op.Intrinsic.{Intrinsic}
use Rattle.fort_arith.specs.declared.op.Intrinsic.TheVariants.{Abs, Int, Max, Min, Mod, Modulo, Sign, Size, Sum}
use Rattle.fort_tree.specs.declared.choice.Mode.{Mode}
use Rattle.fort_tree.specs.declared.place.Place.{Place}
use Rattle.fort_tree.specs.Intrinsic.{intrinsic_named}
use Rattle.claw_meaning.specs.Syntax as plain
use Rattle.claw_meaning.specs.Syntax.{Text}
use Rattle.claw_meaning.specs.Scope.{Entity}
use Rattle.sound_programs.specs.Laws.{Each}
use Rattle.sound_programs.specs.Placed.{Expr, Numeral, Boolean, Name, Reference, Signed, Binary, Paren, Subscripts, No_more, One, Section, Unit, Program, first, bare_program}
use Rattle.sound_programs.specs.RankFaults.{result_not_scalar, needs_scalar, wrong_subscripts, intrinsic_misused, takes_sections, range_as_argument, array_as_subscript, differing_in_each, own_lists, ranks_differ_inside, rank_faults_of_part, rank_fault_of_actual, needs_of_left, ranks_of_step, rank_faults_in_step, rank_faults_of_decls, rank_faults_in_scope, rank_faults}
use Rattle.sound_programs.specs.Ranking.{count_of_sections, Operand, operand, operands_of_intrinsic, operands_of_reference, operands, operands_in, rank, rank_of_entity, first_other, differing}
use Rattle.sound_programs.specs.Scopes.{Scope, Of_unit, Of_module, scopes, decls_of, entity_in, is_array}
use Rattle.sound_programs.specs.Walks.{Step, Assigns, Calls, Tests, Chooses, Repeats, steps_of, parts_of, single_subscripts, section_bounds, section_places, in_head, sites, Actual, actuals}
use Rattle.sound_programs.specs.Within.{AllInExpr, AllInSubscripts, AllInUnit, AllPlaces}
use Rattle.sound_programs.proofs.WithinLists.{each_append, each_chosen, each_in_option}
use Rattle.sound_programs.proofs.WithinPlaces.{Within, within_both, within_each, within_any, within_where, within_decls, AllInScope, each_scope, each_decl}
use Rattle.sound_programs.proofs.WithinSteps.{AllInStep, AllInStands, AllInActual, at_first, each_section_bound, each_single_subscript, each_section_place, each_step_of, each_in_head, each_part_of_step, each_actual_in_step}

module _ (P : Place → Type 0) where
  -- ---- Operands

  abbrev AtOperand : Operand → Type 0
  AtOperand o = P o.at

  each_operand_at : (at : Place) (n : ℕ) → P at → Each (operand at n) AtOperand
  each_operand_at at zero h = tt
  each_operand_at at (suc n) h = (h, tt)

  each_operand_of_intrinsic : (which : Intrinsic) (inside : List Operand) → Each inside AtOperand → Each (operands_of_intrinsic which inside) AtOperand
  each_operand_of_intrinsic Size inside all = tt
  each_operand_of_intrinsic Sum inside all = tt
  each_operand_of_intrinsic Abs inside all = all
  each_operand_of_intrinsic Int inside all = all
  each_operand_of_intrinsic Max inside all = all
  each_operand_of_intrinsic Min inside all = all
  each_operand_of_intrinsic Mod inside all = all
  each_operand_of_intrinsic Modulo inside all = all
  each_operand_of_intrinsic Sign inside all = all

  each_operand_of_reference : (which : Option Intrinsic) (array : Bool) (at : Place) (sections : ℕ) (inside : List Operand) → P at → Each inside AtOperand → Each (operands_of_reference which array at sections inside) AtOperand
  each_operand_of_reference None true at sections inside h all = each_operand_at at sections h
  each_operand_of_reference None false at sections inside h all = tt
  each_operand_of_reference (Some which) array at sections inside h all = each_operand_of_intrinsic which inside all

  within_first_other : (n : ℕ) (os : List Operand) → Each os AtOperand → Within P (first_other n os)
  within_first_other n [] all = tt
  within_first_other n (o ∷ rest) all = each_chosen P (nat_eq o.rank n) (first_other n rest) (o.at ∷ []) (within_first_other n rest all.1) (all.0, tt)

  within_differing : (os : List Operand) → Each os AtOperand → Within P (differing os)
  within_differing [] all = tt
  within_differing (o ∷ rest) all = within_first_other o.rank rest all.1

  -- ---- Declarations

  within_result_not_scalar : (u : Unit) → AllInUnit P u → Within P (result_not_scalar u)
  within_result_not_scalar u h = within_any P _ (option_to_list u.result) (λ r. within_decls P _ u.decls h.decls)

  within_rank_faults_of_decls : (mode : Mode) (s : Scope) → AllInScope P s → Within P (rank_faults_of_decls mode s)
  within_rank_faults_of_decls mode s h = within_both P _ _ (within_decls P _ (decls_of s) (each_decl P s h)) (within_decls P _ (decls_of s) (each_decl P s h))

  module _ (entity : Text → Entity) where
    mutual
      each_operand : (e : Expr) → AllInExpr P e → Each (operands entity e) AtOperand
      each_operand (Numeral n kind at) h = tt
      each_operand (Boolean b at) h = tt
      each_operand (Name x at) h = each_operand_at at (rank_of_entity (entity x)) h
      each_operand (Reference x subs at) h =
          each_operand_of_reference (intrinsic_named x) (is_array (entity x)) at (count_of_sections subs) (operands_in entity subs) h.0 (each_operand_in subs h.1)
      each_operand (Signed sign e at) h = each_operand e h.1
      each_operand (Binary op a b) h = each_append AtOperand (operands entity a) (operands entity b) (each_operand a h.0) (each_operand b h.1)
      each_operand (Paren e at) h = each_operand e h.1

      each_operand_in : (subs : Subscripts) → AllInSubscripts P subs → Each (operands_in entity subs) AtOperand
      each_operand_in No_more h = tt
      each_operand_in (One e rest) h = each_append AtOperand (operands entity e) (operands_in entity rest) (each_operand e h.0) (each_operand_in rest h.1)
      each_operand_in (Section lower upper at rest) h = each_operand_in rest h.1.1.1

    -- ---- References

    within_needs_scalar : (e : Expr) → AllInExpr P e → Within P (needs_scalar entity e)
    within_needs_scalar e h = within_where P _ (first e) (at_first P e h)

    within_each_scalar : (es : List Expr) → Each es (AllInExpr P) → Within P (flat_map (needs_scalar entity) es)
    within_each_scalar es all = within_each P (AllInExpr P) (needs_scalar entity) es within_needs_scalar all

    within_wrong_subscripts : (e : Expr) → AllInExpr P e → Within P (wrong_subscripts entity e)
    within_wrong_subscripts (Reference x subs at) h = within_where P _ at h.0
    within_wrong_subscripts other h = tt

    within_intrinsic_misused : (e : Expr) → AllInExpr P e → Within P (intrinsic_misused entity e)
    within_intrinsic_misused (Reference x subs at) h = within_where P _ at h.0
    within_intrinsic_misused other h = tt

    within_range_as_argument : (e : Expr) → AllInExpr P e → Within P (range_as_argument entity e)
    within_range_as_argument (Reference x subs at) h = each_chosen P (takes_sections entity x) [] (section_places subs) tt (each_section_place P subs h.1)
    within_range_as_argument other h = tt

    within_array_as_subscript : (e : Expr) → AllInExpr P e → Within P (array_as_subscript entity e)
    within_array_as_subscript (Reference x subs at) h =
        within_both P _ _
        (each_chosen P (takes_sections entity x) (flat_map (needs_scalar entity) (single_subscripts subs)) [] (within_each_scalar (single_subscripts subs) (each_single_subscript P subs h.1)) tt)
        (within_each_scalar (section_bounds subs) (each_section_bound P subs h.1))
    within_array_as_subscript other h = tt

    -- ---- Lists of operands

    within_differing_in_each : (es : List Expr) → Each es (AllInExpr P) → Within P (differing_in_each entity es)
    within_differing_in_each es all = within_each P (AllInExpr P) _ es (λ e h. within_differing (operands entity e) (each_operand e h)) all

    each_own_list : (which : Option Intrinsic) (args : List Expr) → Each args (AllInExpr P) → Each (own_lists entity which args) (AllInExpr P)
    each_own_list None args all = all
    each_own_list (Some Size) args all = all
    each_own_list (Some Sum) args all = all
    each_own_list (Some Abs) args all = tt
    each_own_list (Some Int) args all = tt
    each_own_list (Some Max) args all = tt
    each_own_list (Some Min) args all = tt
    each_own_list (Some Mod) args all = tt
    each_own_list (Some Modulo) args all = tt
    each_own_list (Some Sign) args all = tt

    within_ranks_differ_inside : (e : Expr) → AllInExpr P e → Within P (ranks_differ_inside entity e)
    within_ranks_differ_inside (Reference x subs at) h =
        within_differing_in_each (own_lists entity (intrinsic_named x) (single_subscripts subs) ++ section_bounds subs)
        (each_append (AllInExpr P) (own_lists entity (intrinsic_named x) (single_subscripts subs)) (section_bounds subs)
        (each_own_list (intrinsic_named x) (single_subscripts subs) (each_single_subscript P subs h.1))
        (each_section_bound P subs h.1))
    within_ranks_differ_inside other h = tt

    within_rank_faults_of_part : (e : Expr) → AllInExpr P e → Within P (rank_faults_of_part entity e)
    within_rank_faults_of_part e h =
        within_both P (wrong_subscripts entity e) _ (within_wrong_subscripts e h)
        (within_both P (intrinsic_misused entity e) _ (within_intrinsic_misused e h)
        (within_both P (range_as_argument entity e) _ (within_range_as_argument e h)
        (within_both P (array_as_subscript entity e) (ranks_differ_inside entity e) (within_array_as_subscript e h) (within_ranks_differ_inside e h))))

    -- ---- Actual arguments and steps

    within_rank_fault_of_actual : (a : Actual) → AllInActual P a → Within P (rank_fault_of_actual entity a)
    within_rank_fault_of_actual a h =
        within_each P (AllInExpr P) _ (option_to_list a.expr) (λ e h'. within_where P _ (first e) (at_first P e h')) (each_in_option (AllInExpr P) a.expr h.1)

    within_needs_of_left : (left right : Expr) → AllInExpr P right → Within P (needs_of_left entity left right)
    within_needs_of_left left right h = each_chosen P (nat_eq (rank entity left) 0) (needs_scalar entity right) [] (within_needs_scalar right h) tt

    within_ranks_of_step : (step : Step) → AllInStep P step → Within P (ranks_of_step entity step)
    within_ranks_of_step (Assigns left right) h =
        within_both P _ _
        (within_differing (operands entity left ++ operands entity right) (each_append AtOperand (operands entity left) (operands entity right) (each_operand left h.0) (each_operand right h.1)))
        (within_needs_of_left left right h.1)
    within_ranks_of_step (Calls name args) h =
        within_both P _ _
        (within_differing_in_each (single_subscripts args ++ section_bounds args)
        (each_append (AllInExpr P) (single_subscripts args) (section_bounds args) (each_single_subscript P args h.1) (each_section_bound P args h.1)))
        (within_both P _ _ (each_section_place P args h.1) (within_each_scalar (section_bounds args) (each_section_bound P args h.1)))
    within_ranks_of_step (Tests e) h = within_both P _ _ (within_differing_in_each (e ∷ []) (h, tt)) (within_needs_scalar e h)
    within_ranks_of_step (Chooses e ranges) h = within_both P _ _ (within_differing_in_each (e ∷ []) (h.0, tt)) (within_needs_scalar e h.0)
    within_ranks_of_step (Repeats head mark) h =
        within_both P _ _ (within_differing_in_each (in_head head) (each_in_head P head h.0)) (within_each_scalar (in_head head) (each_in_head P head h.0))

    within_rank_faults_in_step : (step : Step) → AllInStep P step → Within P (rank_faults_in_step entity step)
    within_rank_faults_in_step step h =
        within_both P _ _ (within_ranks_of_step step h)
        (within_both P _ _ (within_each P (AllInExpr P) (rank_faults_of_part entity) (parts_of step) within_rank_faults_of_part (each_part_of_step P step h))
        (within_each P (AllInActual P) (rank_fault_of_actual entity) (flat_map (actuals entity) (sites entity step)) within_rank_fault_of_actual (each_actual_in_step P entity step h)))

  within_rank_faults_in_scope : (mode : Mode) (q : plain.Program) (s : Scope) → AllInScope P s → Within P (rank_faults_in_scope mode q s)
  within_rank_faults_in_scope mode q (Of_unit u) h =
      within_both P _ _ (within_rank_faults_of_decls mode (Of_unit u) h)
      (within_both P _ _ (within_result_not_scalar u h)
      (within_each P (AllInStands P) _ (steps_of u) (λ s. within_rank_faults_in_step (entity_in q (Of_unit u)) s.step) (each_step_of P u h)))
  within_rank_faults_in_scope mode q (Of_module n m) h = within_rank_faults_of_decls mode (Of_module n m) h

  pub within_rank_faults : (mode : Mode) (p : Program) → AllPlaces P p → Within P (rank_faults mode p)
  within_rank_faults mode p h = within_each P (AllInScope P) _ (scopes p) (within_rank_faults_in_scope mode (bare_program p)) (each_scope P p h)
