-- Where all places of a program have a property, so has the place of each fault of kinds.
use Rattle.std.proofs.Common.{List, [], ◌∷◌, ◌++◌, Bool, true, false, ◌&&◌, ◌||◌, not, Option, None, Some}
use Rattle.std.specs.Prelude.{flat_map}
use Rattle.std.specs.List.{filter}
use Rattle.std.specs.Option.{option_to_list}
use Rattle.fort_arith.specs.declared.kind.Kind.{Kind}
use Rattle.fort_arith.specs.declared.op.Op.{Op}
use Rattle.fort_arith.specs.declared.op.Op.TheVariants.{Add, Sub}
use Rattle.fort_arith.specs.declared.op.Intrinsic.{Intrinsic}
use Rattle.fort_arith.specs.declared.op.Intrinsic.TheVariants.{Abs, Int, Max, Min, Mod, Modulo, Sign, Size, Sum}
use Rattle.fort_arith.specs.Operators.{is_arithmetic, is_relation}
use Rattle.fort_tree.specs.declared.place.Place.{Place}
use Rattle.fort_tree.specs.declared.expr.Unary.{Unary}
use Rattle.fort_tree.specs.declared.expr.Unary.TheVariants.{Plus, Minus, Not}
use Rattle.fort_tree.specs.Intrinsic.{intrinsic_named}
use Rattle.fort_tree.specs.Same.{same_kind}
use Rattle.claw_meaning.specs.Syntax as plain
use Rattle.claw_meaning.specs.Syntax.{Text}
use Rattle.claw_meaning.specs.Scope.{Entity}
use Rattle.claw_meaning.specs.Units.{is_word_define}
use Rattle.sound_programs.specs.KindFaults.{literal_fault, literals_in, defined_bounds, value_fault, suffixed, name_fault, bound_fault, kind_faults_of_decls, needs_integer, needs_logical, needs_of_operator, needs_of_sign, second_of_int, first_of_other_kind, differing_kinds, kinds_differ_or_logical, first_argument, kind_faults_of_intrinsic, kind_faults_of_array, kind_faults_of_reference, kind_faults_of_part, kind_fault_of_actual, case_fault, numbers_in, overlap, first_value, overlaps, overlapping, values_of, needs_of_left, needs_of_step, kind_faults_in_step, kind_faults_in_scope, kind_faults}
use Rattle.sound_programs.specs.Kinding.{kind, is_integer, is_logical}
use Rattle.sound_programs.specs.Laws.{Each}
use Rattle.sound_programs.specs.Placed.{Expr, Numeral, Boolean, Name, Reference, Signed, Binary, Paren, Subscripts, No_more, One, Section, Decl, Directive, Range, Single, Span, Program, first, after_first, bare_program}
use Rattle.sound_programs.specs.Scopes.{Scope, Of_unit, Of_module, scopes, entity_in, is_array}
use Rattle.sound_programs.specs.Walks.{Step, Assigns, Calls, Tests, Chooses, Repeats, steps_of, parts, parts_of, single_subscripts, section_bounds, in_head, bounds_in, sites, actuals}
use Rattle.sound_programs.specs.Within.{AllInExpr, AllInSubscripts, AllInDecl, AllInDirective, AllInRange, AllPlaces}
use Rattle.sound_programs.proofs.WithinLists.{each_append, each_of_each, each_chosen, each_kept, each_in_option}
use Rattle.sound_programs.proofs.WithinPlaces.{Within, within_both, within_each, within_any, within_where, AllInScope, each_scope}
use Rattle.sound_programs.proofs.WithinSteps.{AllInStep, AllInStands, AllInActual, at_first, each_part_of, each_section_bound, each_single_subscript, each_step_of, each_in_head, each_part_of_step, each_bound_in, each_actual_in_step}

module _ (P : Place → Type 0) where
  -- ---- Literals and values of declarations

  within_literal_fault : (e : Expr) → AllInExpr P e → Within P (literal_fault e)
  within_literal_fault (Numeral n suffix at) h = within_where P _ at h
  within_literal_fault other h = tt

  within_literals_in : (es : List Expr) → Each es (AllInExpr P) → Within P (literals_in es)
  within_literals_in es all = within_each P (AllInExpr P) literal_fault (flat_map parts es) within_literal_fault (each_part_of P es all)

  each_defined_bound : (marks : List Directive) → Each marks (AllInDirective P) → Each (defined_bounds marks) (AllInExpr P)
  each_defined_bound marks all =
      each_of_each (AllInDirective P) (AllInExpr P) (λ d. option_to_list d.lower ++ option_to_list d.upper) (filter (λ d. is_word_define d.word) marks)
      (λ d h. each_append (AllInExpr P) (option_to_list d.lower) (option_to_list d.upper) (each_in_option (AllInExpr P) d.lower h.1.0) (each_in_option (AllInExpr P) d.upper h.1.1))
      (each_kept (AllInDirective P) (λ d. is_word_define d.word) marks all)

  each_value : (decls : List Decl) → Each decls (AllInDecl P) → Each (flat_map (λ d. option_to_list d.value) decls) (AllInExpr P)
  each_value decls all = each_of_each (AllInDecl P) (AllInExpr P) (λ d. option_to_list d.value) decls (λ d h. each_in_option (AllInExpr P) d.value h.1.1) all

  within_value_fault : (d : Decl) → AllInDecl P d → Within P (value_fault d)
  within_value_fault d h = within_each P (AllInExpr P) _ (option_to_list d.value) (λ e h'. within_where P _ (first e) (at_first P e h')) (each_in_option (AllInExpr P) d.value h.1.1)

  within_suffixed : (e : Expr) → AllInExpr P e → Within P (suffixed e)
  within_suffixed (Numeral n None at) h = tt
  within_suffixed (Numeral n (Some k) at) h = (h, tt)
  within_suffixed other h = (at_first P other h, tt)

  within_name_fault : (s : Scope) (entity : Text → Entity) (e : Expr) → AllInExpr P e → Within P (name_fault s entity e)
  within_name_fault s entity (Name x at) h = within_where P _ at h
  within_name_fault s entity other h = (at_first P other h, tt)

  within_bound_fault : (s : Scope) (entity : Text → Entity) (e : Expr) → AllInExpr P e → Within P (bound_fault s entity e)
  within_bound_fault s entity (Numeral n suffix at) h = within_suffixed (Numeral n suffix at) h
  within_bound_fault s entity (Signed Minus e at) h = within_suffixed e h.1
  within_bound_fault s entity (Name x at) h = within_name_fault s entity (Name x at) h
  within_bound_fault s entity (Binary Add a b) h = within_both P _ _ (within_name_fault s entity a h.0) (within_suffixed b h.1)
  within_bound_fault s entity (Binary Sub a b) h = within_both P _ _ (within_name_fault s entity a h.0) (within_suffixed b h.1)
  within_bound_fault s entity other h = (at_first P other h, tt)

  within_kind_faults_of_decls : (s : Scope) (entity : Text → Entity) (decls : List Decl) → Each decls (AllInDecl P) → Within P (kind_faults_of_decls s entity decls)
  within_kind_faults_of_decls s entity decls all =
      within_both P _ _
      (within_literals_in (bounds_in decls ++ flat_map (λ d. option_to_list d.value) decls) (each_append (AllInExpr P) (bounds_in decls) _ (each_bound_in P decls all) (each_value decls all)))
      (within_both P _ _ (within_each P (AllInDecl P) value_fault decls within_value_fault all)
      (within_each P (AllInExpr P) (bound_fault s entity) (bounds_in decls) (within_bound_fault s entity) (each_bound_in P decls all)))

  -- ---- INTEGER and LOGICAL

  module _ (entity : Text → Entity) where
    within_needs_integer : (e : Expr) → AllInExpr P e → Within P (needs_integer entity e)
    within_needs_integer e h = within_where P _ (first e) (at_first P e h)

    within_needs_logical : (e : Expr) → AllInExpr P e → Within P (needs_logical entity e)
    within_needs_logical e h = within_where P _ (first e) (at_first P e h)

    within_each_integer : (es : List Expr) → Each es (AllInExpr P) → Within P (flat_map (needs_integer entity) es)
    within_each_integer es all = within_each P (AllInExpr P) (needs_integer entity) es within_needs_integer all

    within_needs_of_operator : (op : Op) (e : Expr) → AllInExpr P e → Within P (needs_of_operator entity op e)
    within_needs_of_operator op e h =
        each_chosen P (is_arithmetic op || is_relation op) (needs_integer entity e) (needs_logical entity e) (within_needs_integer e h) (within_needs_logical e h)

    within_needs_of_sign : (sign : Unary) (e : Expr) → AllInExpr P e → Within P (needs_of_sign entity sign e)
    within_needs_of_sign Plus e h = within_needs_integer e h
    within_needs_of_sign Minus e h = within_needs_integer e h
    within_needs_of_sign Not e h = within_needs_logical e h

    -- ---- Arguments of intrinsics

    within_second_of_int : (args : Subscripts) → AllInSubscripts P args → Within P (second_of_int entity args)
    within_second_of_int No_more h = tt
    within_second_of_int (One e rest) h = within_where P _ (first e) (at_first P e h.0)
    within_second_of_int (Section lower upper at rest) h = tt

    all_after_first : (args : Subscripts) → AllInSubscripts P args → AllInSubscripts P (after_first args)
    all_after_first No_more h = tt
    all_after_first (One e rest) h = h.1
    all_after_first (Section lower upper at rest) h = h.1.1.1

    within_first_of_other_kind : (k : Option Kind) (es : List Expr) → Each es (AllInExpr P) → Within P (first_of_other_kind entity k es)
    within_first_of_other_kind k [] all = tt
    within_first_of_other_kind k (e ∷ rest) all =
        each_chosen P (is_integer (kind entity e) && not (same_kind k (kind entity e))) (first e ∷ []) (first_of_other_kind entity k rest)
        (at_first P e all.0, tt)
        (within_first_of_other_kind k rest all.1)

    within_differing_kinds : (es : List Expr) → Each es (AllInExpr P) → Within P (differing_kinds entity es)
    within_differing_kinds [] all = tt
    within_differing_kinds (e ∷ rest) all =
        each_chosen P (is_integer (kind entity e)) (first_of_other_kind entity (kind entity e) rest) (differing_kinds entity rest)
        (within_first_of_other_kind (kind entity e) rest all.1)
        (within_differing_kinds rest all.1)

    within_kinds_differ_or_logical : (args : Subscripts) → AllInSubscripts P args → Within P (kinds_differ_or_logical entity args)
    within_kinds_differ_or_logical args h =
        within_both P _ _ (within_each_integer (single_subscripts args) (each_single_subscript P args h))
        (within_differing_kinds (single_subscripts args) (each_single_subscript P args h))

    each_first_argument : (args : Subscripts) → AllInSubscripts P args → Each (first_argument entity args) (AllInExpr P)
    each_first_argument No_more h = tt
    each_first_argument (One e rest) h = (h.0, tt)
    each_first_argument (Section lower upper at rest) h = tt

    within_kind_faults_of_intrinsic : (which : Intrinsic) (args : Subscripts) → AllInSubscripts P args → Within P (kind_faults_of_intrinsic entity which args)
    within_kind_faults_of_intrinsic Size args h = tt
    within_kind_faults_of_intrinsic Int args h =
        within_both P _ _ (within_each_integer (first_argument entity args) (each_first_argument args h)) (within_second_of_int (after_first args) (all_after_first args h))
    within_kind_faults_of_intrinsic Sum args h = within_kinds_differ_or_logical args h
    within_kind_faults_of_intrinsic Abs args h = within_kinds_differ_or_logical args h
    within_kind_faults_of_intrinsic Max args h = within_kinds_differ_or_logical args h
    within_kind_faults_of_intrinsic Min args h = within_kinds_differ_or_logical args h
    within_kind_faults_of_intrinsic Mod args h = within_kinds_differ_or_logical args h
    within_kind_faults_of_intrinsic Modulo args h = within_kinds_differ_or_logical args h
    within_kind_faults_of_intrinsic Sign args h = within_kinds_differ_or_logical args h

    within_kind_faults_of_array : (array : Bool) (subs : Subscripts) → AllInSubscripts P subs → Within P (kind_faults_of_array entity array subs)
    within_kind_faults_of_array true subs h = within_each_integer (single_subscripts subs) (each_single_subscript P subs h)
    within_kind_faults_of_array false subs h = tt

    within_kind_faults_of_reference : (which : Option Intrinsic) (array : Bool) (subs : Subscripts) → AllInSubscripts P subs → Within P (kind_faults_of_reference entity which array subs)
    within_kind_faults_of_reference (Some which) array args h = within_kind_faults_of_intrinsic which args h
    within_kind_faults_of_reference None array subs h = within_kind_faults_of_array array subs h

    within_kind_faults_of_part : (e : Expr) → AllInExpr P e → Within P (kind_faults_of_part entity e)
    within_kind_faults_of_part (Numeral n suffix at) h = within_literal_fault (Numeral n suffix at) h
    within_kind_faults_of_part (Boolean b at) h = tt
    within_kind_faults_of_part (Name x at) h = tt
    within_kind_faults_of_part (Reference x subs at) h =
        within_both P _ _ (within_kind_faults_of_reference (intrinsic_named x) (is_array (entity x)) subs h.1) (within_each_integer (section_bounds subs) (each_section_bound P subs h.1))
    within_kind_faults_of_part (Signed sign e at) h = within_needs_of_sign sign e h.1
    within_kind_faults_of_part (Binary op a b) h = within_both P _ _ (within_needs_of_operator op a h.0) (within_needs_of_operator op b h.1)
    within_kind_faults_of_part (Paren e at) h = tt

    -- ---- Cases

    within_case_fault : (k : Option Kind) (e : Expr) → AllInExpr P e → Within P (case_fault entity k e)
    within_case_fault k e h = within_where P _ (first e) (at_first P e h)

    within_first_value : (r : Range) → AllInRange P r → Within P (first_value entity r)
    within_first_value (Single e) h = (at_first P e h, tt)
    within_first_value (Span (Some lower) upper) h = (at_first P lower h.0, tt)
    within_first_value (Span None (Some upper)) h = (at_first P upper h.1, tt)
    within_first_value (Span None None) h = tt

    within_overlaps : (a b : Range) → AllInRange P b → Within P (overlaps entity a b)
    within_overlaps a b h =
        within_any P _ (numbers_in entity a) (λ x.
        within_any P _ (numbers_in entity b) (λ y.
        each_chosen P (overlap entity x y) (first_value entity b) [] (within_first_value b h) tt))

    within_overlapping : (ranges : List Range) → Each ranges (AllInRange P) → Within P (overlapping entity ranges)
    within_overlapping [] all = tt
    within_overlapping (a ∷ rest) all =
        within_both P _ _ (within_each P (AllInRange P) (overlaps entity a) rest (within_overlaps a) all.1) (within_overlapping rest all.1)

    each_value_of : (r : Range) → AllInRange P r → Each (values_of entity r) (AllInExpr P)
    each_value_of (Single e) h = (h, tt)
    each_value_of (Span lower upper) h =
        each_append (AllInExpr P) (option_to_list lower) (option_to_list upper) (each_in_option (AllInExpr P) lower h.0) (each_in_option (AllInExpr P) upper h.1)

    -- ---- Steps

    within_needs_of_left : (k : Option Kind) (right : Expr) → AllInExpr P right → Within P (needs_of_left entity k right)
    within_needs_of_left k right h =
        within_both P _ _ (each_chosen P (is_integer k) (needs_integer entity right) [] (within_needs_integer right h) tt)
        (each_chosen P (is_logical k) (needs_logical entity right) [] (within_needs_logical right h) tt)

    within_needs_of_step : (step : Step) → AllInStep P step → Within P (needs_of_step entity step)
    within_needs_of_step (Assigns left right) h = within_needs_of_left (kind entity left) right h.1
    within_needs_of_step (Calls name args) h = within_each_integer (section_bounds args) (each_section_bound P args h.1)
    within_needs_of_step (Tests e) h = within_needs_logical e h
    within_needs_of_step (Chooses e ranges) h =
        within_both P _ _ (within_needs_integer e h.0)
        (within_both P _ _
        (within_each P (AllInExpr P) (case_fault entity (kind entity e)) (flat_map (values_of entity) ranges) (within_case_fault (kind entity e))
        (each_of_each (AllInRange P) (AllInExpr P) (values_of entity) ranges each_value_of h.1))
        (within_overlapping ranges h.1))
    within_needs_of_step (Repeats head mark) h = within_each_integer (in_head head) (each_in_head P head h.0)

    within_kind_faults_in_step : (step : Step) → AllInStep P step → Within P (kind_faults_in_step entity step)
    within_kind_faults_in_step step h =
        within_both P _ _ (within_needs_of_step step h)
        (within_both P _ _ (within_each P (AllInExpr P) (kind_faults_of_part entity) (parts_of step) within_kind_faults_of_part (each_part_of_step P step h))
        (within_each P (AllInActual P) (kind_fault_of_actual entity) (flat_map (actuals entity) (sites entity step)) (λ a h'. within_where P _ a.at h'.0) (each_actual_in_step P entity step h)))

  within_kind_faults_in_scope : (q : plain.Program) (s : Scope) → AllInScope P s → Within P (kind_faults_in_scope q s)
  within_kind_faults_in_scope q (Of_unit u) h =
      let entity : Text → Entity = entity_in q (Of_unit u) in
      within_both P _ _ (within_kind_faults_of_decls (Of_unit u) entity u.decls h.decls)
      (within_both P _ _ (within_literals_in (defined_bounds u.marks) (each_defined_bound u.marks h.marks))
      (within_each P (AllInStands P) (λ s. kind_faults_in_step entity s.step) (steps_of u) (λ s. within_kind_faults_in_step entity s.step) (each_step_of P u h)))
  within_kind_faults_in_scope q (Of_module n m) h = within_kind_faults_of_decls (Of_module n m) (entity_in q (Of_module n m)) m.decls h.decls

  pub within_kind_faults : (p : Program) → AllPlaces P p → Within P (kind_faults p)
  within_kind_faults p h = within_each P (AllInScope P) _ (scopes p) (within_kind_faults_in_scope (bare_program p)) (each_scope P p h)
