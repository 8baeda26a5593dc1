-- How a regrouped unit is declared and refers, and what it is when erased.
use Rattle.std.proofs.Common.{◌≡◌, ℕ, refl, ap, sym, ◌∙◌, subst, List, [], ◌∷◌, map, Bool, true, false, Option, Some, None}
use Rattle.std.specs.Prelude.{if◌then◌else◌, ◌&&◌, not, is_none, is_some, slice_get}
use Rattle.std.specs.List.{filter}
use Rattle.std.proofs.lemmas.Bool.{false≢true}
use Rattle.std.proofs.lemmas.List.{map-id, append-nil}
use mathlib.Core.Path.{ap₂}
use Rattle.fort_tree.specs.Intrinsic.{intrinsic_named}
use Rattle.claw_meaning.specs.Syntax.{Text, Expr, Numeral, Boolean, Name, Reference, Signed, Binary, Paren, Subscripts, No_more, At, Section, Between, Limit, Unbounded, Bounded, Decl, Directive, Stmt, Assign, Call, If, Select, Do, Block, Piece, Exit, Cycle, Return, Stmts, Done, Then, Arms, No_arm, Arm, Cases, No_case, Case, Otherwise, Nothing_else, Else, Unit, Program}
use Rattle.claw_meaning.specs.Scope.{visible}
use Rattle.claw_meaning.specs.Columns.{added_dummy}
use Rattle.claw_meaning.specs.Dependence.{is_size, called_in, is_column_called}
use Rattle.claw_meaning.specs.Units.{is_column_unit, dummies_of}
use Rattle.claw_meaning.specs.Interface.{widening, no_widening, widening_of, AsksOther, RefersWide, HasDimension, AllHaveDimension, LimitHasDimension, OptionHasDimension, CallHasDimension, ActualHasDimension, ActualsHaveDimension, StmtHasDimension, StmtsHaveDimension, ArmsHaveDimension, CasesHaveDimension, OtherwiseHasDimension, column_called, HasGuard, UnitInterface}
use Rattle.claw_meaning.specs.Erasure.{Reading, read_stmts, rank_in, column_callee, source_callee, written_callee, grouped, bare_reading, bare_unit, lost_place, id_if, erased_reading, narrow, is_text, was_there, behind_guard, erased_unit}
use Rattle.claw_meaning.specs.Spread.{is_unmarked, are_unmarked, arms_unmarked, cases_unmarked, otherwise_unmarked, has_routine}
use Rattle.plain_units.specs.Regrouped.{regrouped}
use Rattle.plain_units.specs.Undirected.{is_undirected, are_undirected, arms_undirected, cases_undirected, otherwise_undirected}
use Rattle.plain_units.specs.Calling.{unit_run, runs_column}
use Rattle.plain_units.specs.Translated.{Translates, IsPlain, ArePlain}
use Rattle.plain_units.proofs.Trees.{both, both_false}
use Rattle.plain_units.proofs.Readings.{stmts_same}
use Rattle.plain_units.proofs.Declared.{written_is}
use Rattle.plain_units.proofs.Seeing.{Row, plain_row, column_row, rows_of, row_at}

-- No reference is to a wide variable

asks_other : (subs : Subscripts) → AsksOther no_widening subs
asks_other (At (Name x) No_more) = refl
asks_other (At (Name x) (At (Numeral n suffix) No_more)) = refl
asks_other rest = tt

refers_wide : (b : Bool) (x : Text) (subs : Subscripts) → AllHaveDimension no_widening subs → RefersWide no_widening b x subs (AllHaveDimension no_widening subs)
refers_wide true x subs h = asks_other subs
refers_wide false x subs h = (λ e. absurd (false≢true e), h)

mutual
  dimension : (e : Expr) → HasDimension no_widening e
  dimension (Numeral n suffix) = tt
  dimension (Boolean b) = tt
  dimension (Name x) = refl
  dimension (Reference x subs) = refers_wide (is_size (intrinsic_named x)) x subs (dimensions subs)
  dimension (Signed sign e) = dimension e
  dimension (Binary op a b) = (dimension a, dimension b)
  dimension (Paren e) = dimension e

  dimensions : (subs : Subscripts) → AllHaveDimension no_widening subs
  dimensions No_more = tt
  dimensions (At e rest) = (dimension e, dimensions rest)
  dimensions (Section lower upper rest) = (limit_dimension lower, limit_dimension upper, dimensions rest)
  dimensions (Between m n rest) = dimensions rest

  limit_dimension : (l : Limit) → LimitHasDimension no_widening l
  limit_dimension Unbounded = tt
  limit_dimension (Bounded e) = dimension e

option_dimension : (e : Option Expr) → OptionHasDimension no_widening e
option_dimension None = tt
option_dimension (Some e) = dimension e

actual_dimension : (e : Expr) → ActualHasDimension no_widening e
actual_dimension (Numeral n suffix) = tt
actual_dimension (Boolean b) = tt
actual_dimension (Name x) = tt
actual_dimension (Reference x subs) = dimension (Reference x subs)
actual_dimension (Signed sign e) = dimension e
actual_dimension (Binary op a b) = (dimension a, dimension b)
actual_dimension (Paren e) = dimension e

actuals_dimension : (subs : Subscripts) → ActualsHaveDimension no_widening subs
actuals_dimension No_more = tt
actuals_dimension (At e rest) = (actual_dimension e, actuals_dimension rest)
actuals_dimension (Section lower upper rest) = actuals_dimension rest
actuals_dimension (Between m n rest) = actuals_dimension rest

call_dimension : (b : Bool) (args : Subscripts) → CallHasDimension no_widening b args
call_dimension true args = actuals_dimension args
call_dimension false args = dimensions args

module _ (is_column : Text → Bool) where
  mutual
    stmt_dimension : (s : Stmt) → StmtHasDimension no_widening is_column s
    stmt_dimension (Assign left right) = (dimension left, dimension right)
    stmt_dimension (Call x args forward) = call_dimension (is_column x) args
    stmt_dimension (If arms other) = (arms_dimension arms, otherwise_dimension other)
    stmt_dimension (Select e cases other) = (dimension e, cases_dimension cases, otherwise_dimension other)
    stmt_dimension (Do h body mark) = ((dimension h.from, dimension h.to, option_dimension h.step), stmts_dimension body)
    stmt_dimension (Block d body) = stmts_dimension body
    stmt_dimension (Piece body) = stmts_dimension body
    stmt_dimension Exit = tt
    stmt_dimension Cycle = tt
    stmt_dimension Return = tt

    stmts_dimension : (s : Stmts) → StmtsHaveDimension no_widening is_column s
    stmts_dimension Done = tt
    stmts_dimension (Then s rest) = (stmt_dimension s, stmts_dimension rest)

    arms_dimension : (a : Arms) → ArmsHaveDimension no_widening is_column a
    arms_dimension No_arm = tt
    arms_dimension (Arm test body rest) = (dimension test, stmts_dimension body, arms_dimension rest)

    cases_dimension : (c : Cases) → CasesHaveDimension no_widening is_column c
    cases_dimension No_case = tt
    cases_dimension (Case ranges body rest) = (stmts_dimension body, cases_dimension rest)

    otherwise_dimension : (o : Otherwise) → OtherwiseHasDimension no_widening is_column o
    otherwise_dimension Nothing_else = tt
    otherwise_dimension (Else body) = stmts_dimension body

-- Without directives no loop is marked

not_marked : (mark : Option Directive) → is_none mark ≡ true → (b : Bool) → b ≡ true → not (is_some mark) && b ≡ true
not_marked None e b h = h
not_marked (Some d) e b h = absurd (false≢true e)

and_true : (a b : Bool) → a ≡ true → b ≡ true → a && b ≡ true
and_true true b e h = h
and_true false b e h = absurd (false≢true e)

mutual
  unmarked : (s : Stmt) → is_undirected s ≡ true → is_unmarked s ≡ true
  unmarked (Assign left right) h = refl
  unmarked (Call x args forward) h = refl
  unmarked (If arms other) h = let w = both (arms_undirected arms) (otherwise_undirected other) h in and_true _ _ (unmarked_arms arms w.0) (unmarked_otherwise other w.1)
  unmarked (Select e cases other) h = let w = both (cases_undirected cases) (otherwise_undirected other) h in and_true _ _ (unmarked_cases cases w.0) (unmarked_otherwise other w.1)
  unmarked (Do d body mark) h = let w = both (is_none mark) (are_undirected body) h in not_marked mark w.0 _ (all_unmarked body w.1)
  unmarked (Block d body) h = absurd (false≢true h)
  unmarked (Piece body) h = absurd (false≢true h)
  unmarked Exit h = refl
  unmarked Cycle h = refl
  unmarked Return h = refl

  all_unmarked : (s : Stmts) → are_undirected s ≡ true → are_unmarked s ≡ true
  all_unmarked Done h = refl
  all_unmarked (Then s rest) h = let w = both (is_undirected s) (are_undirected rest) h in and_true _ _ (unmarked s w.0) (all_unmarked rest w.1)

  unmarked_arms : (a : Arms) → arms_undirected a ≡ true → arms_unmarked a ≡ true
  unmarked_arms No_arm h = refl
  unmarked_arms (Arm test body rest) h = let w = both (are_undirected body) (arms_undirected rest) h in and_true _ _ (all_unmarked body w.0) (unmarked_arms rest w.1)

  unmarked_cases : (c : Cases) → cases_undirected c ≡ true → cases_unmarked c ≡ true
  unmarked_cases No_case h = refl
  unmarked_cases (Case ranges body rest) h = let w = both (are_undirected body) (cases_undirected rest) h in and_true _ _ (all_unmarked body w.0) (unmarked_cases rest w.1)

  unmarked_otherwise : (o : Otherwise) → otherwise_undirected o ≡ true → otherwise_unmarked o ≡ true
  unmarked_otherwise Nothing_else h = refl
  unmarked_otherwise (Else body) h = all_unmarked body h

-- Units

all_kept : {A : Type 0} (xs : List A) → filter (λ x. true) xs ≡ xs
all_kept [] = refl
all_kept (x ∷ xs) = ap (λ ys. x ∷ ys) (all_kept xs)

abbrev read_as : Unit → List Text → List Decl → Stmts → Unit
read_as u dummies decls body = record { name = u.name; dummies = dummies; result = u.result; uses = u.uses; decls = decls; marks = []; body = body; host = u.host }

no_callee : (has_added : Unit → Bool) (called : Option Unit) → is_column_called called ≡ false → column_callee has_added called ≡ None
no_callee has_added None e = refl
no_callee has_added (Some v) e = ap (λ b. if b then Some (record { dummies = dummies_of v; has_added = has_added v }) else None) e

module _ (p : Program) (u : Unit) (e : is_column_unit u ≡ false) where
  no_widening_is : (wide : Text → Bool) → widening_of p u wide ≡ no_widening
  no_widening_is wide = ap (λ b. if b then widening p u wide else no_widening) e

  interface : UnitInterface p u (regrouped u) no_widening
  interface = record {
    name = refl;
    host = refl;
    result = refl;
    uses = refl;
    dummies = sym (append-nil u.dummies);
    decls = refl;
    guard = subst (λ b. HasGuard b no_widening (regrouped u)) (sym e) tt;
    references = stmts_dimension (column_called p u) u.body;
  }

  abbrev reading_with : Option Text → Reading
  reading_with id = record { rank = rank_in p u; lost = lost_place no_widening; id = id; columns = λ x. written_callee p (called_in p u x) }

  same_decls : map (narrow no_widening) (filter (λ d. was_there u no_widening d.name) (regrouped u).decls) ≡ grouped u u.decls
  same_decls =
      ap (λ b. map (narrow no_widening) (filter (λ d. not (is_text None d.name) && not (is_text (id_if b []) d.name)) (regrouped u).decls)) e
      ∙ map-id (filter (λ d. true) (regrouped u).decls) ∙ all_kept (regrouped u).decls ∙ written_is u e

  -- calls in the source and in what is written are read as the same, since none is of a column unit
  same_body : IsPlain p u → read_stmts (reading_with None) u.body ≡ read_stmts (bare_reading p u) u.body
  same_body h =
      stmts_same (rank_in p u) (lost_place no_widening) None (λ x. written_callee p (called_in p u x)) (λ x. source_callee (called_in p u x))
      (λ x. runs_column p u x ≡ false) (λ x. runs_column p u x ≡ false)
      (λ x k. let none : is_column_called (called_in p u x) ≡ false = (both_false (is_column_called (called_in p u x)) (is_column_called (unit_run p (visible p u x))) k).0 in
      (no_callee (λ v. is_some (added_dummy p v)) (called_in p u x) none, no_callee (λ v. false) (called_in p u x) none))
      u.body h.undirected.1 h.calls

  erased : IsPlain p u → erased_unit p u no_widening (regrouped u) ≡ bare_unit p u
  erased h =
      ap₂ (λ dummies decls. read_as u dummies decls (read_stmts (erased_reading p u no_widening) (behind_guard (is_column_unit u) u.body))) (all_kept u.dummies) same_decls
      ∙ (ap (λ b. read_as u u.dummies (grouped u u.decls) (read_stmts (reading_with (id_if b [])) (behind_guard b u.body))) e
      ∙ ap (read_as u u.dummies (grouped u u.decls)) (same_body h))

-- what a plain unit's place in the target is
pub record Written (p : Program) (u t : Unit) : Type 0 where
  pub interface_of : (wide : Text → Bool) → UnitInterface p u t (widening_of p u wide)
  pub erased_of : (wide : Text → Bool) → erased_unit p u (widening_of p u wide) t ≡ bare_unit p u
  pub unmarked_of : are_unmarked t.body ≡ true
  pub routine_of : has_routine t ≡ false

row_written : (p : Program) (u t : Unit) → Row p u t → is_column_unit u ≡ false → Written p u t
row_written p _ _ (plain_row {u} e h) k = record {
  interface_of = λ wide. subst (UnitInterface p u (regrouped u)) (sym (no_widening_is p u e wide)) (interface p u e);
  erased_of = λ wide. ap (λ w. erased_unit p u w (regrouped u)) (no_widening_is p u e wide) ∙ erased p u e h;
  unmarked_of = all_unmarked u.body h.undirected.1;
  routine_of = refl;
}
row_written p _ _ (column_row e a b c) k = absurd (false≢true (sym k ∙ e))

pub plain_written : (s t : Program) → Translates s t → ArePlain s → (i : ℕ) (u v : Unit) → slice_get s.units i ≡ Some u → slice_get t.units i ≡ Some v → is_column_unit u ≡ false → Written s u v
plain_written s t h are i u v a b k = row_written s u v (row_at s s.units t.units (rows_of s s.units t.units h.units are) i u v a b) k
