-- The program for all columns has its statements in one loop over the columns.
use Rattle.std.proofs.Common.{◌≡◌, refl, ◌∙◌, List, [], ◌∷◌, true, false}
use Rattle.std.proofs.lemmas.Bool.{true≢false, false≢true}
use Rattle.fort_tree.specs.declared.choice.Target.TheVariants.{Cpu}
use Rattle.fort_tree.specs.declared.choice.Directives.TheVariants.{Plain}
use Rattle.claw_meaning.specs.Syntax.{Text, Expr, Program}
use Rattle.claw_meaning.specs.Units.{is_listed, is_column_unit}
use Rattle.claw_meaning.specs.Interface.{widening_of}
use Rattle.claw_meaning.specs.Erasure.{behind_guard}
use Rattle.claw_meaning.specs.Spread.{Spread, Spreading, spreading, SpreadStmts, AreInner, hold_loop, are_unmarked, has_routine}
use Rattle.column_scalars.specs.Scalars.{Scalars, IsScalars, AreSums, wide_assignments, looped, source_unit, wide_unit, program_of}
use Rattle.column_scalars.proofs.MemberCases.{listed_here, same_itself}
use Rattle.column_scalars.proofs.Listed.{widened, only_unit}
use Rattle.column_scalars.proofs.Erasing.{narrow_name}

abbrev spread_so : Program → Scalars → Spreading
spread_so p u = spreading p (source_unit u) (widened p u) Cpu Plain (λ x. false)

-- each assignment erases to one of a dummy
all_are_inner : (p : Program) (u : Scalars) → IsScalars u → (assigned : List (Text × Expr)) → AreSums u.dummies assigned → AreInner (spread_so p u) (wide_assignments u.id assigned)
all_are_inner p u w [] s = tt
all_are_inner p u w (a ∷ rest) s = (rw (narrow_name p u w a.0 s.0, listed_here u.dummies a.0 s.0) refl, all_are_inner p u w rest s.2)

-- no loop stands inside
no_loop : (id : Text) (assigned : List (Text × Expr)) → hold_loop id (wide_assignments id assigned) ≡ false
no_loop id [] = refl
no_loop id (a ∷ rest) = no_loop id rest

-- nor any with a mark
no_mark : (id : Text) (assigned : List (Text × Expr)) → are_unmarked (wide_assignments id assigned) ≡ true
no_mark id [] = refl
no_mark id (a ∷ rest) = no_mark id rest

pub loop_spread : (p : Program) (u : Scalars) → IsScalars u → (assigned : List (Text × Expr)) → AreSums u.dummies assigned → SpreadStmts (spread_so p u) (looped u.lower u.upper u.id assigned)
loop_spread p u w [] s = tt
loop_spread p u w (a ∷ rest) s =
    rw (same_itself u.id)
    (((refl, refl, refl, refl), tt, all_are_inner p u w (a ∷ rest) s, no_loop u.id (a ∷ rest), no_mark u.id (a ∷ rest)), refl, tt)

pub statements_spread : (u : Scalars) → IsScalars u → Spread (program_of (source_unit u)) (program_of (wide_unit u)) (λ i x. is_listed u.dummies x) (λ i x. false) Cpu Plain
statements_spread u w =
    let p : Program = program_of (source_unit u) in
    record {
      columns = only_unit (source_unit u) (wide_unit u)
          (λ i v t. is_column_unit v ≡ true → SpreadStmts (spreading p v (widening_of p v (λ x. is_listed u.dummies x)) Cpu Plain (λ x. false)) (behind_guard true t.body))
          (λ c. loop_spread p u w u.assigned w.assigned);
      others = only_unit (source_unit u) (wide_unit u) (λ i v t. is_column_unit v ≡ false → are_unmarked t.body ≡ true) (λ c. absurd (true≢false c));
      routines = λ i v t e f. ((λ h. absurd (false≢true (only_unit (source_unit u) (wide_unit u) (λ j a b. false ≡ has_routine b) refl i v t e f ∙ h))), (λ h. absurd (false≢true h.0)));
    }
