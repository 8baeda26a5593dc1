-- The program for all columns refers to each dummy with the dimension, and to the dimension and its upper bound by name.
use Rattle.std.proofs.Common.{refl, ap, sym, List, [], ◌∷◌, ◌++◌, Contains, Bool}
use Rattle.claw_meaning.specs.Syntax.{Text, Program, Expr, Numeral, Boolean, Name, Reference, Signed, Binary, Paren}
use Rattle.claw_meaning.specs.Units.{is_listed}
use Rattle.claw_meaning.specs.Interface.{AreWide, HasDimension, StmtsHaveDimension, column_called, UnitInterface, Interface, added_name, widening_of}
use Rattle.column_scalars.specs.Scalars.{Scalars, IsScalars, IsSum, AreSums, in_column, wide_sum, wide_assignments, looped, source_unit, wide_unit, program_of}
use Rattle.column_scalars.specs.Standing.{StandsIn}
use Rattle.column_scalars.proofs.MemberCases.{not_listed}
use Rattle.column_scalars.proofs.Naming.{added_is, stands_alone}
use Rattle.column_scalars.proofs.Listed.{widened, first_place, no_intrinsic, one_unit, only_unit}
use Rattle.column_scalars.proofs.Written.{decls_written}
use Rattle.column_scalars.proofs.Reaching.{dummies_vary}

with_dimension : (p : Program) (u : Scalars) → IsScalars u → (x : Text) → Contains u.dummies x → HasDimension (widened p u) (in_column u.id x)
with_dimension p u w x t = rw (no_intrinsic u.dummies w.plain x t, first_place u w x t) ((λ h. refl), (not_listed u.dummies u.id w.id, tt))

sum_refers : (p : Program) (u : Scalars) → IsScalars u → (e : Expr) → IsSum u.dummies e → HasDimension (widened p u) (wide_sum u.id e)
sum_refers p u w (Numeral n suffix) s = tt
sum_refers p u w (Boolean b) s = tt
sum_refers p u w (Name x) s = with_dimension p u w x s
sum_refers p u w (Reference x subs) s = absurd s
sum_refers p u w (Signed sign e) s = sum_refers p u w e s.1
sum_refers p u w (Binary op a b) s = (sum_refers p u w a s.1, sum_refers p u w b s.2)
sum_refers p u w (Paren e) s = absurd s

assignments_refer : (p : Program) (u : Scalars) → IsScalars u → (is_column : Text → Bool) (assigned : List (Text × Expr)) → AreSums u.dummies assigned → StmtsHaveDimension (widened p u) is_column (wide_assignments u.id assigned)
assignments_refer p u w is_column [] s = tt
assignments_refer p u w is_column (a ∷ rest) s = ((with_dimension p u w a.0 s.0, sum_refers p u w a.1 s.1), assignments_refer p u w is_column rest s.2)

loop_refers : (p : Program) (u : Scalars) → IsScalars u → (is_column : Text → Bool) (assigned : List (Text × Expr)) → AreSums u.dummies assigned → StmtsHaveDimension (widened p u) is_column (looped u.lower u.upper u.id assigned)
loop_refers p u w is_column [] s = tt
loop_refers p u w is_column (a ∷ rest) s = (((tt, not_listed u.dummies u.upper w.upper, tt), assignments_refer p u w is_column (a ∷ rest) s), tt)

pub unit_interface : (p : Program) (u : Scalars) → IsScalars u → StandsIn p u → UnitInterface p (source_unit u) (wide_unit u) (widened p u)
unit_interface p u w stands = record {
  name = refl;
  host = refl;
  result = refl;
  uses = refl;
  dummies = ap (λ a. u.dummies ++ added_name a) (sym (added_is p u stands.upper));
  decls = decls_written p u w stands;
  guard = refl;
  references = ((((not_listed u.dummies u.upper w.upper, tt), (tt, tt), tt), tt), loop_refers p u w (column_called p (source_unit u)) u.assigned w.assigned);
}

pub interface_kept : (u : Scalars) → IsScalars u → Interface (program_of (source_unit u)) (program_of (wide_unit u)) (λ i x. is_listed u.dummies x)
interface_kept u w =
    let p : Program = program_of (source_unit u) in
    record {
      modules = refl;
      order = refl;
      count = refl;
      varying = λ i v e c. one_unit (source_unit u) (λ j other. AreWide p other (λ x. is_listed u.dummies x)) (dummies_vary p u w) i v e;
      units = only_unit (source_unit u) (wide_unit u) (λ j v t. UnitInterface p v t (widening_of p v (λ x. is_listed u.dummies x))) (unit_interface p u w (stands_alone u w));
    }
