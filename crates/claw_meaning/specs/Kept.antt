-- What a written program owes the program that it was made from.
use Rattle.std.specs.Prelude.{◌≡◌, ◌↔◌, ℕ, ℤ, List, [], ◌∷◌, Option, Some, None, Bool, true, false, slice_get}
use Rattle.std.specs.List.{Contains}
use Rattle.courses.specs.Plans.{Plan, Up}
use Rattle.claw_meaning.specs.Syntax.{Text, Unit, Program}
use Rattle.claw_meaning.specs.Frames.{Frame, WellTyped, no_columns}
use Rattle.claw_meaning.specs.Runs.{Outcome, exec, IsSmall, Apart}
use Rattle.claw_meaning.specs.Columns.{column_dimension, columns, column_run, joined}
use Rattle.claw_meaning.specs.Units.{is_column_unit}

-- The written unit traps exactly where some column's run of the source traps; else it leaves each column that run's values.
pub record KeepsColumns (source target : Program) (u t : Unit) (plan : Plan) (wide : Frame) : Type 0 where
  pub traps : ((exec target t wide plan).end ≡ None) ↔ ((c : ℤ) × Contains (columns source u wide) c × ((column_run source u wide c).end ≡ None))
  pub ends : (last : Frame) → (exec target t wide plan).end ≡ Some last → (each : ℤ → Frame) → ((c : ℤ) → Contains (columns source u wide) c → (column_run source u wide c).end ≡ Some (each c)) → last ≡ joined u wide each

-- all runs that are named are small
pub record SmallColumns (source target : Program) (u t : Unit) (plan : Plan) (wide : Frame) : Type 0 where
  pub target_run : IsSmall (exec target t wide plan)
  pub column_runs : (c : ℤ) → Contains (columns source u wide) c → IsSmall (column_run source u wide c)

-- A unit without columns of its own does what it did.
pub record KeepsUnit (source target : Program) (u t : Unit) (plan : Plan) (frame : Frame) : Type 0 where
  pub end : (exec target t frame plan).end ≡ (exec source u frame Up).end
  pub result : (exec target t frame plan).result ≡ (exec source u frame Up).result

abbrev pub KeepsColumnUnit : Program → Program → Unit → Unit → Plan → Type 0
KeepsColumnUnit source target u t plan =
    (wide : Frame) → WellTyped target t (column_dimension source u wide) wide → SmallColumns source target u t plan wide → KeepsColumns source target u t plan wide

abbrev pub KeepsOtherUnit : Program → Program → Unit → Unit → Plan → Type 0
KeepsOtherUnit source target u t plan =
    (frame : Frame) → WellTyped target t no_columns frame → IsSmall (exec target t frame plan) → IsSmall (exec source u frame Up) → KeepsUnit source target u t plan frame

-- For every unit of the target and every well-typed input for which all runs named here are small.
pub record Kept (source target : Program) (plan : Plan) : Type 0 where
  pub columns : (i : ℕ) (u t : Unit) → slice_get source.units i ≡ Some u → slice_get target.units i ≡ Some t → is_column_unit u ≡ true → KeepsColumnUnit source target u t plan
  pub others : (i : ℕ) (u t : Unit) → slice_get source.units i ≡ Some u → slice_get target.units i ≡ Some t → is_column_unit u ≡ false → KeepsOtherUnit source target u t plan

-- In each of those runs of the target no two iterations of a marked loop touch one element, unless both only read it.
pub record Orderly (source target : Program) (plan : Plan) : Type 0 where
  pub columns : (i : ℕ) (u t : Unit) → slice_get source.units i ≡ Some u → slice_get target.units i ≡ Some t → is_column_unit u ≡ true → (wide : Frame) → WellTyped target t (column_dimension source u wide) wide → SmallColumns source target u t plan wide → Apart (exec target t wide plan)
  pub others : (i : ℕ) (u t : Unit) → slice_get source.units i ≡ Some u → slice_get target.units i ≡ Some t → is_column_unit u ≡ false → (frame : Frame) → WellTyped target t no_columns frame → IsSmall (exec target t frame plan) → IsSmall (exec source u frame Up) → Apart (exec target t frame plan)
