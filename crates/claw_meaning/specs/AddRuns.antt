-- Small programs whose runs are computed.
use Rattle.std.specs.Prelude.{◌≡◌, ℕ, ℤ, pos, codes, List, [], ◌∷◌, Option, Some, None}
use Rattle.courses.specs.Element.{Value, Undefined, Whole}
use Rattle.courses.specs.Plans.{Plan, Up, Down}
use Rattle.claw_meaning.specs.Frames.{WellTyped}
use Rattle.claw_meaning.specs.Runs.{exec, IsSmall}
use Rattle.claw_meaning.specs.Columns.{column_dimension, columns, column_run}
use Rattle.claw_meaning.specs.AddRow.{source, source_unit, target, target_unit, open_mp, wide, held}

-- from a = 1, 3 and b = 10, 20 each side gives b = 12, 26: column by column, in one loop, and in marked loops in both orders
pub record AddRow : Type 0 where
  pub first_column : (column_run source source_unit (wide (Whole (pos 1)) (Whole (pos 3)) (Whole (pos 10)) (Whole (pos 20))) (pos 1)).end ≡ Some (held (codes "a") [] (Whole (pos 1) ∷ []) ∷ held (codes "b") [] (Whole (pos 12) ∷ []) ∷ [])
  pub second_column : (column_run source source_unit (wide (Whole (pos 1)) (Whole (pos 3)) (Whole (pos 10)) (Whole (pos 20))) (pos 2)).end ≡ Some (held (codes "a") [] (Whole (pos 3) ∷ []) ∷ held (codes "b") [] (Whole (pos 26) ∷ []) ∷ [])
  pub unmarked : (exec (target None) (target_unit None) (wide (Whole (pos 1)) (Whole (pos 3)) (Whole (pos 10)) (Whole (pos 20))) Up).end ≡ Some (wide (Whole (pos 1)) (Whole (pos 3)) (Whole (pos 12)) (Whole (pos 26)))
  pub rising : (exec (target open_mp) (target_unit open_mp) (wide (Whole (pos 1)) (Whole (pos 3)) (Whole (pos 10)) (Whole (pos 20))) Up).end ≡ Some (wide (Whole (pos 1)) (Whole (pos 3)) (Whole (pos 12)) (Whole (pos 26)))
  pub falling : (exec (target open_mp) (target_unit open_mp) (wide (Whole (pos 1)) (Whole (pos 3)) (Whole (pos 10)) (Whole (pos 20))) Down).end ≡ Some (wide (Whole (pos 1)) (Whole (pos 3)) (Whole (pos 12)) (Whole (pos 26)))
  -- a column whose b is undefined traps, and so does the whole
  pub column_traps : (column_run source source_unit (wide (Whole (pos 1)) (Whole (pos 3)) (Whole (pos 10)) Undefined) (pos 2)).end ≡ None
  pub whole_traps : (exec (target open_mp) (target_unit open_mp) (wide (Whole (pos 1)) (Whole (pos 3)) (Whole (pos 10)) Undefined) Down).end ≡ None

-- The premises of what a translation keeps can be met: this input is well typed for the unit of all columns, and the runs
-- that are named are small.
pub record AddPremises : Type 0 where
  pub well_typed : WellTyped (target None) (target_unit None) (column_dimension source source_unit (wide (Whole (pos 1)) (Whole (pos 3)) (Whole (pos 10)) (Whole (pos 20)))) (wide (Whole (pos 1)) (Whole (pos 3)) (Whole (pos 10)) (Whole (pos 20)))
  pub two_columns : columns source source_unit (wide (Whole (pos 1)) (Whole (pos 3)) (Whole (pos 10)) (Whole (pos 20))) ≡ pos 1 ∷ pos 2 ∷ []
  pub small : IsSmall (exec (target None) (target_unit None) (wide (Whole (pos 1)) (Whole (pos 3)) (Whole (pos 10)) (Whole (pos 20))) Up)
  pub small_column : IsSmall (column_run source source_unit (wide (Whole (pos 1)) (Whole (pos 3)) (Whole (pos 10)) (Whole (pos 20))) (pos 1))
