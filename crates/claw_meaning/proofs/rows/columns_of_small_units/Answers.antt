use mathlib.Core.Path.{refl}
use Rattle.fort_arith.specs.Operators.{applied, exact, compared}
use Rattle.fort_arith.specs.Power.{quotient}
use Rattle.fort_arith.specs.Range.{fitted, in_kind, least, greatest}
use Rattle.courses.specs.Element.{put, same_element, merged}
use Rattle.claw_meaning.specs.ColumnRuns.{ZeroRuns, PickRuns, DriveRuns, ColumnsErased}
use Rattle.claw_meaning.proofs.rows.columns_of_small_units.Goals as goal

-- src/rows.rt
pub returns-clause-quotient : goal.returns-clause-quotient
unfolding applied exact compared quotient fitted in_kind least greatest put same_element merged
returns-clause-quotient c = record { no_column = refl; none_runs = refl; column_traps = refl; whole_traps = refl; second_column = refl; whole_adds = refl }

pub returns-clause-picked : goal.returns-clause-picked
unfolding applied exact compared quotient fitted in_kind least greatest put same_element merged
returns-clause-picked c = record { second_column = refl; whole_picks = refl; column_traps = refl; whole_traps = refl }

pub returns-clause-driven : goal.returns-clause-driven
unfolding applied exact compared quotient fitted in_kind least greatest put same_element merged
returns-clause-driven c = record { by_columns = refl; at_once = refl }

pub returns-clause-erased : goal.returns-clause-erased
unfolding applied exact compared quotient fitted in_kind least greatest put same_element merged
returns-clause-erased c = record { zero = refl; pick = refl; one = refl; drive = refl }
