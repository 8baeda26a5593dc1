use mathlib.Core.Path.{refl}
use Rattle.fort_arith.specs.Operators.{applied, exact, compared}
use Rattle.fort_arith.specs.Range.{fitted, in_kind, least, greatest}
use Rattle.courses.specs.Element.{put, same_element, merged}
use Rattle.claw_meaning.specs.SmallRuns.{LostUpdate}
use Rattle.claw_meaning.proofs.rows.lost_update.Goals as goal

-- src/rows.rt
pub returns : goal.returns
unfolding applied exact compared fitted in_kind least greatest put same_element merged
returns c = record { in_order = refl; backwards = refl; woven = refl }
