use mathlib.Core.Path.{refl}
use Rattle.fort_arith.specs.Operators.{applied, exact, compared}
use Rattle.fort_arith.specs.Power.{quotient}
use Rattle.fort_arith.specs.Range.{fitted, in_kind, least, greatest}
use Rattle.courses.specs.Element.{put, same_element, merged}
use Rattle.claw_meaning.specs.SmallRuns.{SmallRuns}
use Rattle.claw_meaning.proofs.rows.small_runs.Goals as goal

-- src/rows.rt
pub returns : goal.returns
unfolding applied exact compared quotient fitted in_kind least greatest put same_element merged
returns c = record {
  left_at_four = refl;
  counted_turns = refl;
  copied = refl;
  shifted = refl;
  chosen = refl;
  not_chosen = refl;
  divided = refl;
  divided_by_zero = refl;
  picked = refl;
  out_of_bounds = refl;
}
