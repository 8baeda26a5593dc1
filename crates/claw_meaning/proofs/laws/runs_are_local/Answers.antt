use Rattle.courses.proofs.Alike.{alike}
use Rattle.courses.specs.Interaction.{Interaction}
use Rattle.courses.specs.Course.{line}
use Rattle.courses.specs.Plans.{orders_of}
use Rattle.claw_meaning.specs.Frames.{started}
use Rattle.claw_meaning.specs.Runs.{unit_course}
use Rattle.claw_meaning.proofs.laws.runs_are_local.Goals as goal

-- src/laws.rt
pub returns : goal.returns
returns c = λ p u frame plan s h. alike (line (unit_course p u frame)) (orders_of plan) 0 (started u frame) s h
