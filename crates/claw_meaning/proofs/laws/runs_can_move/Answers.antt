use Rattle.courses.proofs.Renames.{renamed_run}
use Rattle.courses.specs.Course.{line}
use Rattle.courses.specs.Plans.{orders_of}
use Rattle.claw_meaning.specs.Runs.{unit_course}
use Rattle.claw_meaning.proofs.laws.runs_can_move.Goals as goal

-- src/laws.rt
pub returns : goal.returns
returns c = λ p u frame plan move s h. renamed_run move (line (unit_course p u frame)) (orders_of plan) s 0 h
