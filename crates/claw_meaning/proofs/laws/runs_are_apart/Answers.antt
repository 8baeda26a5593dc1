use Rattle.courses.proofs.Planned.{fair_plan}
use Rattle.courses.proofs.Wovens.{all_apart}
use Rattle.courses.specs.Plans.{orders_of}
use Rattle.claw_meaning.specs.Frames.{started}
use Rattle.claw_meaning.specs.Runs.{unit_course}
use Rattle.claw_meaning.proofs.laws.runs_are_apart.Goals as goal

-- src/laws.rt
pub returns : goal.returns
returns c = λ p u frame h plan. all_apart (unit_course p u frame) h (orders_of plan) (fair_plan plan) (started u frame) 0
