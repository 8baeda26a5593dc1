use Rattle.claw_meaning.proofs.RunLaws.{schedules_agree}
use Rattle.claw_meaning.proofs.laws.orderly_runs_agree.Goals as goal

-- src/laws.rt
pub returns : goal.returns
returns c = schedules_agree
