use Rattle.claw_meaning.proofs.RunLaws.{frames_are_stores_so}
use Rattle.claw_meaning.proofs.laws.frames_are_stores.Goals as goal

-- src/laws.rt
pub returns : goal.returns
returns c = frames_are_stores_so
