use Rattle.claw_lines.proofs.Asking.{directs-unique}
use Rattle.claw_lines.proofs.laws.reading_is_unique.Goals as goal

pub returns : goal.returns
returns c line these those d e = directs-unique line these those d e
