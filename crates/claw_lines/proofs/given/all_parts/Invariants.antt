use Rattle.std.proofs.Common.{length}
use Rattle.claw_lines.proofs.PartLaws.{Along}
use Rattle.claw_lines.proofs.given.all_parts.Given as goal

abbrev pub invariant-loop-left : goal.invariant-loop-left
invariant-loop-left l = Along l.word l.tokens l.left l.given

abbrev pub decreases-loop-left : goal.decreases-loop-left
decreases-loop-left l = length l.left
