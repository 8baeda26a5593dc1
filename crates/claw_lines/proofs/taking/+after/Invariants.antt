use Rattle.std.proofs.Common.{length}
use Rattle.claw_lines.proofs.taking.+after.Given as goal

abbrev pub decreases-after : goal.decreases-after
decreases-after l = length l.texts.now
