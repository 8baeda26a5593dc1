use Rattle.fort_stmt.proofs.Passing.{Kept}
use Rattle.fort_stmt.proofs.limits.first_past_limit.Given as goal

abbrev pub invariant-loop-i : goal.invariant-loop-i
invariant-loop-i l = Kept l.mode l.tokens l.i l.stack l.depths
