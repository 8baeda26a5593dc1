use Rattle.fort_stmt.proofs.Verdicts.{Kept}
use Rattle.fort_stmt.proofs.judging.outlined.Given as goal

abbrev pub invariant-loop-i : goal.invariant-loop-i
invariant-loop-i l = Kept l.mode l.tokens l.i l.stack l.outline
