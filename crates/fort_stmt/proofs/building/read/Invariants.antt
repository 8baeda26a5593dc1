use Rattle.fort_stmt.proofs.Stops.{Kept}
use Rattle.fort_stmt.proofs.building.read.Given as goal

abbrev pub invariant-loop-i : goal.invariant-loop-i
invariant-loop-i l = Kept l.tokens l.i l.stack l.draft
