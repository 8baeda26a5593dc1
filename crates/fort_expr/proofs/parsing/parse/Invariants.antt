use Rattle.fort_expr.proofs.Stops.{Kept}
use Rattle.fort_expr.proofs.parsing.parse.Given as goal

abbrev pub invariant-loop-i : goal.invariant-loop-i
invariant-loop-i l = Kept l.mode l.tokens l.i l.stack l.values
