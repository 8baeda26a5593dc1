use Rattle.fort_expr.proofs.Closing.{Runs, size}
use Rattle.fort_expr.proofs.depth.close.Given as goal

abbrev pub invariant-loop-symbol : goal.invariant-loop-symbol
invariant-loop-symbol l = Runs l.initial.stack l.initial.shapes l.stack l.shapes

abbrev pub decreases-loop-symbol : goal.decreases-loop-symbol
decreases-loop-symbol l = size l.stack
