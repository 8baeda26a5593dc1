use Rattle.std.proofs.Common.{◌≡◌, replicate, None}
use Rattle.numbered_graph.proofs.depth.no_depths.Given as goal

abbrev pub invariant-loop-point : goal.invariant-loop-point
invariant-loop-point l = l.depths.items ≡ replicate l._point None
