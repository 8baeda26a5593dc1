use Rattle.std.proofs.Common.{◌≡◌, replicate, None}
use Rattle.call_graph.proofs.roots.nothing.Given as goal

abbrev pub invariant-loop-point : goal.invariant-loop-point
invariant-loop-point l = l.list.items ≡ replicate l._point None
