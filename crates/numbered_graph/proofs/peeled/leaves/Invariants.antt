use Rattle.std.proofs.Common.{◌≡◌, ◌++◌, drop}
use Rattle.numbered_graph.specs.Peeling.{leaves}
use Rattle.numbered_graph.proofs.peeled.leaves.Given as goal

abbrev pub invariant-loop-point : goal.invariant-loop-point
invariant-loop-point l = l.order.items ++ leaves l.point (drop l.point l.rows) ≡ leaves 0 l.rows
