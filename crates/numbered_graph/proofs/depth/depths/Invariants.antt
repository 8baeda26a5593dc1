use Rattle.std.proofs.Common.{take}
use Rattle.numbered_graph.specs.Deepness.{AreDepths}
use Rattle.numbered_graph.proofs.depth.depths.Given as goal

abbrev pub invariant-loop-point : goal.invariant-loop-point
invariant-loop-point l = AreDepths l.rows (take l.point-index l.order) l.limit l.depths.items
