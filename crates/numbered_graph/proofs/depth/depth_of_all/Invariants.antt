use Rattle.std.proofs.Common.{◌≡◌, drop}
use Rattle.numbered_graph.specs.Deepness.{depth_over}
use Rattle.numbered_graph.proofs.depth.depth_of_all.Given as goal

abbrev pub invariant-loop-point : goal.invariant-loop-point
invariant-loop-point l = depth_over l.limit l.depths l.depth (drop l.point-index l.points) ≡ depth_over l.limit l.depths 0 l.points
