use Rattle.std.proofs.Common.{◌-◌, [], take, length}
use Rattle.numbered_graph.specs.Peeling.{Peels}
use Rattle.numbered_graph.proofs.peeled.peel.Given as goal

abbrev pub invariant-loop-point : goal.invariant-loop-point
invariant-loop-point l = Peels l.rows (take l.next l.peeling.order) [] l.peeling

abbrev pub decreases-loop-point : goal.decreases-loop-point
decreases-loop-point l = length l.rows - l.next
