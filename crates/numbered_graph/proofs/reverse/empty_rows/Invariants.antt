use Rattle.std.proofs.Common.{◌≡◌, [], replicate}
use Rattle.numbered_graph.proofs.reverse.empty_rows.Given as goal

abbrev pub invariant-loop-point : goal.invariant-loop-point
invariant-loop-point l = l.rows.items ≡ replicate l._point []
