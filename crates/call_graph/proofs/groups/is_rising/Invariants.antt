use Rattle.std.proofs.Common.{◌≡◌, drop}
use Rattle.call_graph.specs.Grouping.{rises_from}
use Rattle.call_graph.proofs.groups.is_rising.Given as goal

abbrev pub invariant-loop-point : goal.invariant-loop-point
invariant-loop-point l = rises_from l.numbers l.point (drop l.point l.rows) ≡ rises_from l.numbers 0 l.rows
