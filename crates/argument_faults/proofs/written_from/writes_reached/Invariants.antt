use Rattle.std.proofs.Common.{None, take}
use Rattle.argument_faults.specs.Reaching.{IsWrittenFrom}
use Rattle.argument_faults.proofs.InOrder.{SoFar}
use Rattle.argument_faults.proofs.written_from.writes_reached.Given as goal

abbrev pub invariant-loop-unit : goal.invariant-loop-unit
invariant-loop-unit l = SoFar (IsWrittenFrom l.file) None l.file (take l.unit-index l.graph.order) l.writes.items
