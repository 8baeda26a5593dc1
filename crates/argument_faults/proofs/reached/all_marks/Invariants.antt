use Rattle.std.proofs.Common.{[], take}
use Rattle.argument_faults.specs.Reaching.{IsNamedFrom}
use Rattle.argument_faults.proofs.InOrder.{SoFar}
use Rattle.argument_faults.proofs.reached.all_marks.Given as goal

abbrev pub invariant-loop-unit : goal.invariant-loop-unit
invariant-loop-unit l = SoFar (IsNamedFrom l.file l.variables) [] l.file (take l.unit-index l.graph.order) l.rows.items
