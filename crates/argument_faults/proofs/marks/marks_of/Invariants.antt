use Rattle.std.proofs.Common.{take}
use Rattle.argument_faults.specs.Marking.{AreMarks}
use Rattle.argument_faults.specs.ModuleNames.{pairs}
use Rattle.argument_faults.proofs.marks.marks_of.Given as goal

abbrev pub invariant-loop-variable : goal.invariant-loop-variable
invariant-loop-variable l = AreMarks l.variables (pairs (take l.variable-index l.list)) l.marks.items
