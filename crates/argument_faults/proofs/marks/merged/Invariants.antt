use Rattle.std.proofs.Common.{take}
use Rattle.argument_faults.specs.Marking.{AreMerged}
use Rattle.argument_faults.proofs.marks.merged.Given as goal

abbrev pub invariant-loop-place : goal.invariant-loop-place
invariant-loop-place l = AreMerged (take l.place l.own) l.rows l.numbers l.marks.items
