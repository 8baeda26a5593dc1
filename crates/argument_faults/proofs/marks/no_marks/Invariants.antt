use Rattle.std.proofs.Common.{◌≡◌, false, replicate}
use Rattle.argument_faults.proofs.marks.no_marks.Given as goal

abbrev pub invariant-loop-variable : goal.invariant-loop-variable
invariant-loop-variable l = l.marks.items ≡ replicate l._variable false
