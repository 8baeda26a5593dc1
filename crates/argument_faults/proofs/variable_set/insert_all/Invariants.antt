use Rattle.std.proofs.Common.{◌≡◌, drop}
use Rattle.argument_faults.specs.ModuleNames.{pairs, with_variables}
use Rattle.argument_faults.proofs.variable_set.insert_all.Given as goal

abbrev pub invariant-loop-variable : goal.invariant-loop-variable
invariant-loop-variable l = with_variables l.into (pairs (drop l.variable-index l.list)) ≡ with_variables l.fn.into (pairs l.list)
