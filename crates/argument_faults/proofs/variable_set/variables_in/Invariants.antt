use Rattle.std.proofs.Common.{◌≡◌, drop, []}
use Rattle.argument_faults.specs.ModuleNames.{rows_of, with_rows}
use Rattle.argument_faults.proofs.variable_set.variables_in.Given as goal

abbrev pub invariant-loop-row : goal.invariant-loop-row
invariant-loop-row l = with_rows l.set (rows_of (drop l.row-index l.rows)) ≡ with_rows [] (rows_of l.rows)
