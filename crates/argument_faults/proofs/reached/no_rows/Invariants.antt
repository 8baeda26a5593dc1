use Rattle.std.proofs.Common.{◌≡◌, [], replicate}
use Rattle.argument_faults.proofs.reached.no_rows.Given as goal

abbrev pub invariant-loop-unit : goal.invariant-loop-unit
invariant-loop-unit l = l.rows.items ≡ replicate l._unit []
