use Rattle.std.proofs.Common.{◌≡◌, None, replicate}
use Rattle.argument_faults.proofs.written_from.no_writes.Given as goal

abbrev pub invariant-loop-unit : goal.invariant-loop-unit
invariant-loop-unit l = l.writes.items ≡ replicate l._unit None
