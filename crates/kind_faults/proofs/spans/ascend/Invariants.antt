use Rattle.std.proofs.Common.{◌≡◌, None, drop}
use Rattle.kind_faults.specs.Spans.{ascends}
use Rattle.kind_faults.proofs.spans.ascend.Given as goal

abbrev pub invariant-loop-span : goal.invariant-loop-span
invariant-loop-span l = ascends l.last (drop l.span-index l.spans) ≡ ascends None l.spans
