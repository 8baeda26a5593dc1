use Rattle.std.proofs.Common.{◌≡◌, ◌++◌, drop}
use Rattle.kind_faults.specs.Spans.{spans_of}
use Rattle.kind_faults.proofs.spans.spans_of.Given as goal

abbrev pub invariant-loop-choice : goal.invariant-loop-choice
invariant-loop-choice l = l.list.items ++ spans_of (drop l.choice-index l.choices) ≡ spans_of l.choices
