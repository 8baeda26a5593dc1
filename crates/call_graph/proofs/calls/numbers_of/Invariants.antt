use Rattle.std.proofs.Common.{◌≡◌, ◌++◌, drop}
use Rattle.call_graph.specs.Referring.{numbers}
use Rattle.call_graph.proofs.calls.numbers_of.Given as goal

abbrev pub invariant-loop-reference : goal.invariant-loop-reference
invariant-loop-reference l = l.list.items ++ numbers (drop l.reference-index l.references) ≡ numbers l.references
