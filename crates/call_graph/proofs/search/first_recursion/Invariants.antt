use Rattle.std.proofs.Common.{◌≡◌, drop, None}
use Rattle.call_graph.specs.Calling.{all_recursive}
use Rattle.call_graph.specs.Earliest.{earliest}
use Rattle.call_graph.proofs.search.first_recursion.Given as goal

abbrev pub invariant-loop-unit : goal.invariant-loop-unit
invariant-loop-unit l = earliest l.first (all_recursive l.calls l.unit (drop l.unit l.calls.references.items)) ≡ earliest None (all_recursive l.calls 0 l.calls.references.items)
