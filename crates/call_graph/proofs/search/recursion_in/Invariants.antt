use Rattle.std.proofs.Common.{◌≡◌, drop}
use Rattle.call_graph.specs.Calling.{recursive_places}
use Rattle.call_graph.specs.Earliest.{earliest}
use Rattle.call_graph.proofs.search.recursion_in.Given as goal

abbrev pub invariant-loop-reference : goal.invariant-loop-reference
invariant-loop-reference l = earliest l.first (recursive_places l.calls l.unit (drop l.reference-index l.reference-items)) ≡ earliest l.initial.first (recursive_places l.calls l.unit l.reference-items)
