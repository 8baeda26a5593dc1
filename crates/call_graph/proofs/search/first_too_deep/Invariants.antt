use Rattle.std.proofs.Common.{◌≡◌, drop, None}
use Rattle.fort_names.specs.Leasts.{places_at}
use Rattle.call_graph.specs.Calling.{is_deep, links_of}
use Rattle.call_graph.specs.Earliest.{earliest}
use Rattle.call_graph.proofs.search.first_too_deep.Given as goal

abbrev pub invariant-loop-number : goal.invariant-loop-number
invariant-loop-number l =
    earliest l.first (places_at (λ u. is_deep (links_of l.calls) u.name) (λ u. u.at) (drop l.number l.calls.file.now.units)) ≡ earliest None (places_at (λ u. is_deep (links_of l.calls) u.name) (λ u. u.at) l.calls.file.now.units)
