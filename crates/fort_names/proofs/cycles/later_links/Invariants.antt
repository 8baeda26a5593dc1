use Rattle.std.proofs.Common.{◌≡◌, ◌++◌, drop}
use Rattle.fort_names.specs.Circles.{links_after}
use Rattle.fort_names.proofs.cycles.later_links.Given as goal

abbrev pub invariant-loop-link : goal.invariant-loop-link
invariant-loop-link l = l.later.items ++ links_after l.at (drop l.link-index l.links) ≡ links_after l.at l.links
