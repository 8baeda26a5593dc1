use Rattle.std.proofs.Common.{◌≡◌, ◌++◌, drop}
use Rattle.fort_names.specs.Circles.{links_by}
use Rattle.fort_names.proofs.cycles.add_links.Given as goal

abbrev pub invariant-loop-line : goal.invariant-loop-line
invariant-loop-line l = l.links.items ++ links_by l.user (drop l.line-index l.lines) ≡ l.fn.links.items ++ links_by l.user l.fn.lines
