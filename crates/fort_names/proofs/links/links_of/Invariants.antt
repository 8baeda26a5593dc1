use Rattle.std.proofs.Common.{◌≡◌, ◌++◌, drop}
use Rattle.fort_names.specs.Links.{links_among}
use Rattle.fort_names.proofs.links.links_of.Given as goal

abbrev pub invariant-loop-one : goal.invariant-loop-one
invariant-loop-one l = l.rows.items ++ links_among l.names (drop l.one-index l.modules) ≡ links_among l.names l.modules
