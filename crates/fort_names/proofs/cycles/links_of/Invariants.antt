use Rattle.std.proofs.Common.{◌≡◌, ◌++◌, drop}
use Rattle.fort_names.specs.Circles.{links_of_modules}
use Rattle.fort_names.proofs.cycles.links_of.Given as goal

abbrev pub invariant-loop-one : goal.invariant-loop-one
invariant-loop-one l = l.links.items ++ links_of_modules (drop l.one-index l.modules) ≡ links_of_modules l.modules
