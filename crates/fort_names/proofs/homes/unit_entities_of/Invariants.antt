use Rattle.std.proofs.Common.{◌≡◌, ◌++◌, drop}
use Rattle.fort_names.specs.Tables.{unit_entities}
use Rattle.fort_names.proofs.homes.unit_entities_of.Given as goal

abbrev pub invariant-loop-index : goal.invariant-loop-index
invariant-loop-index l = l.list ++ unit_entities l.index (drop l.index l.units) ≡ unit_entities 0 l.units
