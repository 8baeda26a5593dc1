use Rattle.std.proofs.Common.{◌≡◌, ◌++◌, drop}
use Rattle.fort_names.specs.Tables.{module_entities}
use Rattle.fort_names.proofs.homes.module_entities_of.Given as goal

abbrev pub invariant-loop-index : goal.invariant-loop-index
invariant-loop-index l = l.list ++ module_entities l.index (drop l.index l.modules) ≡ module_entities 0 l.modules
