use Rattle.std.proofs.Common.{◌≡◌, take}
use Rattle.fort_names.specs.Declaring.{module_names}
use Rattle.fort_names.proofs.declarations.module_names.Given as goal

abbrev pub invariant-loop-unit : goal.invariant-loop-unit
invariant-loop-unit l = l.lists.items ≡ module_names 0 l.modules (take l.unit-index l.units)
