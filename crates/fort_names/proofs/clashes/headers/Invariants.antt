use Rattle.std.proofs.Common.{◌≡◌, ◌++◌, drop, map}
use Rattle.fort_names.specs.Leasts.{name_of_module, name_of_unit}
use Rattle.fort_names.proofs.clashes.headers.Given as goal

abbrev pub invariant-loop-one : goal.invariant-loop-one
invariant-loop-one l = l.names.items ++ map name_of_module (drop l.one-index l.modules) ≡ map name_of_module l.modules

abbrev pub invariant-loop-unit : goal.invariant-loop-unit
invariant-loop-unit l = l.names.items ++ map name_of_unit (drop l.unit-index l.units) ≡ map name_of_module l.modules ++ map name_of_unit l.units
