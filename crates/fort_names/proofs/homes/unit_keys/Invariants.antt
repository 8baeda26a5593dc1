use Rattle.std.proofs.Common.{◌≡◌, ◌++◌, drop, map}
use Rattle.fort_names.specs.Tables.{key_of}
use Rattle.fort_names.proofs.homes.unit_keys.Given as goal

abbrev pub invariant-loop-unit : goal.invariant-loop-unit
invariant-loop-unit l = l.keys.items ++ map key_of (drop l.unit-index l.units) ≡ map key_of l.units
