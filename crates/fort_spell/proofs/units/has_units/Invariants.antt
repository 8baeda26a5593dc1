use Rattle.std.proofs.Common.{◌≡◌, drop}
use Rattle.fort_spell.specs.Units.{has_some, units_of}
use Rattle.fort_spell.proofs.units.has_units.Given as goal

abbrev pub invariant-loop-unit : goal.invariant-loop-unit
invariant-loop-unit l = has_some (units_of l.number l.units) ≡ has_some (units_of l.number (drop l.unit-index l.units))
