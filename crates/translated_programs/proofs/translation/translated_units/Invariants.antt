use Rattle.std.proofs.Common.{◌≡◌, map, take}
use Rattle.claw_meaning.specs.Plain.{plain_unit}
use Rattle.translated_programs.specs.Translated.{translated_unit}
use Rattle.translated_programs.proofs.translation.translated_units.Given as goal

abbrev pub invariant-loop-unit : goal.invariant-loop-unit
invariant-loop-unit l = map plain_unit l.made ≡ map translated_unit (map plain_unit (take l.unit-index l.units))
