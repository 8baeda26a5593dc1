use Rattle.std.proofs.Common.{◌≡◌, drop}
use Rattle.fort_tree.specs.declared.fault.Code.TheVariants.{E34}
use Rattle.sound_programs.specs.Faults.{found}
use Rattle.fort_names.specs.Leasts.{noted, of_units}
use Rattle.fort_names.specs.UsePlaces.{unit_uses}
use Rattle.fort_names.proofs.uses.note_unit_uses.Given as goal

abbrev pub invariant-loop-unit : goal.invariant-loop-unit
invariant-loop-unit l = noted (found E34 (of_units (unit_uses l.shared) (drop l.unit-index l.units))) l.least ≡ noted (found E34 (of_units (unit_uses l.shared) l.fn.units)) l.fn.least
