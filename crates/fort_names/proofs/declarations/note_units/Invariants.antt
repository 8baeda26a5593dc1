use Rattle.std.proofs.Common.{◌≡◌, drop}
use Rattle.fort_tree.specs.declared.fault.Code.TheVariants.{E31}
use Rattle.sound_programs.specs.Faults.{found}
use Rattle.fort_names.specs.Declaring.{unit_twice}
use Rattle.fort_names.specs.Leasts.{noted, of_units}
use Rattle.fort_names.proofs.declarations.note_units.Given as goal

abbrev pub invariant-loop-unit : goal.invariant-loop-unit
invariant-loop-unit l = noted (found E31 (of_units (unit_twice l.shared l.contested) (drop l.unit-index l.units))) l.least ≡ noted (found E31 (of_units (unit_twice l.shared l.contested) l.fn.units)) l.fn.least
