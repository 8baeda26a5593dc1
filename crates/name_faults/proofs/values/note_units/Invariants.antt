use Rattle.std.proofs.Common.{◌≡◌, drop}
use Rattle.fort_tree.specs.declared.fault.Code.TheVariants.{E30}
use Rattle.sound_programs.specs.Faults.{found}
use Rattle.fort_names.specs.Leasts.{noted, of_units}
use Rattle.name_faults.specs.Undeclared.{undeclared_in_a_unit}
use Rattle.name_faults.proofs.values.note_units.Given as goal

abbrev pub invariant-loop-number : goal.invariant-loop-number
invariant-loop-number l =
    noted (found E30 (of_units (undeclared_in_a_unit l.file) (drop l.number l.file.units))) l.least
    ≡ noted (found E30 (of_units (undeclared_in_a_unit l.file) l.file.units)) l.fn.least
