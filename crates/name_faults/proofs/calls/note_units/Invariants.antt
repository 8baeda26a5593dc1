use Rattle.std.proofs.Common.{◌≡◌, drop}
use Rattle.fort_tree.specs.declared.fault.Code.TheVariants.{E35}
use Rattle.sound_programs.specs.Faults.{found}
use Rattle.fort_names.specs.Leasts.{noted, of_units}
use Rattle.name_faults.specs.References.{faults_in_a_unit}
use Rattle.name_faults.proofs.calls.note_units.Given as goal

abbrev pub invariant-loop-number : goal.invariant-loop-number
invariant-loop-number l =
    noted (found E35 (of_units (faults_in_a_unit l.file) (drop l.number l.file.units))) l.least
    ≡ noted (found E35 (of_units (faults_in_a_unit l.file) l.file.units)) l.fn.least
