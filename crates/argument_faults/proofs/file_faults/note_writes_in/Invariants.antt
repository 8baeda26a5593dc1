use Rattle.std.proofs.Common.{◌≡◌, drop, map}
use Rattle.std.specs.Prelude.{flat_map}
use Rattle.fort_tree.specs.declared.fault.Code.TheVariants.{E3A}
use Rattle.sound_programs.specs.Faults.{found}
use Rattle.sound_programs.specs.Placing.{placed, placed_unit}
use Rattle.fort_names.specs.Leasts.{noted}
use Rattle.sound_programs.specs.ArgumentFaults.{write_faults_in_unit}
use Rattle.sound_programs.specs.Placed.{bare_program}
use Rattle.argument_faults.proofs.file_faults.note_writes_in.Given as goal

abbrev pub invariant-loop-number : goal.invariant-loop-number
invariant-loop-number l =
    noted (found E3A (flat_map (write_faults_in_unit (placed l.file) (bare_program (placed l.file))) (map placed_unit (drop l.number l.units)))) l.least ≡ noted (found E3A (flat_map (write_faults_in_unit (placed l.file) (bare_program (placed l.file))) (map placed_unit l.fn.units))) l.fn.least
