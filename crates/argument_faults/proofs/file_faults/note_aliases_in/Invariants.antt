use Rattle.std.proofs.Common.{◌≡◌, drop, map}
use Rattle.std.specs.Prelude.{flat_map}
use Rattle.fort_tree.specs.declared.fault.Code.TheVariants.{E38}
use Rattle.sound_programs.specs.Faults.{found}
use Rattle.sound_programs.specs.Placing.{placed, placed_unit}
use Rattle.fort_names.specs.Leasts.{noted}
use Rattle.argument_faults.specs.InUnits.{aliases_of}
use Rattle.argument_faults.proofs.file_faults.note_aliases_in.Given as goal

abbrev pub invariant-loop-number : goal.invariant-loop-number
invariant-loop-number l =
    noted (found E38 (flat_map (aliases_of (placed l.file)) (map placed_unit (drop l.number l.units)))) l.least ≡ noted (found E38 (flat_map (aliases_of (placed l.file)) (map placed_unit l.fn.units))) l.fn.least
