use Rattle.std.proofs.Common.{◌≡◌, drop}
use Rattle.fort_tree.specs.declared.fault.Code.TheVariants.{E30}
use Rattle.sound_programs.specs.Faults.{found}
use Rattle.fort_names.specs.Leasts.{noted}
use Rattle.sound_programs.specs.NameFaults.{is_no_value, places_where}
use Rattle.fort_names.specs.Sights.{means}
use Rattle.name_faults.proofs.values.note_no_values.Given as goal

abbrev pub invariant-loop-named : goal.invariant-loop-named
invariant-loop-named l =
    noted (found E30 (places_where (is_no_value (means l.sight)) (drop l.named-index l.names))) l.least
    ≡ noted (found E30 (places_where (is_no_value (means l.sight)) l.names)) l.fn.least
