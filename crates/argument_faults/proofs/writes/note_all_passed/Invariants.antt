use Rattle.std.proofs.Common.{◌≡◌, drop}
use Rattle.fort_tree.specs.declared.fault.Code.TheVariants.{E3A}
use Rattle.sound_programs.specs.Faults.{found}
use Rattle.fort_names.specs.Leasts.{noted}
use Rattle.fort_names.specs.Sights.{means}
use Rattle.std.specs.Prelude.{flat_map}
use Rattle.argument_faults.specs.Actuals.{placed_actuals}
use Rattle.argument_faults.specs.Written.{passed_place}
use Rattle.argument_faults.proofs.writes.note_all_passed.Given as goal

abbrev pub invariant-loop-one : goal.invariant-loop-one
invariant-loop-one l =
    noted (found E3A (flat_map (passed_place (means l.sight)) (placed_actuals (drop l.one-index l.list)))) l.least
    ≡ noted (found E3A (flat_map (passed_place (means l.sight)) (placed_actuals l.fn.list))) l.fn.least
