use Rattle.std.proofs.Common.{◌≡◌, drop}
use Rattle.fort_tree.specs.declared.fault.Code.TheVariants.{E3A}
use Rattle.sound_programs.specs.Faults.{found}
use Rattle.fort_names.specs.Leasts.{noted}
use Rattle.fort_names.specs.Sights.{means}
use Rattle.std.specs.Prelude.{flat_map}
use Rattle.argument_faults.specs.Actuals.{placed_actuals}
use Rattle.argument_faults.specs.ModuleWrites.{named_by_actual}
use Rattle.argument_faults.proofs.module_writes.note_actuals.Given as goal

abbrev pub invariant-loop-one : goal.invariant-loop-one
invariant-loop-one l =
    noted (found E3A (flat_map (named_by_actual (means l.sight) l.unit) (placed_actuals (drop l.one-index l.list)))) l.least
    ≡ noted (found E3A (flat_map (named_by_actual (means l.sight) l.unit) (placed_actuals l.fn.list))) l.fn.least
