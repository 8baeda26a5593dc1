use Rattle.std.proofs.Common.{◌≡◌, drop}
use Rattle.std.specs.Prelude.{flat_map}
use Rattle.fort_tree.specs.declared.fault.Code.TheVariants.{E38}
use Rattle.sound_programs.specs.Faults.{found}
use Rattle.sound_programs.specs.Placing.{placed}
use Rattle.fort_names.specs.Leasts.{noted}
use Rattle.fort_names.specs.Sights.{means, file_of}
use Rattle.unit_steps.specs.Behind.{placed_steps}
use Rattle.argument_faults.specs.InUnits.{alias_in_step}
use Rattle.argument_faults.proofs.unit_faults.note_steps.Given as goal

abbrev pub invariant-loop-step : goal.invariant-loop-step
invariant-loop-step l =
    noted (found E38 (flat_map (alias_in_step (placed (file_of l.sight)) (means l.sight) l.unit) (placed_steps (drop l.step-index l.steps)))) l.least
    ≡ noted (found E38 (flat_map (alias_in_step (placed (file_of l.sight)) (means l.sight) l.unit) (placed_steps l.fn.steps))) l.fn.least
