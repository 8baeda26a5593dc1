use Rattle.std.proofs.Common.{◌≡◌, drop}
use Rattle.std.specs.Prelude.{flat_map}
use Rattle.fort_tree.specs.declared.fault.Code.TheVariants.{E35}
use Rattle.sound_programs.specs.Faults.{found}
use Rattle.fort_names.specs.Leasts.{noted}
use Rattle.sound_programs.specs.NameFaults.{unit_faults_in_step}
use Rattle.unit_steps.specs.Behind.{placed_steps}
use Rattle.fort_names.specs.Sights.{means}
use Rattle.name_faults.proofs.calls.note_steps.Given as goal

abbrev pub invariant-loop-step : goal.invariant-loop-step
invariant-loop-step l =
    noted (found E35 (flat_map (unit_faults_in_step (means l.sight)) (placed_steps (drop l.step-index l.steps)))) l.least
    ≡ noted (found E35 (flat_map (unit_faults_in_step (means l.sight)) (placed_steps l.steps))) l.fn.least
