use Rattle.std.proofs.Common.{◌≡◌, drop}
use Rattle.std.specs.Prelude.{flat_map}
use Rattle.fort_tree.specs.declared.fault.Code.TheVariants.{E30}
use Rattle.sound_programs.specs.Faults.{found}
use Rattle.fort_names.specs.Leasts.{noted}
use Rattle.sound_programs.specs.NameFaults.{undeclared_private}
use Rattle.unit_steps.specs.Behind.{placed_steps}
use Rattle.fort_names.specs.Sights.{means}
use Rattle.name_faults.proofs.values.note_privates.Given as goal

abbrev pub invariant-loop-step : goal.invariant-loop-step
invariant-loop-step l =
    noted (found E30 (flat_map (undeclared_private (means l.sight)) (placed_steps (drop l.step-index l.steps)))) l.least
    ≡ noted (found E30 (flat_map (undeclared_private (means l.sight)) (placed_steps l.steps))) l.fn.least
