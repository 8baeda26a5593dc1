use Rattle.std.proofs.Common.{◌≡◌, drop}
use Rattle.fort_tree.specs.declared.fault.Code.TheVariants.{E3A}
use Rattle.sound_programs.specs.Faults.{found}
use Rattle.fort_names.specs.Leasts.{noted}
use Rattle.fort_names.specs.Sights.{means}
use Rattle.std.specs.Prelude.{flat_map}
use Rattle.sound_programs.specs.ArgumentFaults.{writes_fixed}
use Rattle.unit_steps.specs.Behind.{placed_steps}
use Rattle.argument_faults.proofs.writes.note_steps.Given as goal

abbrev pub invariant-loop-step : goal.invariant-loop-step
invariant-loop-step l =
    noted (found E3A (flat_map (writes_fixed (means l.sight)) (placed_steps (drop l.step-index l.steps)))) l.least
    ≡ noted (found E3A (flat_map (writes_fixed (means l.sight)) (placed_steps l.fn.steps))) l.fn.least
