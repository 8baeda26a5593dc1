use Rattle.std.proofs.Common.{◌≡◌, drop, map}
use Rattle.std.specs.Prelude.{flat_map}
use Rattle.sound_programs.specs.ArgumentFaults.{names_of_step}
use Rattle.fort_names.specs.Sharing.{inserted}
use Rattle.unit_steps.specs.Behind.{placed_steps}
use Rattle.argument_faults.proofs.module_names.insert_steps.Given as goal

abbrev pub invariant-loop-step : goal.invariant-loop-step
invariant-loop-step l =
    inserted l.into (map (λ n. n.name) (flat_map names_of_step (placed_steps (drop l.step-index l.steps))))
    ≡ inserted l.fn.into (map (λ n. n.name) (flat_map names_of_step (placed_steps l.steps)))
