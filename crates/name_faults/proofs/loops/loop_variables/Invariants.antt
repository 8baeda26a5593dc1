use Rattle.std.proofs.Common.{◌≡◌, [], drop, map}
use Rattle.std.specs.Prelude.{flat_map}
use Rattle.sound_programs.specs.Walks.{loop_variable}
use Rattle.fort_names.specs.Sharing.{inserted}
use Rattle.unit_steps.specs.Behind.{placed_steps}
use Rattle.name_faults.proofs.loops.loop_variables.Given as goal

abbrev pub invariant-loop-step : goal.invariant-loop-step
invariant-loop-step l =
    inserted l.names (map (λ n. n.name) (flat_map loop_variable (placed_steps (drop l.step-index l.step-items))))
    ≡ inserted [] (map (λ n. n.name) (flat_map loop_variable (placed_steps l.step-items)))
