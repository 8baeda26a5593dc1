use Rattle.std.proofs.Common.{ap, ◌∙◌}
use Rattle.std.specs.Prelude.{flat_map}
use Rattle.std.proofs.lemmas.List.Folds.{flat_map-map}
use Rattle.fort_tree.specs.declared.fault.Code.TheVariants.{E3A}
use Rattle.sound_programs.specs.ArgumentFaults.{writes_fixed}
use Rattle.sound_programs.specs.Faults.{found}
use Rattle.sound_programs.specs.Placing.{placed_unit}
use Rattle.sound_programs.specs.Walks.{steps_of}
use Rattle.fort_names.specs.Leasts.{noted}
use Rattle.fort_names.specs.Sights.{means}
use Rattle.unit_steps.specs.Behind.{placed_steps}
use Rattle.argument_faults.proofs.writes.note_unit_writes.Goals as goal

-- src/writes.rt
pub returns : goal.returns
returns c =
    let entity = means c.args.sight.now in
    c.in_ok-note_steps.ensures
    ∙ ap (λ l. noted (found E3A l) c.args.least.now)
    (ap (λ l. flat_map (writes_fixed entity) (placed_steps l)) c.as_slice.ensures.value ∙ ap (flat_map (writes_fixed entity)) c.in_ok-steps.ensures
    ∙ flat_map-map (writes_fixed entity) (λ s. s.step) (steps_of (placed_unit c.args.unit.now)))
