use Rattle.std.proofs.Common.{ap, ◌∙◌}
use Rattle.std.specs.Prelude.{flat_map}
use Rattle.std.proofs.lemmas.List.Folds.{flat_map-map}
use Rattle.fort_tree.specs.declared.fault.Code.TheVariants.{E38}
use Rattle.sound_programs.specs.Faults.{found}
use Rattle.sound_programs.specs.Placing.{placed, placed_unit}
use Rattle.sound_programs.specs.Walks.{steps_of}
use Rattle.fort_names.specs.Leasts.{noted}
use Rattle.fort_names.specs.Sights.{means, file_of}
use Rattle.unit_steps.specs.Behind.{placed_steps}
use Rattle.argument_faults.specs.InUnits.{alias_in_step}
use Rattle.argument_faults.proofs.unit_faults.note_unit_aliases.Goals as goal

-- src/unit_faults.rt
pub returns : goal.returns
returns c =
    let alias = alias_in_step (placed (file_of c.args.sight.now)) (means c.args.sight.now) c.args.unit.now.name in
    c.in_ok-note_steps.ensures
    ∙ ap (λ l. noted (found E38 l) c.args.least.now)
    (ap (λ l. flat_map alias (placed_steps l)) c.as_slice.ensures.value ∙ ap (flat_map alias) c.in_ok-steps.ensures ∙ flat_map-map alias (λ s. s.step) (steps_of (placed_unit c.args.unit.now)))
