use Rattle.std.proofs.Common.{◌<◌, length, arith, refl, ◌∙◌}
use Rattle.std.specs.Prelude.{flat_map}
use Rattle.fort_tree.specs.declared.fault.Code.TheVariants.{E38}
use Rattle.sound_programs.specs.Placing.{placed}
use Rattle.fort_names.specs.Sights.{means, file_of}
use Rattle.unit_steps.specs.Behind.{placed_step, placed_steps}
use Rattle.argument_faults.specs.InUnits.{alias_in_step}
use Rattle.fort_names.proofs.FirstOf.{next_places}
use Rattle.argument_faults.proofs.unit_faults.note_steps.Goals as goal

-- src/unit_faults.rt
pub loop-step-preserved : goal.loop-step-preserved
loop-step-preserved c =
    let items = c.args.steps.now in
    let within : c.loop-step.step-index < length items = omega arith in
    next_places E38 (λ l. flat_map (alias_in_step (placed (file_of c.args.sight.now)) (means c.args.sight.now) c.args.unit.now) (placed_steps l)) (λ a. alias_in_step (placed (file_of c.args.sight.now)) (means c.args.sight.now) c.args.unit.now (placed_step a)) (λ a l. refl) items c.loop-step.step-index c.step-item.result within c.step-item.is
    c.loop-step.least c.note_step.new.least c.in_ok-note_step.ensures ∙ c.loop-step.invariant
