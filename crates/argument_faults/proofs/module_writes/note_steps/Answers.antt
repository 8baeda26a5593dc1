use Rattle.std.proofs.Common.{◌<◌, length, arith, refl, ◌∙◌}
use Rattle.fort_tree.specs.declared.fault.Code.TheVariants.{E3A}
use Rattle.fort_names.specs.Sights.{means}
use Rattle.std.specs.Prelude.{flat_map}
use Rattle.unit_steps.specs.Behind.{placed_step, placed_steps}
use Rattle.argument_faults.specs.ModuleWrites.{named_in_step}
use Rattle.fort_names.proofs.FirstOf.{next_places}
use Rattle.argument_faults.proofs.module_writes.note_steps.Goals as goal

-- src/module_writes.rt
pub loop-step-preserved : goal.loop-step-preserved
loop-step-preserved c =
    let items = c.args.steps.now in
    let within : c.loop-step.step-index < length items = omega arith in
    next_places E3A (λ l. flat_map (named_in_step (means c.args.sight.now) c.args.unit.now) (placed_steps l)) (λ a. named_in_step (means c.args.sight.now) c.args.unit.now (placed_step a)) (λ a l. refl) items c.loop-step.step-index c.step-item.result within c.step-item.is
    c.loop-step.least c.note_step.new.least c.in_ok-note_step.ensures ∙ c.loop-step.invariant
