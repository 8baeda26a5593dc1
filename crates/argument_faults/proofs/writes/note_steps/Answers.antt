use Rattle.std.proofs.Common.{◌<◌, length, arith, refl, ◌∙◌}
use Rattle.fort_tree.specs.declared.fault.Code.TheVariants.{E3A}
use Rattle.fort_names.specs.Sights.{means}
use Rattle.std.specs.Prelude.{flat_map}
use Rattle.sound_programs.specs.ArgumentFaults.{writes_fixed}
use Rattle.unit_steps.specs.Behind.{placed_step, placed_steps}
use Rattle.fort_names.proofs.FirstOf.{next_places}
use Rattle.argument_faults.proofs.writes.note_steps.Goals as goal

-- src/writes.rt
pub loop-step-preserved : goal.loop-step-preserved
loop-step-preserved c =
    let items = c.args.steps.now in
    let within : c.loop-step.step-index < length items = omega arith in
    next_places E3A (λ l. flat_map (writes_fixed (means c.args.sight.now)) (placed_steps l)) (λ a. writes_fixed (means c.args.sight.now) (placed_step a)) (λ a l. refl) items c.loop-step.step-index c.step-item.result within c.step-item.is
    c.loop-step.least c.note_step_writes.new.least c.in_ok-note_step_writes.ensures ∙ c.loop-step.invariant
