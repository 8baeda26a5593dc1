use Rattle.std.proofs.Common.{◌<◌, length, arith, refl, ◌∙◌}
use Rattle.std.specs.Prelude.{flat_map}
use Rattle.fort_tree.specs.declared.fault.Code.TheVariants.{E30}
use Rattle.sound_programs.specs.NameFaults.{undeclared_private}
use Rattle.unit_steps.specs.Behind.{placed_step, placed_steps}
use Rattle.fort_names.specs.Sights.{means}
use Rattle.fort_names.proofs.FirstOf.{next_places}
use Rattle.name_faults.proofs.values.note_privates.Goals as goal

-- src/values.rt
pub loop-step-preserved : goal.loop-step-preserved
loop-step-preserved c =
    let items = c.args.steps.now in
    let entity = means c.args.sight.now in
    let within : c.loop-step.step-index < length items = omega arith in
    next_places E30 (λ l. flat_map (undeclared_private entity) (placed_steps l)) (λ s. undeclared_private entity (placed_step s)) (λ a l. refl) items c.loop-step.step-index c.step-item.result within c.step-item.is
    c.loop-step.least c.note_private.new.least c.in_ok-note_private.ensures ∙ c.loop-step.invariant
