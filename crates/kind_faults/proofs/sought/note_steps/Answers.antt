use Rattle.std.proofs.Common.{◌<◌, length, arith, refl, ◌∙◌}
use Rattle.kind_faults.specs.InScopes.{code_of_sought, faults_of_step}
use Rattle.fort_names.proofs.FirstOf.{next_places}
use Rattle.fort_names.specs.Sights.{means}
use Rattle.std.specs.Prelude.{flat_map}
use Rattle.unit_steps.specs.Behind.{placed_step, placed_steps}
use Rattle.kind_faults.proofs.sought.note_steps.Goals as goal

-- src/sought.rt
pub loop-step-preserved : goal.loop-step-preserved
loop-step-preserved c =
    let items = c.args.steps.now in
    let within : c.loop-step.step-index < length items = omega arith in
    next_places (code_of_sought c.args.sought) (λ l. flat_map (faults_of_step (means c.args.sight.now) c.args.sought) (placed_steps l)) (λ a. faults_of_step (means c.args.sight.now) c.args.sought (placed_step a)) (λ a l. refl) items c.loop-step.step-index c.step-item.result within c.step-item.is c.loop-step.least c.note_step.new.least
    c.in_ok-note_step.ensures ∙ c.loop-step.invariant
