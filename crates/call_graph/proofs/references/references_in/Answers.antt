use Rattle.std.proofs.Common.{◌≡◌, ◌+◌, ◌≤◌, ◌<◌, ◌∙◌, ◌++◌, ◌∷◌, [], ap, sym, subst, arith, flat_map, map, take, take_all, length}
use Rattle.std.proofs.lemmas.Grind.{take_at_read}
use Rattle.fort_names.specs.Sights.{means, file_of}
use Rattle.sound_programs.specs.Placing.{placed_unit}
use Rattle.sound_programs.specs.Walks as walks
use Rattle.unit_steps.specs.Behind.{placed_step, placed_steps}
use Rattle.call_graph.specs.Adding.{Adds, step_referrals}
use Rattle.call_graph.proofs.Added.{adds_step, placed_more}
use Rattle.call_graph.proofs.references.references_in.Goals as goal

-- src/references.rt
pub loop-step-preserved : goal.loop-step-preserved
loop-step-preserved c from =
    let f = file_of c.args.sight.now in
    let entity = means c.args.sight.now in
    let i = c.loop-step.step-index in
    let steps = c.as_slice-step-items.result.now in
    let within : i < length steps = omega arith in
    let more : placed_steps (take (i + 1) steps) ≡ placed_steps (take i steps) ++ placed_step c.step-item.result ∷ [] =
    ap placed_steps ((take_at_read steps i c.step-item.result within).1 ∙ ap (λ s. take i steps ++ s ∷ []) (sym c.step-item.is)) ∙ placed_more (take i steps) c.step-item.result in
    subst (λ l. Adds f from [] c.note_step.new.into (flat_map (step_referrals entity from) l)) (sym more)
    (adds_step f entity from (placed_steps (take i steps)) (placed_step c.step-item.result) [] c.loop-step.references c.note_step.new.into (c.loop-step.invariant from) (c.in_ok-note_step.ensures from))

pub returns : goal.returns
returns c from =
    let f = file_of c.args.sight.now in
    let entity = means c.args.sight.now in
    let steps = c.as_slice-step-items.result.now in
    let past : length steps ≤ c.loop-step.step-index = omega arith in
    let all : placed_steps (take c.loop-step.step-index steps) ≡ map (λ s. s.step) (walks.steps_of (placed_unit c.args.unit.now)) =
    ap placed_steps (take_all c.loop-step.step-index steps past ∙ c.as_slice-step-items.ensures.value) ∙ c.in_ok-steps.ensures in
    subst (λ l. Adds f from [] c.loop-step.references (flat_map (step_referrals entity from) l)) all (c.loop-step.invariant from)
