use Rattle.std.proofs.Common.{◌≤◌, [], length, map, sym, ap, ◌∙◌, arith}
use Rattle.std.specs.Prelude.{flat_map}
use Rattle.std.proofs.lemmas.List.{at_drop_all}
use Rattle.sound_programs.specs.Placing.{placed_unit}
use Rattle.sound_programs.specs.Walks.{loop_variable}
use Rattle.fort_names.specs.Sharing.{inserted}
use Rattle.unit_steps.specs.Behind.{placed_steps}
use Rattle.name_faults.proofs.LoopsAre.{variables_are}
use Rattle.name_faults.proofs.loops.loop_variables.Goals as goal

-- src/loops.rt
pub returns : goal.returns
returns c =
    let items = c.as_slice-step-items.result.now in
    let i = c.loop-step.step-index in
    let names = c.loop-step.names in
    let all : length items ≤ i = omega arith in
    sym (at_drop_all (λ l. inserted names (map (λ n. n.name) (flat_map loop_variable (placed_steps l)))) items i all)
    ∙ c.loop-step.invariant
    ∙ ap (inserted []) (variables_are (placed_unit c.args.unit.now) (placed_steps items) (ap placed_steps c.as_slice-step-items.ensures.value ∙ c.in_ok-steps.ensures))
