use Rattle.std.proofs.Common.{map, ap, ◌∙◌}
use Rattle.std.specs.Prelude.{flat_map}
use Rattle.sound_programs.specs.ArgumentFaults.{names_of_step}
use Rattle.sound_programs.specs.Placing.{placed_unit}
use Rattle.sound_programs.specs.Walks.{steps_of}
use Rattle.fort_names.specs.Sharing.{inserted}
use Rattle.fort_names.specs.Sights.{means}
use Rattle.unit_steps.specs.Behind.{placed_steps}
use Rattle.argument_faults.specs.ModuleNames.{pairs, variables_among}
use Rattle.argument_faults.proofs.Inserting.{named_once}
use Rattle.argument_faults.proofs.module_names.variables_named.Goals as goal

-- src/module_names.rt
pub returns : goal.returns
returns c =
    let entity = means c.args.sight.now in
    let unit = c.args.unit.now.name in
    named_once entity unit (steps_of (placed_unit c.args.unit.now)) (placed_steps c.in_ok-steps.steps.items) c.insert_steps.new.into (pairs c.in_ok-list.list.items) c.in_ok-steps.ensures
    (c.in_ok-insert_steps.ensures ∙ (λ i. inserted (c.new-set.ensures i) (map (λ n. n.name) (flat_map names_of_step (placed_steps (c.as_slice.ensures.value i))))))
    (c.in_ok-list.ensures ∙ ap (variables_among entity unit) c.names-distinct.ensures)
