use Rattle.std.proofs.Common.{◌∙◌, ap}
use Rattle.fort_tree.specs.declared.fault.Code.TheVariants.{E36, E71}
use Rattle.fort_names.specs.Leasts.{noted}
use Rattle.sound_programs.specs.Faults.{found}
use Rattle.sound_programs.specs.Places.{option_places}
use Rattle.call_graph.proofs.Noting.{first_of_all}
use Rattle.call_graph.proofs.faults.first_fault.Goals as goal

-- src/faults.rt
pub returns : goal.returns
returns c =
    let recursion = c.in_ok-first_recursion.field-0 in
    let many = c.unit_too_many.result in
    let deep = c.first_too_deep.result in
    first_of_all c.args.calls.now c.requires recursion many deep c.in_ok-first_recursion.ensures c.unit_too_many.ensures c.first_too_deep.ensures c.first.result
    (c.first.ensures ∙ c.note_place-3.ensures
    ∙ ap (noted (found E71 (option_places deep)))
    (c.note_place-2.ensures ∙ ap (noted (found E71 (option_places many))) (c.note_place.ensures ∙ ap (noted (found E36 (option_places recursion))) c.new-least.ensures)))
