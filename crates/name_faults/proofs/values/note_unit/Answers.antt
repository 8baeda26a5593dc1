use Rattle.std.proofs.Common.{map, ◌∙◌, ap}
use Rattle.std.specs.Prelude.{flat_map}
use Rattle.fort_tree.specs.declared.fault.Code.TheVariants.{E30}
use Rattle.sound_programs.specs.Faults.{found}
use Rattle.sound_programs.specs.NameFaults.{undeclared_in_bounds, undeclared_in_step, undeclared_private}
use Rattle.sound_programs.specs.Placing.{placed_decl, placed_unit}
use Rattle.unit_steps.specs.Behind.{placed_steps}
use Rattle.fort_names.specs.Leasts.{noted}
use Rattle.fort_names.specs.Sights.{means}
use Rattle.name_faults.proofs.Parts.{unit_noted}
use Rattle.name_faults.proofs.values.note_unit.Goals as goal

-- src/values.rt
pub returns : goal.returns
returns c =
    let entity = means c.args.sight.now in
    let first = c.note_steps.new.least in
    let second = c.note_bounds.new.least in
    let third = c.note_dummies.new.least in
    unit_noted entity (placed_unit c.args.unit.now) (placed_steps c.in_ok-steps.steps.items) c.in_ok-steps.ensures c.args.least.now first second third c.note_privates.new.least
    (c.in_ok-note_steps.ensures ∙ ap (λ l. noted (found E30 (flat_map (undeclared_in_step entity) (placed_steps l))) c.args.least.now) c.as_slice.ensures.value)
    (c.in_ok-note_bounds.ensures ∙ ap (λ l. noted (found E30 (undeclared_in_bounds entity (map placed_decl l))) first) c.items.ensures)
    c.in_ok-note_dummies.ensures
    (c.in_ok-note_privates.ensures ∙ ap (λ l. noted (found E30 (flat_map (undeclared_private entity) (placed_steps l))) third) c.as_slice-2.ensures.value)
