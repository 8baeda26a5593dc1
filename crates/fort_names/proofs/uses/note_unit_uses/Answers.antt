use Rattle.std.proofs.Common.{◌<◌, length, arith, refl, ap, ◌∙◌}
use Rattle.fort_tree.specs.declared.fault.Code.TheVariants.{E34}
use Rattle.sound_programs.specs.Faults.{found}
use Rattle.fort_names.specs.Leasts.{noted, of_units}
use Rattle.fort_names.specs.UsePlaces.{use_places, unit_uses}
use Rattle.fort_names.proofs.FirstOf.{next_places}
use Rattle.fort_names.proofs.uses.note_unit_uses.Goals as goal

-- src/uses.rt
pub loop-unit-preserved : goal.loop-unit-preserved
loop-unit-preserved c =
    let items = c.args.units.now in
    let s = c.args.shared.now in
    let within : c.loop-unit.unit-index < length items = omega arith in
    next_places E34 (of_units (unit_uses s)) (unit_uses s) (λ a l. refl) items c.loop-unit.unit-index c.unit-item.result within c.unit-item.is c.loop-unit.least c.note_lines.new.least
    (c.note_lines.ensures ∙ ap (λ l. noted (found E34 (use_places s l)) c.loop-unit.least) c.items.ensures) ∙ c.loop-unit.invariant
