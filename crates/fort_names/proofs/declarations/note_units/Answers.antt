use Rattle.std.proofs.Common.{◌<◌, length, arith, refl, ◌∙◌}
use Rattle.fort_tree.specs.declared.fault.Code.TheVariants.{E31}
use Rattle.fort_names.specs.Declaring.{unit_twice}
use Rattle.fort_names.specs.Leasts.{of_units}
use Rattle.fort_names.proofs.FirstOf.{next_places}
use Rattle.fort_names.proofs.declarations.note_units.Goals as goal

-- src/declarations.rt
pub loop-unit-preserved : goal.loop-unit-preserved
loop-unit-preserved c =
    let items = c.args.units.now in
    let s = c.args.shared.now in
    let contested = c.args.contested.now in
    let within : c.loop-unit.unit-index < length items = omega arith in
    next_places E31 (of_units (unit_twice s contested)) (unit_twice s contested) (λ a l. refl) items c.loop-unit.unit-index c.unit-item.result within c.unit-item.is
    c.loop-unit.least c.note_unit.new.least c.in_ok-note_unit.ensures ∙ c.loop-unit.invariant
