use Rattle.std.proofs.Common.{◌<◌, length, arith, refl, ◌∙◌}
use Rattle.fort_tree.specs.declared.fault.Code.TheVariants.{E3B}
use Rattle.fort_names.specs.Leasts.{unit_intents, of_units}
use Rattle.fort_names.proofs.FirstOf.{next_places}
use Rattle.fort_names.proofs.intents.note_units.Goals as goal

-- src/intents.rt
pub loop-unit-preserved : goal.loop-unit-preserved
loop-unit-preserved c =
    let items = c.args.units.now in
    let within : c.loop-unit.unit-index < length items = omega arith in
    next_places E3B (of_units unit_intents) unit_intents (λ a l. refl) items c.loop-unit.unit-index c.unit-item.result within c.unit-item.is c.loop-unit.least c.note_unit.new.least
    c.note_unit.ensures ∙ c.loop-unit.invariant
