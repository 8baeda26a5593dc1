use Rattle.std.proofs.Common.{◌∙◌}
use Rattle.fort_names.specs.NameLists.{has}
use Rattle.translated_programs.specs.NotBuilt.{of_any_unit}
use Rattle.translated_programs.proofs.Steps.{noted_step}
use Rattle.translated_programs.proofs.unbuilt.note_units.Goals as goal

-- src/unbuilt.rt
pub loop-unit-preserved : goal.loop-unit-preserved
loop-unit-preserved c =
    noted_step (of_any_unit (has c.args.names.now.columns) (has c.args.names.now.globals)) c.args.units.now c.loop-unit.unit-index c.unit-item.result c.loop-unit.least c.in_ok-least.least c.loop-unit-test.true c.unit-item.is
    c.in_ok-least.ensures
    ∙ c.loop-unit.invariant
