use Rattle.std.proofs.Common.{◌<◌, length, arith, ◌∙◌}
use Rattle.column_rules.specs.OnTrees.{of_unit}
use Rattle.column_rules.proofs.Steps.{noted_step}
use Rattle.column_rules.proofs.rules.note_units.Goals as goal

-- src/rules.rt
pub loop-number-preserved : goal.loop-number-preserved
loop-number-preserved c =
    let items = c.args.units.now in
    let within : c.loop-number.number < length items = omega arith in
    noted_step (of_unit c.args.file.now) items c.loop-number.number c.index-units-number.result c.loop-number.least c.in_ok-least.least within c.index-units-number.is c.in_ok-least.ensures
    ∙ c.loop-number.invariant
