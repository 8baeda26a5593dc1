use Rattle.std.proofs.Common.{◌<◌, length, arith, refl, ◌∙◌}
use Rattle.fort_tree.specs.declared.fault.Code.TheVariants.{E3A}
use Rattle.fort_names.specs.Sights.{means}
use Rattle.std.specs.Prelude.{flat_map}
use Rattle.argument_faults.specs.Actuals.{placed_actual, placed_actuals}
use Rattle.argument_faults.specs.ModuleWrites.{named_by_actual}
use Rattle.fort_names.proofs.FirstOf.{next_places}
use Rattle.argument_faults.proofs.module_writes.note_actuals.Goals as goal

-- src/module_writes.rt
pub loop-one-preserved : goal.loop-one-preserved
loop-one-preserved c =
    let items = c.args.list.now in
    let within : c.loop-one.one-index < length items = omega arith in
    next_places E3A (λ l. flat_map (named_by_actual (means c.args.sight.now) c.args.unit.now) (placed_actuals l)) (λ a. named_by_actual (means c.args.sight.now) c.args.unit.now (placed_actual a)) (λ a l. refl) items c.loop-one.one-index c.one-item.result within c.one-item.is
    c.loop-one.least c.note_actual.new.least c.note_actual.ensures ∙ c.loop-one.invariant
