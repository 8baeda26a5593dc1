use Rattle.std.proofs.Common.{◌<◌, length, arith, refl, ◌∙◌}
use Rattle.fort_tree.specs.declared.fault.Code.TheVariants.{E3A}
use Rattle.fort_names.specs.Sights.{means}
use Rattle.std.specs.Prelude.{flat_map}
use Rattle.argument_faults.specs.Actuals.{placed_actual, placed_actuals}
use Rattle.argument_faults.specs.Written.{passed_place}
use Rattle.fort_names.proofs.FirstOf.{next_places}
use Rattle.argument_faults.proofs.writes.note_all_passed.Goals as goal

-- src/writes.rt
pub loop-one-preserved : goal.loop-one-preserved
loop-one-preserved c =
    let items = c.args.list.now in
    let within : c.loop-one.one-index < length items = omega arith in
    next_places E3A (λ l. flat_map (passed_place (means c.args.sight.now)) (placed_actuals l)) (λ a. passed_place (means c.args.sight.now) (placed_actual a)) (λ a l. refl) items c.loop-one.one-index c.one-item.result within c.one-item.is
    c.loop-one.least c.note_passed.new.least c.note_passed.ensures ∙ c.loop-one.invariant
