use Rattle.std.proofs.Common.{◌<◌, length, arith, refl, ap, ◌∙◌}
use Rattle.fort_tree.specs.declared.fault.Code.TheVariants.{E38}
use Rattle.sound_programs.specs.Faults.{found}
use Rattle.sound_programs.specs.Places.{where_place}
use Rattle.fort_names.specs.Leasts.{noted}
use Rattle.fort_names.specs.Sights.{means}
use Rattle.fort_names.proofs.FirstOf.{next_places}
use Rattle.argument_faults.specs.Actuals.{placed_actual, placed_actuals}
use Rattle.argument_faults.specs.Reaching.{is_marked_for}
use Rattle.argument_faults.specs.Behind.{is_behind, behind_actuals}
use Rattle.argument_faults.proofs.behind.note_behind.Goals as goal

-- src/behind.rt
pub loop-one-preserved : goal.loop-one-preserved
loop-one-preserved c =
    let items = c.args.actuals.now in
    let within : c.loop-one.one-index < length items = omega arith in
    next_places E38 (λ l. behind_actuals (is_marked_for c.args.reached.now c.args.callee) (means c.args.sight.now) c.args.unit.now (placed_actuals l))
    (λ a. where_place (is_behind (is_marked_for c.args.reached.now c.args.callee) (means c.args.sight.now) c.args.unit.now (placed_actual a)) a.at) (λ a l. refl)
    items c.loop-one.one-index c.one-item.result within c.one-item.is c.loop-one.least c.note_if.new.self
    (c.note_if.ensures ∙ ap (λ b. noted (found E38 (where_place b c.one-item.result.at)) c.loop-one.least) c.is_behind.ensures)
    ∙ c.loop-one.invariant
