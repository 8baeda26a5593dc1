use Rattle.std.proofs.Common.{◌<◌, length, map, arith, ◌∙◌}
use Rattle.claw_meaning.specs.Plain.{plain_decl}
use Rattle.fort_names.specs.Sights.{means}
use Rattle.kind_faults.proofs.Fits.{next_actual}
use Rattle.kind_faults.proofs.actuals.note_actuals.Goals as goal

-- src/actuals.rt
pub loop-i-preserved : goal.loop-i-preserved
loop-i-preserved c =
    let within : c.loop-i.i < length c.args.dummies.now = omega arith in
    let inside : c.loop-i.i < length c.args.args.now = omega arith in
    next_actual (means c.args.sight.now) c.args.fit (map plain_decl c.args.callee.now.decls) c.args.dummies.now c.args.args.now c.loop-i.i c.index-dummies-i.result c.index-args-i.result
    within c.index-dummies-i.is inside c.index-args-i.is c.loop-i.least c.note_actual.new.least c.note_actual.ensures ∙ c.loop-i.invariant
