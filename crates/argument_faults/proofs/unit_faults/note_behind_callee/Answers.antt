use Rattle.std.proofs.Common.{ap, ◌∙◌}
use Rattle.fort_tree.specs.declared.fault.Code.TheVariants.{E38}
use Rattle.claw_meaning.specs.Scope.{Entity}
use Rattle.sound_programs.specs.Faults.{found}
use Rattle.sound_programs.specs.Placing.{placed}
use Rattle.sound_programs.specs.Scopes.{unit_of}
use Rattle.fort_names.specs.Leasts.{noted}
use Rattle.fort_names.specs.Sights.{means, file_of}
use Rattle.argument_faults.specs.Actuals.{placed_actuals}
use Rattle.argument_faults.specs.InUnits.{behind_in}
use Rattle.argument_faults.proofs.BehindAre.{has_unit, behind_callee}
use Rattle.argument_faults.proofs.unit_faults.note_behind_callee.Goals as goal

-- src/unit_faults.rt
pub note_behind-requires : goal.note_behind-requires
note_behind-requires c = has_unit (file_of c.args.sight.now) c.args.reached.now c.requires c.in-Unit.number _ c.in-Unit.ensures.numbered

-- src/unit_faults.rt
pub returns-in-Unit : goal.returns-in-Unit
returns-in-Unit c =
    let entity = means c.args.sight.now in
    let unit = c.args.unit.now in
    let list = placed_actuals c.args.list.now in
    let least = c.args.least.now in
    c.note_behind.ensures
    ∙ ap (λ l. noted (found E38 l) least) (behind_callee (file_of c.args.sight.now) c.args.reached.now c.requires c.in-Unit.number _ c.in-Unit.ensures.numbered entity unit list)
    ∙ ap (λ (m : Entity). noted (found E38 (behind_in (placed (file_of c.args.sight.now)) entity unit list (unit_of m))) least) c.in-Unit.ensures.is
