use Rattle.std.proofs.Common.{◌≡◌, drop}
use Rattle.fort_tree.specs.declared.fault.Code.TheVariants.{E38}
use Rattle.sound_programs.specs.Faults.{found}
use Rattle.fort_names.specs.Leasts.{noted}
use Rattle.fort_names.specs.Sights.{means}
use Rattle.argument_faults.specs.Actuals.{placed_actuals}
use Rattle.argument_faults.specs.Reaching.{is_marked_for}
use Rattle.argument_faults.specs.Behind.{behind_actuals}
use Rattle.argument_faults.proofs.behind.note_behind.Given as goal

abbrev pub invariant-loop-one : goal.invariant-loop-one
invariant-loop-one l =
    noted (found E38 (behind_actuals (is_marked_for l.reached l.callee) (means l.sight) l.unit (placed_actuals (drop l.one-index l.actuals)))) l.least
    ≡ noted (found E38 (behind_actuals (is_marked_for l.reached l.callee) (means l.sight) l.unit (placed_actuals l.fn.actuals))) l.fn.least
