use Rattle.std.proofs.Common.{◌≡◌, ◌++◌, drop, map}
use Rattle.fort_names.specs.Sights.{means}
use Rattle.argument_faults.specs.Actuals.{placed_actuals}
use Rattle.argument_faults.specs.Sharing.{passed_as}
use Rattle.argument_faults.proofs.shared.all_passed.Given as goal

abbrev pub invariant-loop-actual : goal.invariant-loop-actual
invariant-loop-actual l = l.list.items ++ map (passed_as (means l.sight)) (placed_actuals (drop l.actual-index l.actuals)) ≡ map (passed_as (means l.sight)) (placed_actuals l.actuals)
