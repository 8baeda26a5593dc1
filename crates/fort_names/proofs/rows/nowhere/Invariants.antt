use Rattle.std.proofs.Common.{◌≡◌, ◌++◌, drop}
use Rattle.fort_names.specs.Tables.{nowhere}
use Rattle.fort_names.proofs.rows.nowhere.Given as goal

abbrev pub invariant-loop-module : goal.invariant-loop-module
invariant-loop-module l = l.row ++ nowhere (drop l._module-index l.modules) ≡ nowhere l.modules
