use Rattle.std.proofs.Common.{◌≡◌, ◌++◌, drop, map}
use Rattle.fort_names.specs.Tables.{origins}
use Rattle.fort_names.proofs.shared.all_rows.Given as goal

abbrev pub invariant-loop-name : goal.invariant-loop-name
invariant-loop-name l = l.rows ++ map (origins l.declared l.modules) (drop l.name-index l.names) ≡ map (origins l.declared l.modules) l.names
