use Rattle.std.proofs.Common.{◌≡◌, ◌++◌, drop}
use Rattle.fort_names.specs.Tables.{next_row}
use Rattle.fort_names.proofs.rows.next_row.Given as goal

abbrev pub invariant-loop-number : goal.invariant-loop-number
invariant-loop-number l = l.next ++ next_row l.declared l.number (drop l.number l.modules) l.row l.name ≡ next_row l.declared 0 l.modules l.row l.name
