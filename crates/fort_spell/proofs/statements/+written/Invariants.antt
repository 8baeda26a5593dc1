use Rattle.std.proofs.Common.{◌≡◌, ℕ, List, drop}
use Rattle.fort_spell.specs.Rows.{Row, next_indent}
use Rattle.fort_spell.specs.Statements.{stmts_rows}
use Rattle.fort_spell.proofs.statements.«+written».Given as goal

abbrev pub invariant-are_written-loop-stmt : goal.invariant-are_written-loop-stmt
invariant-are_written-loop-stmt l = (n : ℕ) (rs : List Row) → next_indent (stmts_rows l.fn.body n rs) ≡ next_indent (stmts_rows (drop l.stmt-index l.body) n rs)
