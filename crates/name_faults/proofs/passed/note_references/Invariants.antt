use Rattle.std.proofs.Common.{◌≡◌, ◌++◌, drop}
use Rattle.fort_names.specs.Sights.{means}
use Rattle.unit_steps.specs.Behind.{exprs}
use Rattle.name_faults.specs.Passing.{written_by}
use Rattle.name_faults.proofs.passed.note_references.Given as goal

abbrev pub invariant-loop-expr : goal.invariant-loop-expr
invariant-loop-expr l = l.into.items ++ written_by (means l.sight) (exprs (drop l.expr-index l.list)) ≡ l.fn.into.items ++ written_by (means l.sight) (exprs l.list)
