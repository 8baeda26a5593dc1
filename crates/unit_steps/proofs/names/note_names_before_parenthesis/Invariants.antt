use Rattle.std.proofs.Common.{◌≡◌, ◌++◌, drop}
use Rattle.std.specs.Prelude.{flat_map}
use Rattle.sound_programs.specs.Walks as walks
use Rattle.unit_steps.specs.Behind.{exprs}
use Rattle.unit_steps.proofs.names.note_names_before_parenthesis.Given as goal

abbrev pub invariant-loop-expr : goal.invariant-loop-expr
invariant-loop-expr l = l.into.items ++ flat_map walks.name_before_parenthesis (exprs (drop l.expr-index l.list)) ≡ l.fn.into.items ++ flat_map walks.name_before_parenthesis (exprs l.list)
