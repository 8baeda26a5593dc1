use Rattle.std.proofs.Common.{◌≡◌}
use Rattle.std.specs.Prelude.{flat_map}
use Rattle.sound_programs.specs.Walks.{parts}
use Rattle.unit_steps.specs.Behind.{exprs}
use Rattle.column_rules.proofs.bounds.names_in_bounds.Given as goal

abbrev pub invariant-loop-expr : goal.invariant-loop-expr
invariant-loop-expr l = exprs l.list.items ≡ flat_map parts (exprs l.yielded)
