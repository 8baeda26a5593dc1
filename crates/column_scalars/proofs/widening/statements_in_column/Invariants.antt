use Rattle.std.proofs.Common.{◌≡◌, map, take}
use Rattle.claw_meaning.specs.Plain.{plain_stmt}
use Rattle.column_scalars.specs.Widened.{wide_stmt}
use Rattle.column_scalars.proofs.widening.statements_in_column.Given as goal

abbrev pub invariant-loop-stmt : goal.invariant-loop-stmt
invariant-loop-stmt l = map plain_stmt l.wide ≡ map (λ s. wide_stmt l.id (plain_stmt s)) (take l.stmt-index l.body)
