use Rattle.claw_meaning.specs.Plain.{plain_stmt}
use Rattle.column_scalars.specs.Widened.{wide_stmt}
use Rattle.column_scalars.proofs.WideTrees.{one_more, all_taken}
use Rattle.column_scalars.proofs.widening.statements_in_column.Goals as goal

-- src/widening.rt
pub loop-stmt-preserved : goal.loop-stmt-preserved
loop-stmt-preserved c =
    one_more plain_stmt (λ s. wide_stmt c.args.id (plain_stmt s)) c.loop-stmt.wide c.push.new.self c.args.body.now c.items-stmt-items.result.now c.in_ok-statement_in_column.field-0 c.stmt-item.result
    c.loop-stmt.stmt-index c.items-stmt-items.ensures c.loop-stmt-test.true c.stmt-item.is c.loop-stmt.invariant c.in_ok-statement_in_column.ensures c.in_ok-push.ensures.ok

pub returns : goal.returns
returns c =
    all_taken plain_stmt (λ s. wide_stmt c.args.id (plain_stmt s)) c.loop-stmt.wide c.args.body.now c.items-stmt-items.result.now c.loop-stmt.stmt-index c.items-stmt-items.ensures c.loop-stmt-test.false
    c.loop-stmt.invariant
