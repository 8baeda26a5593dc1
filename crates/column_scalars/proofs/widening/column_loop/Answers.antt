use Rattle.std.proofs.Common.{None, refl}
use Rattle.claw_meaning.specs.Plain.{plain_directive}
use Rattle.column_scalars.proofs.WideTrees.{loop_is}
use Rattle.column_scalars.proofs.widening.column_loop.Goals as goal

-- src/widening.rt
pub returns : goal.returns
returns c =
    loop_is (plain_directive c.args.define.now) c.args.define.now.at
    (record { var = c.dimension_of-var.result; at = c.args.define.now.at; from = c.in_ok-bound_of.field-0; to = c.in_ok-bound_of-2.field-0; step = None })
    c.args.body.now c.in_ok-statements_in_column.field-0 c.dimension_of-var.ensures c.in_ok-bound_of.ensures c.in_ok-bound_of-2.ensures refl c.in_ok-statements_in_column.ensures
