use Rattle.std.proofs.Common.{◌≡◌, ◌∙◌, ap}
use Rattle.claw_meaning.specs.Plain.{plain_expr, plain_option}
use Rattle.column_scalars.specs.Widened.{bound_or_one}
use Rattle.column_scalars.proofs.WideTrees.{guard_is}
use Rattle.column_scalars.proofs.widening.guard.Goals as goal

-- src/widening.rt
pub returns : goal.returns
returns c =
    let upper : plain_expr c.in_ok-upper.upper ≡ bound_or_one (plain_option c.args.define.now.upper) = ap plain_expr c.in_ok-upper.ensures ∙ c.in_ok-bound_of.ensures in
    let lower : plain_expr c.in_ok-lower.lower ≡ bound_or_one (plain_option c.args.define.now.lower) = ap plain_expr c.in_ok-lower.ensures ∙ c.in_ok-bound_of-2.ensures in
    guard_is c.args.define.now.at c.in_ok-upper.upper c.in_ok-lower.lower c.in_ok-list_of_one.field-0 c.in_ok-list_of_one-2.field-0 _ _ upper lower c.in_ok-list_of_one.ensures c.in_ok-list_of_one-2.ensures
