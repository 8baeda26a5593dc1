use Rattle.column_scalars.proofs.WideTrees.{element_is}
use Rattle.column_scalars.proofs.widening.column_of.Goals as goal

-- src/widening.rt
pub returns : goal.returns
returns c = element_is c.args.name c.args.id c.args.at c.in_ok-subs.subs c.in_ok-subs.ensures
