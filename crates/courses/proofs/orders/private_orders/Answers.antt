use Rattle.courses.proofs.Set_aside.{reordered_but}
use Rattle.courses.proofs.orders.private_orders.Goals as goal

pub returns : goal.returns
returns c = reordered_but
