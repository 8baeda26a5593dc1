use Rattle.courses.proofs.Reorder.{reordered}
use Rattle.courses.proofs.orders.law_of_orders.Goals as goal

pub returns : goal.returns
returns c = λ k w s xs ys h m. reordered w s xs ys h m
