use Rattle.courses.proofs.Weaves.{woven_well}
use Rattle.courses.proofs.orders.weaving.Goals as goal

pub returns : goal.returns
returns c = λ k w xs ks s h. woven_well w xs ks s h
