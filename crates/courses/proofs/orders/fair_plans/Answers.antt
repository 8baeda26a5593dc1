use Rattle.courses.proofs.Planned.{fair_plan}
use Rattle.courses.proofs.orders.fair_plans.Goals as goal

pub returns : goal.returns
returns c = fair_plan
