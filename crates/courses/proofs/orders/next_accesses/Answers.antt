use Rattle.courses.proofs.Nexts.{next_is_touch}
use Rattle.courses.proofs.orders.next_accesses.Goals as goal

-- src/orders.rt
pub returns : goal.returns
returns c = λ k r vs s j. next_is_touch r vs s j
