use Rattle.courses.proofs.Allowed.{always_leaves}
use Rattle.courses.proofs.trees.allowed_writes.Goals as goal

pub returns : goal.returns
returns c = λ k m r o s j e h n. always_leaves m r o s j e h n
