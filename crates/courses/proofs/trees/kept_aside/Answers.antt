use Rattle.courses.proofs.Handled.{keeping_run}
use Rattle.courses.proofs.trees.kept_aside.Goals as goal

pub returns : goal.returns
returns c = λ k p t r o s j. keeping_run p t r o s j
