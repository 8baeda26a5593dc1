use Rattle.courses.proofs.Wovens.{all_apart}
use Rattle.courses.proofs.readings.loop_runs_apart.Goals as goal

pub returns : goal.returns
returns c = λ k q h o fair s j. all_apart q h o fair s j
