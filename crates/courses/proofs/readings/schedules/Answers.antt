use Rattle.courses.proofs.Wovens.{woven_alike}
use Rattle.courses.proofs.readings.schedules.Goals as goal

pub returns : goal.returns
returns c = λ k q h ks o fair s j. woven_alike q h ks o fair s j
