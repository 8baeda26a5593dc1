use Rattle.courses.proofs.Two_lines.{lines_alike}
use Rattle.courses.proofs.readings.woven_lines.Goals as goal

pub returns : goal.returns
returns c = λ k q h ks o fair s j. lines_alike q h ks o fair s j
