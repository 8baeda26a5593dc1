use Rattle.courses.proofs.Lines.{line_then}
use Rattle.courses.proofs.readings.course_line.Goals as goal

pub returns : goal.returns
returns c = λ k l r g. line_then r g
