use Rattle.fort_lex.proofs.Few.{few-lines}
use Rattle.fort_lex.proofs.laws.lines_are_few.Goals as goal

pub returns : goal.returns
returns c = few-lines
