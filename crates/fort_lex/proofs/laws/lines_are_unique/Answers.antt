use Rattle.fort_lex.proofs.Unique.{lines-one}
use Rattle.fort_lex.proofs.laws.lines_are_unique.Goals as goal

pub returns : goal.returns
returns c = lines-one c.reading_is_unique.ensures
