use Rattle.fort_lex.proofs.LinePlaces.{lines-in-file, first-in-file}
use Rattle.fort_lex.proofs.laws.lines_stand_in_their_file.Goals as goal

pub returns-clause-lines : goal.returns-clause-lines
returns-clause-lines c = lines-in-file

pub returns-clause-fault : goal.returns-clause-fault
returns-clause-fault c = first-in-file
