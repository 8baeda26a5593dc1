use Rattle.layout_reading.proofs.ProgramsRead.{file_nests, file_stands}
use Rattle.layout_reading.proofs.laws.files_nest_again.Goals as goal

pub returns-clause-apart : goal.returns-clause-apart
returns-clause-apart c file h = file_stands file h

pub returns-clause-nested : goal.returns-clause-nested
returns-clause-nested c number file lines h k = file_nests number file lines h k
