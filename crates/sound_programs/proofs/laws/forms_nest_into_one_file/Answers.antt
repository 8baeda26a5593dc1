use Rattle.sound_programs.proofs.OneFile.{one_file}
use Rattle.sound_programs.proofs.laws.forms_nest_into_one_file.Goals as goal

-- src/laws.rt
pub returns : goal.returns
returns c = one_file
