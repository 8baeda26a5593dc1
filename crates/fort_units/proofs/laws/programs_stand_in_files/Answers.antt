use Rattle.fort_units.proofs.TreePlaces.{program_in_files}
use Rattle.fort_units.proofs.laws.programs_stand_in_files.Goals as goal

pub returns : goal.returns
returns c = program_in_files
