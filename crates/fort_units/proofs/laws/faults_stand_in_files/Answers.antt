use Rattle.fort_units.proofs.LinePlaces.{first_fault_in_files}
use Rattle.fort_units.proofs.laws.faults_stand_in_files.Goals as goal

pub returns : goal.returns
returns c = first_fault_in_files
