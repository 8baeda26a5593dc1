use Rattle.fort_units.proofs.Faultless.{faultless_nest}
use Rattle.fort_units.proofs.laws.forms_without_fault_nest.Goals as goal

pub returns : goal.returns
returns c = faultless_nest
