use Rattle.fort_units.proofs.AllNest.{nesting_faultless}
use Rattle.fort_units.proofs.laws.forms_that_nest_have_no_fault.Goals as goal

pub returns : goal.returns
returns c = nesting_faultless
