use Rattle.courses.proofs.Served.{serves_so}
use Rattle.courses.proofs.columns.columns_served.Goals as goal

pub returns : goal.returns
returns c = serves_so
