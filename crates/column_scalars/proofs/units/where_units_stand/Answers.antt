use Rattle.column_scalars.proofs.Naming.{stands_among, stands_alone}
use Rattle.column_scalars.proofs.units.where_units_stand.Goals as goal

-- src/units.rt
pub returns-clause-among : goal.returns-clause-among
returns-clause-among c = stands_among

pub returns-clause-alone : goal.returns-clause-alone
returns-clause-alone c = stands_alone
