use Rattle.column_scalars.proofs.Reaching.{dummies_vary}
use Rattle.column_scalars.proofs.Referring.{unit_interface}
use Rattle.column_scalars.proofs.Erasing.{same_unit}
use Rattle.column_scalars.proofs.Spreading.{loop_spread}
use Rattle.column_scalars.proofs.units.unit_made_for_all_columns.Goals as goal

-- src/units.rt
pub returns-clause-varying : goal.returns-clause-varying
returns-clause-varying c u is p = dummies_vary p u is

pub returns-clause-interface : goal.returns-clause-interface
returns-clause-interface c u is p = unit_interface p u is

pub returns-clause-erased : goal.returns-clause-erased
returns-clause-erased c u is p = same_unit p u is

pub returns-clause-spread : goal.returns-clause-spread
returns-clause-spread c u is p = loop_spread p u is u.assigned is.assigned
