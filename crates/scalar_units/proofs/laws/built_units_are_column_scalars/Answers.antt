use Rattle.scalar_units.proofs.Built.{built_unit}
use Rattle.scalar_units.proofs.laws.built_units_are_column_scalars.Goals as goal

-- src/laws.rt
pub returns : goal.returns
returns c = built_unit
