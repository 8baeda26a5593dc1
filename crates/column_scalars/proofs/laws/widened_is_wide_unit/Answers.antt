use Rattle.column_scalars.proofs.WideUnits.{widened_is}
use Rattle.column_scalars.proofs.laws.widened_is_wide_unit.Goals as goal

-- src/laws.rt
pub returns : goal.returns
returns c = widened_is
