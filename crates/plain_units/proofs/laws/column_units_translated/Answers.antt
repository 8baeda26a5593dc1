use Rattle.plain_units.proofs.Naming.{column_translated}
use Rattle.plain_units.proofs.laws.column_units_translated.Goals as goal

-- src/laws.rt
pub returns : goal.returns
returns c = column_translated
