use Rattle.column_scalars.proofs.Source.{source_does}
use Rattle.column_scalars.proofs.Wide.{wide_does}
use Rattle.column_scalars.proofs.Columnwise.{are_columnwise}
use Rattle.column_scalars.proofs.Keeping.{keeps_unit}
use Rattle.column_scalars.proofs.units.keeps_columns_anywhere.Goals as goal

-- src/units.rt
pub returns : goal.returns
returns c u is = keeps_unit u is (source_does u is) (wide_does u is) (are_columnwise u is)
