use Rattle.column_scalars.proofs.Source.{source_does}
use Rattle.column_scalars.proofs.Wide.{wide_does}
use Rattle.column_scalars.proofs.Columnwise.{are_columnwise}
use Rattle.column_scalars.proofs.Keeping.{keeps_columns_from}
use Rattle.column_scalars.proofs.laws.keeps_columns.Goals as goal

-- src/laws.rt
pub returns : goal.returns
returns c u is plan = keeps_columns_from u is (source_does u is) (wide_does u is) (are_columnwise u is) plan
