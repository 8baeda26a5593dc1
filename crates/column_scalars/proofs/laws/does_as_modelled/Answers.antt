use Rattle.column_scalars.proofs.Source.{source_does}
use Rattle.column_scalars.proofs.Wide.{wide_does}
use Rattle.column_scalars.proofs.Columnwise.{are_columnwise}
use Rattle.column_scalars.proofs.laws.does_as_modelled.Goals as goal

-- src/laws.rt
pub returns-clause-source : goal.returns-clause-source
returns-clause-source c = source_does

pub returns-clause-wide : goal.returns-clause-wide
returns-clause-wide c = wide_does

pub returns-clause-columns : goal.returns-clause-columns
returns-clause-columns c = are_columnwise
