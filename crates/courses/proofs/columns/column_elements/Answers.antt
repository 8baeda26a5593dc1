use Rattle.courses.proofs.Shared.{column-keeps, own_of_column}
use Rattle.courses.proofs.columns.column_elements.Goals as goal

pub returns-clause-apart : goal.returns-clause-apart
returns-clause-apart c = column-keeps

pub returns-clause-own : goal.returns-clause-own
returns-clause-own c = own_of_column
