use Rattle.plain_units.proofs.Marked.{column_is}
use Rattle.plain_units.proofs.columns.is_column_unit.Goals as goal

-- src/columns.rt
pub returns : goal.returns
returns c = column_is c.args.unit.now c.has_both.result c.has_both.ensures
