use Rattle.plain_units.proofs.Building.{one_more, by_number}
use Rattle.plain_units.proofs.laws.translated_unit_by_unit.Goals as goal

-- src/laws.rt
pub returns-clause-last : goal.returns-clause-last
returns-clause-last c = one_more

pub returns-clause-each : goal.returns-clause-each
returns-clause-each c = by_number
