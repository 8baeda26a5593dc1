use Rattle.written_programs.proofs.PlainUnits.{plain_unit_written}
use Rattle.written_programs.proofs.laws.plain_units_can_be_written.Goals as goal

pub returns : goal.returns
returns c = plain_unit_written
