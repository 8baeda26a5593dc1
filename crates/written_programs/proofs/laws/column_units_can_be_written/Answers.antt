use Rattle.written_programs.proofs.WideUnits.{scalar_unit_written}
use Rattle.written_programs.proofs.laws.column_units_can_be_written.Goals as goal

pub returns : goal.returns
returns c = scalar_unit_written c.wide_units_are_printable.ensures.printable
