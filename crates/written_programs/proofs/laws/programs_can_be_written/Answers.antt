use Rattle.written_programs.proofs.UnitByUnit.{replaced_program, written_program, undirected_program}
use Rattle.written_programs.proofs.laws.programs_can_be_written.Goals as goal

pub returns-clause-replaced : goal.returns-clause-replaced
returns-clause-replaced c = replaced_program

pub returns-clause-made : goal.returns-clause-made
returns-clause-made c = written_program c.wide_units_are_printable.ensures.printable

pub returns-clause-undirected : goal.returns-clause-undirected
returns-clause-undirected c = undirected_program c.wide_units_are_printable.ensures.printable
