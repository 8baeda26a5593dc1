use Rattle.fort_units.proofs.AllNest.{nesting_program, programs_within}
use Rattle.fort_units.proofs.laws.lines_that_nest_are_a_program.Goals as goal

pub returns-clause-program : goal.returns-clause-program
returns-clause-program c = nesting_program

pub returns-clause-within : goal.returns-clause-within
returns-clause-within c = programs_within
