use Rattle.layout_reading.proofs.SmallProgram.{idle_laid, idle_printable}
use Rattle.layout_reading.proofs.laws.a_printable_program.Goals as goal

pub returns-clause-printable : goal.returns-clause-printable
returns-clause-printable c = idle_printable

pub returns-clause-text : goal.returns-clause-text
returns-clause-text c = idle_laid
