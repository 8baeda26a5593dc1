use Rattle.written_programs.specs.Writable.{CanReplace, IsWrittenAs}
use Rattle.written_programs.proofs.UnitByUnit.{by_number}
use Rattle.written_programs.proofs.laws.written_by_number.Goals as goal

pub returns-clause-replaced : goal.returns-clause-replaced
returns-clause-replaced c = by_number CanReplace

pub returns-clause-made : goal.returns-clause-made
returns-clause-made c = by_number IsWrittenAs
