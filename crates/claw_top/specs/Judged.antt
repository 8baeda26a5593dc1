-- Faults of the names, calls and kinds of a program.
use Rattle.std.specs.Prelude.{◌≡◌, List, ⊤}
use Rattle.fort_tree.specs.declared.choice.Mode.TheVariants.{Source}
use Rattle.fort_tree.specs.declared.fault.Fault.{Fault}
use Rattle.fort_tree.specs.declared.fault.Stop.{Stop}
use Rattle.fort_tree.specs.declared.fault.Stop.TheVariants.{Fault as Fails, NoMemory}
use Rattle.fort_tree.specs.declared.statement.Line.{Line}
use Rattle.fort_tree.specs.declared.unit.File.{File}
use Rattle.sound_programs.specs.Faults.{Found, FirstFault}
use Rattle.sound_programs.specs.Reported.{fault_of}
use Rattle.fort_units.specs.Program.{IsProgram}

-- the lines are those of a program, and this is the first fault of its names, calls and kinds
pub record HasProgramFault (lines : List Line) (fault : Fault) : Type 0 where
  pub file : File
  pub spelled : IsProgram lines file
  pub found : Found
  pub first : FirstFault Source file found
  pub is : fault ≡ fault_of found

-- why a program isn't sound: its first fault of names, calls and kinds, or refused memory
abbrev pub HasJudgedStop : File → Stop → Type 0
HasJudgedStop program (Fails fault) = (found : Found) × FirstFault Source program found × (fault ≡ fault_of found)
HasJudgedStop program NoMemory = ⊤
