-- Lines, faults and programs that stand in the files that are read, which have the numbers from 0 on.
use Rattle.std.specs.Prelude.{ℕ, ◌<◌, List, IfSome}
use Rattle.std.specs.List.{All}
use Rattle.fort_tree.specs.declared.fault.Fault.{Fault}
use Rattle.fort_tree.specs.declared.place.Place.{Place}
use Rattle.fort_tree.specs.declared.statement.Line.{Line}
use Rattle.fort_tree.specs.declared.statement.Token.{Token}
use Rattle.fort_tree.specs.declared.unit.File.{File}
use Rattle.sound_programs.specs.Placing.{placed}
use Rattle.sound_programs.specs.Within.{AllPlaces}
use Rattle.fort_units.specs.Program.{HasFirst, IsProgram}

-- the place is in one of so many files
abbrev pub InFiles : ℕ → Place → Type 0
InFiles count at = at.file < count

-- all places of the line are
pub record LineInFiles (count : ℕ) (line : Line) : Type 0 where
  pub at : InFiles count line.at
  pub tokens : All (λ (token : Token). InFiles count token.at) line.tokens
  pub unfinished : IfSome line.unfinished (InFiles count)

-- where all lines are in so many files, their first fault is
abbrev pub FirstFaultInFiles : Type 0
FirstFaultInFiles = (count : ℕ) (lines : List Line) (fault : Fault) → All (LineInFiles count) lines → HasFirst lines fault → InFiles count fault.place

-- where all lines are in so many files, all places of their program are
abbrev pub ProgramInFiles : Type 0
ProgramInFiles = (count : ℕ) (lines : List Line) (file : File) → All (LineInFiles count) lines → IsProgram lines file → AllPlaces (InFiles count) (placed file)
