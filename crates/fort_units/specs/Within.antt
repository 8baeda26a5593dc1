-- Forms that nest, and the limit of how deep they do.
use Rattle.std.specs.Prelude.{◌≡◌, ℕ, ◌≤◌, true, false, cond, List, [], ◌∷◌, ⊤, ◌↔◌}
use Rattle.std.specs.List.{All}
use Rattle.fort_tree.specs.declared.choice.Mode.{Mode}
use Rattle.fort_tree.specs.declared.fault.Code.TheVariants.{E70}
use Rattle.fort_tree.specs.declared.fault.Fault.{Fault}
use Rattle.fort_tree.specs.declared.statement.Line.{Line}
use Rattle.fort_tree.specs.declared.unit.File.{File}
use Rattle.claw_lines.specs.Forms.{sentinel_place}
use Rattle.claw_meaning.specs.Plain.{plain_file}
use Rattle.sound_programs.specs.Forms.{Form}
use Rattle.sound_programs.specs.Nesting.{Nests}
use Rattle.fort_units.specs.Depth.{program_depth}
use Rattle.fort_units.specs.Faults.{limit}
use Rattle.fort_units.specs.Passing.{faults}
use Rattle.fort_units.specs.Program.{Judged, IsProgram, mode_of}
use Rattle.fort_units.specs.Shown.{items_of, FilesFrom}

-- no construct and no block is too deep
abbrev pub IsWithin : Mode → File → Type 0
IsWithin mode file = program_depth (plain_file file) ≤ limit mode

-- The forms have no fault of nesting but constructs and blocks that are too deep, and those just where the program is deeper than the limit.
pub record OnlyTooDeep (mode : Mode) (forms : List Form) (file : File) : Type 0 where
  pub too_deep : All (λ (fault : Fault). fault.code ≡ E70) (faults mode (items_of forms))
  pub none : (faults mode (items_of forms) ≡ []) ↔ IsWithin mode file

-- forms that nest, of texts that follow one another
abbrev pub NestingFaultless : Type 0
NestingFaultless = (mode : Mode) (forms : List Form) (file : File) → FilesFrom 0 forms → Nests mode forms file → OnlyTooDeep mode forms file

-- Lines

-- the file of its forms
abbrev pub line_file : Line → ℕ
line_file line = cond line.directive (sentinel_place line).file line.at.file

-- The first line stands in this file or a later one, and none stands in an earlier file than the line before it.
abbrev pub LinesFrom : ℕ → List Line → Type 0
LinesFrom file [] = ⊤
LinesFrom file (line ∷ lines) = (file ≤ line_file line) × LinesFrom (line_file line) lines

-- it is no directive within a continued statement
abbrev pub StandsAlone : Line → Type 0
StandsAlone line = line.directive ≡ true → line.within ≡ false

-- lines without a fault of their own, whose forms nest within the limit, are a program
abbrev pub NestingProgram : Type 0
NestingProgram = (lines : List Line) (judged : Judged lines) (file : File) → LinesFrom 0 lines → All StandsAlone lines → judged.own ≡ [] →
    Nests (mode_of lines) judged.forms file → IsWithin (mode_of lines) file → IsProgram lines file

-- each program of lines is within the limit
abbrev pub ProgramsWithin : Type 0
ProgramsWithin = (lines : List Line) (file : File) → LinesFrom 0 lines → IsProgram lines file → IsWithin (mode_of lines) file
