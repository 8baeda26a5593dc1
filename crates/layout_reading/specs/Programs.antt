-- Programs that can be written, and what their texts are read as.
use Rattle.std.specs.Prelude.{ℕ, ◌≡◌, List, map}
use Rattle.fort_tree.specs.declared.choice.Mode.TheVariants.{Target}
use Rattle.fort_tree.specs.declared.unit.File.{File}
use Rattle.fort_tree.specs.declared.statement.Line.{Line}
use Rattle.fort_lex.specs.Lines.{written as seen, AreLines}
use Rattle.claw_meaning.specs.Plain.{plain_file}
use Rattle.sound_programs.specs.Forms.{Form}
use Rattle.sound_programs.specs.Nesting.{Nests}
use Rattle.layout_reading.specs.FormLines.{TokenLine, HaveForms}

-- Lines of tokens have forms that nest into the file as a target text, places set aside, however they were written.
pub record IsPrintableFile (file : File) : Type 0 where
  pub lines : List TokenLine
  pub forms : List Form
  pub written : File
  pub have : HaveForms lines forms
  pub nest : Nests Target forms written
  pub same : plain_file written ≡ plain_file file

-- The lines have forms that nest into the file, places set aside.
pub record AreFile (lines : List TokenLine) (file : File) : Type 0 where
  pub forms : List Form
  pub read : File
  pub have : HaveForms lines forms
  pub nest : Nests Target forms read
  pub same : plain_file read ≡ plain_file file

-- a logical line's tokens
abbrev pub token_line : Line → TokenLine
token_line l = record { directive = l.directive; tokens = l.tokens }

-- Text number `number` has no fault, and its lines are the file's, places set aside.
pub record Spells (number : ℕ) (text : List ℕ) (file : File) : Type 0 where
  pub lines : List Line
  pub are_lines : AreLines number Target text (map seen lines)
  pub are_file : AreFile (map token_line lines) file
