-- Programs whose text is read as a program.
use Rattle.std.specs.Prelude.{ℕ, ◌≡◌, ◌≤◌, false, length, map, List}
use Rattle.std.specs.List.{All}
use Rattle.fort_tree.specs.declared.choice.Mode.TheVariants.{Target}
use Rattle.fort_tree.specs.declared.statement.Line.{Line}
use Rattle.fort_tree.specs.declared.statement.Token.{Token}
use Rattle.fort_tree.specs.declared.unit.File.{File}
use Rattle.fort_expr.specs.Faults.{token_limit}
use Rattle.fort_lex.specs.Lines.{written as seen, AreLines}
use Rattle.fort_stmt.specs.Faults.{Inside}
use Rattle.fort_stmt.specs.Limits.{TooDeepAt}
use Rattle.fort_spell.specs.Rows.{Row}
use Rattle.fort_spell.specs.Units.{file_rows}
use Rattle.fort_units.specs.Program.{IsProgram}
use Rattle.fort_units.specs.Within.{IsWithin}
use Rattle.claw_meaning.specs.Plain.{plain_file}
use Rattle.layout_reading.specs.Programs.{IsPrintableFile}
use Rattle.layout_reading.specs.Shown.{is_mark}
use Rattle.layout_reading.specs.Tokens.{texts, piece_texts}

-- A statement's row is within the limits of a target text, and of the profile: it has no more tokens than the limit, and wherever its tokens stand, none of them is too
-- deep and none is a word of Fortran that this project doesn't take.
pub record IsTaken (row : Row) : Type 0 where
  pub few : length row.pieces ≤ token_limit Target
  pub shallow : (tokens : List Token) (i : ℕ) → texts tokens ≡ piece_texts row.pieces → TooDeepAt Target tokens i → ⊥
  pub inside : (tokens : List Token) → texts tokens ≡ piece_texts row.pieces → Inside Target tokens (length tokens)

-- it is a mark's, or is taken
abbrev pub IsTakenRow : Row → Type 0
IsTakenRow row = is_mark row.margin.sentinel ≡ false → IsTaken row

-- The file can be written, and its text is within the limits of a target text: each statement's row, and how deep constructs stand in one another.
pub record IsWholeFile (file : File) : Type 0 where
  pub printable : IsPrintableFile file
  pub taken : All IsTakenRow (file_rows file)
  pub within : IsWithin Target file

-- the lines are read as a program that is the file, places set aside
pub record AreReadAs (lines : List Line) (file : File) : Type 0 where
  pub read : File
  pub program : IsProgram lines read
  pub same : plain_file read ≡ plain_file file

-- Text number `number` has no fault, and its lines are read as the file, places set aside.
pub record IsReadAs (number : ℕ) (text : List ℕ) (file : File) : Type 0 where
  pub lines : List Line
  pub are_lines : AreLines number Target text (map seen lines)
  pub are_read : AreReadAs lines file
