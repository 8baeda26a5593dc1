-- The logical lines of the sources, and their first text fault. The files of a request are numbered from 0.
use Rattle.std.specs.Prelude.{ℕ, ◌≡◌, ◌+◌, ◌<◌, ◌⊎◌, List, [], ◌∷◌, ◌++◌, length, map, ⊤, cond}
use Rattle.std.specs.List.{All}
use Rattle.fort_tree.specs.declared.choice.Mode.TheVariants.{Source}
use Rattle.fort_tree.specs.declared.fault.Fault.{Fault}
use Rattle.fort_tree.specs.declared.fault.Stop.{Stop}
use Rattle.fort_tree.specs.declared.fault.Stop.TheVariants.{Fault as Fails, NoMemory}
use Rattle.fort_tree.specs.declared.statement.Line.{Line}
use Rattle.fort_tree.specs.declared.place.Place.{Place}
use Rattle.fort_lex.specs.Lines as lex
use Rattle.fort_units.specs.Places.{LineInFiles}
use Rattle.fort_units.specs.Program.{HasFirst}
use Rattle.scalar_units.specs.Unbuilt.{is_earlier}
use Rattle.claw_top.specs.Judged.{HasProgramFault}

-- no text fault is in the source of this number, and these are its lines
abbrev pub HasLines : ℕ → List ℕ → List Line → Type 0
HasLines file source lines = lex.AreLines file Source source (map lex.written lines)

-- no text fault is in the sources, of which the first has this number, and these are their lines, one source after the other
abbrev pub HaveLinesFrom : ℕ → List (List ℕ) → List Line → Type 0
HaveLinesFrom file [] lines = lines ≡ []
HaveLinesFrom file (source ∷ sources) lines =
    (first : List Line) × (others : List Line) × (lines ≡ first ++ others) × HasLines file source first × HaveLinesFrom (file + 1) sources others

abbrev pub HaveLines : List (List ℕ) → List Line → Type 0
HaveLines sources lines = HaveLinesFrom 0 sources lines

-- the fault is the first text fault of the source of this number
abbrev pub HasTextFault : ℕ → List ℕ → Fault → Type 0
HasTextFault file source fault = lex.IsFirstTextFault file Source source fault

-- the fault is the first text fault of the first source that has one
pub record HaveTextFault (sources : List (List ℕ)) (fault : Fault) : Type 0 where
  pub before : List (List ℕ)
  pub source : List ℕ
  pub behind : List (List ℕ)
  pub place : sources ≡ before ++ source ∷ behind
  pub lines : List Line
  pub clean : HaveLines before lines
  pub has : HasTextFault (length before) source fault

-- why the lines of sources are not given: their first text fault, which is in one of them, or refused memory
abbrev pub HaveTextStop : List (List ℕ) → Stop → Type 0
HaveTextStop sources (Fails fault) = HaveTextFault sources fault × (fault.place.file < length sources)
HaveTextStop sources NoMemory = ⊤

-- all places of the lines are in the first of the files, so many
abbrev pub AreBefore : ℕ → List Line → Type 0
AreBefore count lines = All (LineInFiles count) lines

-- why the program of lines is not given: their first fault of syntax, or else that of its names, calls and kinds, which is in one of the files; or refused memory
abbrev pub HaveProgramStop : ℕ → List Line → Stop → Type 0
HaveProgramStop count lines (Fails fault) = (HasFirst lines fault ⊎ HasProgramFault lines fault) × (fault.place.file < count)
HaveProgramStop count lines NoMemory = ⊤

-- The place where the line begins in which this place stands: the last of the lines that begin no later, or else the first.
abbrev pub begins_after : Place → Place → List Line → Place
begins_after at begin [] = begin
begins_after at begin (line ∷ lines) = cond (is_earlier at line.at) begin (begins_after at line.at lines)

abbrev pub begins_at : Place → List Line → Place
begins_at at [] = at
begins_at at (line ∷ lines) = begins_after at line.at lines
