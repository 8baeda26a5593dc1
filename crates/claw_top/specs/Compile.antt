-- What is made of the sources: a text that is a translation of them, or how many units they have; or their first fault.
use Rattle.std.specs.Prelude.{◌≡◌, ◌⊎◌, ℕ, ◌++◌, List, Ok, Err, None, length, count_by, decimal, codes}
use Rattle.std.specs.declared.result.Result.{Result}
use Rattle.fort_tree.specs.declared.choice.Mode.TheVariants.{Source}
use Rattle.fort_tree.specs.declared.fault.Code.TheVariants.{E20}
use Rattle.fort_tree.specs.declared.fault.Fault.{Fault}
use Rattle.fort_tree.specs.declared.place.Place.{Place}
use Rattle.fort_tree.specs.declared.statement.Line.{Line}
use Rattle.fort_tree.specs.declared.unit.File.{File}
use Rattle.fort_units.specs.Program.{IsProgram, HasFirst}
use Rattle.scalar_units.specs.Unbuilt.{IsFirst}
use Rattle.sound_programs.specs.Sound.{Sound}
use Rattle.translated_programs.specs.NotBuilt.{is_column}
use Rattle.claw_words.specs.declared.reading.Command.{Command}
use Rattle.claw_words.specs.declared.reading.Command.TheVariants.{Translate, Check}
use Rattle.claw_top.specs.Judged.{HasProgramFault}
use Rattle.claw_top.specs.KeptBack.{kept_back}
use Rattle.claw_top.specs.Sources.{HaveLines, HaveTextFault, begins_at}
use Rattle.claw_top.specs.Translation.{Translation}

-- what stands at the place is not in the profile, since it is not yet built
abbrev pub not_built : Place → Fault
not_built place = record { code = E20; place = place; item = 13; first = None; second = None }

-- no source has a text fault, and this is the first fault of syntax of their lines
pub record HaveSyntaxFault (sources : List (List ℕ)) (fault : Fault) : Type 0 where
  pub lines : List Line
  pub are : HaveLines sources lines
  pub first : HasFirst lines fault

-- the sources spell a program, and this is the first fault of its names, calls and kinds
pub record HaveProgramFault (sources : List (List ℕ)) (fault : Fault) : Type 0 where
  pub lines : List Line
  pub are : HaveLines sources lines
  pub has : HasProgramFault lines fault

-- The sources spell a sound program which is not yet translated. The fault stands at the first token of the line that has
-- the first place which keeps it from being translated.
pub record IsNotBuilt (sources : List (List ℕ)) (fault : Fault) : Type 0 where
  pub lines : List Line
  pub are : HaveLines sources lines
  pub file : File
  pub spelled : IsProgram lines file
  pub sound : Sound Source file
  pub place : Place
  pub first : IsFirst place (kept_back file)
  pub is : fault ≡ not_built (begins_at place lines)

-- `units U column units C`: the numbers of all units and of the column units
abbrev pub counts_text : File → List ℕ
counts_text file =
    codes "units " ++ (decimal (length file.units) ++ (codes " column units " ++ (decimal (count_by is_column file.units) ++ codes "\n")))

-- the sources spell a sound program, and the text says how many units it has
pub record AreCounted (sources : List (List ℕ)) (text : List ℕ) : Type 0 where
  pub lines : List Line
  pub are : HaveLines sources lines
  pub file : File
  pub spelled : IsProgram lines file
  pub sound : Sound Source file
  pub says : text ≡ counts_text file

-- a translation of the sources, or their first fault
abbrev pub IsTranslation : List (List ℕ) → Result (List ℕ) Fault → Type 0
IsTranslation sources (Ok text) = Translation sources text
IsTranslation sources (Err fault) = HaveTextFault sources fault ⊎ HaveSyntaxFault sources fault ⊎ HaveProgramFault sources fault ⊎ IsNotBuilt sources fault

-- the number of the sources' units, or their first fault
abbrev pub IsCount : List (List ℕ) → Result (List ℕ) Fault → Type 0
IsCount sources (Ok text) = AreCounted sources text
IsCount sources (Err fault) = HaveTextFault sources fault ⊎ HaveSyntaxFault sources fault ⊎ HaveProgramFault sources fault

-- Faults of the text come before all others: each phase runs over all files before the next begins.
abbrev pub Compiles : Command → List (List ℕ) → Result (List ℕ) Fault → Type 0
Compiles (Translate target directives) sources outcome = IsTranslation sources outcome
Compiles Check sources outcome = IsCount sources outcome
