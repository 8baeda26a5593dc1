-- Why a run ends as it does. A shelf is seen by what it tells of its files and by its two counts.
use Rattle.std.specs.Prelude.{◌≡◌, ℕ, ◌+◌, ◌-◌, ◌^◌, ◌<◌, ◌≤◌, ◌⊎◌, List, ◌∷◌, ◌++◌, length, map, min, Some, None, Ok, Err, IfSome, IsSomeAnd, ⊤}
use Rattle.std.specs.declared.option.Option.{Option}
use Rattle.outside.specs.Counts.{Rose, RoseBy}
use Rattle.outside.specs.Files.{Files, file_at, Lacks}
use Rattle.fort_spell.specs.Units.{layout_of}
use Rattle.claw_words.specs.declared.reading.Command.{Command}
use Rattle.claw_top.specs.Limits.{most_files, most_bytes, total_length}
use Rattle.claw_top.specs.Compile.{Compiles}
use Rattle.claw_top.specs.Outcome.{listed_of}
use Rattle.claw_top.specs.declared.end.End.{End}
use Rattle.claw_top.specs.declared.end.End.TheVariants.{Program, Counts, Fault, Usage, CannotRead, TooLong, NoMemory}

-- These are the bytes of the named files, one after another, where the files are told.
abbrev pub AreTold : Option Files → List (List ℕ) → List (List ℕ) → Type 0
AreTold files names sources = IfSome files (λ fs. map (file_at fs) names ≡ map (λ source. Some source) sources)

-- The named files were read whole, and these are their bytes.
pub record WereRead (files : Option Files) (read_before read_now : ℕ) (names sources : List (List ℕ)) : Type 0 where
  pub few : length names ≤ most_files
  pub small : total_length sources ≤ most_bytes
  pub each : length sources ≡ length names
  pub told : AreTold files names sources
  pub counted : min read_now (2 ^ 64 - 1) ≡ min (read_before + total_length sources) (2 ^ 64 - 1)

-- The loads came to this file: those before it were read whole, and these are their bytes.
pub record Reaches (files : Option Files) (names : List (List ℕ)) (name : List ℕ) (sources : List (List ℕ)) : Type 0 where
  pub few : length names ≤ most_files
  pub before : List (List ℕ)
  pub after : List (List ℕ)
  pub place : names ≡ before ++ name ∷ after
  pub small : total_length sources ≤ most_bytes
  pub each : length sources ≡ length before
  pub told : AreTold files before sources

-- With the told file of this name the bytes are more than the sources may have.
abbrev pub Exceeds : Files → List ℕ → List (List ℕ) → Type 0
Exceeds files name sources = IsSomeAnd (file_at files name) (λ text. most_bytes < total_length sources + length text)

-- With the file of this name the bytes are more than the sources may have. Where files are not told, so many were read.
abbrev pub IsTooMuch : Option Files → ℕ → ℕ → List ℕ → List (List ℕ) → Type 0
IsTooMuch None read_before read_now name sources = RoseBy (most_bytes + 1) read_before read_now
IsTooMuch (Some files) read_before read_now name sources = Exceeds files name sources

-- An end has its cause.
abbrev pub HasCause : Command → Option Files → ℕ → ℕ → ℕ → ℕ → List (List ℕ) → End → Type 0
HasCause command files before now read_before read_now names (Program file) =
    (sources : List (List ℕ)) × WereRead files read_before read_now names sources × Compiles command sources (Ok (layout_of file))
HasCause command files before now read_before read_now names (Counts text) =
    (sources : List (List ℕ)) × WereRead files read_before read_now names sources × Compiles command sources (Ok text.items)
HasCause command files before now read_before read_now names (Fault fault listed) =
    (sources : List (List ℕ)) × WereRead files read_before read_now names sources × Compiles command sources (Err fault)
    × (fault.place.file < length names) × (listed ≡ listed_of names)
HasCause command files before now read_before read_now names Usage = ⊥
HasCause command files before now read_before read_now names (CannotRead file) =
    (sources : List (List ℕ)) × Reaches files names file.now sources × (Rose before now ⊎ Lacks files file.now)
HasCause command files before now read_before read_now names TooLong = (most_files < length names)
    ⊎ ((name : List ℕ) × (sources : List (List ℕ)) × Reaches files names name sources × IsTooMuch files read_before read_now name sources)
HasCause command files before now read_before read_now names NoMemory = ⊤
