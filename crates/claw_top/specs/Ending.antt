-- What a run promises of its status and of the two sinks.
use Rattle.std.specs.Prelude.{◌≡◌, ℕ, ◌<◌, ◌≤◌, ◌⊎◌, List, length, map, Some, Ok, Err, MatchBool, ◌==◌}
use Rattle.std.specs.declared.option.Option.{Option}
use Rattle.std.specs.declared.result.Result.{Result}
use Rattle.outside.specs.Counts.{Rose}
use Rattle.outside.specs.Files.{Files, file_at, Lacks}
use Rattle.outside.specs.Taken.{Took, TookPrefix}
use Rattle.fort_tree.specs.declared.fault.Fault.{Fault}
use Rattle.claw_words.specs.declared.reading.Command.{Command}
use Rattle.claw_top.specs.Limits.{most_files, most_bytes, total_length}
use Rattle.claw_top.specs.Compile.{Compiles}
use Rattle.claw_top.specs.Cause.{WereRead, Reaches, Exceeds, IsTooMuch}
use Rattle.claw_top.specs.Answer.{Answer, cannot_read, no_memory, too_long, report_of, compiled_answer}

-- The text of an answer was put whole, with its status, or a prefix of it, with a fault of that sink and status 4.
abbrev pub Puts : Answer → ℕ → Option (List ℕ) → Option (List ℕ) → ℕ → ℕ → Type 0
Puts answer status taken_before taken_now before now =
    ((status ≡ answer.0) × Took taken_before taken_now answer.1)
    ⊎ ((status ≡ 4) × Rose before now × TookPrefix taken_before taken_now answer.1)

-- No fault was counted.
abbrev pub Stood : ℕ → ℕ → Type 0
Stood before now = Rose before now → ⊥

-- The named files are there, within the limits, and these are their bytes.
pub record AreThere (files : Files) (names sources : List (List ℕ)) : Type 0 where
  pub few : length names ≤ most_files
  pub small : total_length sources ≤ most_bytes
  pub told : map (file_at files) names ≡ map (λ source. Some source) sources

-- One text was written that the sources compile to, or their first fault was reported.
abbrev pub Headline : Command → List (List ℕ) → List (List ℕ) → ℕ → Option (List ℕ) → Option (List ℕ) → Option (List ℕ) → Option (List ℕ) → Type 0
Headline command names sources status out_before out_now err_before err_now =
    ((text : List ℕ) × Compiles command sources (Ok text) × (status ≡ 0) × Took out_before out_now text × (err_now ≡ err_before))
    ⊎ ((fault : Fault) × Compiles command sources (Err fault) × (status ≡ 1) × Took err_before err_now (report_of fault names) × (out_now ≡ out_before))

-- the answer is one for what the sources of these names compile to
pub record IsCompiled (command : Command) (names sources : List (List ℕ)) (answer : Answer) : Type 0 where
  pub outcome : Result (List ℕ) Fault
  pub compiles : Compiles command sources outcome
  pub is : answer ≡ compiled_answer names outcome

-- The answers for names where files are told, no shelf fails and memory is there: exactly one of the four cases holds. Too many
-- files are named; or a file is lacking, or one with which there are too many bytes, and those before it are there; or all are there.
abbrev pub Answers : Command → Files → List (List ℕ) → Answer → Type 0
Answers command files names answer =
    ((most_files < length names) × (answer ≡ too_long))
    ⊎ ((name : List ℕ) × (sources : List (List ℕ)) × Reaches (Some files) names name sources × Lacks (Some files) name × (answer ≡ cannot_read name))
    ⊎ ((name : List ℕ) × (sources : List (List ℕ)) × Reaches (Some files) names name sources × Exceeds files name sources × (answer ≡ too_long))
    ⊎ ((sources : List (List ℕ)) × AreThere files names sources × IsCompiled command names sources answer)

-- An answer with status 0 was put on `out`, and every other one on `err`; the other sink is as it was.
abbrev pub PutsWhere : {O E : Type 0} → (O → Option (List ℕ)) → (O → ℕ) → O → O → (E → Option (List ℕ)) → (E → ℕ) → E → E → Answer → ℕ → Type 0
PutsWhere out_taken out_faults out_before out_now err_taken err_faults err_before err_now answer status = MatchBool (answer.0 == 0)
    ((err_now ≡ err_before) × Puts answer status (out_taken out_before) (out_taken out_now) (out_faults out_before) (out_faults out_now))
    ((out_now ≡ out_before) × Puts answer status (err_taken err_before) (err_taken err_now) (err_faults err_before) (err_faults err_now))

-- Over told files: the answer is one for them, unless memory was refused or the shelf failed at a file whose forerunners are there.
abbrev pub MayTell : Command → Files → ℕ → ℕ → List (List ℕ) → Answer → Type 0
MayTell command files before now names answer =
    (answer ≡ no_memory)
    ⊎ ((name : List ℕ) × (sources : List (List ℕ)) × Reaches (Some files) names name sources × Rose before now × (answer ≡ cannot_read name))
    ⊎ Answers command files names answer

-- Over every shelf: an answer that may be given, with its cause.
abbrev pub MayAnswer : Command → Option Files → ℕ → ℕ → ℕ → ℕ → List (List ℕ) → Answer → Type 0
MayAnswer command files before now read_before read_now names answer =
    (answer ≡ no_memory)
    ⊎ ((most_files < length names) × (answer ≡ too_long))
    ⊎ ((name : List ℕ) × (sources : List (List ℕ)) × Reaches files names name sources × (Rose before now ⊎ Lacks files name) × (answer ≡ cannot_read name))
    ⊎ ((name : List ℕ) × (sources : List (List ℕ)) × Reaches files names name sources × IsTooMuch files read_before read_now name sources × (answer ≡ too_long))
    ⊎ ((sources : List (List ℕ)) × WereRead files read_before read_now names sources × IsCompiled command names sources answer)
