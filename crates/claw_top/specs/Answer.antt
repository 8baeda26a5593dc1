-- The answers of a run: a status, and the text that goes with it.
use Rattle.std.specs.Prelude.{ℕ, List, [], ◌++◌, Ok, Err, codes, slice_get, unwrap_or}
use Rattle.std.specs.declared.result.Result.{Result}
use Rattle.fort_tree.specs.declared.fault.Fault.{Fault}
use Rattle.fort_tree.specs.Report.{report_of as line_of}

abbrev pub Answer : Type 0
Answer = ℕ × List ℕ

-- the words are no request
abbrev pub usage : Answer
usage = (2, codes "usage: claw translate, check, run, run-target or gen\n")

-- the named file cannot be read
abbrev pub cannot_read : List ℕ → Answer
cannot_read name = (3, codes "cannot read " ++ (name ++ codes "\n"))

-- memory was refused
abbrev pub no_memory : Answer
no_memory = (6, codes "no memory\n")

-- too many files are named, or they have more bytes than the sources may have
abbrev pub too_long : Answer
too_long = (9, codes "too long\n")

-- the report of a fault in one of the named files
abbrev pub report_of : Fault → List (List ℕ) → List ℕ
report_of fault names = line_of fault (unwrap_or (slice_get names fault.place.file) [])

-- the answer for what is made of the named files
abbrev pub compiled_answer : List (List ℕ) → Result (List ℕ) Fault → Answer
compiled_answer names (Ok text) = (0, text)
compiled_answer names (Err fault) = (1, report_of fault names)
