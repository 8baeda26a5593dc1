-- What the types of the run say.
use Rattle.std.specs.Prelude.{ℕ, List, [], Vec, length, map, ◌<◌, Ok, Err, ⊤}
use Rattle.std.specs.declared.alloc.Global.{Global}
use Rattle.std.specs.declared.result.Result.{Result}
use Rattle.outside.specs.Files.{Files}
use Rattle.fort_tree.specs.declared.fault.Fault.{Fault as TreeFault}
use Rattle.fort_tree.specs.Report.{report_of}
use Rattle.fort_spell.specs.Report.{name_at}
use Rattle.fort_spell.specs.Units.{layout_of}
use Rattle.claw_top.specs.Answer.{Answer, usage, cannot_read, no_memory, too_long}
use Rattle.claw_top.specs.declared.compiling.Compiled.{Compiled}
use Rattle.claw_top.specs.declared.compiling.Compiled.TheVariants as made
use Rattle.claw_top.specs.declared.end.End.{End}
use Rattle.claw_top.specs.declared.end.End.TheVariants.{Program, Counts, Fault, Usage, CannotRead, TooLong, NoMemory}

-- the bytes of the sources
abbrev pub bytes_of : List (Vec ℕ Global) → List (List ℕ)
bytes_of sources = map (λ source. source.items) sources

-- the text of the program or of the counts, or the first fault
abbrev pub outcome_of : Compiled → Result (List ℕ) TreeFault
outcome_of (made.Program file) = Ok (layout_of file)
outcome_of (made.Counts text) = Ok text.items
outcome_of (made.Fault fault) = Err fault

-- the names as a list of files, without their bytes
abbrev pub listed_of : List (List ℕ) → Files
listed_of names = map (λ name. (name, [])) names

-- A fault is in one of so many files.
abbrev pub IsInFiles : ℕ → Result (List ℕ) TreeFault → Type 0
IsInFiles count (Ok text) = ⊤
IsInFiles count (Err fault) = fault.place.file < count

-- The file of a fault is listed.
abbrev pub IsListed : End → Type 0
IsListed (Program file) = ⊤
IsListed (Counts text) = ⊤
IsListed (Fault fault files) = fault.place.file < length files
IsListed Usage = ⊤
IsListed (CannotRead name) = ⊤
IsListed TooLong = ⊤
IsListed NoMemory = ⊤

-- the status of an end, and its text
abbrev pub answer_of : End → Answer
answer_of (Program file) = (0, layout_of file)
answer_of (Counts text) = (0, text.items)
answer_of (Fault fault files) = (1, report_of fault (name_at files fault.place.file))
answer_of Usage = usage
answer_of (CannotRead name) = cannot_read name.now
answer_of TooLong = too_long
answer_of NoMemory = no_memory
