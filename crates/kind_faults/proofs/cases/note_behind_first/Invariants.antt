use Rattle.std.proofs.Common.{◌≡◌, take}
use Rattle.kind_faults.specs.Cases.{overlapping_choices}
use Rattle.fort_names.specs.Leasts.{noted}
use Rattle.fort_tree.specs.declared.fault.Code.TheVariants.{E32}
use Rattle.sound_programs.specs.Faults.{found}
use Rattle.kind_faults.proofs.cases.note_behind_first.Given as goal

abbrev pub invariant-loop-i : goal.invariant-loop-i
invariant-loop-i l = l.least ≡ noted (found E32 (overlapping_choices (take l.i l.choices))) l.fn.least
