use Rattle.std.proofs.Common.{◌≡◌, drop}
use Rattle.fort_tree.specs.declared.fault.Code.TheVariants.{E31}
use Rattle.sound_programs.specs.Faults.{found}
use Rattle.fort_names.specs.Leasts.{noted}
use Rattle.fort_names.specs.Using.{names_twice}
use Rattle.fort_names.proofs.double_uses.note_names_twice.Given as goal

abbrev pub invariant-loop-named : goal.invariant-loop-named
invariant-loop-named l = noted (found E31 (names_twice l.shared l.contested l.lines (drop l.named-index l.only))) l.least ≡ noted (found E31 (names_twice l.shared l.contested l.lines l.fn.only)) l.fn.least
