use Rattle.std.proofs.Common.{◌≡◌, drop}
use Rattle.fort_tree.specs.declared.fault.Code.TheVariants.{E31}
use Rattle.sound_programs.specs.Faults.{found}
use Rattle.fort_names.specs.Leasts.{noted}
use Rattle.fort_names.specs.Using.{only_twice}
use Rattle.fort_names.proofs.double_uses.note_only_twice.Given as goal

abbrev pub invariant-loop-line : goal.invariant-loop-line
invariant-loop-line l = noted (found E31 (only_twice l.shared l.contested l.fn.lines (drop l.line-index l.lines))) l.least ≡ noted (found E31 (only_twice l.shared l.contested l.fn.lines l.fn.lines)) l.fn.least
