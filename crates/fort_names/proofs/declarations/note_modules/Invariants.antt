use Rattle.std.proofs.Common.{◌≡◌, drop}
use Rattle.fort_tree.specs.declared.fault.Code.TheVariants.{E31}
use Rattle.sound_programs.specs.Faults.{found}
use Rattle.fort_names.specs.Leasts.{noted}
use Rattle.fort_names.specs.Declaring.{modules_twice}
use Rattle.fort_names.proofs.declarations.note_modules.Given as goal

abbrev pub invariant-loop-number : goal.invariant-loop-number
invariant-loop-number l = noted (found E31 (modules_twice l.shared l.contested (drop l.number l.lists) (drop l.number l.modules))) l.least ≡ noted (found E31 (modules_twice l.shared l.contested l.fn.lists l.fn.modules)) l.fn.least
