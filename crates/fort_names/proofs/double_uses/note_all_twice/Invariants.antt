use Rattle.std.proofs.Common.{◌≡◌, drop}
use Rattle.fort_tree.specs.declared.fault.Code.TheVariants.{E31}
use Rattle.sound_programs.specs.Faults.{found}
use Rattle.fort_names.specs.Leasts.{noted}
use Rattle.fort_names.specs.Using.{all_twice}
use Rattle.fort_names.proofs.double_uses.note_all_twice.Given as goal

abbrev pub invariant-loop-name : goal.invariant-loop-name
invariant-loop-name l = noted (found E31 (all_twice l.shared (drop l.name-index l.contested) l.lines)) l.least ≡ noted (found E31 (all_twice l.shared l.fn.contested l.lines)) l.fn.least
