use Rattle.std.proofs.Common.{◌≡◌, drop}
use Rattle.fort_tree.specs.declared.fault.Code.TheVariants.{E31}
use Rattle.sound_programs.specs.Faults.{found}
use Rattle.fort_names.specs.Leasts.{noted}
use Rattle.fort_names.specs.Using.{used_all}
use Rattle.fort_names.proofs.used_names.note_used_all.Given as goal

abbrev pub invariant-loop-one : goal.invariant-loop-one
invariant-loop-one l = noted (found E31 (used_all l.shared l.line (drop l.one-index l.declared))) l.least ≡ noted (found E31 (used_all l.shared l.line l.fn.declared)) l.fn.least
