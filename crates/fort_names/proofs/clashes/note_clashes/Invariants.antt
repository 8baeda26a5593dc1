use Rattle.std.proofs.Common.{◌≡◌, drop}
use Rattle.fort_tree.specs.declared.fault.Code.TheVariants.{E31}
use Rattle.sound_programs.specs.Faults.{found}
use Rattle.sound_programs.specs.DeclarationFaults.{clashes}
use Rattle.fort_names.specs.Leasts.{noted}
use Rattle.fort_names.proofs.clashes.note_clashes.Given as goal

abbrev pub invariant-loop-one : goal.invariant-loop-one
invariant-loop-one l = noted (found E31 (clashes (drop l.one-index l.named) l.others)) l.least ≡ noted (found E31 (clashes l.fn.named l.others)) l.fn.least
