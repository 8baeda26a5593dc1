use Rattle.std.proofs.Common.{◌≡◌, drop}
use Rattle.fort_tree.specs.declared.fault.Code.TheVariants.{E31}
use Rattle.sound_programs.specs.Faults.{found}
use Rattle.fort_names.specs.Leasts.{noted, clashes_of}
use Rattle.fort_names.proofs.clashes.note_clashes_of.Given as goal

abbrev pub invariant-loop-other : goal.invariant-loop-other
invariant-loop-other l = noted (found E31 (clashes_of l.one (drop l.other-index l.others))) l.least ≡ noted (found E31 (clashes_of l.one l.fn.others)) l.fn.least
