use Rattle.std.proofs.Common.{◌≡◌, drop}
use Rattle.kind_faults.specs.Cases.{overlapped_by}
use Rattle.fort_names.specs.Leasts.{noted}
use Rattle.fort_tree.specs.declared.fault.Code.TheVariants.{E32}
use Rattle.sound_programs.specs.Faults.{found}
use Rattle.kind_faults.proofs.cases.note_overlapped.Given as goal

abbrev pub invariant-loop-other : goal.invariant-loop-other
invariant-loop-other l = noted (found E32 (overlapped_by (drop l.other-index l.before) l.one)) l.least ≡ noted (found E32 (overlapped_by l.fn.before l.one)) l.fn.least
