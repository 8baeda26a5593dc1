use Rattle.std.proofs.Common.{◌≡◌, drop}
use Rattle.fort_tree.specs.declared.fault.Code.TheVariants.{E38}
use Rattle.sound_programs.specs.Faults.{found}
use Rattle.fort_names.specs.Leasts.{noted}
use Rattle.argument_faults.specs.Sharing.{shares_of}
use Rattle.argument_faults.proofs.shared.note_shares_of.Given as goal

abbrev pub invariant-loop-other : goal.invariant-loop-other
invariant-loop-other l = noted (found E38 (shares_of l.one (drop l.other-index l.others))) l.least ≡ noted (found E38 (shares_of l.one l.fn.others)) l.fn.least
