use Rattle.std.proofs.Common.{◌≡◌, drop}
use Rattle.fort_tree.specs.declared.fault.Code.TheVariants.{E38}
use Rattle.sound_programs.specs.Faults.{found}
use Rattle.fort_names.specs.Leasts.{noted}
use Rattle.argument_faults.specs.Sharing.{all_shares}
use Rattle.argument_faults.proofs.shared.note_all_shares.Given as goal

abbrev pub invariant-loop-i : goal.invariant-loop-i
invariant-loop-i l = noted (found E38 (all_shares (drop l.i l.list))) l.least ≡ noted (found E38 (all_shares l.fn.list)) l.fn.least
