use Rattle.std.proofs.Common.{◌≡◌, drop}
use Rattle.kind_faults.specs.Counts.{intrinsic_count}
use Rattle.fort_names.specs.Leasts.{noted}
use Rattle.fort_tree.specs.declared.fault.Code.TheVariants.{E37}
use Rattle.sound_programs.specs.Faults.{found}
use Rattle.sound_programs.specs.Walks.{reference}
use Rattle.std.specs.Prelude.{flat_map}
use Rattle.unit_steps.specs.Behind.{exprs}
use Rattle.kind_faults.proofs.counts.note_intrinsic_counts.Given as goal

abbrev pub invariant-loop-part : goal.invariant-loop-part
invariant-loop-part l = noted (found E37 (flat_map intrinsic_count (flat_map reference (exprs (drop l.part-index l.parts))))) l.least ≡ noted (found E37 (flat_map intrinsic_count (flat_map reference (exprs l.fn.parts)))) l.fn.least
