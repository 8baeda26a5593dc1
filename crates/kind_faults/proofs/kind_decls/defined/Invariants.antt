use Rattle.std.proofs.Common.{◌≡◌, ◌++◌, drop, map}
use Rattle.sound_programs.specs.KindFaults.{defined_bounds}
use Rattle.sound_programs.specs.Placing.{placed_directive}
use Rattle.unit_steps.specs.Behind.{exprs}
use Rattle.kind_faults.proofs.kind_decls.defined.Given as goal

abbrev pub invariant-loop-mark : goal.invariant-loop-mark
invariant-loop-mark l = exprs l.list.items ++ defined_bounds (map placed_directive (drop l.mark-index l.marks)) ≡ defined_bounds (map placed_directive l.marks)
