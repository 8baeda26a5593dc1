use Rattle.std.proofs.Common.{◌≡◌}
use Rattle.std.specs.Prelude.{flat_map}
use Rattle.sound_programs.specs.Walks.{parts}
use Rattle.unit_steps.specs.Behind.{exprs}
use Rattle.name_faults.proofs.loops.parts_of_bounds.Given as goal

abbrev pub invariant-loop-bound : goal.invariant-loop-bound
invariant-loop-bound l = exprs l.list.items ≡ flat_map parts (exprs l.yielded)
