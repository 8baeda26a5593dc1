use Rattle.std.proofs.Common.{◌≡◌, ◌++◌, drop, map}
use Rattle.std.specs.Prelude.{flat_map}
use Rattle.sound_programs.specs.Placing.{placed_bound}
use Rattle.sound_programs.specs.Walks.{bounds_of}
use Rattle.unit_steps.specs.Behind.{exprs}
use Rattle.unit_steps.proofs.expressions.note_shape.Given as goal

abbrev pub invariant-loop-bound : goal.invariant-loop-bound
invariant-loop-bound l = exprs l.into.items ++ flat_map bounds_of (map placed_bound (drop l.bound-index l.shape)) ≡ exprs l.fn.into.items ++ flat_map bounds_of (map placed_bound l.shape)
