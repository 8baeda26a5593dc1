use Rattle.std.proofs.Common.{◌≡◌, ◌++◌, drop, map}
use Rattle.std.specs.Prelude.{flat_map}
use Rattle.sound_programs.specs.Placing.{placed_range}
use Rattle.sound_programs.specs.Walks.{in_range}
use Rattle.unit_steps.specs.Behind.{exprs}
use Rattle.unit_steps.proofs.reading.note_ranges.Given as goal

abbrev pub invariant-loop-range : goal.invariant-loop-range
invariant-loop-range l = exprs l.into.items ++ flat_map in_range (map placed_range (drop l.range-index l.ranges)) ≡ exprs l.fn.into.items ++ flat_map in_range (map placed_range l.ranges)
