use Rattle.std.proofs.Common.{◌≡◌, ◌++◌, drop, map}
use Rattle.kind_faults.specs.Cases.{placed_ranges}
use Rattle.sound_programs.specs.Placing.{placed_range}
use Rattle.kind_faults.proofs.cases.note_ranges.Given as goal

abbrev pub invariant-loop-range : goal.invariant-loop-range
invariant-loop-range l = placed_ranges l.into.items ++ map placed_range (drop l.range-index l.ranges) ≡ placed_ranges l.fn.into.items ++ map placed_range l.ranges
