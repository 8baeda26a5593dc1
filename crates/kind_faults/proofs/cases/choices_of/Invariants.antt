use Rattle.std.proofs.Common.{◌≡◌, ◌++◌, drop, map}
use Rattle.kind_faults.specs.Cases.{choice_of, placed_ranges}
use Rattle.fort_names.specs.Sights.{means}
use Rattle.kind_faults.proofs.cases.choices_of.Given as goal

abbrev pub invariant-loop-range : goal.invariant-loop-range
invariant-loop-range l = l.list.items ++ map (choice_of (means l.sight)) (placed_ranges (drop l.range-index l.ranges)) ≡ map (choice_of (means l.sight)) (placed_ranges l.ranges)
