use Rattle.std.proofs.Common.{◌≡◌, ◌++◌, drop}
use Rattle.kind_faults.specs.Cases.{placed_ranges}
use Rattle.sound_programs.specs.Walks.{ranges_of}
use Rattle.unit_steps.specs.Acts.{cases_placed}
use Rattle.kind_faults.proofs.cases.ranges_of.Given as goal

abbrev pub invariant-loop-case : goal.invariant-loop-case
invariant-loop-case l = placed_ranges l.list.items ++ ranges_of (cases_placed (drop l.case-index l.cases)) ≡ ranges_of (cases_placed l.cases)
