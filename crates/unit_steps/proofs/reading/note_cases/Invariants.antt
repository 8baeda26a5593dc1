use Rattle.std.proofs.Common.{◌≡◌, ◌++◌, drop}
use Rattle.std.specs.Prelude.{flat_map}
use Rattle.sound_programs.specs.Walks.{in_range, ranges_of}
use Rattle.unit_steps.specs.Acts.{cases_placed}
use Rattle.unit_steps.specs.Behind.{exprs}
use Rattle.unit_steps.proofs.reading.note_cases.Given as goal

abbrev pub invariant-loop-case : goal.invariant-loop-case
invariant-loop-case l = exprs l.into.items ++ flat_map in_range (ranges_of (cases_placed (drop l.case-index l.cases))) ≡ exprs l.fn.into.items ++ flat_map in_range (ranges_of (cases_placed l.cases))
