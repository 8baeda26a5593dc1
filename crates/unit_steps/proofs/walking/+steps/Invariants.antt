use Rattle.std.proofs.Common.{◌≡◌, ◌++◌, drop}
use Rattle.sound_programs.specs.Placing.{placed_stmts}
use Rattle.unit_steps.specs.Acts.{acts_in, acts_in_arms, acts_in_cases, arms_placed, cases_placed}
use Rattle.unit_steps.specs.Behind.{placed_steps}
use Rattle.unit_steps.proofs.walking.«+steps».Given as goal

abbrev pub invariant-note_body-loop-stmt : goal.invariant-note_body-loop-stmt
invariant-note_body-loop-stmt l = placed_steps l.into.items ++ acts_in (placed_stmts (drop l.stmt-index l.body)) ≡ placed_steps l.fn.into.items ++ acts_in (placed_stmts l.body)

abbrev pub invariant-note_arms-loop-arm : goal.invariant-note_arms-loop-arm
invariant-note_arms-loop-arm l = placed_steps l.into.items ++ acts_in_arms (arms_placed (drop l.arm-index l.arms)) ≡ placed_steps l.fn.into.items ++ acts_in_arms (arms_placed l.arms)

abbrev pub invariant-note_cases-loop-case : goal.invariant-note_cases-loop-case
invariant-note_cases-loop-case l = placed_steps l.into.items ++ acts_in_cases (cases_placed (drop l.case-index l.cases)) ≡ placed_steps l.fn.into.items ++ acts_in_cases (cases_placed l.cases)
