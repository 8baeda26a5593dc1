use Rattle.std.proofs.Common.{◌≡◌, ◌++◌, drop}
use Rattle.fort_names.specs.NameLists.{has}
use Rattle.sound_programs.specs.Placing.{placed_stmts}
use Rattle.unit_steps.specs.Acts.{arms_placed, cases_placed}
use Rattle.translated_programs.specs.Directed.{directed_in, directed_in_arms, directed_in_cases}
use Rattle.translated_programs.proofs.directed.«+directed».Given as goal

abbrev pub invariant-note_directed-loop-stmt : goal.invariant-note_directed-loop-stmt
invariant-note_directed-loop-stmt l =
    l.into.items ++ directed_in (has l.columns) (placed_stmts (drop l.stmt-index l.body)) ≡ l.fn.into.items ++ directed_in (has l.columns) (placed_stmts l.body)

abbrev pub invariant-note_arms-loop-arm : goal.invariant-note_arms-loop-arm
invariant-note_arms-loop-arm l =
    l.into.items ++ directed_in_arms (has l.columns) (arms_placed (drop l.arm-index l.arms)) ≡ l.fn.into.items ++ directed_in_arms (has l.columns) (arms_placed l.arms)

abbrev pub invariant-note_cases-loop-case : goal.invariant-note_cases-loop-case
invariant-note_cases-loop-case l =
    l.into.items ++ directed_in_cases (has l.columns) (cases_placed (drop l.case-index l.cases)) ≡ l.fn.into.items ++ directed_in_cases (has l.columns) (cases_placed l.cases)
