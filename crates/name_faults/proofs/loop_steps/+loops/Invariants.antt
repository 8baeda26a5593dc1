use Rattle.std.proofs.Common.{◌≡◌, ◌++◌, drop}
use Rattle.sound_programs.specs.Placing.{placed_stmts, placed_unit}
use Rattle.fort_names.specs.Sights.{means}
use Rattle.unit_steps.specs.Acts.{arms_placed, cases_placed}
use Rattle.name_faults.specs.LoopSteps.{step_faults, in_stmts, in_arms, in_cases}
use Rattle.name_faults.proofs.loop_steps.«+loops».Given as goal

abbrev pub invariant-note_body-loop-stmt : goal.invariant-note_body-loop-stmt
invariant-note_body-loop-stmt l =
    l.into.items ++ in_stmts (step_faults (means l.ground.sight.now) (placed_unit l.ground.unit.now) l.ground.variables.now) l.loops (placed_stmts (drop l.stmt-index l.body))
    ≡ l.fn.into.items ++ in_stmts (step_faults (means l.ground.sight.now) (placed_unit l.ground.unit.now) l.ground.variables.now) l.loops (placed_stmts l.body)

abbrev pub invariant-note_arms-loop-arm : goal.invariant-note_arms-loop-arm
invariant-note_arms-loop-arm l =
    l.into.items ++ in_arms (step_faults (means l.ground.sight.now) (placed_unit l.ground.unit.now) l.ground.variables.now) l.loops (arms_placed (drop l.arm-index l.arms))
    ≡ l.fn.into.items ++ in_arms (step_faults (means l.ground.sight.now) (placed_unit l.ground.unit.now) l.ground.variables.now) l.loops (arms_placed l.arms)

abbrev pub invariant-note_cases-loop-case : goal.invariant-note_cases-loop-case
invariant-note_cases-loop-case l =
    l.into.items ++ in_cases (step_faults (means l.ground.sight.now) (placed_unit l.ground.unit.now) l.ground.variables.now) l.loops (cases_placed (drop l.case-index l.cases))
    ≡ l.fn.into.items ++ in_cases (step_faults (means l.ground.sight.now) (placed_unit l.ground.unit.now) l.ground.variables.now) l.loops (cases_placed l.cases)
