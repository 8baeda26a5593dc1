use Rattle.std.proofs.Common.{[], ◌++◌, map, ap, ◌∙◌, append_assoc}
use Rattle.std.proofs.lemmas.Result.{on_ok_weaker}
use Rattle.sound_programs.specs.Placing.{placed_decl, placed_stmts, placed_unit}
use Rattle.fort_names.specs.Sights.{means}
use Rattle.name_faults.specs.LoopSteps.{step_faults, places_in_bounds, in_stmts}
use Rattle.name_faults.proofs.LoopsAre.{unit_is}
use Rattle.name_faults.proofs.loops.note_in_unit.Goals as goal

-- src/loops.rt
pub returns : goal.returns
returns c =
    let entity = means c.args.sight.now in
    let u = placed_unit c.args.unit.now in
    let variables = c.in_ok-variables.variables in
    let before = c.args.into.now.items in
    let steps = in_stmts (step_faults entity u variables) [] (placed_stmts c.items.result.now) in
    let bounds = places_in_bounds variables (map placed_decl c.items-2.result.now) in
    on_ok_weaker c.note_bounds.result
    (λ e. e ∙ ap (λ l. l ++ bounds) c.in_ok-note_body.ensures ∙ append_assoc before steps bounds
    ∙ ap (λ l. before ++ l)
    ((λ i. in_stmts (step_faults entity u variables) [] (placed_stmts (c.items.ensures i)) ++ places_in_bounds variables (map placed_decl (c.items-2.ensures i)))
    ∙ unit_is entity u variables c.in_ok-variables.ensures))
    c.note_bounds.ensures
