use Rattle.std.proofs.Common.{◌≡◌, ◌∙◌, ◌++◌, ap, subst, flat_map, List}
use Rattle.fort_tree.specs.declared.stmt.Named.{Named}
use Rattle.fort_names.specs.Sights.{means, file_of}
use Rattle.sound_programs.specs.Walks as walks
use Rattle.unit_steps.specs.Behind.{exprs, placed_step}
use Rattle.call_graph.specs.Adding.{Adds, named_referrals, function_referrals}
use Rattle.call_graph.proofs.Added.{adds_more, on_ok_by}
use Rattle.call_graph.proofs.references.note_step.Goals as goal

-- src/references.rt
pub returns : goal.returns
returns c from =
    let f = file_of c.args.sight.now in
    let entity = means c.args.sight.now in
    let step = placed_step c.args.step in
    let names : c.as_slice-2.result.now ≡ flat_map walks.name_before_parenthesis (walks.parts_read step) =
    c.as_slice-2.ensures.value ∙ c.in_ok-note_names_before_parenthesis.ensures ∙ ap (λ l. l ++ flat_map walks.name_before_parenthesis (exprs c.as_slice.result.now)) c.new-names.ensures.items
    ∙ ap (flat_map walks.name_before_parenthesis) (ap exprs c.as_slice.ensures.value ∙ c.in_ok-parts.ensures) in
    on_ok_by c.note_functions.result
    (λ added. adds_more f from c.args.into.now c.note_call.new.into c.note_functions.new.into (flat_map (named_referrals entity from) (walks.call_name step)) (function_referrals entity from (flat_map walks.name_before_parenthesis (walks.parts_read step)))
    (c.in_ok-note_call.ensures from)
    (subst (λ (l : List Named). Adds f from c.note_call.new.into c.note_functions.new.into (function_referrals entity from l)) names added))
    (c.note_functions.ensures from)
