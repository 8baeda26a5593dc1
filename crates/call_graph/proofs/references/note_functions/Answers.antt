use Rattle.std.proofs.Common.{◌<◌, ◌∙◌, [], sym, subst, cond, arith, length, List}
use Rattle.fort_names.specs.Sights.{means, file_of}
use Rattle.call_graph.specs.declared.reference.Reference.{Reference}
use Rattle.call_graph.specs.Adding.{Adds, named_referrals}
use Rattle.call_graph.proofs.Added.{adds_function, adds_nothing}
use Rattle.call_graph.proofs.references.note_functions.Goals as goal
use Rattle.call_graph.proofs.references.note_functions.Goals.{then-is_function_name+in_ok-note_reference, else-is_function_name}

-- src/references.rt
pub loop-name-preserved : goal.loop-name-preserved
loop-name-preserved c from =
    let f = file_of c.args.sight.now in
    let entity = means c.args.sight.now in
    let name = c.name-item.result in
    let within : c.loop-name.name-index < length c.args.names.now = omega arith in
    adds_function f entity from c.args.names.now c.loop-name.name-index name c.args.into.now c.loop-name.into c.if-is_function_name.into within c.name-item.is (c.loop-name.invariant from)
    (elim c.if-is_function_name.branch [
      | then-is_function_name+in_ok-note_reference w ↦
          subst (λ b. Adds f from c.loop-name.into c.if-is_function_name.into (cond b (named_referrals entity from name) [])) (sym w.if-is_function_name.true ∙ c.is_function_name.ensures)
          (subst (λ (l : List Reference). Adds f from c.loop-name.into l (named_referrals entity from name)) (sym w.into-is) (w.in_ok-note_reference.ensures from))
      | else-is_function_name w ↦
          subst (λ b. Adds f from c.loop-name.into c.if-is_function_name.into (cond b (named_referrals entity from name) [])) (sym w.if-is_function_name.false ∙ c.is_function_name.ensures)
          (subst (λ (l : List Reference). Adds f from c.loop-name.into l []) (sym w.into-is) (adds_nothing f from c.loop-name.into))
    ])
