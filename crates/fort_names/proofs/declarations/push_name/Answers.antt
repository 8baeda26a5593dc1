use Rattle.std.proofs.Common.{arith, ap, sym, ◌∙◌, ◌++◌, ◌∷◌, []}
use Rattle.std.specs.Prelude.{slice_set}
use Rattle.fort_names.proofs.Bucketing.{push_there, push_past}
use Rattle.fort_names.proofs.declarations.push_name.Goals as goal

-- src/declarations.rt
pub returns-in_ok-push : goal.returns-in_ok-push
returns-in_ok-push c =
    ap (slice_set c.args.lists.now c.args.number) c.in_ok-push.ensures.ok
    ∙ ap (λ l. slice_set c.args.lists.now c.args.number (l ++ c.args.named ∷ [])) (sym c.index-lists-number.is)
    ∙ sym (push_there c.args.number c.args.named c.args.lists.now c.index-lists-number.result (omega arith) c.index-lists-number.is)

pub returns-else-number-lists : goal.returns-else-number-lists
returns-else-number-lists c = sym (push_past c.args.number c.args.named c.args.lists.now (omega arith))
