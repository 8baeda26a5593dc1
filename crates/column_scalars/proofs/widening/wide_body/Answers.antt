use Rattle.std.proofs.Common.{List, [], ◌∷◌, ◌++◌, ap, ◌∙◌}
use Rattle.std.proofs.lemmas.Bool.{false≢true}
use Rattle.fort_tree.specs.declared.stmt.Stmt.{Stmt}
use Rattle.claw_meaning.specs.Plain.{plain_directive}
use Rattle.column_scalars.proofs.WideTrees.{guard_and_loop}
use Rattle.column_scalars.proofs.widening.wide_body.Goals as goal

-- src/widening.rt
pub returns : goal.returns
returns c =
    guard_and_loop (plain_directive c.args.define.now) c.args.body.now c.push.new.self c.in_ok-guard.field-0 c.in_ok-column_loop.field-0 c.in_ok-guard.ensures c.in_ok-column_loop.ensures
    (λ e. false≢true (c.if-is_empty.ensures.1 e)) (c.in_ok-push.ensures.ok ∙ ap (λ (w : List Stmt). w ++ c.in_ok-column_loop.field-0 ∷ []) c.in_ok-wide.ensures)
