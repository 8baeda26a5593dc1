use Rattle.std.proofs.Common.{sym, ◌∙◌}
use Rattle.fort_tree.proofs.SameLaws.{same_expr-unplaced}
use Rattle.fort_tree.proofs.expr.Expr.same.Goals as goal

pub returns-clause-equal : goal.returns-clause-equal
returns-clause-equal c =
    let law = same_expr-unplaced c.args.self.now c.args.other.now in
    (λ h. law.0 (sym c.is_same.ensures ∙ h), λ e. c.is_same.ensures ∙ law.1 e)
