use Rattle.std.proofs.Common.{◌≡◌, [], false, sym, ◌∙◌, subst}
use Rattle.fort_spell.specs.Expressions.{expr_pieces}
use Rattle.layout_reading.specs.Readable.{ArePieces}
use Rattle.layout_reading.specs.Tokens.{texts, piece_texts}
use Rattle.layout_reading.proofs.Expressions.{expression_apart, expression_read}
use Rattle.layout_reading.proofs.Plain.{same_plain}
use Rattle.layout_reading.proofs.PlainRows.{same_pieces}
use Rattle.layout_reading.proofs.laws.expressions_are_read.Goals as goal

pub returns-clause-apart : goal.returns-clause-apart
returns-clause-apart c e h = subst (λ f. ArePieces (f false [])) (same_pieces h.written e (same_plain h.written e h.same)) (expression_apart h.written h.derive)

pub returns-clause-derived : goal.returns-clause-derived
returns-clause-derived c e tokens h s =
    let pieces : expr_pieces h.written ≡ expr_pieces e = same_pieces h.written e (same_plain h.written e h.same) in
    let a = expression_read h.written tokens h.derive (subst (λ f. texts tokens ≡ piece_texts (f false [])) (sym pieces) s) in
    record { tree = a.tree; derive = a.derive; same = a.same ∙ h.same }
