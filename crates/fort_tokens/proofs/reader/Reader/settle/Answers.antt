use Rattle.std.proofs.Common.{◌≡◌, IsTrue, true, refl, sym, ap, ◌∙◌, subst, arith}
use Rattle.fort_tree.specs.Token.{is_token}
use Rattle.fort_tokens.specs.Texts.{front, is_small}
use Rattle.fort_tokens.specs.Standing.{HasShape}
use Rattle.fort_tokens.specs.declared.shape.Shape.TheVariants as shape
use Rattle.fort_tokens.proofs.Standings.{digits-number, number-shape}
use Rattle.fort_tokens.proofs.Made.{name-made, number-made, front-made}
use Rattle.fort_tokens.proofs.reader.Reader.settle.Goals as goal

pub emit-requires : goal.emit-requires
emit-requires c =
    subst (λ r. IsTrue (is_token r.text)) c.self.view_is
    (name-made c.self.inside.text (subst (λ sh. HasShape sh c.self.inside.text) c.in-Name.is c.self.invariant) (omega (arith, c.len.ensures, c.if-len-le63.true)))

pub emit-requires-then-not-is_ascii_lowercase : goal.emit-requires-then-not-is_ascii_lowercase
emit-requires-then-not-is_ascii_lowercase c =
    let small : is_small c.self.inside.text ≡ true = ap is_small (sym c.items.ensures) ∙ sym c.is_small.ensures ∙ c.if-is_small.true in
    subst (λ r. IsTrue (is_token r.text)) c.self.view_is
    (number-made c.self.inside.text (number-shape c.self.inside.shape c.self.inside.text c.in-Digits.is c.self.invariant) small)

pub split-requires : goal.split-requires
split-requires c =
    let h : HasShape shape.Under c.self.inside.text = subst (λ sh. HasShape sh c.self.inside.text) c.in-Under.is c.self.invariant in
    subst (λ r. IsTrue (is_token (front r.text))) c.self.view_is
    (front-made c.self.inside.text 95 (digits-number (front c.self.inside.text) h.0) h.1 refl (ap is_small (sym c.items-in-Under.ensures) ∙ sym c.is_small-in-Under.ensures ∙ c.if-is_small-2.true))

pub split-requires-then-not-is_ascii_digit : goal.split-requires-then-not-is_ascii_digit
split-requires-then-not-is_ascii_digit c =
    let h : HasShape shape.Point c.self.inside.text = subst (λ sh. HasShape sh c.self.inside.text) c.in-Point.is c.self.invariant in
    subst (λ r. IsTrue (is_token (front r.text))) c.self.view_is
    (front-made c.self.inside.text 46 h.0 h.1 refl (ap is_small (sym c.items-in-Point.ensures) ∙ sym c.is_small-in-Point.ensures ∙ c.if-is_small-3.true))
