use Rattle.std.proofs.Common.{◌≡◌, ◌↔◌, ◌∙◌, sym, ap, subst, Some}
use Rattle.std.proofs.lemmas.Option.{slice_get-get_or}
use Rattle.std.specs.Prelude.{IsSome, IsTrue, IfSome}
use Rattle.fort_tree.specs.Name.{is_name, lowercase}
use Rattle.fort_grammar.specs.declared.class.Class.TheVariants as class
use Rattle.fort_grammar.specs.Choose.{same}
use Rattle.fort_stmt.proofs.Outlines.{read-at}
use Rattle.fort_stmt.proofs.outline.first_name.Goals as goal

pub returns-then-is : goal.returns-then-is
returns-then-is c = read-at c.args.tokens.now c.loop-token.token-index c.token-item.result c.read.result (slice_get-get_or c.args.tokens.now c.loop-token.token-index _ c.loop-token-test.true ∙ ap Some (sym c.token-item.is)) c.loop-token.invariant
    (ap (λ q. same q class.Name) (sym c.class_of.ensures) ∙ (sym c.is.ensures ∙ c.if-is.true))
    (subst (λ q. IsSome c.read.result ↔ IsTrue (is_name q)) c.text.ensures.text c.read.ensures.some) (subst (λ q. IfSome c.read.result (λ n. n ≡ lowercase q)) c.text.ensures.text c.read.ensures.value)
