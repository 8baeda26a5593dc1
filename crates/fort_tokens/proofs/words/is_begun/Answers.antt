use Rattle.std.proofs.Common.{◌∷◌, [], ◌++◌, ◌∙◌, ap}
use Rattle.std.specs.List.{list_any}
use Rattle.fort_tokens.specs.Texts.{begins_with}
use Rattle.fort_tokens.proofs.TextLemmas.{list_any-map}
use Rattle.fort_tokens.proofs.words.is_begun.Goals as goal

pub returns : goal.returns
returns c = c.any_begins.ensures ∙ list_any-map (λ w. w.now) (λ w. begins_with w (c.args.text.now ++ c.args.byte ∷ [])) c.fixed_words.result.now
    ∙ ap (λ ws. list_any (λ w. begins_with w (c.args.text.now ++ c.args.byte ∷ [])) ws) c.fixed_words.ensures
