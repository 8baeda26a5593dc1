use Rattle.std.proofs.Common.{◌∙◌, ap}
use Rattle.fort_tree.specs.Token.{is_one_of}
use Rattle.std.specs.Str.{bytes_eq}
use Rattle.fort_tokens.proofs.TextLemmas.{list_any-map}
use Rattle.fort_tokens.proofs.words.is_fixed.Goals as goal

pub returns : goal.returns
returns c = c.any_is.ensures ∙ list_any-map (λ w. w.now) (bytes_eq c.args.text.now) c.fixed_words.result.now
    ∙ ap (λ ws. is_one_of ws c.args.text.now) c.fixed_words.ensures
