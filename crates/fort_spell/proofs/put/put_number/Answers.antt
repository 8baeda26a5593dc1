use Rattle.std.proofs.Common.{sym, ◌∙◌, ap, ◌++◌}
use Rattle.std.specs.Prelude.{decimal}
use Rattle.fort_spell.specs.Pieces.{Number}
use Rattle.fort_spell.proofs.put.put_number.Goals as goal

pub returns : goal.returns
returns g c = c.put_token.ensures (Number c.args.value c.args.kind)
    (ap (λ z. decimal c.args.value ++ z) (sym c.suffix.ensures.value) ∙ ap (λ z. z ++ c.suffix.result.now) (sym (c.as_bytes.ensures.value ∙ c.format-text.ensures.text)))
