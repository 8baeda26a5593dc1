use Rattle.std.proofs.Common.{ap, ◌∙◌, ◌++◌}
use Rattle.fort_spell.proofs.Streams.{put_as}
use Rattle.fort_spell.proofs.reporting.put_decimal.Goals as goal

pub returns : goal.returns
returns g c = put_as _ _ c.put_bytes.ensures (λ k. ap (λ z. z ++ k) (c.as_bytes.ensures.value ∙ c.format-text.ensures.text))
