use Rattle.fort_spell.proofs.Streams.{put_both, put_as}
use Rattle.fort_spell.proofs.Reports.{position_parts}
use Rattle.fort_spell.proofs.reporting.put_position.Goals as goal

pub returns : goal.returns
returns g c = put_as _ _ (put_both _ _ (put_both _ _ c.put_decimal-so_far.ensures c.put_bytes-so_far.ensures) c.put_decimal.ensures) (λ k. position_parts c.args.place k)
