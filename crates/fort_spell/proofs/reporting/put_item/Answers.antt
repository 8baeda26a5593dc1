use Rattle.fort_spell.proofs.Streams.{put_both}
use Rattle.fort_spell.proofs.reporting.put_item.Goals as goal

pub returns : goal.returns
returns g c = put_both _ _ c.put_bytes-so_far.ensures c.put_decimal.ensures
