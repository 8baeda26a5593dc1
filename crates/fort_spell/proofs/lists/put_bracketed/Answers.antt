use Rattle.fort_spell.proofs.Streams.{put_both}
use Rattle.fort_spell.proofs.lists.put_bracketed.Goals as goal

pub returns : goal.returns
returns g c = put_both _ _ (put_both _ _ c.put_mark-reached.ensures c.put_items-reached.ensures) c.put_mark.ensures
