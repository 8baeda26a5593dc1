use Rattle.fort_spell.proofs.Streams.{put_both}
use Rattle.fort_spell.proofs.units.put_result_name.Goals as goal

pub returns : goal.returns
returns g c = put_both _ _ (put_both _ _ (put_both _ _ c.put_word-reached.ensures c.put_mark-reached.ensures) c.put_name-reached.ensures) c.put_mark.ensures
