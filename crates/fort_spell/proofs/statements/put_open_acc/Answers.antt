use Rattle.fort_spell.proofs.Streams.{put_both, row_put}
use Rattle.fort_spell.proofs.statements.put_open_acc.Goals as goal

pub returns : goal.returns
returns g c = row_put _ c.open_row-reached.ensures (put_both _ _ (put_both _ _ (put_both _ _ (put_both _ _ c.put_word-reached.ensures c.put_word-reached-2.ensures) c.put_word-reached-3.ensures) c.put_word-reached-4.ensures) c.put_private-reached.ensures) c.close_row.ensures
