use Rattle.fort_spell.proofs.Streams.{put_both, row_of}
use Rattle.fort_spell.proofs.lists.put_pair_row.Goals as goal

pub returns : goal.returns
returns g c = row_of _ c.of_statement-margin.ensures c.open_row-reached.ensures (put_both _ _ c.put_word-reached.ensures c.put_word-reached-2.ensures) c.close_row.ensures
