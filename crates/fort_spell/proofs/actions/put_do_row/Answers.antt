use Rattle.fort_spell.proofs.Streams.{put_both, row_of}
use Rattle.fort_spell.proofs.actions.put_do_row.Goals as goal

pub returns : goal.returns
returns g c = row_of _ c.of_statement-margin.ensures c.open_row-reached.ensures (put_both _ _ (put_both _ _ (put_both _ _ (put_both _ _ (put_both _ _ (put_both _ _ c.put_word-reached.ensures c.put_name-reached.ensures) c.put_mark-reached.ensures) c.put_expr-reached.ensures) c.put_mark-reached-2.ensures) c.put_expr-reached-2.ensures) c.put_step-reached.ensures) c.close_row.ensures
