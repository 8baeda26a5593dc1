use Rattle.fort_spell.proofs.Streams.{put_both, opened_ok, opened_err, margin_width}
use Rattle.fort_spell.proofs.put.open_row.Goals as goal

pub returns-in_err-put_bytes : goal.returns-in_err-put_bytes
returns-in_err-put_bytes g c = opened_err c.args.margin _ _ _ _ _ _ _ _ _ c.text.ensures c.in_err-put_bytes.was c.from_residual.ensures.0 (put_both _ _ c.put_blanks-so_far.ensures c.put_bytes.ensures)

pub returns : goal.returns
returns g c = opened_ok c.args.margin _ _ _ _ _ _ _ _ _ c.text.ensures c.in_ok-put_bytes.was (margin_width c.args.margin c.text-2.result.now c.text-2.ensures) (put_both _ _ c.put_blanks-so_far.ensures c.put_bytes.ensures)
