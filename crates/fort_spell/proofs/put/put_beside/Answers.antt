use Rattle.std.proofs.Common.{◌++◌}
use Rattle.fort_spell.proofs.Streams.{put_both, put_as, lead_blanks}
use Rattle.fort_spell.proofs.put.put_beside.Goals as goal

pub returns : goal.returns
returns g c = put_as _ _ (put_both _ _ (put_both _ _ c.put_blanks-so_far.ensures c.put_bytes-so_far.ensures) c.put_bytes.ensures) (λ k. lead_blanks c.args.spaced c.lead_width.result (c.args.text.now ++ (c.args.ending.now ++ k)) c.lead_width.ensures)
