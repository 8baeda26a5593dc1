use Rattle.std.proofs.Common.{◌++◌, ◌+◌, ap, codes}
use Rattle.fort_spell.specs.Text.{blanks}
use Rattle.fort_spell.proofs.Streams.{put_both, put_as}
use Rattle.fort_spell.proofs.put.put_broken.Goals as goal

pub returns : goal.returns
returns g c = put_as _ _ (put_both _ _ (put_both _ _ (put_both _ _ (put_both _ _ c.put_bytes-so_far.ensures c.put_blanks-so_far.ensures) c.put_bytes-so_far-2.ensures) c.put_bytes-so_far-3.ensures) c.put_bytes.ensures)
    (λ k. ap (λ z. codes " &\n" ++ (blanks (c.args.margin.indent + 4) ++ (z ++ (c.args.text.now ++ (c.args.ending.now ++ k))))) c.text.ensures)
