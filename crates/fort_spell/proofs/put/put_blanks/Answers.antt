use Rattle.fort_spell.proofs.Streams.{put_both, put_as, blanks_next}
use Rattle.fort_spell.proofs.put.put_blanks.Goals as goal

pub loop-preserved : goal.loop-preserved
loop-preserved g c = put_as _ _ (put_both _ _ c.loop.invariant c.put_bytes-so_far.ensures) (λ k. blanks_next c.loop.counter k)
