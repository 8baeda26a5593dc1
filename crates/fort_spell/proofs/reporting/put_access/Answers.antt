use Rattle.fort_spell.proofs.Streams.{put_both}
use Rattle.fort_spell.proofs.reporting.put_access.Goals as goal

pub returns-in-Some : goal.returns-in-Some
returns-in-Some g c = rw c.in-Some.is (put_both _ _ c.put_bytes-so_far.ensures c.put_position.ensures)
