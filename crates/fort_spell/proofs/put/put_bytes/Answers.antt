use Rattle.fort_spell.proofs.Streams.{bytes_put}
use Rattle.fort_spell.proofs.put.put_bytes.Goals as goal

pub returns : goal.returns
returns g c = bytes_put _ _ _ _ _ _ _ _ c.in_ok-so_far.was c.put_all.ensures.faults_later c.put_all.ensures.took c.put_all.ensures.part c.put_all.ensures.failed
