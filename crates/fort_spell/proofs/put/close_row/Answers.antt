use Rattle.fort_spell.proofs.Streams.{closed_by}
use Rattle.fort_spell.proofs.put.close_row.Goals as goal

pub returns : goal.returns
returns g c = closed_by _ _ _ _ _ _ _ c.in_ok-reached.was c.put_bytes.ensures
