use Rattle.fort_spell.proofs.Streams.{put_both, put_is}
use Rattle.fort_spell.proofs.Nodes.{dimension_lower}
use Rattle.fort_spell.proofs.lists.BoundInRow.put.Goals as goal

pub returns-in-Some : goal.returns-in-Some
returns-in-Some g c = put_is _ (put_both _ _ c.put_lower-reached.ensures c.put_bound.ensures) (dimension_lower _ _ _ _ c.in-Some.is)
