use Rattle.fort_spell.proofs.Streams.{put_both}
use Rattle.fort_spell.proofs.statements.put_private_names.Goals as goal

pub returns : goal.returns
returns g c = put_both _ _ c.put_word-reached.ensures c.put_bracketed.ensures
