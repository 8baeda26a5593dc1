use Rattle.std.proofs.Common.{ap}
use Rattle.fort_spell.specs.Units.{intent_pieces}
use Rattle.fort_spell.proofs.Streams.{put_both, put_is}
use Rattle.fort_spell.proofs.units.put_intent.Goals as goal

pub returns : goal.returns
returns g c = put_is _ (put_both _ _ (put_both _ _ (put_both _ _ (put_both _ _ c.put_mark-reached.ensures c.put_word-reached.ensures) c.put_mark-reached-2.ensures) c.put_intent_word-reached.ensures) c.put_mark.ensures) (ap intent_pieces c.in-Some.is)
