use Rattle.std.proofs.Common.{ap}
use Rattle.fort_spell.specs.Units.{parameter_pieces}
use Rattle.fort_spell.proofs.Streams.{put_both, put_is}
use Rattle.fort_spell.proofs.units.put_parameter.Goals as goal

pub returns-in-Some : goal.returns-in-Some
returns-in-Some g c = put_is _ (put_both _ _ c.put_mark-reached.ensures c.put_word.ensures) (ap parameter_pieces c.in-Some.is)
