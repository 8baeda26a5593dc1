use Rattle.fort_spell.proofs.Streams.{put_next}
use Rattle.fort_spell.proofs.Parts.{next_hosted}
use Rattle.fort_spell.proofs.units.put_hosted.Goals as goal

pub loop-unit-preserved : goal.loop-unit-preserved
loop-unit-preserved g c = put_next _ _ _ _ c.loop-unit.invariant c.put_if_hosted-so_far.ensures
    (next_hosted c.args.number c.args.units.now c.loop-unit.unit-index c.unit-item.result c.args.indent c.loop-unit-test.true c.unit-item.is)
