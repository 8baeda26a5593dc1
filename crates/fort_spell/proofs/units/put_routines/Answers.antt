use Rattle.fort_spell.specs.Units.{routine_rows}
use Rattle.fort_spell.proofs.Streams.{put_next}
use Rattle.fort_spell.proofs.Nodes.{next_block}
use Rattle.fort_spell.proofs.units.put_routines.Goals as goal

pub loop-mark-preserved : goal.loop-mark-preserved
loop-mark-preserved g c = put_next _ _ _ _ c.loop-mark.invariant c.put_routine-so_far.ensures
    (next_block (λ d. routine_rows d.word) c.args.indent c.args.marks.now c.loop-mark.mark-index c.mark-item.result c.loop-mark-test.true c.mark-item.is)
