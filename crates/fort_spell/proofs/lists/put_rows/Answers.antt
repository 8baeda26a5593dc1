use Rattle.fort_spell.specs.Rows.{one_row}
use Rattle.fort_spell.proofs.Streams.{put_next}
use Rattle.fort_spell.proofs.Nodes.{next_block}
use Rattle.fort_spell.proofs.lists.put_rows.Goals as goal

pub loop-item-preserved : goal.loop-item-preserved
loop-item-preserved g c = put_next _ _ _ _ c.loop-item.invariant c.put_row-so_far.ensures
    (next_block (λ item. one_row (g.T.InRow.pieces item)) c.args.indent c.args.items.now c.loop-item.item-index c.item-item.result c.loop-item-test.true c.item-item.is)
