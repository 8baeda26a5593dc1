use Rattle.fort_tree.specs.declared.unit.Item.TheVariants as variants
use Rattle.fort_spell.specs.Units.{item_rows}
use Rattle.fort_spell.proofs.Streams.{put_next}
use Rattle.fort_spell.proofs.Nodes.{next_block_or}
use Rattle.fort_spell.proofs.units.put_order.Goals as goal

pub loop-item-preserved : goal.loop-item-preserved
loop-item-preserved g c = put_next _ _ _ _ c.loop-item.invariant c.put_item-so_far.ensures
    (next_block_or (item_rows c.args.file.now) 0 c.args.order.now c.loop-item.item-index (variants.Module 0) c.loop-item-test.true)
