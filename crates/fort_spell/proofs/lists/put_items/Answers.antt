use Rattle.std.proofs.Common.{◌≡◌, ◌∷◌, ap, map, rules, arith}
use Rattle.std.proofs.lemmas.Grind.{common_steps}
use Rattle.fort_spell.specs.Pieces.{items}
use Rattle.fort_spell.proofs.Streams.{put_both, put_next, left_first}
use Rattle.fort_spell.proofs.Nodes.{next_item}
use Rattle.fort_spell.proofs.lists.put_items.Goals as goal

pub loop-item-init : goal.loop-item-init
loop-item-init g c =
    let e : c.args.items.now ≡ c.in-Some.first.now ∷ c.in-Some.rest.now = first_of (search rules, grind (arith, common_steps, c.in-Some.ensures.cases)) in
    left_first _ _ _ c.put-reached.ensures (ap (λ q. items c.args.gap (map g.T.InRow.pieces q) c.args.spaced) e)

pub loop-item-preserved : goal.loop-item-preserved
loop-item-preserved g c = put_next _ _ _ _ c.loop-item.invariant (put_both _ _ c.put_mark-reached.ensures c.put-reached-in-loop-item.ensures)
    (next_item g.T.InRow.pieces c.args.gap c.in-Some.rest.now c.loop-item.item-index c.item-item.result c.loop-item-test.true c.item-item.is)
