use Rattle.std.proofs.Common.{◌<◌, ◌+◌, [], arith, subst, sym, length, take, get_or, refl}
use Rattle.numbered_graph.specs.Deepness.{AreDepths}
use Rattle.numbered_graph.proofs.Deeper.{point_in, one_more_depth, no_depths}
use Rattle.numbered_graph.proofs.depth.depths.Goals as goal

-- src/depth.rt
pub loop-point-init : goal.loop-point-init
loop-point-init c = subst (AreDepths c.args.rows.now [] c.args.limit) (sym c.in_ok-depths.ensures) (no_depths c.args.rows.now c.args.limit)

pub note_depth-requires : goal.note_depth-requires
note_depth-requires c =
    let i = c.loop-point.point-index in
    let order = c.args.order.now in
    let inside : get_or order i 0 < length c.args.rows.now = point_in c.args.rows.now order c.args.limit c.loop-point.depths.items i (get_or order i 0) c.requires (omega arith) refl c.loop-point.invariant in
    record { rows = inside; depths = omega (arith, inside, c.loop-point.invariant.same_length) }

pub loop-point-preserved : goal.loop-point-preserved
loop-point-preserved c =
    let i = c.loop-point.point-index in
    let order = c.args.order.now in
    subst (AreDepths c.args.rows.now (take (i + 1) order) c.args.limit) (sym c.note_depth.ensures)
    (one_more_depth c.args.rows.now order c.args.limit c.loop-point.depths.items i (get_or order i 0) c.requires (omega arith) refl c.loop-point.invariant)
