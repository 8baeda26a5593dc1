use Rattle.std.proofs.Common.{◌<◌, ◌+◌, [], arith, subst, sym, ◌∙◌, length, take}
use Rattle.numbered_graph.specs.Graphs.{IsOrder}
use Rattle.numbered_graph.specs.Peeling.{Peeled, Peels}
use Rattle.numbered_graph.proofs.Starting.{starts}
use Rattle.numbered_graph.proofs.Peeling.{Next, cut_within, point_within, next_within, can_next, after_next, all_through}
use Rattle.numbered_graph.proofs.peeled.peel.Goals as goal

-- src/peeled.rt:98:5
pub loop-point-init : goal.loop-point-init
loop-point-init c = subst (Peels c.args.rows.now [] []) (sym c.in_ok-peeling.ensures) (starts c.args.rows.now)

next_at : (c : goal.After-peeling-in-Some-1) → Next c.args.rows.now c.args.back.now c.loop-point.peeling c.loop-point.next c.in-Some.point
next_at c = record { reverse = c.requires.reverse; so_far = c.loop-point.invariant; at = sym c.at.ensures ∙ c.in-Some.is }

pub go_through-requires : goal.go_through-requires
go_through-requires c = record {
  within = omega (arith, point_within c.args.rows.now c.args.back.now c.loop-point.peeling c.loop-point.next c.in-Some.point (next_at c), c.requires.reverse.same_length);
  can = can_next c.args.rows.now c.args.back.now c.loop-point.peeling c.loop-point.next c.in-Some.point (next_at c);
}

next_after : (c : goal.In_ok-go_through) → Next c.args.rows.now c.args.back.now c.loop-point.peeling c.loop-point.next c.in-Some.point
next_after c = record { reverse = c.requires.reverse; so_far = c.loop-point.invariant; at = sym c.at.ensures ∙ c.in-Some.is }

-- src/peeled.rt:98:5
pub overflow_add-next : goal.overflow_add-next
overflow_add-next c =
    let within : c.loop-point.next < length c.peeling.inside.order.items = subst (λ (q : Peeled). c.loop-point.next < length q.order) (sym c.peeling.view_is) (cut_within c.loop-point.peeling.order c.loop-point.next c.in-Some.point (next_after c).at) in
    omega (arith, within, c.peeling.inside.order.small)

-- src/peeled.rt:98:5
pub loop-point-smaller : goal.loop-point-smaller
loop-point-smaller c =
    let within : c.loop-point.next < length c.args.rows.now = next_within c.args.rows.now c.args.back.now c.loop-point.peeling c.loop-point.next c.in-Some.point (next_after c) in
    omega (arith, within)

-- src/peeled.rt:98:5
pub loop-point-preserved : goal.loop-point-preserved
loop-point-preserved c =
    subst (λ (q : Peeled). Peels c.args.rows.now (take (c.loop-point.next + 1) q.order) [] q) (sym c.in_ok-go_through.ensures)
    (after_next c.args.rows.now c.args.back.now c.loop-point.peeling c.loop-point.next c.in-Some.point (next_after c))

-- src/peeled.rt:91:1
pub returns : goal.returns
returns c =
    subst (λ (q : Peeled). IsOrder c.args.rows.now q.order) (sym c.peeling.view_is)
    (all_through c.args.rows.now c.loop-point.peeling c.loop-point.next c.requires.graph c.loop-point.invariant (sym c.at.ensures ∙ c.in_default.is))
