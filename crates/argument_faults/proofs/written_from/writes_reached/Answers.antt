use Rattle.std.proofs.Common.{◌≡◌, ◌<◌, ◌≤◌, length, get_or, arith, ap}
use Rattle.call_graph.proofs.Differing.{names_differ}
use Rattle.argument_faults.proofs.InOrder.{at_within}
use Rattle.argument_faults.proofs.FromCallees.{there_at, written_at, all_written}
use Rattle.argument_faults.proofs.written_from.writes_reached.Goals as goal

-- src/written_from.rt
pub callees-callees-requires : goal.callees-callees-requires
callees-callees-requires c =
    let f = c.args.file.now in
    let i = c.loop-unit.unit-index in
    let order = c.order-unit-items.result.now in
    let is_order : order ≡ c.args.graph.now.order = c.order-unit-items.ensures in
    let within : i < length c.args.graph.now.order = omega (arith, ap length is_order) in
    omega (arith, at_within f c.args.graph.now c.requires.graph (names_differ f c.requires.names) i within, ap (λ l. get_or l i 0) is_order, c.requires.graph.same_length)

-- src/written_from.rt
-- src/written_from.rt
pub write_from-requires-clause-there : goal.write_from-requires-clause-there
write_from-requires-clause-there c =
    let f = c.args.file.now in
    let i = c.loop-unit.unit-index in
    let order = c.order-unit-items.result.now in
    let is_order : order ≡ c.args.graph.now.order = c.order-unit-items.ensures in
    let within : i < length c.args.graph.now.order = omega (arith, ap length is_order) in
    there_at f c.args.graph.now c.requires.graph (names_differ f c.requires.names) i within c.loop-unit.writes.items c.loop-unit.invariant
    (get_or order i 0) c.as_slice.result.now c.callees-callees.result.now (ap (λ l. get_or l i 0) is_order) c.as_slice.ensures.value c.callees-callees.ensures

-- src/written_from.rt
pub write_from-requires-clause-number : goal.write_from-requires-clause-number
write_from-requires-clause-number c =
    let f = c.args.file.now in
    let i = c.loop-unit.unit-index in
    let order = c.order-unit-items.result.now in
    let is_order : order ≡ c.args.graph.now.order = c.order-unit-items.ensures in
    let within : i < length c.args.graph.now.order = omega (arith, ap length is_order) in
    omega (arith, at_within f c.args.graph.now c.requires.graph (names_differ f c.requires.names) i within, ap (λ l. get_or l i 0) is_order)

-- src/written_from.rt
pub index_mut-requires : goal.index_mut-requires
index_mut-requires c =
    let f = c.args.file.now in
    let i = c.loop-unit.unit-index in
    let order = c.order-unit-items.result.now in
    let is_order : order ≡ c.args.graph.now.order = c.order-unit-items.ensures in
    let within : i < length c.args.graph.now.order = omega (arith, ap length is_order) in
    omega (arith, at_within f c.args.graph.now c.requires.graph (names_differ f c.requires.names) i within, ap (λ l. get_or l i 0) is_order, c.loop-unit.invariant.same_length)

-- src/written_from.rt
pub loop-unit-preserved : goal.loop-unit-preserved
loop-unit-preserved c =
    let f = c.args.file.now in
    let i = c.loop-unit.unit-index in
    let order = c.order-unit-items.result.now in
    let is_order : order ≡ c.args.graph.now.order = c.order-unit-items.ensures in
    let within : i < length c.args.graph.now.order = omega (arith, ap length is_order) in
    written_at f c.args.graph.now c.requires.graph (names_differ f c.requires.names) i within c.loop-unit.writes.items c.loop-unit.invariant
    (get_or order i 0) c.as_slice.result.now c.callees-callees.result.now (ap (λ l. get_or l i 0) is_order) c.as_slice.ensures.value c.callees-callees.ensures
    c.in_ok-first.first c.in_ok-first.ensures

-- src/written_from.rt
pub returns : goal.returns
returns c =
    let f = c.args.file.now in
    let is_order : c.order-unit-items.result.now ≡ c.args.graph.now.order = c.order-unit-items.ensures in
    let past : length c.args.graph.now.order ≤ c.loop-unit.unit-index = omega (arith, ap length is_order) in
    all_written f c.args.graph.now c.requires.graph (names_differ f c.requires.names) c.loop-unit.writes.items c.loop-unit.unit-index past c.loop-unit.invariant
