use Rattle.std.proofs.Common.{◌≡◌, ◌<◌, ◌≤◌, length, get_or, arith, ap}
use Rattle.fort_names.proofs.Places.{length_map}
use Rattle.call_graph.proofs.Differing.{names_differ}
use Rattle.argument_faults.specs.ModuleNames.{pairs, rows_of}
use Rattle.argument_faults.proofs.InOrder.{at_within}
use Rattle.argument_faults.proofs.FromCallees.{long_at, named_at, all_named}
use Rattle.argument_faults.proofs.reached.all_marks.Goals as goal

-- src/reached.rt
pub callees-callees-requires : goal.callees-callees-requires
callees-callees-requires c =
    let f = c.args.file.now in
    let i = c.loop-unit.unit-index in
    let order = c.order-unit-items.result.now in
    let is_order : order ≡ c.args.graph.now.order = c.order-unit-items.ensures in
    let within : i < length c.args.graph.now.order = omega (arith, ap length is_order) in
    omega (arith, at_within f c.args.graph.now c.requires.graph (names_differ f c.requires.names) i within, ap (λ l. get_or l i 0) is_order, c.requires.graph.same_length)

-- src/reached.rt
pub marks_from-requires-clause-unit : goal.marks_from-requires-clause-unit
marks_from-requires-clause-unit c =
    let f = c.args.file.now in
    let i = c.loop-unit.unit-index in
    let order = c.order-unit-items.result.now in
    let is_order : order ≡ c.args.graph.now.order = c.order-unit-items.ensures in
    let within : i < length c.args.graph.now.order = omega (arith, ap length is_order) in
    omega (arith, at_within f c.args.graph.now c.requires.graph (names_differ f c.requires.names) i within, ap (λ l. get_or l i 0) is_order, c.requires.named.same_length, length_map pairs c.args.named.now)

-- src/reached.rt
pub marks_from-requires-clause-rows : goal.marks_from-requires-clause-rows
marks_from-requires-clause-rows c =
    let f = c.args.file.now in
    let i = c.loop-unit.unit-index in
    let order = c.order-unit-items.result.now in
    let is_order : order ≡ c.args.graph.now.order = c.order-unit-items.ensures in
    let within : i < length c.args.graph.now.order = omega (arith, ap length is_order) in
    long_at f c.args.graph.now c.requires.graph (names_differ f c.requires.names) i within c.args.variables.now c.loop-unit.rows.items c.loop-unit.invariant
    (get_or order i 0) c.as_slice.result.now c.callees-callees.result.now (ap (λ l. get_or l i 0) is_order) c.as_slice.ensures.value c.callees-callees.ensures

-- src/reached.rt
pub index_mut-requires : goal.index_mut-requires
index_mut-requires c =
    let f = c.args.file.now in
    let i = c.loop-unit.unit-index in
    let order = c.order-unit-items.result.now in
    let is_order : order ≡ c.args.graph.now.order = c.order-unit-items.ensures in
    let within : i < length c.args.graph.now.order = omega (arith, ap length is_order) in
    omega (arith, at_within f c.args.graph.now c.requires.graph (names_differ f c.requires.names) i within, ap (λ l. get_or l i 0) is_order, c.loop-unit.invariant.same_length)

-- src/reached.rt
pub loop-unit-preserved : goal.loop-unit-preserved
loop-unit-preserved c =
    let f = c.args.file.now in
    let i = c.loop-unit.unit-index in
    let order = c.order-unit-items.result.now in
    let is_order : order ≡ c.args.graph.now.order = c.order-unit-items.ensures in
    let within : i < length c.args.graph.now.order = omega (arith, ap length is_order) in
    named_at f c.args.graph.now c.requires.graph (names_differ f c.requires.names) i within c.args.variables.now c.loop-unit.rows.items c.loop-unit.invariant
    (get_or order i 0) c.as_slice.result.now c.callees-callees.result.now (ap (λ l. get_or l i 0) is_order) c.as_slice.ensures.value c.callees-callees.ensures
    (rows_of c.args.named.now) c.in_ok-marks.marks c.requires.named c.in_ok-marks.ensures

-- src/reached.rt
pub returns : goal.returns
returns c =
    let f = c.args.file.now in
    let is_order : c.order-unit-items.result.now ≡ c.args.graph.now.order = c.order-unit-items.ensures in
    let past : length c.args.graph.now.order ≤ c.loop-unit.unit-index = omega (arith, ap length is_order) in
    all_named f c.args.graph.now c.requires.graph (names_differ f c.requires.names) c.args.variables.now c.loop-unit.rows.items c.loop-unit.unit-index past c.loop-unit.invariant
