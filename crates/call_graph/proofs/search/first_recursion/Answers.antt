use Rattle.std.proofs.Common.{◌<◌, None, arith, length}
use Rattle.call_graph.proofs.Cycles.{next_unit}
use Rattle.call_graph.proofs.search.first_recursion.Goals as goal

-- src/search.rt
pub loop-unit-preserved : goal.loop-unit-preserved
loop-unit-preserved c =
    let within : c.loop-unit.unit < length c.args.calls.now.references.items = omega arith in
    next_unit c.args.calls.now c.loop-unit.unit c.loop-unit.first c.in_ok-first.first None within c.in_ok-first.ensures c.loop-unit.invariant
