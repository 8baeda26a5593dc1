use Rattle.std.proofs.Common.{arith}
use Rattle.numbered_graph.proofs.Turned.{stands_at}
use Rattle.numbered_graph.proofs.search.Search.find_all.Goals as goal

-- src/search.rt
pub find-requires : goal.find-requires
find-requires c = omega (arith, c.requires _ (stands_at c.args.points.now c.loop-point.point-index 0 (omega arith)))
