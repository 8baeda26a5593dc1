use Rattle.std.proofs.Common.{arith}
use Rattle.numbered_graph.proofs.Turned.{stands_at}
use Rattle.numbered_graph.proofs.reverse.add_links.Goals as goal

-- src/reverse.rt:21:9
pub add_link-requires : goal.add_link-requires
add_link-requires c = omega (arith, c.requires _ (stands_at c.args.targets.now c.loop-to.to-index 0 (omega arith)))
