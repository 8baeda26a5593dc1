use Rattle.std.proofs.Common.{sym, subst}
use Rattle.numbered_graph.specs.Graphs.{here}
use Rattle.call_graph.specs.Grouping.{AreReached}
use Rattle.call_graph.proofs.Rooting.{one_reached}
use Rattle.call_graph.proofs.roots.Roots.search.Goals as goal

-- src/roots.rt
pub go_on-requires : goal.go_on-requires
go_on-requires c = subst (AreReached c.args.rows.now) (sym c.in_ok-note.ensures) (one_reached c.args.rows.now c.args.start c.args.self.now c.args.start c.requires here)
