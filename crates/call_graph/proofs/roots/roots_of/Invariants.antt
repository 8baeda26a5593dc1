use Rattle.call_graph.specs.Grouping.{AreReached}
use Rattle.call_graph.proofs.roots.roots_of.Given as goal

abbrev pub invariant-loop-start : goal.invariant-loop-start
invariant-loop-start l = AreReached l.rows l.search
