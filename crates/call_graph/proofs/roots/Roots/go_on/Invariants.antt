use Rattle.call_graph.specs.Grouping.{AreReached}
use Rattle.call_graph.proofs.roots.Roots.go_on.Given as goal

abbrev pub invariant-loop-step : goal.invariant-loop-step
invariant-loop-step l = AreReached l.rows l.self
