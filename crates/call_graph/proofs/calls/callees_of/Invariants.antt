use Rattle.std.proofs.Common.{◌≡◌, ◌++◌, drop}
use Rattle.call_graph.specs.Referring.{callees_of}
use Rattle.call_graph.proofs.calls.callees_of.Given as goal

abbrev pub invariant-loop-row : goal.invariant-loop-row
invariant-loop-row l = l.rows.items ++ callees_of (drop l.row-index l.references) ≡ callees_of l.references
