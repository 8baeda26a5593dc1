use Rattle.std.proofs.Common.{◌-◌, take, length}
use Rattle.numbered_graph.specs.Searching.{Searches}
use Rattle.numbered_graph.proofs.search.leads.Given as goal

abbrev pub invariant-loop-point : goal.invariant-loop-point
invariant-loop-point l = Searches l.rows l.from (take l.next l.search.found) l.search

abbrev pub decreases-loop-point : goal.decreases-loop-point
decreases-loop-point l = length l.rows - l.next
