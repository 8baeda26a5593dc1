use Rattle.std.proofs.Common.{◌≡◌, drop}
use Rattle.call_graph.specs.Grouping.{rooted_all}
use Rattle.call_graph.proofs.roots.Roots.note_all.Given as goal

abbrev pub invariant-loop-point : goal.invariant-loop-point
invariant-loop-point l = rooted_all l.groups l.from l.root l.self (drop l.point-index l.points) ≡ rooted_all l.groups l.from l.root l.initial.self l.points
