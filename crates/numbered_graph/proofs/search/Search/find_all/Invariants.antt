use Rattle.std.proofs.Common.{◌≡◌, drop, length}
use Rattle.numbered_graph.specs.Searching.{found_all}
use Rattle.numbered_graph.proofs.search.Search.find_all.Given as goal

abbrev pub invariant-loop-point : goal.invariant-loop-point
invariant-loop-point l = record {
  long : length l.self.seen ≡ length l.initial.self.seen;
  same : found_all l.self (drop l.point-index l.points) ≡ found_all l.initial.self l.points;
}
