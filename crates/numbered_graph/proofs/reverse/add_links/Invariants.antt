use Rattle.std.proofs.Common.{◌≡◌, drop, length}
use Rattle.numbered_graph.specs.Turning.{with_links}
use Rattle.numbered_graph.proofs.reverse.add_links.Given as goal

abbrev pub invariant-loop-to : goal.invariant-loop-to
invariant-loop-to l = record {
  long : length l.back ≡ length l.initial.back;
  same : with_links l.from l.back (drop l.to-index l.targets) ≡ with_links l.from l.initial.back l.targets;
}
