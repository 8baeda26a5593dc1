use Rattle.std.proofs.Common.{◌≡◌, [], drop, length, replicate}
use Rattle.numbered_graph.specs.Turning.{all_links}
use Rattle.numbered_graph.proofs.reverse.reversed.Given as goal

abbrev pub invariant-loop-from : goal.invariant-loop-from
invariant-loop-from l = record {
  long : length l.back.items ≡ length l.rows;
  same : all_links l.from l.back.items (drop l.from l.rows) ≡ all_links 0 (replicate (length l.rows) []) l.rows;
}
