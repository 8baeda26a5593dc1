use Rattle.std.proofs.Common.{◌≡◌, true, drop}
use Rattle.numbered_graph.specs.Peeling.{released, can_release}
use Rattle.numbered_graph.proofs.peeled.Peeling.release.Given as goal

abbrev pub invariant-loop-point : goal.invariant-loop-point
invariant-loop-point l = record {
  can : can_release l.self (drop l.point-index l.points) ≡ true;
  same : released l.self (drop l.point-index l.points) ≡ released l.initial.self l.points;
}
