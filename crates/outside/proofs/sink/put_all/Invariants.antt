use Rattle.std.proofs.Common.{length, ◌-◌, ◌≤◌, take}
use Rattle.outside.specs.Taken.{Took}
use Rattle.outside.proofs.sink.put_all.Given as goal

abbrev pub invariant-loop-at : goal.invariant-loop-at
invariant-loop-at g l = record {
  within : l.at ≤ length l.piece;
  later : g.S.Sink.faults l.initial.sink ≤ g.S.Sink.faults l.sink;
  taken : Took (g.S.Sink.taken l.initial.sink) (g.S.Sink.taken l.sink) (take l.at l.piece);
}

abbrev pub decreases-loop-at : goal.decreases-loop-at
decreases-loop-at g l = length l.piece - l.at
