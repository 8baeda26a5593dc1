use Rattle.std.proofs.Common.{◌++◌}
use Rattle.fort_spell.specs.Text.{blanks}
use Rattle.fort_spell.specs.Stream.{Put, bytes_alone}
use Rattle.fort_spell.proofs.put.put_blanks.Given as goal

abbrev pub invariant-loop : goal.invariant-loop
invariant-loop g l = Put bytes_alone l.fn.so_far l.so_far (g.S.Sink.taken l.fn.sink) (g.S.Sink.taken l.sink) (g.S.Sink.faults l.fn.sink) (g.S.Sink.faults l.sink) (λ k. blanks l.counter ++ k)
