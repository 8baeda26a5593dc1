use Rattle.std.proofs.Common.{drop}
use Rattle.fort_spell.specs.Units.{routines_rows}
use Rattle.fort_spell.specs.Stream.{Left, rows_shown}
use Rattle.fort_spell.proofs.units.put_routines.Given as goal

abbrev pub invariant-loop-mark : goal.invariant-loop-mark
invariant-loop-mark g l = Left rows_shown l.fn.so_far l.so_far (g.S.Sink.taken l.fn.sink) (g.S.Sink.taken l.sink) (g.S.Sink.faults l.fn.sink) (g.S.Sink.faults l.sink) (routines_rows l.fn.marks l.fn.indent) (routines_rows (drop l.mark-index l.marks) l.fn.indent)
