use Rattle.std.proofs.Common.{drop, map}
use Rattle.fort_spell.specs.Rows.{all_rows}
use Rattle.fort_spell.specs.Units.{unit_rows, units_of}
use Rattle.fort_spell.specs.Stream.{Left, rows_shown}
use Rattle.fort_spell.proofs.units.put_hosted.Given as goal

abbrev pub invariant-loop-unit : goal.invariant-loop-unit
invariant-loop-unit g l = Left rows_shown l.fn.so_far l.so_far (g.S.Sink.taken l.fn.sink) (g.S.Sink.taken l.sink) (g.S.Sink.faults l.fn.sink) (g.S.Sink.faults l.sink) (all_rows (map unit_rows (units_of l.fn.number l.fn.units)) l.fn.indent) (all_rows (map unit_rows (units_of l.fn.number (drop l.unit-index l.units))) l.fn.indent)
