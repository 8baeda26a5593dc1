use Rattle.std.proofs.Common.{drop, map}
use Rattle.fort_spell.specs.Rows.{all_rows}
use Rattle.fort_spell.specs.Units.{item_rows}
use Rattle.fort_spell.specs.Stream.{Left, rows_shown}
use Rattle.fort_spell.proofs.units.put_order.Given as goal

abbrev pub invariant-loop-item : goal.invariant-loop-item
invariant-loop-item g l = Left rows_shown l.fn.so_far l.so_far (g.S.Sink.taken l.fn.sink) (g.S.Sink.taken l.sink) (g.S.Sink.faults l.fn.sink) (g.S.Sink.faults l.sink) (all_rows (map (item_rows l.fn.file) l.fn.order) 0) (all_rows (map (item_rows l.fn.file) (drop l.item-index l.order)) 0)
