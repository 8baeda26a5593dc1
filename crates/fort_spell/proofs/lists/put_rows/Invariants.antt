use Rattle.std.proofs.Common.{map, drop}
use Rattle.fort_spell.specs.Rows.{all_rows, one_row}
use Rattle.fort_spell.specs.Stream.{Left, rows_shown}
use Rattle.fort_spell.proofs.lists.put_rows.Given as goal

abbrev pub invariant-loop-item : goal.invariant-loop-item
invariant-loop-item g l = Left rows_shown l.fn.so_far l.so_far (g.S.Sink.taken l.fn.sink) (g.S.Sink.taken l.sink) (g.S.Sink.faults l.fn.sink) (g.S.Sink.faults l.sink) (all_rows (map (λ item. one_row (g.T.InRow.pieces item)) l.fn.items) l.fn.indent) (all_rows (map (λ item. one_row (g.T.InRow.pieces item)) (drop l.item-index l.items)) l.fn.indent)
