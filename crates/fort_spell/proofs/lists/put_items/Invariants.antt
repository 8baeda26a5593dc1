use Rattle.std.proofs.Common.{map, drop}
use Rattle.fort_spell.specs.Pieces.{items, more_items}
use Rattle.fort_spell.specs.Rows.{laid}
use Rattle.fort_spell.specs.Stream.{Left}
use Rattle.fort_spell.proofs.lists.put_items.Given as goal

abbrev pub invariant-loop-item : goal.invariant-loop-item
invariant-loop-item g l = Left (laid l.fn.margin) l.fn.reached l.reached (g.S.Sink.taken l.fn.sink) (g.S.Sink.taken l.sink) (g.S.Sink.faults l.fn.sink) (g.S.Sink.faults l.sink) (items l.fn.gap (map g.T.InRow.pieces l.fn.items) l.fn.spaced) (more_items l.fn.gap (map g.T.InRow.pieces (drop l.item-index l.rest)))
