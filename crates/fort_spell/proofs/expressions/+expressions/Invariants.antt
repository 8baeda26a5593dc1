use Rattle.std.proofs.Common.{map, drop, false}
use Rattle.fort_spell.specs.Expressions.{sub_pieces}
use Rattle.fort_spell.specs.Pieces.{items, more_items}
use Rattle.fort_spell.specs.Rows.{laid}
use Rattle.fort_spell.specs.Stream.{Left}
use Rattle.fort_spell.proofs.expressions.«+expressions».Given as goal

abbrev pub invariant-put_list-loop-sub : goal.invariant-put_list-loop-sub
invariant-put_list-loop-sub g l = Left (laid l.fn.margin) l.fn.reached l.reached (g.S.Sink.taken l.fn.sink) (g.S.Sink.taken l.sink) (g.S.Sink.faults l.fn.sink) (g.S.Sink.faults l.sink) (items l.fn.gap (map sub_pieces l.fn.subs) false) (more_items l.fn.gap (map sub_pieces (drop l.sub-index l.rest)))
