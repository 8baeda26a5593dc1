use Rattle.std.proofs.Common.{arith}
use Rattle.numbered_graph.proofs.Turned.{stands_at}
use Rattle.argument_faults.proofs.written_from.note_writes_at.Goals as goal

-- src/written_from.rt
pub write_at-requires : goal.write_at-requires
write_at-requires c = c.requires.there _ (stands_at c.args.numbers.now c.loop-number.number-index 0 (omega arith))
