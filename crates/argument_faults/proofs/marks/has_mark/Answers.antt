use Rattle.std.proofs.Common.{arith}
use Rattle.numbered_graph.proofs.Turned.{stands_at}
use Rattle.argument_faults.proofs.marks.has_mark.Goals as goal

-- src/marks.rt
pub mark_in-requires : goal.mark_in-requires
mark_in-requires c =
    let here = stands_at c.args.numbers.now c.loop-number.number-index 0 (omega arith) in
    record { number = c.requires.rows.there _ here; place = omega (arith, c.requires.place, c.requires.rows.long _ here) }
