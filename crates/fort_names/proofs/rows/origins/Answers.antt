use Rattle.std.proofs.Common.{◌≤◌, length, arith, ap, sym, ◌∙◌}
use Rattle.fort_names.specs.Tables.{next_row}
use Rattle.fort_names.proofs.Rounds.{at_rest, one_more, all_rounds}
use Rattle.fort_names.proofs.rows.origins.Goals as goal

-- src/rows.rt
pub returns-then-is_same : goal.returns-then-is_same
returns-then-is_same c =
    let d = c.args.declared.now in
    let ms = c.args.modules.now in
    let x = c.args.name.now in
    let within : c.loop-round._round ≤ length ms = omega arith in
    at_rest d ms x c.loop-round._round c.loop-round.row c.in_ok-next.next within c.loop-round.invariant
    (c.in_ok-next.ensures ∙ ap (λ row. next_row d 0 ms row x) c.items.ensures)
    (sym c.items-in-loop-round-2.ensures ∙ c.is_same.ensures c.if-is_same.true ∙ c.items-in-loop-round.ensures)

pub loop-round-preserved : goal.loop-round-preserved
loop-round-preserved c =
    let d = c.args.declared.now in
    let ms = c.args.modules.now in
    let x = c.args.name.now in
    one_more d ms x c.loop-round._round c.loop-round.row c.in_ok-next.next c.loop-round.invariant
    (c.in_ok-next.ensures ∙ ap (λ row. next_row d 0 ms row x) c.items.ensures)

pub returns : goal.returns
returns c = all_rounds c.args.declared.now c.args.modules.now c.args.name.now c.loop-round._round c.loop-round.row (omega arith) c.loop-round.invariant
