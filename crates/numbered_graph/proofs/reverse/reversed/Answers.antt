use Rattle.std.proofs.Common.{drop_of_length-le, ◌≤◌, ◌≡◌, arith, subst, sym, ap, ◌∙◌, length}
use Rattle.numbered_graph.specs.Graphs.{IsReverse, stands, row}
use Rattle.numbered_graph.specs.Turning.{all_links}
use Rattle.numbered_graph.proofs.Turned.{all_turned}
use Rattle.numbered_graph.proofs.Peeling.{row_read}
use Rattle.numbered_graph.proofs.reverse.reversed.Goals as goal

-- src/reverse.rt:46:9
pub add_links-requires : goal.add_links-requires
add_links-requires c y e =
    let rows = c.args.rows.now in
    let is : c.numbers.result.now ≡ row rows c.loop-from.from = c.numbers.ensures ∙ row_read rows c.loop-from.from c.index-rows-from.result (omega arith) c.index-rows-from.is in
    omega (arith, c.requires.within c.loop-from.from y (sym (ap (stands y) is) ∙ e))

-- src/reverse.rt:40:1
pub returns : goal.returns
returns c =
    let rows = c.args.rows.now in
    let past : length rows ≤ c.loop-from.from = omega arith in
    subst (IsReverse rows)
    (sym (ap (all_links c.loop-from.from c.loop-from.back.items) (sym (drop_of_length-le rows past)) ∙ c.loop-from.invariant.same))
    (all_turned rows c.requires)
