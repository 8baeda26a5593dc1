use Rattle.std.proofs.Common.{◌≡◌, ◌∷◌, ap, map, false, rules, arith}
use Rattle.std.proofs.lemmas.Grind.{common_steps}
use Rattle.fort_spell.specs.Expressions.{sub_pieces, bound_pieces}
use Rattle.fort_spell.specs.Pieces.{items, lower}
use Rattle.fort_spell.proofs.Streams.{put_both, put_is, put_next, left_first}
use Rattle.fort_spell.proofs.Nodes.{one_is, two_is, paren_is, ref_some_is, range_is, next_item}
use Rattle.fort_spell.proofs.expressions.«+expressions».Goals as goal

pub put_expr-returns-in-One : goal.put_expr-returns-in-One
put_expr-returns-in-One g t c = put_is _ (put_both _ _ c.put_unary-reached.ensures c.put_operand.ensures) (one_is _ _ _ _ _ c.in-One.is)

pub put_expr-returns-in-Two : goal.put_expr-returns-in-Two
put_expr-returns-in-Two g t c = put_is _ (put_both _ _ (put_both _ _ c.put_part-reached.ensures c.put_op-reached.ensures) c.put_right.ensures) (two_is _ _ _ _ _ c.in-Two.is)

pub put_expr-returns-in-Paren : goal.put_expr-returns-in-Paren
put_expr-returns-in-Paren g t c = put_is _ (put_both _ _ (put_both _ _ c.put_mark-reached.ensures c.put_part-reached-in-Paren.ensures) c.put_mark-in-Paren.ensures) (paren_is _ _ _ _ c.in-Paren.is)

pub put_expr-returns-in-Some : goal.put_expr-returns-in-Some
put_expr-returns-in-Some g t c = put_is _ (put_both _ _ c.put_word-reached.ensures c.put_subs.ensures) (ref_some_is _ _ _ _ _ _ _ _ c.in-Ref.is c.text.ensures.text c.in-Some.is c.items.ensures)

pub put_sub-returns-in-Range : goal.put_sub-returns-in-Range
put_sub-returns-in-Range g t c = put_is _ (put_both _ _ c.put_lower-reached.ensures c.put_bound.ensures) (range_is _ _ _ _ _ c.in-Range.is)

pub put_lower-returns-in-Some : goal.put_lower-returns-in-Some
put_lower-returns-in-Some g t c = put_is _ (put_both _ _ c.put_expr-reached.ensures c.put_mark-in-Some.ensures) (ap (λ o. lower (bound_pieces o) c.args.spaced) c.in-Some.is)

pub put_subs-returns : goal.put_subs-returns
put_subs-returns g t c = put_both _ _ (put_both _ _ c.put_mark-reached.ensures c.put_list-reached.ensures) c.put_mark.ensures

pub put_list-loop-sub-init : goal.put_list-loop-sub-init
put_list-loop-sub-init g t c =
    let e : c.args.subs.now ≡ c.in-Some.first.now ∷ c.in-Some.rest.now = first_of (search rules, grind (arith, common_steps, c.in-Some.ensures.cases)) in
    left_first _ _ _ c.put_sub-reached.ensures (ap (λ q. items c.args.gap (map sub_pieces q) false) e)

pub put_list-loop-sub-preserved : goal.put_list-loop-sub-preserved
put_list-loop-sub-preserved g t c = put_next _ _ _ _ c.loop-sub.invariant (put_both _ _ c.put_mark-reached.ensures c.put_sub-reached-in-loop-sub.ensures)
    (next_item sub_pieces c.args.gap c.in-Some.rest.now c.loop-sub.sub-index c.sub-item.result c.loop-sub-test.true c.sub-item.is)
