use Rattle.std.proofs.Common.{◌≡◌, ◌∙◌, ◌∷◌, ap, map, None, sym, rules, arith}
use Rattle.std.proofs.lemmas.Grind.{common_steps}
use Rattle.fort_spell.specs.Statements.{is_one_line, print_arm, stmts_rows}
use Rattle.fort_spell.proofs.Streams.{put_both, put_is, put_next, left_first}
use Rattle.fort_spell.proofs.Forms.{arms_are, cases_are, dropped, else_ifs_are, if_none_is, if_some_is, select_none_is, select_some_is, loop_is}
use Rattle.fort_spell.proofs.statements.«+statements».Goals as goal

pub put_body-loop-stmt-preserved : goal.put_body-loop-stmt-preserved
put_body-loop-stmt-preserved g t c = put_next _ _ _ _ c.loop-stmt.invariant c.put_stmt-so_far.ensures
    (ap (λ q. stmts_rows q c.args.indent) (dropped c.args.body.now c.loop-stmt.stmt-index c.stmt-item.result c.loop-stmt-test.true c.stmt-item.is))

pub put_else-returns : goal.put_else-returns
put_else-returns g t c = put_both _ _ c.put_word_row-so_far.ensures c.put_inner.ensures

pub put_default-returns : goal.put_default-returns
put_default-returns g t c = put_both _ _ c.put_pair_row-so_far.ensures c.put_inner.ensures

pub put_arms-loop-arm-init : goal.put_arms-loop-arm-init
put_arms-loop-arm-init g t c =
    let e : c.args.arms.now ≡ c.in-Some.first.now ∷ c.in-Some.rest.now = first_of (search rules, grind (arith, common_steps, c.in-Some.ensures.cases)) in
    left_first _ _ _ (put_both _ _ c.put_then_row-so_far.ensures c.put_inner-so_far.ensures) (arms_are _ _ _ _ c.args.indent e c.items.ensures)

pub put_arms-loop-arm-preserved : goal.put_arms-loop-arm-preserved
put_arms-loop-arm-preserved g t c = put_next _ _ _ _ c.loop-arm.invariant (put_both _ _ c.put_else_if_row-so_far.ensures c.put_inner-so_far-in-loop-arm.ensures)
    (else_ifs_are _ _ _ _ c.args.indent (dropped c.in-Some.rest.now c.loop-arm.arm-index c.arm-item.result c.loop-arm-test.true c.arm-item.is) c.items-in-loop-arm.ensures)

pub put_cases-loop-case-preserved : goal.put_cases-loop-case-preserved
put_cases-loop-case-preserved g t c = put_next _ _ _ _ c.loop-case.invariant (put_both _ _ c.put_case_row-so_far.ensures c.put_inner-so_far.ensures)
    (cases_are _ _ _ _ _ c.args.indent (dropped c.args.cases.now c.loop-case.case-index c.case-item.result c.loop-case-test.true c.case-item.is) c.items.ensures c.items-in-loop-case.ensures)

pub put_stmt-returns-in-Loop : goal.put_stmt-returns-in-Loop
put_stmt-returns-in-Loop g t c = put_is _ (put_both _ _ (put_both _ _ (put_both _ _ c.put_mark_row-so_far.ensures c.put_do_row-so_far.ensures) c.put_inner-so_far.ensures) c.put_pair_row-in-Loop.ensures) (loop_is _ _ _ _ _ _ _ c.in-Loop.is c.items-in-Loop.ensures)

pub put_stmt-returns-else-is_short : goal.put_stmt-returns-else-is_short
put_stmt-returns-else-is_short g t c = put_is _ (put_both _ _ c.put_arms-so_far.ensures c.put_pair_row.ensures)
    (if_none_is _ _ _ _ _ c.args.indent c.in-If.is c.in-None.is c.items-else-is_short.ensures
    (ap (λ q. is_one_line (map print_arm q) None) (c.items-else-is_short.ensures ∙ sym c.items-in-None.ensures) ∙ sym c.is_short.ensures ∙ c.if-is_short.false))

pub put_stmt-returns-in-Some : goal.put_stmt-returns-in-Some
put_stmt-returns-in-Some g t c = put_is _ (put_both _ _ (put_both _ _ c.put_arms-so_far-in-Some.ensures c.put_else-so_far.ensures) c.put_pair_row-in-Some.ensures)
    (if_some_is _ _ _ _ _ _ _ c.args.indent c.in-If.is c.in-Some.is c.items-in-Some.ensures c.items-in-Some-2.ensures)

pub put_stmt-returns-in-None-other : goal.put_stmt-returns-in-None-other
put_stmt-returns-in-None-other g t c = put_is _ (put_both _ _ (put_both _ _ c.put_select_row-so_far.ensures c.put_cases-so_far.ensures) c.put_pair_row-in-None-other.ensures)
    (select_none_is _ _ _ _ _ _ c.args.indent c.in-Select.is c.in-None-other.is c.items-in-Select.ensures)

pub put_stmt-returns-in-Some-other : goal.put_stmt-returns-in-Some-other
put_stmt-returns-in-Some-other g t c = put_is _ (put_both _ _ (put_both _ _ (put_both _ _ c.put_select_row-so_far.ensures c.put_cases-so_far.ensures) c.put_default-so_far.ensures) c.put_pair_row-in-Some-other.ensures)
    (select_some_is _ _ _ _ _ _ _ _ c.args.indent c.in-Select.is c.in-Some-other.is c.items-in-Select.ensures c.items-in-Some-other.ensures)
