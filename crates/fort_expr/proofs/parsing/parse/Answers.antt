use Rattle.std.proofs.Common.{◌∙◌, sym, ap, subst, Some, None}
use Rattle.std.proofs.lemmas.Option.{slice_get-get_or}
use Rattle.fort_expr.specs.Machine.{JudgesPast}
use Rattle.fort_expr.proofs.Stops.{tested, whole-exit, syntax-exit, outside-stuck-exit, outside-moved-exit, unfinished-exit, last-limit-exit, inner-limit-exit, next-kept, whole-end, syntax-end}
use Rattle.fort_expr.proofs.parsing.parse.Goals as goal

pub returns-in-Whole : goal.returns-in-Whole
returns-in-Whole c = whole-exit c.args.mode c.args.tokens.now c.loop-i.i c.index-tokens-i.result c.loop-i.stack c.advance.new.stack c.loop-i.values c.advance.new.values c.in_ok-advance.field-0 c.pop_operand.result.0
    (slice_get-get_or c.args.tokens.now c.loop-i.i _ c.loop-i-test.true ∙ ap Some (sym c.index-tokens-i.is)) c.in-Whole.is c.pop_operand.ensures.value c.loop-i.invariant c.in_ok-advance.ensures

pub returns-in-Some : goal.returns-in-Some
returns-in-Some c = outside-stuck-exit c.args.mode c.args.tokens.now c.loop-i.i c.index-tokens-i.result c.loop-i.stack c.advance.new.stack c.loop-i.values c.advance.new.values c.in_ok-advance.field-0 c.in-Some.item
    (slice_get-get_or c.args.tokens.now c.loop-i.i _ c.loop-i-test.true ∙ ap Some (sym c.index-tokens-i.is)) c.in-Stuck.is
    (tested c.args.mode c.args.tokens.now c.loop-i.i c.index-tokens-i.result c.loop-i.stack c.item-outside.result (Some c.in-Some.item) c.class_behind.result c.item-outside.ensures c.class_behind.ensures c.in-Some.is)
    c.loop-i.invariant c.in_ok-advance.ensures

pub returns-in-Stuck : goal.returns-in-Stuck
returns-in-Stuck c = syntax-exit c.args.mode c.args.tokens.now c.loop-i.i c.index-tokens-i.result c.loop-i.stack c.advance.new.stack c.loop-i.values c.advance.new.values c.in_ok-advance.field-0
    (slice_get-get_or c.args.tokens.now c.loop-i.i _ c.loop-i-test.true ∙ ap Some (sym c.index-tokens-i.is)) c.in-Stuck.is
    (tested c.args.mode c.args.tokens.now c.loop-i.i c.index-tokens-i.result c.loop-i.stack c.item-outside.result None c.class_behind.result c.item-outside.ensures c.class_behind.ensures c.in_default.is)
    c.loop-i.invariant c.in_ok-advance.ensures

pub returns-in-Some-outside : goal.returns-in-Some-outside
returns-in-Some-outside c = outside-moved-exit c.args.mode c.args.tokens.now c.loop-i.i c.index-tokens-i.result c.loop-i.stack c.advance.new.stack c.loop-i.values c.advance.new.values c.in_ok-advance.field-0 c.in-Some-outside.item
    (slice_get-get_or c.args.tokens.now c.loop-i.i _ c.loop-i-test.true ∙ ap Some (sym c.index-tokens-i.is)) c.in-Moved.is
    (tested c.args.mode c.args.tokens.now c.loop-i.i c.index-tokens-i.result c.loop-i.stack c.item-outside.result (Some c.in-Some-outside.item) c.class_behind.result c.item-outside.ensures c.class_behind.ensures c.in-Some-outside.is)
    c.loop-i.invariant c.in_ok-advance.ensures

pub returns-then-last : goal.returns-then-last
returns-then-last c = unfinished-exit c.args.mode c.args.tokens.now c.loop-i.i c.index-tokens-i.result c.loop-i.stack c.advance.new.stack c.loop-i.values c.advance.new.values c.finish.new.values c.in_ok-advance.field-0 c.in_ok-ends.ends
    (slice_get-get_or c.args.tokens.now c.loop-i.i _ c.loop-i-test.true ∙ ap Some (sym c.index-tokens-i.is)) c.in-Moved.is
    (tested c.args.mode c.args.tokens.now c.loop-i.i c.index-tokens-i.result c.loop-i.stack c.item-outside.result None c.class_behind.result c.item-outside.ensures c.class_behind.ensures c.in_default-outside.is)
    c.if-last.true c.if-ends.false c.in_ok-ends.ensures c.loop-i.invariant c.in_ok-advance.ensures

pub returns-then-ends : goal.returns-then-ends
returns-then-ends c = last-limit-exit c.args.mode c.args.tokens.now c.loop-i.i c.index-tokens-i.result c.loop-i.stack c.advance.new.stack c.loop-i.values c.advance.new.values c.finish.new.values c.in_ok-advance.field-0 c.in_ok-past.past c.in_ok-ends.ends
    (slice_get-get_or c.args.tokens.now c.loop-i.i _ c.loop-i-test.true ∙ ap Some (sym c.index-tokens-i.is)) c.in-Moved.is
    (tested c.args.mode c.args.tokens.now c.loop-i.i c.index-tokens-i.result c.loop-i.stack c.item-outside.result None c.class_behind.result c.item-outside.ensures c.class_behind.ensures c.in_default-outside.is)
    c.if-past.true (subst (λ q. JudgesPast c.in_ok-past.past c.args.mode c.loop-i.i q c.advance.new.stack c.advance.new.values.shapes) c.class_of.ensures c.in_ok-past.ensures)
    c.if-last.true c.if-ends.true c.in_ok-ends.ensures c.loop-i.invariant c.in_ok-advance.ensures

pub returns-then-past : goal.returns-then-past
returns-then-past c = inner-limit-exit c.args.mode c.args.tokens.now c.loop-i.i c.index-tokens-i.result c.loop-i.stack c.advance.new.stack c.loop-i.values c.advance.new.values c.in_ok-advance.field-0 c.in_ok-past.past
    (slice_get-get_or c.args.tokens.now c.loop-i.i _ c.loop-i-test.true ∙ ap Some (sym c.index-tokens-i.is)) c.in-Moved.is
    (tested c.args.mode c.args.tokens.now c.loop-i.i c.index-tokens-i.result c.loop-i.stack c.item-outside.result None c.class_behind.result c.item-outside.ensures c.class_behind.ensures c.in_default-outside.is)
    c.if-past.true (subst (λ q. JudgesPast c.in_ok-past.past c.args.mode c.loop-i.i q c.advance.new.stack c.advance.new.values.shapes) c.class_of.ensures c.in_ok-past.ensures)
    c.if-last.false c.loop-i.invariant c.in_ok-advance.ensures

pub loop-i-preserved : goal.loop-i-preserved
loop-i-preserved c = next-kept c.args.mode c.args.tokens.now c.loop-i.i c.index-tokens-i.result c.loop-i.stack c.advance.new.stack c.loop-i.values c.advance.new.values c.in_ok-advance.field-0 c.in_ok-past.past
    (slice_get-get_or c.args.tokens.now c.loop-i.i _ c.loop-i-test.true ∙ ap Some (sym c.index-tokens-i.is)) c.in-Moved.is
    (tested c.args.mode c.args.tokens.now c.loop-i.i c.index-tokens-i.result c.loop-i.stack c.item-outside.result None c.class_behind.result c.item-outside.ensures c.class_behind.ensures c.in_default-outside.is)
    c.if-past.false (subst (λ q. JudgesPast c.in_ok-past.past c.args.mode c.loop-i.i q c.advance.new.stack c.advance.new.values.shapes) c.class_of.ensures c.in_ok-past.ensures)
    c.loop-i.invariant c.in_ok-advance.ensures

pub returns-then-whole : goal.returns-then-whole
returns-then-whole c = whole-end c.args.mode c.args.tokens.now c.loop-i.i c.loop-i.stack c.loop-i.values c.finish-2.new.values c.in_ok-whole.whole c.pop_operand-then-whole.result.0
    c.loop-i-test.false c.if-whole.true c.pop_operand-then-whole.ensures.value c.loop-i.invariant c.in_ok-whole.ensures

pub returns : goal.returns
returns c = syntax-end c.args.mode c.args.tokens.now c.loop-i.i c.loop-i.stack c.loop-i.values c.finish-2.new.values c.in_ok-whole.whole
    c.loop-i-test.false c.if-whole.false c.loop-i.invariant c.in_ok-whole.ensures
