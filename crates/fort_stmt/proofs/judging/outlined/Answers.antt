use Rattle.std.proofs.Common.{◌∷◌, ◌∙◌, sym, ap, Some, None}
use Rattle.fort_grammar.specs.declared.table.Part.TheVariants as part
use Rattle.fort_grammar.specs.declared.table.Symbol.TheVariants.{Call}
use Rattle.std.proofs.lemmas.Option.{slice_get-get_or}
use Rattle.fort_stmt.proofs.Verdicts.{tested, outside-exit, whole-exit, stuck-exit, moved, syntax-end, whole-end, begun}
use Rattle.fort_stmt.proofs.judging.outlined.Goals as goal

pub returns-in-Some : goal.returns-in-Some
returns-in-Some c = outside-exit c.loop-i.outline c.args.mode c.args.tokens.now c.loop-i.i c.index-tokens-i.result c.loop-i.stack c.loop-i.outline c.in-Some.item
    (slice_get-get_or c.args.tokens.now c.loop-i.i _ c.loop-i-test.true ∙ ap Some (sym c.index-tokens-i.is)) c.loop-i.invariant
    (tested c.args.mode c.args.tokens.now c.loop-i.i c.index-tokens-i.result c.loop-i.stack c.before-in-loop-i.result.now c.behind.result.now c.item-outside.result (Some c.in-Some.item) c.item-outside.ensures c.before-in-loop-i.ensures c.behind.ensures c.in-Some.is)

pub returns-in-Whole : goal.returns-in-Whole
returns-in-Whole c = whole-exit c.advance.new.values c.args.mode c.args.tokens.now c.loop-i.i c.index-tokens-i.result c.loop-i.stack c.advance.new.stack c.loop-i.outline c.advance.new.values c.in_ok-advance.field-0
    (slice_get-get_or c.args.tokens.now c.loop-i.i _ c.loop-i-test.true ∙ ap Some (sym c.index-tokens-i.is)) c.loop-i.invariant
    (tested c.args.mode c.args.tokens.now c.loop-i.i c.index-tokens-i.result c.loop-i.stack c.before-in-loop-i.result.now c.behind.result.now c.item-outside.result None c.item-outside.ensures c.before-in-loop-i.ensures c.behind.ensures c.in_default.is)
    c.in-Whole.is c.in_ok-advance.ensures

pub returns-in-Stuck : goal.returns-in-Stuck
returns-in-Stuck c = stuck-exit c.advance.new.values c.args.mode c.args.tokens.now c.loop-i.i c.index-tokens-i.result c.loop-i.stack c.advance.new.stack c.loop-i.outline c.advance.new.values c.in_ok-advance.field-0
    (slice_get-get_or c.args.tokens.now c.loop-i.i _ c.loop-i-test.true ∙ ap Some (sym c.index-tokens-i.is)) c.loop-i.invariant
    (tested c.args.mode c.args.tokens.now c.loop-i.i c.index-tokens-i.result c.loop-i.stack c.before-in-loop-i.result.now c.behind.result.now c.item-outside.result None c.item-outside.ensures c.before-in-loop-i.ensures c.behind.ensures c.in_default.is)
    c.in-Stuck.is c.in_ok-advance.ensures

pub loop-i-preserved : goal.loop-i-preserved
loop-i-preserved c = moved c.args.mode c.args.tokens.now c.loop-i.i c.index-tokens-i.result c.loop-i.stack c.advance.new.stack c.loop-i.outline c.advance.new.values c.in_ok-advance.field-0
    (slice_get-get_or c.args.tokens.now c.loop-i.i _ c.loop-i-test.true ∙ ap Some (sym c.index-tokens-i.is)) c.loop-i.invariant
    (tested c.args.mode c.args.tokens.now c.loop-i.i c.index-tokens-i.result c.loop-i.stack c.before-in-loop-i.result.now c.behind.result.now c.item-outside.result None c.item-outside.ensures c.before-in-loop-i.ensures c.behind.ensures c.in_default.is)
    c.in-Moved.is c.in_ok-advance.ensures

pub returns-then-whole : goal.returns-then-whole
returns-then-whole c = whole-end c.args.mode c.args.tokens.now c.loop-i.i c.loop-i.stack c.loop-i.outline c.finish.new.values c.in_ok-whole.whole
    c.loop-i-test.false c.loop-i.invariant c.if-whole.true c.in_ok-whole.ensures

pub returns : goal.returns
returns c = syntax-end c.finish.new.values c.args.mode c.args.tokens.now c.loop-i.i c.loop-i.stack c.loop-i.outline c.finish.new.values c.in_ok-whole.whole
    c.loop-i-test.false c.loop-i.invariant c.if-whole.false c.in_ok-whole.ensures

pub loop-i-init : goal.loop-i-init
loop-i-init c = begun c.args.mode c.args.tokens.now c.push.new.self c.args.outline.now (c.in_ok-push.ensures ∙ ap (λ l. Call part.Statement ∷ l) c.new-stack.ensures) c.requires
