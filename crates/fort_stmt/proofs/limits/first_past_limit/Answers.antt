use Rattle.std.proofs.Common.{◌≤◌, ◌∙◌, sym, ap, subst, Some, arith}
use Rattle.std.proofs.lemmas.Option.{slice_get-get_or}
use Rattle.fort_stmt.proofs.Passing.{whole-exit, stuck-exit, long-exit, deep-exit, next-kept, end}
use Rattle.fort_stmt.proofs.limits.first_past_limit.Goals as goal

pub returns-in-Whole : goal.returns-in-Whole
returns-in-Whole c = whole-exit c.args.mode c.args.tokens.now c.loop-i.i c.index-tokens-i.result c.loop-i.stack c.advance.new.stack c.loop-i.depths c.advance.new.values
    (slice_get-get_or c.args.tokens.now c.loop-i.i _ c.loop-i-test.true ∙ ap Some (sym c.index-tokens-i.is)) c.loop-i.invariant c.in_ok-advance.field-0 c.in-Whole.is c.in_ok-advance.ensures

pub returns-in-Stuck : goal.returns-in-Stuck
returns-in-Stuck c = stuck-exit c.args.mode c.args.tokens.now c.loop-i.i c.index-tokens-i.result c.loop-i.stack c.advance.new.stack c.loop-i.depths c.advance.new.values
    (slice_get-get_or c.args.tokens.now c.loop-i.i _ c.loop-i-test.true ∙ ap Some (sym c.index-tokens-i.is)) c.loop-i.invariant c.in_ok-advance.field-0 c.in-Stuck.is c.in_ok-advance.ensures

pub returns-then-past : goal.returns-then-past
returns-then-past c = long-exit c.args.mode c.args.tokens.now c.loop-i.i c.index-tokens-i.result c.loop-i.stack c.advance.new.stack c.loop-i.depths c.advance.new.values
    (slice_get-get_or c.args.tokens.now c.loop-i.i _ c.loop-i-test.true ∙ ap Some (sym c.index-tokens-i.is)) c.loop-i.invariant c.in_ok-advance.field-0 c.in-Moved.is
    (subst (λ n. n ≤ c.loop-i.i) c.token_limit.ensures c.if-past.true) c.in_ok-advance.ensures

pub returns-then-deep : goal.returns-then-deep
returns-then-deep c = deep-exit c.args.mode c.args.tokens.now c.loop-i.i c.index-tokens-i.result c.loop-i.stack c.advance.new.stack c.loop-i.depths c.advance.new.values
    (slice_get-get_or c.args.tokens.now c.loop-i.i _ c.loop-i-test.true ∙ ap Some (sym c.index-tokens-i.is)) c.loop-i.invariant c.in_ok-advance.field-0 c.in_ok-deep.deep c.in-Moved.is
    c.if-deep.true c.in_ok-deep.ensures c.in_ok-advance.ensures

pub loop-i-preserved : goal.loop-i-preserved
loop-i-preserved c = next-kept c.args.mode c.args.tokens.now c.loop-i.i c.index-tokens-i.result c.loop-i.stack c.advance.new.stack c.loop-i.depths c.advance.new.values
    (slice_get-get_or c.args.tokens.now c.loop-i.i _ c.loop-i-test.true ∙ ap Some (sym c.index-tokens-i.is)) c.loop-i.invariant c.in_ok-advance.field-0 c.in_ok-deep.deep c.in-Moved.is
    (λ l. let h : c.token_limit.result ≤ c.loop-i.i = subst (λ n. n ≤ c.loop-i.i) (sym c.token_limit.ensures) l in omega (arith, h, c.if-past.false)) c.if-deep.false c.in_ok-deep.ensures c.in_ok-advance.ensures

pub returns : goal.returns
returns c = end c.args.mode c.args.tokens.now c.loop-i.i c.loop-i.stack c.loop-i.depths c.loop-i-test.false c.loop-i.invariant
