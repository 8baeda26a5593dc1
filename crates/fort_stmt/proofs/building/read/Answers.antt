use Rattle.std.proofs.Common.{◌∷◌, Some, refl, sym, ◌∙◌, ap, subst}
use Rattle.std.proofs.lemmas.Option.{slice_get-get_or}
use Rattle.fort_grammar.specs.declared.table.Part.TheVariants as part
use Rattle.fort_grammar.specs.declared.table.Symbol.TheVariants.{Call}
use Rattle.fort_stmt.specs.Machine.{start}
use Rattle.fort_stmt.proofs.Stops.{Kept, begun, moved, whole-exit, stuck-exit, form-end, syntax-end}
use Rattle.fort_stmt.proofs.building.read.Goals as goal

pub advance-requires : goal.advance-requires
advance-requires c = c.loop-i.invariant.good

pub finish-requires : goal.finish-requires
finish-requires c = c.loop-i.invariant.good

pub loop-i-init : goal.loop-i-init
loop-i-init c =
    subst (λ s. Kept c.args.tokens.now 0 s c.args.draft.now) (sym (c.in_ok-push.ensures ∙ ap (λ l. Call part.Statement ∷ l) c.new-stack.ensures))
    (subst (λ p. Kept c.args.tokens.now 0 start p) (sym c.requires) (begun c.args.tokens.now))

pub loop-i-preserved : goal.loop-i-preserved
loop-i-preserved c = moved c.args.tokens.now c.loop-i.i c.index-tokens-i.result c.loop-i.stack c.advance.new.stack c.loop-i.draft c.advance.new.values c.in_ok-advance.field-0
    (slice_get-get_or c.args.tokens.now c.loop-i.i _ c.loop-i-test.true ∙ ap Some (sym c.index-tokens-i.is)) c.in-Moved.is c.loop-i.invariant c.in_ok-advance.ensures

pub returns-in-Whole : goal.returns-in-Whole
returns-in-Whole c = whole-exit c.args.tokens.now c.loop-i.i c.index-tokens-i.result c.loop-i.stack c.advance.new.stack c.loop-i.draft c.advance.new.values c.in_ok-advance.field-0
    (slice_get-get_or c.args.tokens.now c.loop-i.i _ c.loop-i-test.true ∙ ap Some (sym c.index-tokens-i.is)) c.in-Whole.is c.loop-i.invariant c.in_ok-advance.ensures

pub returns-in-Stuck : goal.returns-in-Stuck
returns-in-Stuck c = stuck-exit c.args.tokens.now c.loop-i.i c.index-tokens-i.result c.loop-i.stack c.advance.new.stack c.loop-i.draft c.advance.new.values c.in_ok-advance.field-0
    (slice_get-get_or c.args.tokens.now c.loop-i.i _ c.loop-i-test.true ∙ ap Some (sym c.index-tokens-i.is)) c.in-Stuck.is c.loop-i.invariant c.in_ok-advance.ensures

pub returns-then-whole : goal.returns-then-whole
returns-then-whole c = form-end c.args.tokens.now c.loop-i.i c.loop-i.stack c.loop-i.draft c.finish.new.values c.in_ok-whole.whole c.finish.new.values.statement
    c.loop-i-test.false c.if-whole.true refl c.loop-i.invariant c.in_ok-whole.ensures

pub returns : goal.returns
returns c = syntax-end c.args.tokens.now c.loop-i.i c.loop-i.stack c.loop-i.draft c.finish.new.values c.in_ok-whole.whole
    c.loop-i-test.false c.if-whole.false c.loop-i.invariant c.in_ok-whole.ensures
