use Rattle.std.proofs.Common.{◌≡◌, true, ◌∙◌, sym, ap, subst}
use Rattle.std.proofs.lemmas.Bool.{true≢false}
use Rattle.fort_grammar.specs.declared.class.Class.TheVariants as class
use Rattle.fort_grammar.specs.declared.table.Symbol.TheVariants.{Take}
use Rattle.fort_grammar.specs.Choose.{same}
use Rattle.fort_grammar.proofs.Theory.{same-eq, same-refl}
use Rattle.fort_expr.proofs.Closing.{runs-close, runs-build, runs-call, runs-stuck, runs-take, runs-end}
use Rattle.fort_expr.proofs.depth.close.Goals as goal

pub loop-symbol-preserved-in-Continue-1 : goal.loop-symbol-preserved-in-Continue-1
loop-symbol-preserved-in-Continue-1 c = runs-close c.args.stack c.args.shapes c.in-Some.symbol c.loop-symbol.stack c.pop.new.self c.loop-symbol.shapes c.push.new.self
    c.in-Some.ensures (c.in-Take.is ∙ ap Take (same-eq c.in-Take.class class.Close (sym c.is-closes.ensures ∙ c.if-closes.true))) c.in_ok-push-in-Take.ensures c.loop-symbol.invariant

pub returns-else-closes : goal.returns-else-closes
returns-else-closes c = runs-take c.args.stack c.args.shapes c.in-Take.class c.in-Some.symbol c.loop-symbol.stack c.pop.new.self c.loop-symbol.shapes c.in-Some.ensures c.in-Take.is
    (λ e. true≢false (sym (subst (λ q. same q class.Close ≡ true) (sym e) (same-refl class.Close)) ∙ (sym c.is-closes.ensures ∙ c.if-closes.false))) c.loop-symbol.invariant

pub loop-symbol-preserved-in-Continue-branch-2 : goal.loop-symbol-preserved-in-Continue-branch-2
loop-symbol-preserved-in-Continue-branch-2 c = runs-build c.args.stack c.args.shapes c.in-Build.action c.in-Some.symbol c.loop-symbol.stack c.pop.new.self c.loop-symbol.shapes c.push-in-Build.new.self
    c.in-Some.ensures c.in-Build.is (c.in_ok-push-in-Build.ensures ∙ c.shape_of-top.ensures) c.loop-symbol.invariant

pub returns-in-None : goal.returns-in-None
returns-in-None c = runs-stuck c.args.stack c.args.shapes c.in-Call.part c.in-Some.symbol c.loop-symbol.stack c.pop.new.self c.loop-symbol.shapes c.in-Some.ensures c.in-Call.is c.in-None.ensures c.loop-symbol.invariant

pub loop-symbol-preserved : goal.loop-symbol-preserved
loop-symbol-preserved c = runs-call c.args.stack c.args.shapes c.in-Call.part c.in-Some-choose.ensures.0 c.in-Some.symbol c.loop-symbol.stack c.pop.new.self c.push_row.new.stack c.in-Some-choose.symbols.now c.loop-symbol.shapes
    c.in-Some.ensures c.in-Call.is c.in-Some-choose.ensures.1 c.in-Some-choose.ensures.2 c.in_ok-push_row-in-Some-choose.ensures c.loop-symbol.invariant

pub returns : goal.returns
returns c = runs-end c.args.stack c.args.shapes c.loop-symbol.stack c.loop-symbol.shapes c.pop_depth.result c.in_default.ensures.0 c.pop_depth.ensures c.loop-symbol.invariant
