use Rattle.std.proofs.Common.{sym, ◌∙◌}
use Rattle.fort_grammar.proofs.Firsts.{at-take, at-build}
use Rattle.fort_grammar.proofs.engine.can_begin.Goals as goal

pub returns-in-Take : goal.returns-in-Take
returns-in-Take c = c.is.ensures ∙ (at-take c.args.class c.in-Take.wanted c.in-Some.symbol.now c.loop-symbol.symbol-iterator.iter.rest.now c.next.new.self.iter.rest.now c.in-Some.ensures.steps c.in-Take.is ∙ sym c.loop-symbol.invariant)

pub loop-symbol-preserved-in-Build : goal.loop-symbol-preserved-in-Build
loop-symbol-preserved-in-Build c = c.loop-symbol.invariant ∙ at-build c.args.class c.in-Build.field-0 c.in-Some.symbol.now c.loop-symbol.symbol-iterator.iter.rest.now c.next.new.self.iter.rest.now c.in-Some.ensures.steps c.in-Build.is
