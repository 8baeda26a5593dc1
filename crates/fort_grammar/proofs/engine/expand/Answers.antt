use Rattle.fort_grammar.proofs.Steps.{after-build, after-call, after-none, cost-at, agree-refl, idle-refl}
use Rattle.fort_grammar.proofs.engine.expand.Goals as goal

pub loop-symbol-init : goal.loop-symbol-init
loop-symbol-init g c = record {
  good = c.requires;
  agree = agree-refl g.row.B.Denot g.B.Build.shifted g.B.Build.applied c.args.look c.args.stack.now c.args.values.now;
  idle = idle-refl g.row.B.Denot g.B.Build.shifted g.B.Build.applied c.args.look c.args.stack.now c.args.values.now;
}

pub loop-symbol-preserved-in-Continue-1 : goal.loop-symbol-preserved-in-Continue-1
loop-symbol-preserved-in-Continue-1 g c = after-build g.row.B.Denot g.B.Build.shifted g.B.Build.applied c.args.look c.in-Build.action c.in-Some.symbol c.args.stack.now c.loop-symbol.stack c.pop.new.self c.args.values.now c.loop-symbol.values c.build.new.self
    c.in-Some.ensures c.in-Build.is c.in_ok-build-in-Build.ensures c.loop-symbol.invariant

pub returns-in-None : goal.returns-in-None
returns-in-None g c = after-none g.row.B.Denot g.B.Build.shifted g.B.Build.applied c.in-Call.part c.args.look c.in-Some.symbol c.args.stack.now c.loop-symbol.stack c.pop.new.self c.args.values.now c.loop-symbol.values
    c.in-Some.ensures c.in-Call.is c.in-None.ensures c.loop-symbol.invariant

pub loop-symbol-preserved : goal.loop-symbol-preserved
loop-symbol-preserved g c = after-call g.row.B.Denot g.B.Build.shifted g.B.Build.applied c.in-Call.part c.in-Some-choose.ensures.0 c.args.look c.in-Some.symbol c.args.stack.now c.loop-symbol.stack c.pop.new.self c.push_row.new.stack c.args.values.now c.loop-symbol.values c.in-Some-choose.symbols.now
    c.in-Some.ensures c.in-Call.is c.in-Some-choose.ensures.1 c.in-Some-choose.ensures.2 c.in_ok-push_row-in-Some-choose.ensures c.loop-symbol.invariant

pub loop-symbol-smaller : goal.loop-symbol-smaller
loop-symbol-smaller g c = cost-at c.in-Call.part c.in-Some-choose.ensures.0 c.args.look c.in-Some.symbol c.loop-symbol.stack c.pop.new.self c.push_row.new.stack c.in-Some-choose.symbols.now
    c.in-Some.ensures c.in-Call.is c.in-Some-choose.ensures.1 c.in-Some-choose.ensures.2 c.in_ok-push_row-in-Some-choose.ensures
