use Rattle.fort_grammar.proofs.Steps.{finishes-end, finishes-token}
use Rattle.fort_grammar.proofs.engine.finish.Goals as goal

pub returns-in-End : goal.returns-in-End
returns-in-End g c = finishes-end g.row.B.Denot g.B.Build.shifted g.B.Build.applied c.in_ok-expand.field-0 c.args.stack.now c.expand.new.stack c.args.values.now c.expand.new.values c.in-End.is c.in_ok-expand.ensures

pub returns-in-Token : goal.returns-in-Token
returns-in-Token g c = finishes-token g.row.B.Denot g.B.Build.shifted g.B.Build.applied c.in_ok-expand.field-0 c.in-Token.field-0 c.args.stack.now c.expand.new.stack c.args.values.now c.expand.new.values c.in-Token.is c.in_ok-expand.ensures
