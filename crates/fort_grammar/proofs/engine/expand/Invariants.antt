use Rattle.fort_grammar.specs.First.{cost}
use Rattle.fort_grammar.proofs.Steps.{State}
use Rattle.fort_grammar.proofs.engine.expand.Given as goal

abbrev pub invariant-loop-symbol : goal.invariant-loop-symbol
invariant-loop-symbol g l = State g.row.B.Denot g.B.Build.shifted g.B.Build.applied l.look l.initial.stack l.initial.values l.stack l.values

abbrev pub decreases-loop-symbol : goal.decreases-loop-symbol
decreases-loop-symbol g l = cost l.stack
