use Rattle.std.proofs.Common.{◌≡◌, ◌++◌}
use Rattle.fort_grammar.proofs.engine.push_row.Given as goal

abbrev pub invariant-loop-symbol : goal.invariant-loop-symbol
invariant-loop-symbol l = l.symbols ++ l.initial.stack ≡ l.symbol-iterator.iter.rest.now ++ l.stack
