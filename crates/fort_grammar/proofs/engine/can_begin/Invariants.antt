use Rattle.std.proofs.Common.{◌≡◌, reverse}
use Rattle.fort_grammar.specs.Choose.{member}
use Rattle.fort_grammar.specs.First.{firsts}
use Rattle.fort_grammar.proofs.engine.can_begin.Given as goal

abbrev pub invariant-loop-symbol : goal.invariant-loop-symbol
invariant-loop-symbol l = member l.class (firsts (reverse l.symbols)) ≡ member l.class (firsts (reverse l.symbol-iterator.iter.rest.now))
