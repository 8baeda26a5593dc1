use Rattle.std.proofs.Common.{◌≡◌, map, drop}
use Rattle.fort_grammar.specs.Choose.{member}
use Rattle.fort_grammar.specs.First.{all_first}
use Rattle.fort_grammar.specs.Table.{choice, table}
use Rattle.fort_grammar.proofs.engine.begins.Given as goal

abbrev pub invariant-loop-row : goal.invariant-loop-row
invariant-loop-row l = record {
  same : map choice l.all ≡ table l.fn.part;
  rest : member l.class (all_first (table l.fn.part)) ≡ member l.class (all_first (map choice (drop l.row-index l.all)));
}
