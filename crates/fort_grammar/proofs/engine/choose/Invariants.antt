use Rattle.std.proofs.Common.{◌≡◌, map, drop}
use Rattle.fort_grammar.specs.Choose.{chosen}
use Rattle.fort_grammar.specs.Table.{choice, table}
use Rattle.fort_grammar.proofs.engine.choose.Given as goal

abbrev pub invariant-loop-row : goal.invariant-loop-row
invariant-loop-row l = record {
  same : map choice l.all ≡ table l.fn.part;
  none : chosen l.look (table l.fn.part) ≡ chosen l.look (map choice (drop l.row-index l.all));
}
