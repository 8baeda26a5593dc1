use Rattle.std.proofs.Common.{◌≡◌, map, drop}
use Rattle.fort_grammar.specs.First.{any_empty}
use Rattle.fort_grammar.specs.Table.{choice, table}
use Rattle.fort_grammar.proofs.engine.can_be_empty.Given as goal

abbrev pub invariant-loop-row : goal.invariant-loop-row
invariant-loop-row l = record {
  same : map choice l.all ≡ table l.fn.part;
  rest : any_empty (table l.fn.part) ≡ any_empty (map choice (drop l.row-index l.all));
}
