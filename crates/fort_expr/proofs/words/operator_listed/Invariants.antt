use Rattle.std.proofs.Common.{◌≡◌, map, drop}
use Rattle.fort_expr.specs.Words.{spelling, spellings, operator_in}
use Rattle.fort_expr.proofs.words.operator_listed.Given as goal

abbrev pub invariant-loop-word : goal.invariant-loop-word
invariant-loop-word l = record {
  same : map spelling l.all ≡ spellings;
  rest : operator_in spellings l.text ≡ operator_in (map spelling (drop l.word-index l.all)) l.text;
}
