use Rattle.std.proofs.Common.{◌≡◌, map, drop}
use Rattle.fort_grammar.specs.Class.{word, words}
use Rattle.fort_grammar.specs.Token.{listed_class}
use Rattle.fort_grammar.proofs.token.listed.Given as goal

abbrev pub invariant-loop-word : goal.invariant-loop-word
invariant-loop-word l = record {
  same : map word l.all ≡ words;
  none : listed_class words l.text ≡ listed_class (map word (drop l.word-index l.all)) l.text;
}
