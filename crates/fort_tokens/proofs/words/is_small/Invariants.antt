use Rattle.std.proofs.Common.{◌≡◌, ◌≤◌, drop}
use Rattle.fort_tokens.specs.Texts.{value_from}
use Rattle.fort_tokens.proofs.words.is_small.Given as goal

abbrev pub invariant-loop-byte : goal.invariant-loop-byte
invariant-loop-byte l = record {
  same : value_from 0 l.text ≡ value_from l.value (drop l.byte-index l.text);
  small : l.value ≤ 9223372036854775807;
}
