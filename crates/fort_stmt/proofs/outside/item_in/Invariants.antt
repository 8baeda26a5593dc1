use Rattle.std.proofs.Common.{◌≡◌, map, drop}
use Rattle.fort_stmt.specs.Outside as outside
use Rattle.fort_stmt.proofs.outside.item_in.Given as goal

abbrev pub invariant-loop-word : goal.invariant-loop-word
invariant-loop-word l = outside.item_in (map outside.entry l.words) l.text ≡ outside.item_in (map outside.entry (drop l.word-index l.words)) l.text
