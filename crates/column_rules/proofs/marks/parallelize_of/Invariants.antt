use Rattle.std.proofs.Common.{◌≡◌, drop, map}
use Rattle.claw_meaning.specs.Plain.{plain_directive}
use Rattle.claw_meaning.specs.Units.{directive_of, is_word_parallelize}
use Rattle.column_rules.proofs.marks.parallelize_of.Given as goal

abbrev pub invariant-loop-mark : goal.invariant-loop-mark
invariant-loop-mark l = directive_of is_word_parallelize (map plain_directive (drop l.mark-index l.marks)) ≡ directive_of is_word_parallelize (map plain_directive l.fn.marks)
