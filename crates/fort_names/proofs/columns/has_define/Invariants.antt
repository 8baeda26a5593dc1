use Rattle.std.proofs.Common.{◌≡◌, drop, map, is_some}
use Rattle.claw_meaning.specs.Plain.{plain_directive}
use Rattle.claw_meaning.specs.Units.{directive_of, is_word_define}
use Rattle.fort_names.proofs.columns.has_define.Given as goal

abbrev pub invariant-loop-mark : goal.invariant-loop-mark
invariant-loop-mark l =
    is_some (directive_of is_word_define (map plain_directive (drop l.mark-index l.marks))) ≡ is_some (directive_of is_word_define (map plain_directive l.fn.marks))
