use Rattle.std.proofs.Common.{◌≡◌, min, take}
use Rattle.fort_expr.specs.Words.{value_of}
use Rattle.fort_expr.proofs.words.value.Given as goal

abbrev pub invariant-loop-digit : goal.invariant-loop-digit
invariant-loop-digit l = l.value ≡ min (value_of (take l.digit-index l.digits)) 9223372036854775808
