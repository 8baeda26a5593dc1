use Rattle.std.proofs.Common.{◌≡◌, take}
use Rattle.std.specs.Int.{int_max}
use Rattle.std.specs.List.{fold}
use Rattle.fort_arith.proofs.intrinsics.greatest_of.Given as goal

abbrev pub invariant-loop-a : goal.invariant-loop-a
invariant-loop-a l = l.greatest ≡ fold int_max l.first (take l.a-index l.rest)
