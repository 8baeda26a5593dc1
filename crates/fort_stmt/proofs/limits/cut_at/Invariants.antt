use Rattle.std.proofs.Common.{◌≡◌, take, reverse}
use Rattle.fort_stmt.specs.Cuts.{cut_of}
use Rattle.fort_stmt.proofs.limits.cut_at.Given as goal

abbrev pub invariant-loop-symbol : goal.invariant-loop-symbol
invariant-loop-symbol l = l.cut ≡ cut_of (reverse (take l.symbol-index l.symbol-items))
