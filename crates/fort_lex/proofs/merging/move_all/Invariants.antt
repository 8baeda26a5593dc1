use Rattle.std.proofs.Common.{◌≡◌, ◌++◌, map, length}
use Rattle.fort_lex.specs.Lines.{written}
use Rattle.fort_lex.proofs.merging.move_all.Given as goal

abbrev pub invariant-loop-line : goal.invariant-loop-line
invariant-loop-line l = map written l.lines ++ map written l.others.items ≡ map written l.fn.lines ++ map written l.fn.others.items

abbrev pub decreases-loop-line : goal.decreases-loop-line
decreases-loop-line l = length l.others.items
