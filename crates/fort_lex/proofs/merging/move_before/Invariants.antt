use Rattle.std.proofs.Common.{◌≡◌, ◌++◌, map, length}
use Rattle.fort_lex.specs.Lines.{written, lines_before, lines_behind}
use Rattle.fort_lex.proofs.merging.move_before.Given as goal

abbrev pub invariant-loop-at : goal.invariant-loop-at
invariant-loop-at l =
    (map written l.lines ++ lines_before l.at (map written l.others.items) ≡ map written l.fn.lines ++ lines_before l.at (map written l.fn.others.items))
    × (lines_behind l.at (map written l.others.items) ≡ lines_behind l.at (map written l.fn.others.items))

abbrev pub decreases-loop-at : goal.decreases-loop-at
decreases-loop-at l = length l.others.items
