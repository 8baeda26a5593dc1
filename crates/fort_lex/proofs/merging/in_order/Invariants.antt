use Rattle.std.proofs.Common.{◌≡◌, ◌++◌, List, map}
use Rattle.fort_lex.specs.Lines.{Written, written, in_order}
use Rattle.fort_lex.proofs.merging.in_order.Given as goal

abbrev pub invariant-loop-line : goal.invariant-loop-line
invariant-loop-line l =
    (others : List Written) → in_order (map written l.yielded ++ others) (map written l.fn.directives.items) ≡ map written l.lines ++ in_order others (map written l.directives.items)
