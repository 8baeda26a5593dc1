use Rattle.std.proofs.Common.{◌≡◌, [], ◌∷◌, ◌++◌, List, ◌∙◌}
use Rattle.fort_tree.specs.declared.fault.Fault.{Fault}
use Rattle.fort_lex.proofs.laws.lines_or_a_fault.Goals as goal

not-empty : (front : List Fault) (f : Fault) (back : List Fault) → [] ≡ front ++ f ∷ back → ⊥
not-empty [] f back e = cc
not-empty (g ∷ front) f back e = cc

pub returns : goal.returns
returns c file mode text lines fault are first =
    let one = c.lines_are_unique.ensures file mode text lines first.lines [] first.faults are first.are in
    not-empty first.is_first.front fault first.is_first.back (one.1 ∙ first.is_first.is_one)
