-- Which row of a part the next token calls for.
use Rattle.std.specs.Prelude.{Bool, cond, ◌||◌, List, [], ◌∷◌, Option, None, Some, nat_eq}
use Rattle.std.specs.List.{list_any}
use Rattle.fort_grammar.specs.declared.class.Class.{Class}
use Rattle.fort_grammar.specs.Class.{code}
use Rattle.fort_grammar.specs.Table.{Choice}

abbrev pub same : Class → Class → Bool
same a b = nat_eq (code a) (code b)

abbrev pub member : Class → List Class → Bool
member c ds = list_any (λ d. nat_eq (code d) (code c)) ds

-- the next token can begin the row, or the row can be empty; with no token the row can be empty
abbrev pub suits : Option Class → Choice → Bool
suits None r = r.empty
suits (Some c) r = member c r.first || r.empty

-- the first row that suits
abbrev pub chosen : Option Class → List Choice → Option Choice
chosen look [] = None
chosen look (r ∷ rs) = cond (suits look r) (Some r) (chosen look rs)
