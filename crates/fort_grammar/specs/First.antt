-- What can begin symbols, and whether they can be empty, by the sets that the table gives.
use Rattle.std.specs.Prelude.{◌≡◌, ℕ, ◌+◌, Bool, true, false, ◌&&◌, ◌||◌, List, [], ◌∷◌, ◌++◌}
use Rattle.fort_grammar.specs.declared.class.Class.{Class}
use Rattle.fort_grammar.specs.declared.table.Symbol.{Symbol}
use Rattle.fort_grammar.specs.declared.table.Symbol.TheVariants.{Take, Call, Build}
use Rattle.fort_grammar.specs.Table.{Choice, table}
use Rattle.fort_grammar.specs.Choose.{member}
use Rattle.fort_grammar.specs.Sets.{follow, weight}

abbrev pub only : Bool → List Class → List Class
only true xs = xs
only false xs = []

abbrev pub all_first : List Choice → List Class
all_first [] = []
all_first (r ∷ rs) = r.first ++ all_first rs

abbrev pub any_empty : List Choice → Bool
any_empty [] = false
any_empty (r ∷ rs) = r.empty || any_empty rs

-- the classes of tokens that can begin the symbols
abbrev pub firsts : List Symbol → List Class
firsts [] = []
firsts (Take c ∷ ss) = c ∷ []
firsts (Build x ∷ ss) = firsts ss
firsts (Call n ∷ ss) = all_first (table n) ++ only (any_empty (table n)) (firsts ss)

-- the symbols can be empty
abbrev pub nulls : List Symbol → Bool
nulls [] = true
nulls (Take c ∷ ss) = false
nulls (Build x ∷ ss) = nulls ss
nulls (Call n ∷ ss) = any_empty (table n) && nulls ss

-- Behind each part stands nothing that the table doesn't know of.
abbrev pub Good : List Symbol → Type 0
Good [] = Unit {0}
Good (Take c ∷ ss) = Good ss
Good (Build x ∷ ss) = Good ss
Good (Call n ∷ ss) = ((c : Class) → member c (firsts ss) ≡ true → member c (follow n) ≡ true) × Good ss

-- at most how many symbols are taken off before a token is wanted
abbrev pub cost : List Symbol → ℕ
cost [] = 0
cost (Take c ∷ ss) = 0
cost (Build x ∷ ss) = 1 + cost ss
cost (Call n ∷ ss) = weight n + cost ss
