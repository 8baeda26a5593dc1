-- Tokens read from the left, as far as they go.
use Rattle.std.specs.Prelude.{◌≡◌, List, ◌∷◌, ◌++◌}
use Rattle.fort_tree.specs.declared.statement.Token.{Token}
use Rattle.fort_grammar.specs.declared.class.Class.{Class}
use Rattle.fort_grammar.specs.declared.table.Action.{Action}
use Rattle.fort_grammar.specs.declared.table.Part.{Part}
use Rattle.fort_grammar.specs.declared.table.Symbol.{Symbol}
use Rattle.fort_grammar.specs.declared.table.Symbol.TheVariants.{Take, Call, Build}
use Rattle.fort_grammar.specs.Derives.{In}
use Rattle.fort_grammar.specs.Table.{Choice, table}
use Rattle.fort_grammar.specs.Token.{token_class}

-- From the symbols and the values some tokens are read, by rows and actions, and z is left. Right behind the last of them the symbols b are still wanted, and the
-- values are u.
pub data Reads (V : Type 0) (shift : Token → V → V) (apply : Action → V → V) (z : List Token) (b : List Symbol) (u : V) : List Symbol → List Token → V → Type 0 where
  last : {c : Class} {v : V} (t : Token) → token_class t ≡ c → shift t v ≡ u → Reads V shift apply z b u (Take c ∷ b) (t ∷ z) v
  take : {c : Class} {rest : List Symbol} {w : List Token} {v : V} (t : Token) → token_class t ≡ c → Reads V shift apply z b u rest w (shift t v) →
      Reads V shift apply z b u (Take c ∷ rest) (t ∷ w) v
  build : {x : Action} {rest : List Symbol} {w : List Token} {v : V} → Reads V shift apply z b u rest w (apply x v) → Reads V shift apply z b u (Build x ∷ rest) w v
  row : {n : Part} {rest : List Symbol} {w : List Token} {v : V} (r : Choice) → In r (table n) → Reads V shift apply z b u (r.symbols ++ rest) w v → Reads V shift apply z b u (Call n ∷ rest) w v
