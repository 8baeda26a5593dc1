-- Leftmost derivations.
use Rattle.std.specs.Prelude.{◌≡◌, List, [], ◌∷◌, ◌++◌}
use Rattle.fort_tree.specs.declared.statement.Token.{Token}
use Rattle.fort_grammar.specs.declared.class.Class.{Class}
use Rattle.fort_grammar.specs.declared.table.Action.{Action}
use Rattle.fort_grammar.specs.declared.table.Part.{Part}
use Rattle.fort_grammar.specs.declared.table.Symbol.{Symbol}
use Rattle.fort_grammar.specs.declared.table.Symbol.TheVariants.{Take, Call, Build}
use Rattle.fort_grammar.specs.Table.{Choice, table}
use Rattle.fort_grammar.specs.Token.{token_class}

-- x is one of the list
pub data In {A : Type 0} (x : A) : List A → Type 0 where
  here : {xs : List A} → In x (x ∷ xs)
  there : {y : A} {xs : List A} → In x xs → In x (y ∷ xs)

-- The tokens derive the symbols. On the way each token is shifted onto the values, and each action builds of them.
pub data Derives (V : Type 0) (shift : Token → V → V) (apply : Action → V → V) : List Symbol → List Token → V → V → Type 0 where
  done : {v : V} → Derives V shift apply [] [] v v
  take : {c : Class} {rest : List Symbol} {w : List Token} {v u : V} (t : Token) → token_class t ≡ c →
      Derives V shift apply rest w (shift t v) u → Derives V shift apply (Take c ∷ rest) (t ∷ w) v u
  build : {x : Action} {rest : List Symbol} {w : List Token} {v u : V} →
      Derives V shift apply rest w (apply x v) u → Derives V shift apply (Build x ∷ rest) w v u
  row : {n : Part} {rest : List Symbol} {w : List Token} {v u : V} (r : Choice) → In r (table n) →
      Derives V shift apply (r.symbols ++ rest) w v u → Derives V shift apply (Call n ∷ rest) w v u
