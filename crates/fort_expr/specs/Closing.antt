-- The depth that closing parentheses give.
use Rattle.std.specs.Prelude.{◌≡◌, ℕ, ◌<◌, ◌≤◌, Bool, true, false, List, [], ◌∷◌, Option, None, Some}
use Rattle.fort_tree.specs.declared.statement.Token.{Token}
use Rattle.fort_grammar.specs.declared.class.Class.TheVariants as class
use Rattle.fort_grammar.specs.declared.table.Symbol.{Symbol}
use Rattle.fort_grammar.specs.Derives.{Derives}
use Rattle.fort_grammar.specs.Token.{token_class}
use Rattle.fort_expr.specs.declared.value.Shape.{Shape}
use Rattle.fort_expr.specs.Shapes.{shift_shape, apply_shape, top_depth}

abbrev pub Shaped : List Symbol → List Token → List Shape → List Shape → Type 0
Shaped ss w v u = Derives (List Shape) shift_shape apply_shape ss w v u

-- closing parentheses alone
abbrev pub Closers : List Token → Type 0
Closers [] = Unit {0}
Closers (t ∷ z) = (token_class t ≡ class.Close) × Closers z

-- closing parentheses complete the state, and all that do give this depth
pub record ClosesAt (d : ℕ) (s : List Symbol) (v : List Shape) : Type 0 where
  pub some : (z : List Token) × (u : List Shape) × Closers z × Shaped s z v u
  pub all : (z : List Token) (u : List Shape) → Closers z → Shaped s z v u → top_depth u ≡ d

abbrev pub Closes : Option ℕ → List Symbol → List Shape → Type 0
Closes (Some d) s v = ClosesAt d s v
Closes None s v = (z : List Token) (u : List Shape) → Closers z → Shaped s z v u → ⊥

-- the depth that closing parentheses give is above the limit, or none that they give is
abbrev pub Judges : Bool → ℕ → List Symbol → List Shape → Type 0
Judges true limit s v = (d : ℕ) × (limit < d) × ClosesAt d s v
Judges false limit s v = (z : List Token) (u : List Shape) → Closers z → Shaped s z v u → top_depth u ≤ limit
