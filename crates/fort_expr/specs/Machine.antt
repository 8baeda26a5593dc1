-- The engine's words at the values of an expression.
use Rattle.std.specs.Prelude.{◌≡◌, ◌⊎◌, ℕ, ◌≤◌, Bool, true, false, List, [], ◌∷◌, ◌++◌}
use Rattle.fort_tree.specs.declared.choice.Mode.{Mode}
use Rattle.fort_tree.specs.declared.statement.Token.{Token}
use Rattle.fort_grammar.specs.declared.class.Class.{Class}
use Rattle.fort_grammar.specs.declared.engine.Step.{Step}
use Rattle.fort_grammar.specs.declared.table.Part.TheVariants as part
use Rattle.fort_grammar.specs.declared.table.Symbol.{Symbol}
use Rattle.fort_grammar.specs.declared.table.Symbol.TheVariants.{Call}
use Rattle.fort_grammar.specs.Derives.{Derives}
use Rattle.fort_grammar.specs.Engine as engine
use Rattle.fort_expr.specs.declared.build.Tracked.{Tracked}
use Rattle.fort_expr.specs.declared.value.Shape.{Shape}
use Rattle.fort_expr.specs.declared.value.Value.{Value}
use Rattle.fort_expr.specs.Closing.{Judges}
use Rattle.fort_expr.specs.Faults.{is_leaf, depth_limit, token_limit}
use Rattle.fort_expr.specs.Tracks.{shift_both, apply_both, no_values}
use Rattle.fort_expr.specs.Values.{shift, apply}

-- derivations that build values alone
abbrev pub Plain : List Symbol → List Token → List Value → List Value → Type 0
Plain ss w v u = Derives (List Value) shift apply ss w v u

abbrev pub Spelled : List Symbol → List Token → Tracked → Tracked → Type 0
Spelled = engine.Spelled Tracked shift_both apply_both

abbrev pub Finished : List Symbol → Tracked → Tracked → Type 0
Finished = engine.Finished Tracked shift_both apply_both

abbrev pub Never : List Symbol → List Token → Tracked → Type 0
Never = engine.Never Tracked shift_both apply_both

abbrev pub Dead : Token → List Symbol → Tracked → Type 0
Dead = engine.Dead Tracked shift_both apply_both

abbrev pub Finishes : Bool → List Symbol → Tracked → Tracked → Type 0
Finishes = engine.Finishes Tracked shift_both apply_both

abbrev pub Advances : Step → Token → List Symbol → Tracked → List Symbol → Tracked → Type 0
Advances = engine.Advances Tracked shift_both apply_both

abbrev pub start : List Symbol
start = Call part.Expr ∷ []

-- What the state derives, and what an expression is behind the tokens so far, are the same.
abbrev pub Ahead : List Token → List Symbol → Tracked → Type 0
Ahead front s v = (w : List Token) (u : Tracked) → Spelled start (front ++ w) no_values u → Spelled s w v u

abbrev pub Back : List Token → List Symbol → Tracked → Type 0
Back front s v = (w : List Token) (u : Tracked) → Spelled s w v u → Spelled start (front ++ w) no_values u

-- At a leaf the cut is judged.
abbrev pub JudgesAt : Bool → Class → ℕ → List Symbol → List Shape → Type 0
JudgesAt true c limit s v = (is_leaf c ≡ true) × Judges true limit s v
JudgesAt false c limit s v = is_leaf c ≡ true → Judges false limit s v

-- Or the token has a number past the limit of tokens.
abbrev pub JudgesPast : Bool → Mode → ℕ → Class → List Symbol → List Shape → Type 0
JudgesPast true mode i c s v = (token_limit mode ≤ i) ⊎ JudgesAt true c (depth_limit mode) s v
JudgesPast false mode i c s v = (token_limit mode ≤ i → ⊥) × JudgesAt false c (depth_limit mode) s v
