-- Which tokens are an expression, and which fault is the first.
use Rattle.std.specs.Prelude.{◌≡◌, ◌⊎◌, ℕ, ◌+◌, ◌-◌, ◌<◌, ◌≤◌, min, Bool, true, length, take, drop, List, [], ◌∷◌, ◌++◌, Option, None, Some, option_map, Result, Ok, Err}
use Rattle.std.specs.List.{slice_get}
use Rattle.fort_tree.specs.declared.choice.Mode.{Mode}
use Rattle.fort_tree.specs.declared.choice.Mode.TheVariants.{Source, Target}
use Rattle.fort_tree.specs.declared.expr.Expr.{Expr}
use Rattle.fort_tree.specs.declared.fault.Code.{Code}
use Rattle.fort_tree.specs.declared.fault.Code.TheVariants as code
use Rattle.fort_tree.specs.declared.fault.Fault.{Fault}
use Rattle.fort_tree.specs.declared.fault.Stop.{Stop}
use Rattle.fort_tree.specs.declared.fault.Stop.TheVariants as stop
use Rattle.fort_tree.specs.declared.place.Place.{Place}
use Rattle.fort_tree.specs.declared.statement.Token.{Token}
use Rattle.fort_tree.specs.Expr.{depth_of}
use Rattle.fort_grammar.specs.declared.class.Class.{Class}
use Rattle.fort_grammar.specs.declared.class.Class.TheVariants as class
use Rattle.fort_grammar.specs.Choose.{member}
use Rattle.fort_grammar.specs.Token.{token_class}
use Rattle.fort_expr.specs.declared.parsing.Outcome.{Outcome}
use Rattle.fort_expr.specs.declared.parsing.Outcome.TheVariants as outcome
use Rattle.fort_expr.specs.Closing.{Closers}
use Rattle.fort_expr.specs.Expression.{IsExpr}
use Rattle.fort_expr.specs.Outside.{Outside}

-- an expression can begin with these tokens
abbrev pub Begins : List Token → Type 0
Begins w = (z : List Token) × (e : Expr) × IsExpr (w ++ z) [] e

-- The first n tokens are the longest run with which an expression can begin.
pub record Run (tokens : List Token) (n : ℕ) : Type 0 where
  pub within : n ≤ length tokens
  pub begins : Begins (take n tokens)
  pub dead : n < length tokens → Begins (take (n + 1) tokens) → ⊥

-- The tokens are this expression and no other.
pub record Reads (tokens : List Token) (e : Expr) : Type 0 where
  pub spelled : IsExpr tokens [] e
  pub unique : (x : Expr) → IsExpr tokens [] x → x ≡ e

abbrev pub NoExpr : List Token → Type 0
NoExpr tokens = (e : Expr) → IsExpr tokens [] e → ⊥

-- a token of the class could stand behind these
abbrev pub CouldStand : List Token → Class → Type 0
CouldStand front c = (t : Token) × (token_class t ≡ c) × Begins (front ++ t ∷ [])

-- The token with this number is outside the profile, with the item.
abbrev pub OutsideAt : Mode → List Token → ℕ → ℕ → Type 0
OutsideAt mode tokens i item =
    (t : Token) × (slice_get tokens i ≡ Some t) × Outside mode (CouldStand (take i tokens)) t (option_map token_class (slice_get tokens (i + 1))) item

abbrev pub InsideAt : Mode → List Token → ℕ → Type 0
InsideAt mode tokens i = (item : ℕ) → OutsideAt mode tokens i item → ⊥

-- The limits of an expression's depth and of its tokens are this project's own.
abbrev pub depth_limit : Mode → ℕ
depth_limit Source = 64
depth_limit Target = 96

abbrev pub token_limit : Mode → ℕ
token_limit Source = 1000
token_limit Target = 16000

-- a name, a number or a truth value
abbrev pub is_leaf : Class → Bool
is_leaf c = member c (class.Name ∷ class.Intrinsic ∷ class.Number ∷ class.KindNumber ∷ class.Truth ∷ [])

-- The token with this number is a name, a number or a truth value, and the expression cut behind it, its open parentheses closed, is too deep.
abbrev pub TooDeepAt : Mode → List Token → ℕ → Type 0
TooDeepAt mode tokens i =
    (t : Token) × (slice_get tokens i ≡ Some t) × (is_leaf (token_class t) ≡ true) ×
    (z : List Token) × (e : Expr) × Closers z × IsExpr (take (i + 1) tokens ++ z) [] e × (depth_limit mode < depth_of e)

-- Or it is one too many.
abbrev pub PastLimit : Mode → List Token → ℕ → Type 0
PastLimit mode tokens i = (token_limit mode ≤ i) ⊎ TooDeepAt mode tokens i

-- The token with this number is the last one, and all of them are no expression.
abbrev pub Unfinished : List Token → ℕ → Type 0
Unfinished tokens i = (i + 1 ≡ length tokens) × NoExpr tokens

-- The token with this number has the fault of a limit: it is past one, and not the last of an unfinished expression, which is a fault of syntax at that token and comes
-- before a limit there.
abbrev pub LimitAt : Mode → List Token → ℕ → Type 0
LimitAt mode tokens i = PastLimit mode tokens i × (Unfinished tokens i → ⊥)

-- None of the first n tokens is outside the profile or has the fault of a limit.
pub record Clean (mode : Mode) (tokens : List Token) (n : ℕ) : Type 0 where
  pub inside : (i : ℕ) → i < n → InsideAt mode tokens i
  pub limited : (i : ℕ) → i < n → LimitAt mode tokens i → ⊥

-- What the tokens give. A whole expression is judged by itself; else so is the token behind the longest run.
abbrev pub Parses : Outcome → Mode → List Token → Type 0
Parses (outcome.Value e n) mode tokens = Run tokens n × Clean mode tokens n × Reads (take n tokens) e
Parses (outcome.Syntax n) mode tokens = Run tokens n × Clean mode tokens n × InsideAt mode tokens n × NoExpr (take n tokens)
Parses (outcome.Outside n item) mode tokens =
    Begins (take n tokens) × Clean mode tokens n × (Begins (take (n + 1) tokens) ⊎ NoExpr (take n tokens))
    × OutsideAt mode tokens n item × ((other : ℕ) → OutsideAt mode tokens n other → item ≤ other)
Parses (outcome.PastLimit n) mode tokens = (n < length tokens) × Begins (take (n + 1) tokens) × Clean mode tokens n × InsideAt mode tokens n × LimitAt mode tokens n

-- where the token with this number stands, or the last token where there are no more
abbrev pub place_at : List Token → ℕ → Option Place
place_at tokens n = option_map (λ t. t.at) (slice_get tokens (min n (length tokens - 1)))

-- the fault with this code at the token, and no more
pub record FaultAt (tokens : List Token) (n : ℕ) (c : Code) (k : ℕ) (fault : Fault) : Type 0 where
  pub code : fault.code ≡ c
  pub place : Some fault.place ≡ place_at tokens n
  pub item : fault.item ≡ k
  pub first : fault.first ≡ None
  pub second : fault.second ≡ None

abbrev pub Fails : Fault → List Token → ℕ → Outcome → Type 0
Fails fault tokens at (outcome.Value e n) = ⊥
Fails fault tokens at (outcome.Syntax n) = FaultAt tokens (at + n) code.E10 0 fault
Fails fault tokens at (outcome.Outside n item) = FaultAt tokens (at + n) code.E20 item fault
Fails fault tokens at (outcome.PastLimit n) = FaultAt tokens (at + n) code.E70 0 fault

-- The answer for the tokens of a line from one on.
abbrev pub Answers : Result (Expr × ℕ) Stop → Mode → List Token → ℕ → Type 0
Answers (Ok p) mode tokens at = (n : ℕ) × (p.1 ≡ at + n) × Parses (outcome.Value p.0 n) mode (drop at tokens)
Answers (Err (stop.Fault fault)) mode tokens at = (o : Outcome) × Fails fault tokens at o × Parses o mode (drop at tokens)
Answers (Err stop.NoMemory) mode tokens at = Unit {0}
