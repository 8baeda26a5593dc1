-- When a token of a statement is past a limit. The limits of tokens and of depth are this project's own.
use Rattle.std.specs.Prelude.{◌≡◌, ◌⊎◌, ℕ, zero, suc, ◌+◌, ◌<◌, ◌≤◌, true, length, take, List, [], ◌∷◌, ◌++◌, Option, None, Some}
use Rattle.std.specs.List.{slice_get}
use Rattle.fort_tree.specs.declared.choice.Mode.{Mode}
use Rattle.fort_tree.specs.declared.expr.Expr.{Expr}
use Rattle.fort_tree.specs.declared.expr.Sub.{Sub}
use Rattle.fort_tree.specs.declared.statement.Token.{Token}
use Rattle.fort_tree.specs.Expr.{depth_of, sub_depth_of}
use Rattle.fort_grammar.specs.declared.class.Class.TheVariants as class
use Rattle.fort_grammar.specs.Token.{token_class}
use Rattle.fort_expr.specs.Closing.{Closers}
use Rattle.fort_expr.specs.Expression.{IsExpr, IsList, IsSub}
use Rattle.fort_expr.specs.Faults.{depth_limit, token_limit, is_leaf}
use Rattle.fort_stmt.specs.Faults.{Begins}
use Rattle.fort_stmt.specs.Form.{IsWords, IsTarget}

-- What is judged by itself: the left side of an assignment; an expression that is no part of another, as a right side, a test, or one of a DO's three; and an argument
-- of a CALL. (Bounds and values of declarations and of CASE are no deeper than 2 by their forms.)
pub data Portion : Type 0 where
  left_side : Portion
  expression : Portion
  argument : Portion

-- The tokens are a portion of the sort, and it is this deep. An argument that is a range is as deep as its deeper bound.
pub data HasDepth : Portion → List Token → ℕ → Type 0 where
  side_depth : {w : List Token} {e : Expr} → IsTarget w [] e → HasDepth left_side w (depth_of e)
  expression_depth : {w : List Token} {e : Expr} → IsExpr w [] e → HasDepth expression w (depth_of e)
  argument_depth : {w : List Token} {s : Sub} → IsSub w [] s → HasDepth argument w (sub_depth_of s)

-- InAction x w y: the tokens w begin as an action, and in it a portion of the sort x begins with the tokens y.
pub data InAction : Portion → List Token → List Token → Type 0 where
  at_left_side : {w : List Token} → InAction left_side w w
  at_right_side : {w z : List Token} {e : Expr} (o : Token) → IsTarget w (o ∷ z) e → token_class o ≡ class.Equals → InAction expression w z
  first_argument : {z : List Token} (c n p : Token) → token_class c ≡ class.Call → token_class n ≡ class.Name → token_class p ≡ class.Open → InAction argument (c ∷ n ∷ p ∷ z) z
  next_argument : {w z : List Token} {l : List Sub} (c n p k : Token) → token_class c ≡ class.Call → token_class n ≡ class.Name → token_class p ≡ class.Open → IsList w (k ∷ z) l → token_class k ≡ class.Comma →
      InAction argument (c ∷ n ∷ p ∷ w) z

-- Stands x w y: the tokens w begin as a statement, and in it a portion of the sort x begins with the tokens y.
pub data Stands : Portion → List Token → List Token → Type 0 where
  in_action : {x : Portion} {w y : List Token} → InAction x w y → Stands x w y
  behind_if : {z : List Token} (i p : Token) → token_class i ≡ class.If → token_class p ≡ class.Open → Stands expression (i ∷ p ∷ z) z
  behind_test : {x : Portion} {w y z : List Token} {e : Expr} (i p q : Token) → token_class i ≡ class.If → token_class p ≡ class.Open → IsExpr w (q ∷ y) e → token_class q ≡ class.Close → InAction x y z →
      Stands x (i ∷ p ∷ w) z
  behind_else_if : {w z : List Token} (p : Token) → IsWords class.Else class.If class.Elseif w (p ∷ z) → token_class p ≡ class.Open → Stands expression w z
  do_first : {z : List Token} (d n o : Token) → token_class d ≡ class.Do → token_class n ≡ class.Name → token_class o ≡ class.Equals → Stands expression (d ∷ n ∷ o ∷ z) z
  do_second : {w z : List Token} {a : Expr} (d n o c : Token) → token_class d ≡ class.Do → token_class n ≡ class.Name → token_class o ≡ class.Equals → IsExpr w (c ∷ z) a → token_class c ≡ class.Comma →
      Stands expression (d ∷ n ∷ o ∷ w) z
  do_third : {w x z : List Token} {a b : Expr} (d n o c k : Token) → token_class d ≡ class.Do → token_class n ≡ class.Name → token_class o ≡ class.Equals → IsExpr w (c ∷ x) a → token_class c ≡ class.Comma →
      IsExpr x (k ∷ z) b → token_class k ≡ class.Comma → Stands expression (d ∷ n ∷ o ∷ w) z
  behind_select : {w z : List Token} (p : Token) → IsWords class.Select class.Case class.Selectcase w (p ∷ z) → token_class p ≡ class.Open → Stands expression w z

-- The token with this number is a name, a number or a truth value, and the portion in which it stands, cut behind it and with its open parentheses closed, is too deep.
pub record TooDeepAt (mode : Mode) (tokens : List Token) (i : ℕ) : Type 0 where
  pub token : Token
  pub at : slice_get tokens i ≡ Some token
  pub leaf : is_leaf (token_class token) ≡ true
  pub portion : Portion
  -- the portion's tokens up to this one, and what closes it
  pub first : Token
  pub others : List Token
  pub closers : List Token
  pub closing : Closers closers
  pub depth : ℕ
  pub stands : Stands portion (take (i + 1) tokens ++ closers) (first ∷ others ++ closers)
  pub has_depth : HasDepth portion (first ∷ others ++ closers) depth
  pub past : depth_limit mode < depth

-- Or it is one too many.
abbrev pub PastLimit : Mode → List Token → ℕ → Type 0
PastLimit mode tokens i = (token_limit mode ≤ i) ⊎ TooDeepAt mode tokens i

-- The first token past a limit, among those up to which a statement can begin.
abbrev pub FirstPastLimit : Mode → List Token → Option ℕ → Type 0
FirstPastLimit mode tokens None = (i : ℕ) → i < length tokens → Begins (take (i + 1) tokens) → PastLimit mode tokens i → ⊥
FirstPastLimit mode tokens (Some i) = (i < length tokens) × Begins (take (i + 1) tokens) × PastLimit mode tokens i × ((j : ℕ) → j < i → PastLimit mode tokens j → ⊥)

-- the token so many times, and what stands behind it
abbrev pub repeated : Token → ℕ → List Token → List Token
repeated t zero w = w
repeated t (suc n) w = t ∷ repeated t n w

-- A number in so many parentheses as the limit of depth is too deep on a right side.
abbrev pub ParenthesesCount : Type 0
ParenthesesCount = (mode : Mode) (x e p t : Token) (n : ℕ) → token_class x ≡ class.Name → token_class e ≡ class.Equals → token_class p ≡ class.Open → token_class t ≡ class.Number → depth_limit mode ≤ n →
    TooDeepAt mode (x ∷ e ∷ repeated p n (t ∷ [])) (n + 2)
