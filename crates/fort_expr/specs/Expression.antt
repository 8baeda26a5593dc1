-- What is an expression, and which tree it is.
use Rattle.std.specs.Prelude.{◌≡◌, List, [], ◌∷◌, ◌++◌, codes, Option, None, Some}
use Rattle.std.specs.Str.{bytes_eq}
use Rattle.fort_tree.specs.declared.statement.Token.{Token}
use Rattle.fort_tree.specs.declared.expr.Expr.{Expr}
use Rattle.fort_tree.specs.declared.expr.Expr.TheVariants.{Number, Truth, Ref, One, Two, Paren}
use Rattle.fort_tree.specs.declared.expr.Sub.{Sub}
use Rattle.fort_tree.specs.declared.expr.Sub.TheVariants as sub
use Rattle.fort_tree.specs.declared.expr.Unary.TheVariants as unary
use Rattle.fort_tree.specs.Name.{lowercase}
use Rattle.fort_grammar.specs.declared.class.Class.{Class}
use Rattle.fort_grammar.specs.declared.class.Class.TheVariants as class
use Rattle.fort_grammar.specs.Token.{token_class}
use Rattle.fort_expr.specs.Words.{operator_of, number_of, kind_of, front_place}

-- a number, in the classes of tokens
pub data IsNumber (c : Class) : Type 0 where
  a_number : c ≡ class.Number → IsNumber c
  a_kind_number : c ≡ class.KindNumber → IsNumber c

-- what can be referred to: a name that isn't reserved, or an intrinsic function
pub data IsReferred (c : Class) : Type 0 where
  a_name : c ≡ class.Name → IsReferred c
  an_intrinsic : c ≡ class.Intrinsic → IsReferred c

pub data IsSign (c : Class) : Type 0 where
  a_plus : c ≡ class.Plus → IsSign c
  a_minus : c ≡ class.Minus → IsSign c

pub data IsMultiply (c : Class) : Type 0 where
  a_star : c ≡ class.Star → IsMultiply c
  a_slash : c ≡ class.Slash → IsMultiply c

-- IsX w z e: the tokens w begin with an X, whose tree is e, and z is what stands behind it. Each rule is a row of the grammar: repetitions group to the left,
-- powers to the right.
mutual
  pub data IsExpr : List Token → List Token → Expr → Type 0 where
    disj : {w z : List Token} {e : Expr} → IsDisj w z e → IsExpr w z e
    eqv : {w x z : List Token} {a b : Expr} (o : Token) → IsExpr w (o ∷ x) a → token_class o ≡ class.Equivalence → IsDisj x z b → IsExpr w z (Two (operator_of o.text) a b)

  pub data IsDisj : List Token → List Token → Expr → Type 0 where
    conj : {w z : List Token} {e : Expr} → IsConj w z e → IsDisj w z e
    or : {w x z : List Token} {a b : Expr} (o : Token) → IsDisj w (o ∷ x) a → token_class o ≡ class.Or → IsConj x z b → IsDisj w z (Two (operator_of o.text) a b)

  pub data IsConj : List Token → List Token → Expr → Type 0 where
    neg : {w z : List Token} {e : Expr} → IsNeg w z e → IsConj w z e
    and : {w x z : List Token} {a b : Expr} (o : Token) → IsConj w (o ∷ x) a → token_class o ≡ class.And → IsNeg x z b → IsConj w z (Two (operator_of o.text) a b)

  pub data IsNeg : List Token → List Token → Expr → Type 0 where
    rel : {w z : List Token} {e : Expr} → IsRel w z e → IsNeg w z e
    not : {w z : List Token} {a : Expr} (o : Token) → token_class o ≡ class.Not → IsRel w z a → IsNeg (o ∷ w) z (One unary.Not a o.at)

  pub data IsRel : List Token → List Token → Expr → Type 0 where
    sum : {w z : List Token} {e : Expr} → IsSum w z e → IsRel w z e
    relation : {w x z : List Token} {a b : Expr} (o : Token) → IsSum w (o ∷ x) a → token_class o ≡ class.Relation → IsSum x z b → IsRel w z (Two (operator_of o.text) a b)

  pub data IsSum : List Token → List Token → Expr → Type 0 where
    term : {w z : List Token} {e : Expr} → IsTerm w z e → IsSum w z e
    plus : {w z : List Token} {a : Expr} (o : Token) → token_class o ≡ class.Plus → IsTerm w z a → IsSum (o ∷ w) z (One unary.Plus a o.at)
    minus : {w z : List Token} {a : Expr} (o : Token) → token_class o ≡ class.Minus → IsTerm w z a → IsSum (o ∷ w) z (One unary.Minus a o.at)
    add : {w x z : List Token} {a b : Expr} (o : Token) → IsSum w (o ∷ x) a → IsSign (token_class o) → IsTerm x z b → IsSum w z (Two (operator_of o.text) a b)

  pub data IsTerm : List Token → List Token → Expr → Type 0 where
    factor : {w z : List Token} {e : Expr} → IsFactor w z e → IsTerm w z e
    times : {w x z : List Token} {a b : Expr} (o : Token) → IsTerm w (o ∷ x) a → IsMultiply (token_class o) → IsFactor x z b → IsTerm w z (Two (operator_of o.text) a b)

  pub data IsFactor : List Token → List Token → Expr → Type 0 where
    primary : {w z : List Token} {e : Expr} → IsPrimary w z e → IsFactor w z e
    power : {w x z : List Token} {a b : Expr} (o : Token) → IsPrimary w (o ∷ x) a → token_class o ≡ class.Power → IsFactor x z b → IsFactor w z (Two (operator_of o.text) a b)

  pub data IsPrimary : List Token → List Token → Expr → Type 0 where
    number : {z : List Token} (t : Token) → IsNumber (token_class t) → IsPrimary (t ∷ z) z (Number (number_of t.text) (kind_of t.text) t.at)
    truth : {z : List Token} (t : Token) → token_class t ≡ class.Truth → IsPrimary (t ∷ z) z (Truth (bytes_eq t.text (codes ".true.")) t.at)
    ref : {w z : List Token} {e : Expr} (t : Token) → IsReferred (token_class t) → IsRef t w z e → IsPrimary (t ∷ w) z e
    paren : {w z : List Token} {e : Expr} (p q : Token) → token_class p ≡ class.Open → IsExpr w (q ∷ z) e → token_class q ≡ class.Close → IsPrimary (p ∷ w) z (Paren e p.at)

  -- what stands behind the name t of a reference
  pub data IsRef : Token → List Token → List Token → Expr → Type 0 where
    bare : {z : List Token} {t : Token} → IsRef t z z (Ref (lowercase t.text) None t.at)
    subscripted : {w z : List Token} {l : List Sub} {t : Token} (p q : Token) → token_class p ≡ class.Open → IsSubs w (q ∷ z) l → token_class q ≡ class.Close →
        IsRef t (p ∷ w) z (Ref (lowercase t.text) (Some l) t.at)

  -- nothing, or subscripts with commas between
  pub data IsSubs : List Token → List Token → List Sub → Type 0 where
    none : {z : List Token} → IsSubs z z []
    some : {w z : List Token} {l : List Sub} → IsList w z l → IsSubs w z l

  pub data IsList : List Token → List Token → List Sub → Type 0 where
    one : {w z : List Token} {s : Sub} → IsSub w z s → IsList w z (s ∷ [])
    more : {w x z : List Token} {l : List Sub} {s : Sub} (c : Token) → IsList w (c ∷ x) l → token_class c ≡ class.Comma → IsSub x z s → IsList w z (l ++ s ∷ [])

  pub data IsSub : List Token → List Token → Sub → Type 0 where
    single : {w z : List Token} {e : Expr} → IsExpr w z e → IsSub w z (sub.One e)
    section : {w x z : List Token} {a b : Option Expr} (c : Token) → IsBound w (c ∷ x) a → token_class c ≡ class.Colon → IsBound x z b → IsSub w z (sub.Range a b (front_place w))

  pub data IsBound : List Token → List Token → Option Expr → Type 0 where
    absent : {z : List Token} → IsBound z z None
    present : {w z : List Token} {e : Expr} → IsExpr w z e → IsBound w z (Some e)
