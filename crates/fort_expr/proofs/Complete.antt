-- The tokens of an expression derive it.
use Rattle.std.proofs.Common.{◌≡◌, true, List, [], ◌∷◌, ◌++◌, Option, None, Some, refl, sym, subst}
use Rattle.fort_tree.specs.declared.statement.Token.{Token}
use Rattle.fort_tree.specs.declared.expr.Expr.{Expr}
use Rattle.fort_tree.specs.declared.expr.Expr.TheVariants.{Ref}
use Rattle.fort_tree.specs.declared.expr.Sub.{Sub}
use Rattle.fort_grammar.specs.declared.class.Class.{Class}
use Rattle.fort_grammar.specs.declared.class.Class.TheVariants as class
use Rattle.fort_grammar.specs.declared.table.Part.{Part}
use Rattle.fort_grammar.specs.declared.table.Part.TheVariants as part
use Rattle.fort_grammar.specs.declared.table.Action.{Action}
use Rattle.fort_grammar.specs.declared.table.Action.TheVariants as act
use Rattle.fort_grammar.specs.declared.table.Symbol.{Symbol}
use Rattle.fort_grammar.specs.declared.table.Symbol.TheVariants.{Take, Call, Build}
use Rattle.fort_grammar.specs.Derives.{In, here, there, done, take, build, row}
use Rattle.fort_grammar.specs.Table.{Choice, table}
use Rattle.fort_grammar.specs.Token.{token_class}
use Rattle.fort_expr.specs.declared.value.Value.{Value}
use Rattle.fort_expr.specs.declared.value.Value.TheVariants.{Written, Operand, Bound, Subscript, Subscripts}
use Rattle.fort_expr.specs.Expression.{IsReferred, IsExpr, IsDisj, IsConj, IsNeg, IsRel, IsSum, IsTerm, IsFactor, IsPrimary, IsRef, IsSubs, IsList, IsSub, IsBound}
use Rattle.fort_expr.specs.Expression.{a_number, a_kind_number, a_name, an_intrinsic, a_plus, a_minus, a_star, a_slash}
use Rattle.fort_expr.specs.Expression.{disj, eqv, conj, or, neg, and, rel, not, sum, relation, term, plus, minus, add, factor, times, primary, power, number, truth, ref, paren, bare, subscripted, none, some, one, more, single, section, absent, present}
use Rattle.fort_expr.specs.Machine.{Plain}
use Rattle.fort_expr.specs.Values.{apply, builds_expression, word_of}
use Rattle.fort_expr.specs.Words.{front_place}
use Rattle.fort_expr.proofs.Names.{named}

-- D ss w v: the tokens w are derived from the symbols ss and the values v, among whatever else is built. It grows as derivations do, with the actions of expressions.
pub record Grows (D : List Symbol → List Token → List Value → Type 0) : Type 0 where
  pub by_row : {n : Part} {ss : List Symbol} {w : List Token} {v : List Value} (r : Choice) → In r (table n) → D (r.symbols ++ ss) w v → D (Call n ∷ ss) w v
  pub by_take : {c : Class} {ss : List Symbol} {w : List Token} {v : List Value} (t : Token) → token_class t ≡ c → D ss w (Written (word_of t) ∷ v) → D (Take c ∷ ss) (t ∷ w) v
  pub by_build : {x : Action} {ss : List Symbol} {w : List Token} {v : List Value} → builds_expression x ≡ true → D ss w (apply x v) → D (Build x ∷ ss) w v

module _ (D : List Symbol → List Token → List Value → Type 0) (g : Grows D) where
  ends_add : {z : List Token} {ss : List Symbol} {v : List Value} → D ss z v → D (Call part.AddTail ∷ ss) z v
  ends_add k = g.by_row _ (there (there here)) k

  ends_mul : {z : List Token} {ss : List Symbol} {v : List Value} → D ss z v → D (Call part.MulTail ∷ ss) z v
  ends_mul k = g.by_row _ (there (there here)) k

  -- What a part's tokens build, what follows goes on with: a part before its tail, or a whole part.
  mutual
    unfolding apply

    pub expr_tail : {w z : List Token} {e : Expr} → IsExpr w z e → (ss : List Symbol) (v : List Value) →
        D (Call part.EqvTail ∷ ss) z (Operand e (front_place w) ∷ v) → D (Call part.Expr ∷ ss) w v
    expr_tail (disj d) ss v k = g.by_row _ here (disj_tail d (Call part.EqvTail ∷ ss) v (g.by_row _ (there here) k))
    expr_tail (eqv {w = w} {a = a} o l e r) ss v k = expr_tail l ss v (g.by_row _ here (g.by_take o e (disj_tail r (Build act.Two ∷ Call part.EqvTail ∷ ss) (Written (word_of o) ∷ Operand a (front_place w) ∷ v) (g.by_row _ (there here) (g.by_build refl k)))))

    disj_tail : {w z : List Token} {e : Expr} → IsDisj w z e → (ss : List Symbol) (v : List Value) →
        D (Call part.OrTail ∷ ss) z (Operand e (front_place w) ∷ v) → D (Call part.Disj ∷ ss) w v
    disj_tail (conj d) ss v k = g.by_row _ here (conj_tail d (Call part.OrTail ∷ ss) v (g.by_row _ (there here) k))
    disj_tail (or {w = w} {a = a} o l e r) ss v k = disj_tail l ss v (g.by_row _ here (g.by_take o e (conj_tail r (Build act.Two ∷ Call part.OrTail ∷ ss) (Written (word_of o) ∷ Operand a (front_place w) ∷ v) (g.by_row _ (there here) (g.by_build refl k)))))

    conj_tail : {w z : List Token} {e : Expr} → IsConj w z e → (ss : List Symbol) (v : List Value) →
        D (Call part.AndTail ∷ ss) z (Operand e (front_place w) ∷ v) → D (Call part.Conj ∷ ss) w v
    conj_tail (neg d) ss v k = g.by_row _ here (neg_whole d (Call part.AndTail ∷ ss) v k)
    conj_tail (and {w = w} {a = a} o l e r) ss v k = conj_tail l ss v (g.by_row _ here (g.by_take o e (neg_whole r (Build act.Two ∷ Call part.AndTail ∷ ss) (Written (word_of o) ∷ Operand a (front_place w) ∷ v) (g.by_build refl k))))

    neg_whole : {w z : List Token} {e : Expr} → IsNeg w z e → (ss : List Symbol) (v : List Value) →
        D ss z (Operand e (front_place w) ∷ v) → D (Call part.Neg ∷ ss) w v
    neg_whole (rel d) ss v k = g.by_row _ (there here) (rel_whole d ss v k)
    neg_whole (not o e d) ss v k = g.by_row _ here (g.by_take o e (rel_whole d (Build act.Not ∷ ss) (Written (word_of o) ∷ v) (g.by_build refl k)))

    rel_whole : {w z : List Token} {e : Expr} → IsRel w z e → (ss : List Symbol) (v : List Value) →
        D ss z (Operand e (front_place w) ∷ v) → D (Call part.Rel ∷ ss) w v
    rel_whole (sum d) ss v k = g.by_row _ here (sum_tail d (Call part.RelTail ∷ ss) v (ends_add (g.by_row _ (there here) k)))
    rel_whole (relation {w = w} {a = a} o l e r) ss v k = g.by_row _ here (sum_tail l (Call part.RelTail ∷ ss) v
        (ends_add (g.by_row _ here (g.by_take o e (sum_tail r (Build act.Two ∷ ss) (Written (word_of o) ∷ Operand a (front_place w) ∷ v) (ends_add (g.by_build refl k)))))))

    sum_tail : {w z : List Token} {e : Expr} → IsSum w z e → (ss : List Symbol) (v : List Value) →
        D (Call part.AddTail ∷ ss) z (Operand e (front_place w) ∷ v) → D (Call part.Sum ∷ ss) w v
    sum_tail (term d) ss v k = g.by_row _ (there (there here)) (term_tail d (Call part.AddTail ∷ ss) v (ends_mul k))
    sum_tail (plus o e d) ss v k = g.by_row _ here (g.by_take o e (term_tail d (Build act.Plus ∷ Call part.AddTail ∷ ss) (Written (word_of o) ∷ v) (ends_mul (g.by_build refl k))))
    sum_tail (minus o e d) ss v k = g.by_row _ (there here) (g.by_take o e (term_tail d (Build act.Minus ∷ Call part.AddTail ∷ ss) (Written (word_of o) ∷ v) (ends_mul (g.by_build refl k))))
    sum_tail (add {w = w} {a = a} o l (a_plus e) r) ss v k = sum_tail l ss v (g.by_row _ here (g.by_take o e (term_tail r (Build act.Two ∷ Call part.AddTail ∷ ss) (Written (word_of o) ∷ Operand a (front_place w) ∷ v) (ends_mul (g.by_build refl k)))))
    sum_tail (add {w = w} {a = a} o l (a_minus e) r) ss v k = sum_tail l ss v (g.by_row _ (there here) (g.by_take o e (term_tail r (Build act.Two ∷ Call part.AddTail ∷ ss) (Written (word_of o) ∷ Operand a (front_place w) ∷ v) (ends_mul (g.by_build refl k)))))

    term_tail : {w z : List Token} {e : Expr} → IsTerm w z e → (ss : List Symbol) (v : List Value) →
        D (Call part.MulTail ∷ ss) z (Operand e (front_place w) ∷ v) → D (Call part.Term ∷ ss) w v
    term_tail (factor d) ss v k = g.by_row _ here (factor_whole d (Call part.MulTail ∷ ss) v k)
    term_tail (times {w = w} {a = a} o l (a_star e) r) ss v k = term_tail l ss v (g.by_row _ here (g.by_take o e (factor_whole r (Build act.Two ∷ Call part.MulTail ∷ ss) (Written (word_of o) ∷ Operand a (front_place w) ∷ v) (g.by_build refl k))))
    term_tail (times {w = w} {a = a} o l (a_slash e) r) ss v k = term_tail l ss v (g.by_row _ (there here) (g.by_take o e (factor_whole r (Build act.Two ∷ Call part.MulTail ∷ ss) (Written (word_of o) ∷ Operand a (front_place w) ∷ v) (g.by_build refl k))))

    factor_whole : {w z : List Token} {e : Expr} → IsFactor w z e → (ss : List Symbol) (v : List Value) →
        D ss z (Operand e (front_place w) ∷ v) → D (Call part.Factor ∷ ss) w v
    factor_whole (primary d) ss v k = g.by_row _ here (primary_whole d (Call part.PowTail ∷ ss) v (g.by_row _ (there here) k))
    factor_whole (power {w = w} {a = a} o l e r) ss v k = g.by_row _ here (primary_whole l (Call part.PowTail ∷ ss) v
        (g.by_row _ here (g.by_take o e (factor_whole r (Build act.Two ∷ ss) (Written (word_of o) ∷ Operand a (front_place w) ∷ v) (g.by_build refl k)))))

    pub primary_whole : {w z : List Token} {e : Expr} → IsPrimary w z e → (ss : List Symbol) (v : List Value) →
        D ss z (Operand e (front_place w) ∷ v) → D (Call part.Primary ∷ ss) w v
    primary_whole (number t (a_number e)) ss v k = g.by_row _ here (g.by_take t e (g.by_build refl k))
    primary_whole (number t (a_kind_number e)) ss v k = g.by_row _ (there here) (g.by_take t e (g.by_build refl k))
    primary_whole (truth t e) ss v k = g.by_row _ (there (there here)) (g.by_take t e (g.by_build refl k))
    primary_whole (ref t (a_name e) d) ss v k = g.by_row _ (there (there (there here))) (g.by_take t e (ref_whole t (a_name e) d ss v k))
    primary_whole (ref t (an_intrinsic e) d) ss v k = g.by_row _ (there (there (there (there here)))) (g.by_take t e (ref_whole t (an_intrinsic e) d ss v k))
    primary_whole (paren p q e d f) ss v k = g.by_row _ (there (there (there (there (there here))))) (g.by_take p e
        (expr_tail d (Take class.Close ∷ Build act.Paren ∷ ss) (Written (word_of p) ∷ v) (g.by_row _ (there here) (g.by_take q f (g.by_build refl k)))))

    pub ref_whole : {w z : List Token} {e : Expr} (t : Token) → IsReferred (token_class t) → IsRef t w z e → (ss : List Symbol) (v : List Value) →
        D ss z (Operand e t.at ∷ v) → D (Call part.RefTail ∷ ss) w (Written (word_of t) ∷ v)
    ref_whole {z = z} t r bare ss v k = g.by_row _ (there here) (g.by_build refl (subst (λ n. D ss z (Operand (Ref n None t.at) t.at ∷ v)) (sym (named t r)) k))
    ref_whole {z = z} t r (subscripted {l = l} p q f d h) ss v k = g.by_row _ here (g.by_take p f (subs_whole d (Take class.Close ∷ Build act.Subscripted ∷ ss) (Written (word_of p) ∷ Written (word_of t) ∷ v)
        (g.by_take q h (g.by_build refl (subst (λ n. D ss z (Operand (Ref n (Some l) t.at) t.at ∷ v)) (sym (named t r)) k)))))

    pub subs_whole : {w z : List Token} {l : List Sub} → IsSubs w z l → (ss : List Symbol) (v : List Value) →
        D ss z (Subscripts l ∷ v) → D (Call part.Subs ∷ ss) w v
    subs_whole none ss v k = g.by_row _ (there here) (g.by_build refl k)
    subs_whole (some d) ss v k = list_tail d ss v (g.by_row _ (there here) k)

    pub list_tail : {w z : List Token} {l : List Sub} → IsList w z l → (ss : List Symbol) (v : List Value) →
        D (Call part.SubTail ∷ ss) z (Subscripts l ∷ v) → D (Call part.Subs ∷ ss) w v
    list_tail (one d) ss v k = g.by_row _ here (sub_whole d (Build act.FirstSub ∷ Call part.SubTail ∷ ss) v (g.by_build refl k))
    list_tail (more {l = l} c d e s) ss v k = list_tail d ss v (g.by_row _ here (g.by_take c e (sub_whole s (Build act.NextSub ∷ Call part.SubTail ∷ ss) (Written (word_of c) ∷ Subscripts l ∷ v) (g.by_build refl k))))

    pub sub_whole : {w z : List Token} {s : Sub} → IsSub w z s → (ss : List Symbol) (v : List Value) →
        D ss z (Subscript s ∷ v) → D (Call part.Sub ∷ ss) w v
    sub_whole (single d) ss v k = g.by_row _ here (expr_tail d (Call part.SubRest ∷ ss) v (g.by_row _ (there here) (g.by_row _ (there here) (g.by_build refl k))))
    sub_whole (section c absent e b) ss v k = g.by_row _ (there here) (g.by_take c e (bound_whole b (Build act.FromStart ∷ ss) (Written (word_of c) ∷ v) (g.by_build refl k)))
    sub_whole (section {w = w} c (present {e = a} d) e b) ss v k = g.by_row _ here (expr_tail d (Call part.SubRest ∷ ss) v
        (g.by_row _ (there here) (g.by_row _ here (g.by_take c e (bound_whole b (Build act.Section ∷ ss) (Written (word_of c) ∷ Operand a (front_place w) ∷ v) (g.by_build refl k))))))

    bound_whole : {w z : List Token} {b : Option Expr} → IsBound w z b → (ss : List Symbol) (v : List Value) →
        D ss z (Bound b ∷ v) → D (Call part.Upper ∷ ss) w v
    bound_whole absent ss v k = g.by_row _ (there here) (g.by_build refl k)
    bound_whole (present d) ss v k = g.by_row _ here (expr_tail d (Build act.Present ∷ ss) v (g.by_row _ (there here) (g.by_build refl k)))

-- an expression's tokens derive it
pub derives-expr : {w : List Token} {e : Expr} → IsExpr w [] e → (v : List Value) → Plain (Call part.Expr ∷ []) w v (Operand e (front_place w) ∷ v)
derives-expr {w} {e} d v = expr_tail (λ ss x k. Plain ss x k (Operand e (front_place w) ∷ v)) (record { by_row = λ r i k. row r i k; by_take = λ t h k. take t h k; by_build = λ h k. build k }) d [] v (row _ (there here) done)
