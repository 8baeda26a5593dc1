-- All places of an expression are places of its tokens.
use Rattle.std.proofs.Common.{◌≡◌, ℕ, Bool, List, [], ◌∷◌, ◌++◌, map, Option, None, Some, sym, subst}
use Rattle.std.specs.List.{AllByRecursion}
use Rattle.std.specs.Prelude.{codes}
use Rattle.std.specs.Str.{bytes_eq}
use Rattle.fort_arith.specs.declared.kind.Kind.{Kind}
use Rattle.fort_arith.specs.declared.op.Op.{Op}
use Rattle.fort_tree.specs.declared.expr.Expr as tree_expr
use Rattle.fort_tree.specs.declared.expr.Expr.TheFolds.{fold-roll-Expr, fold-roll-Sub, map-Expr, map-Sub}
use Rattle.fort_tree.specs.declared.expr.Expr.TheOpen.{Expr-F, Sub-F}
use Rattle.fort_tree.specs.declared.expr.Expr.TheVariants as expr
use Rattle.fort_tree.specs.declared.expr.Expr.TheViews.{roll-Expr, roll-Sub}
use Rattle.fort_tree.specs.declared.expr.Sub as tree_sub
use Rattle.fort_tree.specs.declared.expr.Sub.TheVariants as sub
use Rattle.fort_tree.specs.declared.expr.Unary.{Unary}
use Rattle.fort_tree.specs.declared.expr.Unary.TheVariants as unary
use Rattle.fort_tree.specs.declared.place.Place.{Place}
use Rattle.fort_tree.specs.declared.statement.Token.{Token}
use Rattle.fort_tree.specs.Name.{lowercase}
use Rattle.sound_programs.specs.Placed.{Expr, Subscripts}
use Rattle.sound_programs.specs.Placing.{Before, expr_step, sub_step, limit, placed_expr, placed_sub, placed_subs, placed_option}
use Rattle.sound_programs.specs.Within.{AllInExpr, AllInSubscripts, AllInLimit}
use Rattle.fort_expr.specs.Expression.{IsExpr, disj, eqv, IsDisj, conj, or, IsConj, neg, and, IsNeg, rel, not, IsRel, sum, relation, IsSum, term, plus, minus, add, IsTerm, factor, times, IsFactor, primary, power, IsPrimary, number, truth, ref, paren, IsRef, bare, subscripted, IsSubs, none, some, IsList, one, more, IsSub, single, section, IsBound, absent, present}
use Rattle.fort_expr.specs.Words.{operator_of, number_of, kind_of, front_place}

-- ---- lists

pub all_push : {A : Type 0} (Q : A → Type 0) (xs : List A) (x : A) → AllByRecursion Q xs → Q x → AllByRecursion Q (xs ++ x ∷ [])
all_push Q [] x h k = (k, tt)
all_push Q (y ∷ ys) x h k = (h.0, all_push Q ys x h.1 k)

pub all_join : {A : Type 0} (Q : A → Type 0) (xs ys : List A) → AllByRecursion Q xs → AllByRecursion Q ys → AllByRecursion Q (xs ++ ys)
all_join Q [] ys h k = k
all_join Q (x ∷ xs) ys h k = (h.0, all_join Q xs ys h.1 k)

pub all_map : {A B : Type 0} (Q : B → Type 0) (f : A → B) (xs : List A) → AllByRecursion (λ x. Q (f x)) xs → AllByRecursion Q (map f xs)
all_map Q f [] h = tt
all_map Q f (x ∷ xs) h = (h.0, all_map Q f xs h.1)

module _ (P : Place → Type 0) where
  -- the places of tokens
  abbrev pub AtTokens : List Token → Type 0
  AtTokens w = AllByRecursion (λ (t : Token). P t.at) w

  -- those of an expression, of a subscript before others, and of a bound
  abbrev pub AtExpr : tree_expr.Expr → Type 0
  AtExpr e = AllInExpr P (placed_expr e)

  abbrev pub AtSub : tree_sub.Sub → Type 0
  AtSub s = (rest : Subscripts) → AllInSubscripts P rest → AllInSubscripts P (placed_sub s rest)

  abbrev pub AtBound : Option tree_expr.Expr → Type 0
  AtBound b = AllInLimit P (limit (placed_option b))

  -- ---- one level of a tree

  leveled : (e : tree_expr.Expr) (x : Expr-F tree_expr.Expr tree_sub.Sub) → roll-Expr x ≡ e → AllInExpr P (expr_step (map-Expr tree_expr.Expr tree_sub.Sub Expr Before placed_expr placed_sub x)) →
      AtExpr e
  leveled e x is h = subst AtExpr is (subst (AllInExpr P) (sym (fold-roll-Expr Expr Before expr_step sub_step x)) h)

  pub at_number : (n : ℕ) (kind : Option Kind) (at : Place) → P at → AtExpr (expr.Number n kind at)
  at_number n kind at h = leveled (expr.Number n kind at) (Expr-F.Number n kind at) (expr.rolls-Number n kind at) h

  pub at_truth : (b : Bool) (at : Place) → P at → AtExpr (expr.Truth b at)
  at_truth b at h = leveled (expr.Truth b at) (Expr-F.Truth b at) (expr.rolls-Truth b at) h

  pub at_name : (x : List ℕ) (at : Place) → P at → AtExpr (expr.Ref x None at)
  at_name x at h = leveled (expr.Ref x None at) (Expr-F.Ref x None at) (expr.rolls-Ref x None at) h

  pub at_sign : (sign : Unary) (e : tree_expr.Expr) (at : Place) → P at → AtExpr e → AtExpr (expr.One sign e at)
  at_sign sign e at h k = leveled (expr.One sign e at) (Expr-F.«Expr::One» sign e at) (expr.rolls-One sign e at) (h, k)

  pub at_operation : (op : Op) (a b : tree_expr.Expr) → AtExpr a → AtExpr b → AtExpr (expr.Two op a b)
  at_operation op a b h k = leveled (expr.Two op a b) (Expr-F.Two op a b) (expr.rolls-Two op a b) (h, k)

  at_paren : (e : tree_expr.Expr) (at : Place) → P at → AtExpr e → AtExpr (expr.Paren e at)
  at_paren e at h k = leveled (expr.Paren e at) (Expr-F.Paren e at) (expr.rolls-Paren e at) (h, k)

  pub at_subs : (subs : List tree_sub.Sub) → AllByRecursion AtSub subs → AllInSubscripts P (placed_subs subs)
  at_subs [] h = tt
  at_subs (s ∷ ss) h = h.0 (placed_subs ss) (at_subs ss h.1)

  at_reference : (x : List ℕ) (subs : List tree_sub.Sub) (at : Place) → P at → AllByRecursion AtSub subs → AtExpr (expr.Ref x (Some subs) at)
  at_reference x subs at h k = leveled (expr.Ref x (Some subs) at) (Expr-F.Ref x (Some subs) at) (expr.rolls-Ref x (Some subs) at) (h, at_subs subs k)

  sub_leveled : (s : tree_sub.Sub) (x : Sub-F tree_expr.Expr tree_sub.Sub) → roll-Sub x ≡ s →
      ((rest : Subscripts) → AllInSubscripts P rest → AllInSubscripts P (sub_step (map-Sub tree_expr.Expr tree_sub.Sub Expr Before placed_expr placed_sub x) rest)) → AtSub s
  sub_leveled s x is h = subst AtSub is (λ rest k. subst (λ (f : Before). AllInSubscripts P (f rest)) (sym (fold-roll-Sub Expr Before expr_step sub_step x)) (h rest k))

  at_single : (e : tree_expr.Expr) → AtExpr e → AtSub (sub.One e)
  at_single e h = sub_leveled (sub.One e) (Sub-F.«Sub::One» e) (sub.rolls-One e) (λ rest k. (h, k))

  at_section : (a b : Option tree_expr.Expr) (at : Place) → P at → AtBound a → AtBound b → AtSub (sub.Range a b at)
  at_section None None at h i j = sub_leveled (sub.Range None None at) (Sub-F.Range None None at) (sub.rolls-Range None None at) (λ rest k. (h, (i, (j, k))))
  at_section None (Some b) at h i j = sub_leveled (sub.Range None (Some b) at) (Sub-F.Range None (Some b) at) (sub.rolls-Range None (Some b) at) (λ rest k. (h, (i, (j, k))))
  at_section (Some a) None at h i j = sub_leveled (sub.Range (Some a) None at) (Sub-F.Range (Some a) None at) (sub.rolls-Range (Some a) None at) (λ rest k. (h, (i, (j, k))))
  at_section (Some a) (Some b) at h i j = sub_leveled (sub.Range (Some a) (Some b) at) (Sub-F.Range (Some a) (Some b) at) (sub.rolls-Range (Some a) (Some b) at) (λ rest k. (h, (i, (j, k))))

  -- ---- what tokens give

  -- an expression: its own places, that of its first token, and those of the tokens behind it
  pub record ExprAt (w z : List Token) (e : tree_expr.Expr) : Type 0 where
    pub tree : AtExpr e
    pub front : P (front_place w)
    pub behind : AtTokens z

  -- something, and the places of the tokens behind it
  pub record Gives (A : Type 0) (z : List Token) : Type 0 where
    pub it : A
    pub behind : AtTokens z

  record BoundAt (w z : List Token) (b : Option tree_expr.Expr) : Type 0 where
    it : AtBound b
    front : P (front_place z) → P (front_place w)
    behind : AtTokens z

  two : {w v x z : List Token} {a b : tree_expr.Expr} (op : Op) → ExprAt w v a → ExprAt x z b → ExprAt w z (expr.Two op a b)
  two {a = a} {b = b} op l r = record { tree = at_operation op a b l.tree r.tree; front = l.front; behind = r.behind }

  signed : {w z : List Token} {a : tree_expr.Expr} (sign : Unary) (o : Token) → P o.at → ExprAt w z a → ExprAt (o ∷ w) z (expr.One sign a o.at)
  signed {a = a} sign o h k = record { tree = at_sign sign a o.at h k.tree; front = h; behind = k.behind }

  -- ---- the rules

  mutual
    pub expr_at : {w z : List Token} {e : tree_expr.Expr} → AtTokens w → IsExpr w z e → ExprAt w z e
    expr_at h (disj a) = disj_at h a
    expr_at h (eqv o a c b) = let l = expr_at h a in two (operator_of o.text) l (disj_at l.behind.1 b)

    disj_at : {w z : List Token} {e : tree_expr.Expr} → AtTokens w → IsDisj w z e → ExprAt w z e
    disj_at h (conj a) = conj_at h a
    disj_at h (or o a c b) = let l = disj_at h a in two (operator_of o.text) l (conj_at l.behind.1 b)

    conj_at : {w z : List Token} {e : tree_expr.Expr} → AtTokens w → IsConj w z e → ExprAt w z e
    conj_at h (neg a) = neg_at h a
    conj_at h (and o a c b) = let l = conj_at h a in two (operator_of o.text) l (neg_at l.behind.1 b)

    neg_at : {w z : List Token} {e : tree_expr.Expr} → AtTokens w → IsNeg w z e → ExprAt w z e
    neg_at h (rel a) = rel_at h a
    neg_at h (not o c a) = signed unary.Not o h.0 (rel_at h.1 a)

    rel_at : {w z : List Token} {e : tree_expr.Expr} → AtTokens w → IsRel w z e → ExprAt w z e
    rel_at h (sum a) = sum_at h a
    rel_at h (relation o a c b) = let l = sum_at h a in two (operator_of o.text) l (sum_at l.behind.1 b)

    sum_at : {w z : List Token} {e : tree_expr.Expr} → AtTokens w → IsSum w z e → ExprAt w z e
    sum_at h (term a) = term_at h a
    sum_at h (plus o c a) = signed unary.Plus o h.0 (term_at h.1 a)
    sum_at h (minus o c a) = signed unary.Minus o h.0 (term_at h.1 a)
    sum_at h (add o a c b) = let l = sum_at h a in two (operator_of o.text) l (term_at l.behind.1 b)

    term_at : {w z : List Token} {e : tree_expr.Expr} → AtTokens w → IsTerm w z e → ExprAt w z e
    term_at h (factor a) = factor_at h a
    term_at h (times o a c b) = let l = term_at h a in two (operator_of o.text) l (factor_at l.behind.1 b)

    factor_at : {w z : List Token} {e : tree_expr.Expr} → AtTokens w → IsFactor w z e → ExprAt w z e
    factor_at h (primary a) = primary_at h a
    factor_at h (power o a c b) = let l = primary_at h a in two (operator_of o.text) l (factor_at l.behind.1 b)

    primary_at : {w z : List Token} {e : tree_expr.Expr} → AtTokens w → IsPrimary w z e → ExprAt w z e
    primary_at h (number t c) = record { tree = at_number (number_of t.text) (kind_of t.text) t.at h.0; front = h.0; behind = h.1 }
    primary_at h (truth t c) = record { tree = at_truth (bytes_eq t.text (codes ".true.")) t.at h.0; front = h.0; behind = h.1 }
    primary_at h (ref t c a) = let r = ref_at h.0 h.1 a in record { tree = r.it; front = h.0; behind = r.behind }
    primary_at h (paren {e = e} p q c a d) = let l = expr_at h.1 a in record { tree = at_paren e p.at h.0 l.tree; front = h.0; behind = l.behind.1 }

    pub ref_at : {t : Token} {w z : List Token} {e : tree_expr.Expr} → P t.at → AtTokens w → IsRef t w z e → Gives (AtExpr e) z
    ref_at h k (bare {t = t}) = record { it = at_name (lowercase t.text) t.at h; behind = k }
    ref_at h k (subscripted {l = l} {t = t} p q c a d) = let s = subs_at k.1 a in record { it = at_reference (lowercase t.text) l t.at h s.it; behind = s.behind.1 }

    pub subs_at : {w z : List Token} {l : List tree_sub.Sub} → AtTokens w → IsSubs w z l → Gives (AllByRecursion AtSub l) z
    subs_at h none = record { it = tt; behind = h }
    subs_at h (some a) = list_at h a

    list_at : {w z : List Token} {l : List tree_sub.Sub} → AtTokens w → IsList w z l → Gives (AllByRecursion AtSub l) z
    list_at h (one a) = let s = sub_at h a in record { it = (s.it, tt); behind = s.behind }
    list_at h (more {l = l} {s = s} c a d b) = let f = list_at h a in let n = sub_at f.behind.1 b in record { it = all_push AtSub l s f.it n.it; behind = n.behind }

    sub_at : {w z : List Token} {s : tree_sub.Sub} → AtTokens w → IsSub w z s → Gives (AtSub s) z
    sub_at h (single {e = e} a) = let l = expr_at h a in record { it = at_single e l.tree; behind = l.behind }
    sub_at h (section {w = w} {a = a} {b = b} c i d j) =
        let l = bound_at h i in let r = bound_at l.behind.1 j in record { it = at_section a b (front_place w) (l.front l.behind.0) l.it r.it; behind = r.behind }

    bound_at : {w z : List Token} {b : Option tree_expr.Expr} → AtTokens w → IsBound w z b → BoundAt w z b
    bound_at h absent = record { it = tt; front = λ k. k; behind = h }
    bound_at h (present a) = let l = expr_at h a in record { it = l.tree; front = λ k. l.front; behind = l.behind }
