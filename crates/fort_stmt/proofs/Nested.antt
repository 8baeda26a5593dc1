-- A number in parentheses, and its depth.
use Rattle.std.proofs.Common.{◌≡◌, ℕ, zero, suc, ◌+◌, ◌≤◌, List, [], ◌∷◌, ◌++◌, take, Some, refl, sym, ◌∙◌, ap, subst, arith}
use Rattle.std.specs.List.{slice_get}
use Rattle.fort_tree.specs.declared.choice.Mode.{Mode}
use Rattle.fort_tree.specs.declared.expr.Expr.{Expr}
use Rattle.fort_tree.specs.declared.expr.Expr.TheVariants.{Number, Paren}
use Rattle.fort_tree.specs.declared.statement.Token.{Token}
use Rattle.fort_tree.specs.Expr.{depth_of}
use Rattle.fort_grammar.specs.declared.class.Class.TheVariants as class
use Rattle.fort_grammar.specs.Token.{token_class}
use Rattle.fort_grammar.proofs.Productive.{token_of, class-sample}
use Rattle.fort_expr.specs.Closing.{Closers}
use Rattle.fort_expr.specs.Expression.{IsExpr, IsPrimary, disj, conj, neg, rel, sum, term, factor, primary, paren, number, a_name, a_number, bare}
use Rattle.fort_expr.specs.Faults.{depth_limit, is_leaf}
use Rattle.fort_expr.specs.Words.{number_of, kind_of}
use Rattle.fort_expr.proofs.Depths.{depth-number, depth-paren}
use Rattle.fort_stmt.specs.Form.{target}
use Rattle.fort_stmt.specs.Limits.{expression, HasDepth, expression_depth, Stands, in_action, at_right_side, TooDeepAt, repeated, ParenthesesCount}

module _ (p t : Token) (open_class : token_class p ≡ class.Open) (number_class : token_class t ≡ class.Number) where
  close : Token
  close = token_of class.Close

  tree : ℕ → Expr
  tree zero = Number (number_of t.text) (kind_of t.text) t.at
  tree (suc n) = Paren (tree n) p.at

  closed : ℕ → List Token → List Token
  closed zero z = z
  closed (suc n) z = closed n (close ∷ z)

  whole : {w z : List Token} {e : Expr} → IsPrimary w z e → IsExpr w z e
  whole d = disj (conj (neg (rel (sum (term (factor (primary d)))))))

  nested : (n : ℕ) (z : List Token) → IsPrimary (repeated p n (t ∷ closed n z)) z (tree n)
  unfolding tree closed close
  nested zero z = number t (a_number number_class)
  nested (suc n) z = paren p close open_class (whole (nested n (close ∷ z))) (class-sample class.Close)

  deep : (n : ℕ) → depth_of (tree n) ≡ n + 1
  unfolding tree
  deep zero = depth-number _ _ _ ∙ omega arith
  deep (suc n) = depth-paren (tree n) p.at ∙ (let h = deep n in omega (arith, h))

  closing : (n : ℕ) (z : List Token) → Closers z → Closers (closed n z)
  unfolding closed close
  closing zero z c = c
  closing (suc n) z c = closing n (close ∷ z) (class-sample class.Close, c)

  split : (n : ℕ) (z : List Token) → (first : Token) × (others : List Token) × (repeated p n (t ∷ z) ≡ first ∷ others ++ z)
  split zero z = (t, [], refl)
  split (suc n) z = let k = split n z in (p, k.0 ∷ k.1, ap (λ q. p ∷ q) k.2)

  found : (n : ℕ) → slice_get (repeated p n (t ∷ [])) n ≡ Some t
  found zero = refl
  found (suc n) = found n

  all : (n : ℕ) (z : List Token) → take (suc n) (repeated p n (t ∷ [])) ++ z ≡ repeated p n (t ∷ z)
  all zero z = refl
  all (suc n) z = ap (λ q. p ∷ q) (all n z)

  too-deep : (mode : Mode) (x e : Token) (n : ℕ) → token_class x ≡ class.Name → token_class e ≡ class.Equals → depth_limit mode ≤ n → TooDeepAt mode (x ∷ e ∷ repeated p n (t ∷ [])) (suc (suc n))
  too-deep mode x e n f g h =
      let z = closed n [] in
      let k = split n z in
      let three : suc (suc n) + 1 ≡ suc (suc (suc n)) = omega arith in
      let same : take (suc (suc n) + 1) (x ∷ e ∷ repeated p n (t ∷ [])) ++ z ≡ x ∷ e ∷ repeated p n (t ∷ z) =
      ap (λ m. take m (x ∷ e ∷ repeated p n (t ∷ [])) ++ z) three ∙ ap (λ q. x ∷ e ∷ q) (all n z) in
      let s : Stands expression (x ∷ e ∷ repeated p n (t ∷ z)) (repeated p n (t ∷ z)) = in_action (at_right_side e (target x (a_name f) bare) g) in
      let d : depth_of (tree n) ≡ n + 1 = deep n in
      record {
        token = t;
        at = found n;
        leaf = ap is_leaf number_class;
        portion = expression;
        first = k.0;
        others = k.1;
        closers = z;
        closing = closing n [] tt;
        depth = depth_of (tree n);
        stands = subst (λ q. Stands expression q (k.0 ∷ k.1 ++ z)) (sym same) (subst (Stands expression (x ∷ e ∷ repeated p n (t ∷ z))) k.2 s);
        has_depth = subst (λ q. HasDepth expression q (depth_of (tree n))) k.2 (expression_depth (whole (nested n [])));
        past = omega (arith, h, d);
      }

pub parentheses-count : ParenthesesCount
parentheses-count mode x e p t n f g o k h = subst (λ i. TooDeepAt mode (x ∷ e ∷ repeated p n (t ∷ [])) i) (let s : suc (suc n) ≡ n + 2 = omega arith in s) (too-deep p t o k mode x e n f g h)
