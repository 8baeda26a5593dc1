-- Tokens that derive a sum derive it with a subscript behind each name.
use Rattle.std.proofs.Common.{◌≡◌, ℕ, ◌<◌, ◌^◌, List, [], ◌∷◌, None, Some, refl, sym, ap, ◌∙◌, subst, codes}
use Rattle.fort_arith.specs.declared.op.Op.{Op}
use Rattle.fort_tree.specs.declared.expr.Expr.{Expr}
use Rattle.fort_tree.specs.declared.expr.Expr.TheVariants.{Number, Ref, One, Two}
use Rattle.fort_tree.specs.declared.expr.Sub.TheVariants.{One as Alone}
use Rattle.fort_tree.specs.declared.expr.Unary.{Unary}
use Rattle.fort_tree.specs.declared.expr.Unary.TheVariants as unary
use Rattle.fort_tree.specs.declared.place.Place.{Place}
use Rattle.fort_tree.specs.declared.statement.Token.{Token}
use Rattle.fort_tree.specs.Name.{IsName, lowercase}
use Rattle.fort_tree.specs.Unplaced.{nowhere}
use Rattle.fort_expr.specs.Expression as g
use Rattle.fort_expr.specs.Expression.{IsExpr, IsDisj, IsConj, IsNeg, IsRel, IsSum, IsTerm, IsFactor, IsPrimary, IsRef, IsNumber}
use Rattle.fort_expr.specs.Words.{operator_of, number_of, kind_of}
use Rattle.fort_spell.specs.declared.mark.Mark.{Mark}
use Rattle.fort_spell.specs.declared.mark.Mark.TheVariants as mark
use Rattle.fort_spell.specs.Text.{mark_text}
use Rattle.fort_spell.specs.Pieces.{Word, Number as Numerals, Sign}
use Rattle.claw_meaning.specs.Plain.{plain_expr}
use Rattle.claw_meaning.specs.Syntax as plain
use Rattle.claw_meaning.proofs.PlainTrees.{plain_number, plain_truth, plain_name, plain_reference, plain_one, plain_two, plain_paren, plain_at}
use Rattle.column_scalars.specs.Scalars.{IsSum as IsPlainSum, in_column, wide_sum}
use Rattle.layout_reading.proofs.Classes.{open_class_is, close_class_is}
use Rattle.layout_reading.proofs.Numbers.{number_text, number_back, kind_back, number_class_is}
use Rattle.layout_reading.proofs.Whole.{is_whole}
use Rattle.layout_reading.specs.WideUnits.{IsFreeName}

-- ---- Tokens

abbrev pub word_token : (x : List ℕ) → IsName x → Token
word_token x h = record { text = x; at = nowhere; whole = is_whole (Word x) h }

abbrev pub mark_token : Mark → Token
mark_token m = record { text = mark_text m; at = nowhere; whole = is_whole (Sign m) tt }

abbrev pub number_token : (n : ℕ) → n < 2 ^ 63 → Token
number_token n h = record { text = number_text n None; at = nowhere; whole = is_whole (Numerals n None) h }

-- ---- Plain parts

pub as_sum : {w z : List Token} {e : Expr} → IsPrimary w z e → IsSum w z e
as_sum d = g.term (g.factor (g.primary d))

pub as_expr : {w z : List Token} {e : Expr} → IsPrimary w z e → IsExpr w z e
as_expr d = g.disj (g.conj (g.neg (g.rel (g.sum (as_sum d)))))

pub name_primary : (x : List ℕ) (f : IsFreeName x) (z : List Token) → IsPrimary (word_token x f.is_name ∷ z) z (Ref (lowercase x) None nowhere)
name_primary x f z = g.ref (word_token x f.is_name) (g.a_name f.class_is) g.bare

pub plain_of_name : (x : List ℕ) → IsFreeName x → plain_expr (Ref (lowercase x) None nowhere) ≡ plain.Name x
plain_of_name x f = plain_name (lowercase x) nowhere ∙ ap plain.Name f.is_name.lower

abbrev pub number_tree : ℕ → Expr
number_tree n = Number (number_of (number_text n None)) (kind_of (number_text n None)) nowhere

pub number_primary : (n : ℕ) (h : n < 2 ^ 63) (z : List Token) → IsPrimary (number_token n h ∷ z) z (number_tree n)
number_primary n h z = g.number (number_token n h) (number_class_is (number_token n h) n None h refl)

no_kind : (n : ℕ) → n < 2 ^ 63 → kind_of (number_text n None) ≡ None
no_kind n h = kind_back n (codes "1") h

pub plain_of_number : (n : ℕ) → n < 2 ^ 63 → plain_expr (number_tree n) ≡ plain.Numeral n None
plain_of_number n h = plain_number (number_of (number_text n None)) (kind_of (number_text n None)) nowhere ∙ (ap (λ m. plain.Numeral m (kind_of (number_text n None))) (number_back n None h) ∙ ap (plain.Numeral n) (no_kind n h))

-- ---- With the subscript

module _ (names : List plain.Text) (id : plain.Text) (free : IsFreeName id) where
  abbrev subscript : List Token → List Token
  subscript z = mark_token mark.Open ∷ word_token id free.is_name ∷ mark_token mark.Close ∷ z

  abbrev pub in_column_tree : List ℕ → Place → Expr
  in_column_tree x at = Ref x (Some (Alone (Ref (lowercase id) None nowhere) ∷ [])) at

  pub wide_reference : (t : Token) (z : List Token) → IsRef t (subscript z) z (in_column_tree (lowercase t.text) t.at)
  wide_reference t z =
      g.subscripted (mark_token mark.Open) (mark_token mark.Close) (open_class_is (mark_token mark.Open) refl)
      (g.some (g.one (g.single (as_expr (name_primary id free (mark_token mark.Close ∷ z)))))) (close_class_is (mark_token mark.Close) refl)

  pub plain_in_column : (x : List ℕ) (at : Place) → plain_expr (in_column_tree x at) ≡ in_column id x
  plain_in_column x at =
      plain_reference x (Alone (Ref (lowercase id) None nowhere) ∷ []) at
      ∙ ap (plain.Reference x) (plain_at (Ref (lowercase id) None nowhere) plain.No_more ∙ ap (λ e. plain.At e plain.No_more) (plain_of_name id free))

  -- tokens that derive the wide sum, before any others
  pub record Wide (Is : List Token → List Token → Expr → Type 0) (z : List Token) (e : plain.Expr) : Type 0 where
    pub tokens : List Token
    pub tree : Expr
    pub derive : Is tokens z tree
    pub same : plain_expr tree ≡ wide_sum id e

  abbrev IsSumOf : Expr → Type 0
  IsSumOf e = IsPlainSum names (plain_expr e)

  first_of : (o : Op) (a b : Expr) → IsSumOf (Two o a b) → IsSumOf a
  first_of o a b h = let k = subst (IsPlainSum names) (plain_two o a b) h in k.1

  second_of : (o : Op) (a b : Expr) → IsSumOf (Two o a b) → IsSumOf b
  second_of o a b h = let k = subst (IsPlainSum names) (plain_two o a b) h in k.2

  inner_of : (s : Unary) (a : Expr) (at : Place) → IsSumOf (One s a at) → IsSumOf a
  inner_of s a at h = let k = subst (IsPlainSum names) (plain_one s a at) h in k.1

  same_two : (o : Op) (a b x y : Expr) → plain_expr x ≡ wide_sum id (plain_expr a) → plain_expr y ≡ wide_sum id (plain_expr b) → plain_expr (Two o x y) ≡ wide_sum id (plain_expr (Two o a b))
  same_two o a b x y e f =
      plain_two o x y ∙ (ap (λ v. plain.Binary o v (plain_expr y)) e ∙ (ap (plain.Binary o (wide_sum id (plain_expr a))) f ∙ sym (ap (wide_sum id) (plain_two o a b))))

  same_one : (s : Unary) (a x : Expr) (at : Place) → plain_expr x ≡ wide_sum id (plain_expr a) → plain_expr (One s x at) ≡ wide_sum id (plain_expr (One s a at))
  same_one s a x at e = plain_one s x at ∙ (ap (plain.Signed s) e ∙ sym (ap (wide_sum id) (plain_one s a at)))

  mutual
    pub wide_expr : {w z : List Token} {e : Expr} → IsExpr w z e → IsSumOf e → (y : List Token) → Wide IsExpr y (plain_expr e)
    wide_expr (g.disj d) h y = let v = wide_disj d h y in record { tokens = v.tokens; tree = v.tree; derive = g.disj v.derive; same = v.same }
    wide_expr (g.eqv {a = a} {b = b} o l c r) h y =
        let v = wide_disj r (second_of (operator_of o.text) a b h) y in
        let u = wide_expr l (first_of (operator_of o.text) a b h) (o ∷ v.tokens) in
        record { tokens = u.tokens; tree = Two (operator_of o.text) u.tree v.tree; derive = g.eqv o u.derive c v.derive; same = same_two (operator_of o.text) a b u.tree v.tree u.same v.same }

    wide_disj : {w z : List Token} {e : Expr} → IsDisj w z e → IsSumOf e → (y : List Token) → Wide IsDisj y (plain_expr e)
    wide_disj (g.conj d) h y = let v = wide_conj d h y in record { tokens = v.tokens; tree = v.tree; derive = g.conj v.derive; same = v.same }
    wide_disj (g.or {a = a} {b = b} o l c r) h y =
        let v = wide_conj r (second_of (operator_of o.text) a b h) y in
        let u = wide_disj l (first_of (operator_of o.text) a b h) (o ∷ v.tokens) in
        record { tokens = u.tokens; tree = Two (operator_of o.text) u.tree v.tree; derive = g.or o u.derive c v.derive; same = same_two (operator_of o.text) a b u.tree v.tree u.same v.same }

    wide_conj : {w z : List Token} {e : Expr} → IsConj w z e → IsSumOf e → (y : List Token) → Wide IsConj y (plain_expr e)
    wide_conj (g.neg d) h y = let v = wide_neg d h y in record { tokens = v.tokens; tree = v.tree; derive = g.neg v.derive; same = v.same }
    wide_conj (g.and {a = a} {b = b} o l c r) h y =
        let v = wide_neg r (second_of (operator_of o.text) a b h) y in
        let u = wide_conj l (first_of (operator_of o.text) a b h) (o ∷ v.tokens) in
        record { tokens = u.tokens; tree = Two (operator_of o.text) u.tree v.tree; derive = g.and o u.derive c v.derive; same = same_two (operator_of o.text) a b u.tree v.tree u.same v.same }

    wide_neg : {w z : List Token} {e : Expr} → IsNeg w z e → IsSumOf e → (y : List Token) → Wide IsNeg y (plain_expr e)
    wide_neg (g.rel d) h y = let v = wide_rel d h y in record { tokens = v.tokens; tree = v.tree; derive = g.rel v.derive; same = v.same }
    wide_neg (g.not {a = a} o c d) h y =
        let v = wide_rel d (inner_of unary.Not a o.at h) y in
        record { tokens = o ∷ v.tokens; tree = One unary.Not v.tree o.at; derive = g.not o c v.derive; same = same_one unary.Not a v.tree o.at v.same }

    wide_rel : {w z : List Token} {e : Expr} → IsRel w z e → IsSumOf e → (y : List Token) → Wide IsRel y (plain_expr e)
    wide_rel (g.sum d) h y = let v = wide_of_sum d h y in record { tokens = v.tokens; tree = v.tree; derive = g.sum v.derive; same = v.same }
    wide_rel (g.relation {a = a} {b = b} o l c r) h y =
        let v = wide_of_sum r (second_of (operator_of o.text) a b h) y in
        let u = wide_of_sum l (first_of (operator_of o.text) a b h) (o ∷ v.tokens) in
        record { tokens = u.tokens; tree = Two (operator_of o.text) u.tree v.tree; derive = g.relation o u.derive c v.derive; same = same_two (operator_of o.text) a b u.tree v.tree u.same v.same }

    wide_of_sum : {w z : List Token} {e : Expr} → IsSum w z e → IsSumOf e → (y : List Token) → Wide IsSum y (plain_expr e)
    wide_of_sum (g.term d) h y = let v = wide_term d h y in record { tokens = v.tokens; tree = v.tree; derive = g.term v.derive; same = v.same }
    wide_of_sum (g.plus {a = a} o c d) h y =
        let v = wide_term d (inner_of unary.Plus a o.at h) y in
        record { tokens = o ∷ v.tokens; tree = One unary.Plus v.tree o.at; derive = g.plus o c v.derive; same = same_one unary.Plus a v.tree o.at v.same }
    wide_of_sum (g.minus {a = a} o c d) h y =
        let v = wide_term d (inner_of unary.Minus a o.at h) y in
        record { tokens = o ∷ v.tokens; tree = One unary.Minus v.tree o.at; derive = g.minus o c v.derive; same = same_one unary.Minus a v.tree o.at v.same }
    wide_of_sum (g.add {a = a} {b = b} o l c r) h y =
        let v = wide_term r (second_of (operator_of o.text) a b h) y in
        let u = wide_of_sum l (first_of (operator_of o.text) a b h) (o ∷ v.tokens) in
        record { tokens = u.tokens; tree = Two (operator_of o.text) u.tree v.tree; derive = g.add o u.derive c v.derive; same = same_two (operator_of o.text) a b u.tree v.tree u.same v.same }

    wide_term : {w z : List Token} {e : Expr} → IsTerm w z e → IsSumOf e → (y : List Token) → Wide IsTerm y (plain_expr e)
    wide_term (g.factor d) h y = let v = wide_factor d h y in record { tokens = v.tokens; tree = v.tree; derive = g.factor v.derive; same = v.same }
    wide_term (g.times {a = a} {b = b} o l c r) h y =
        let v = wide_factor r (second_of (operator_of o.text) a b h) y in
        let u = wide_term l (first_of (operator_of o.text) a b h) (o ∷ v.tokens) in
        record { tokens = u.tokens; tree = Two (operator_of o.text) u.tree v.tree; derive = g.times o u.derive c v.derive; same = same_two (operator_of o.text) a b u.tree v.tree u.same v.same }

    wide_factor : {w z : List Token} {e : Expr} → IsFactor w z e → IsSumOf e → (y : List Token) → Wide IsFactor y (plain_expr e)
    wide_factor (g.primary d) h y = let v = wide_primary d h y in record { tokens = v.tokens; tree = v.tree; derive = g.primary v.derive; same = v.same }
    wide_factor (g.power {a = a} {b = b} o l c r) h y =
        let v = wide_factor r (second_of (operator_of o.text) a b h) y in
        let u = wide_primary l (first_of (operator_of o.text) a b h) (o ∷ v.tokens) in
        record { tokens = u.tokens; tree = Two (operator_of o.text) u.tree v.tree; derive = g.power o u.derive c v.derive; same = same_two (operator_of o.text) a b u.tree v.tree u.same v.same }

    wide_primary : {w z : List Token} {e : Expr} → IsPrimary w z e → IsSumOf e → (y : List Token) → Wide IsPrimary y (plain_expr e)
    wide_primary (g.number t c) h y = record {
      tokens = t ∷ y;
      tree = Number (number_of t.text) (kind_of t.text) t.at;
      derive = g.number t c;
      same = plain_number (number_of t.text) (kind_of t.text) t.at ∙ sym (ap (wide_sum id) (plain_number (number_of t.text) (kind_of t.text) t.at));
    }
    wide_primary (g.truth t c) h y = absurd (subst (IsPlainSum names) (plain_truth _ t.at) h)
    wide_primary (g.ref t c g.bare) h y = record {
      tokens = t ∷ subscript y;
      tree = in_column_tree (lowercase t.text) t.at;
      derive = g.ref t c (wide_reference t y);
      same = plain_in_column (lowercase t.text) t.at ∙ sym (ap (wide_sum id) (plain_name (lowercase t.text) t.at));
    }
    wide_primary (g.ref t c (g.subscripted {l = l} p q a s b)) h y = absurd (subst (IsPlainSum names) (plain_reference (lowercase t.text) l t.at) h)
    wide_primary (g.paren {e = e} p q a d b) h y = absurd (subst (IsPlainSum names) (plain_paren e p.at) h)
