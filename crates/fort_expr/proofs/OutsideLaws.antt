-- The item that the test gives is the least, and there is one where it gives one.
use Rattle.std.proofs.Common.{◌≡◌, ◌⊎◌, ℕ, ◌≤◌, Bool, true, false, cond, ◌&&◌, Option, None, Some, refl, sym, ◌∙◌, ap, subst, inl, inr, lit≤}
use Rattle.std.specs.Bool.{Decides}
use Rattle.std.proofs.lemmas.Bool.{cond-false, and_parts, and_from, or_cases, or_left, or_right, true≢false}
use Rattle.fort_tree.specs.declared.choice.Mode.{Mode}
use Rattle.fort_tree.specs.declared.statement.Token.{Token}
use Rattle.fort_grammar.specs.declared.class.Class.{Class}
use Rattle.fort_grammar.specs.declared.class.Class.TheVariants as class
use Rattle.fort_grammar.specs.Class.{is_reserved}
use Rattle.fort_grammar.specs.Choose.{same}
use Rattle.fort_grammar.specs.Token.{token_class}
use Rattle.fort_grammar.proofs.Theory.{same-eq, same-refl, then, then-use}
use Rattle.fort_expr.specs.Outside.{Outside, made_name, reserved_word, second_colon, double_colon, keyword, array_values, is_made_name, when, not, follows, item_by, item_of}

cond-some : (b : Bool) (x y : Option ℕ) (k : ℕ) → cond b x y ≡ Some k → ((b ≡ true) × (x ≡ Some k)) ⊎ ((b ≡ false) × (y ≡ Some k))
cond-some true x y k h = inl (refl, h)
cond-some false x y k h = inr (refl, h)

some-item : (m k : ℕ) → Some m ≡ Some k → m ≡ k
some-item m k h = cc

none-item : (k : ℕ) → None ≡ Some k → ⊥
none-item k h = cc

when-some : (b : Bool) (m k : ℕ) → when b m ≡ Some k → (b ≡ true) × (m ≡ k)
when-some true m k h = (refl, some-item m k h)
when-some false m k h = absurd (none-item k h)

not-true : (b : Bool) → not b ≡ true → b ≡ true → ⊥
not-true true h e = true≢false (sym h)
not-true false h e = true≢false (sym e)

not-from : (b : Bool) → (b ≡ true → ⊥) → not b ≡ true
not-from true h = absurd (h refl)
not-from false h = refl

follows-class : (c : Class) (behind : Option Class) → follows c behind ≡ true → behind ≡ Some c
follows-class c None h = absurd (true≢false (sym h))
follows-class c (Some b) h = ap Some (same-eq b c h)

follows-from : (c : Class) (behind : Option Class) → behind ≡ Some c → follows c behind ≡ true
follows-from c behind h = ap (follows c) h ∙ same-refl c

-- A reserved word is none of the classes that are tested before.
abbrev others_apart : Class → Bool
others_apart c = not (same c class.Colon) && (not (same c class.DoubleColon) && (not (same c class.Name) && not (same c class.Open)))

reserved_apart : (c : Class) → then (is_reserved c) (others_apart c) ≡ true
reserved_apart class.Open = refl
reserved_apart _ = refl

not-false : (b : Bool) → not b ≡ true → b ≡ false
not-false true h = absurd (true≢false (sym h))
not-false false h = refl

module _ (mode : Mode) (can : Class → Bool) (Can : Class → Type 0) (decides : (c : Class) → Decides (can c) (Can c)) (t : Token) (behind : Option Class) where
  sound-by : (k : ℕ) → item_by can behind (token_class t) ≡ Some k → Outside mode Can t behind k
  sound-by k h = elim (cond-some (same (token_class t) class.Colon) _ _ k h) [
    | inl a ↦ let p = when-some _ 12 k a.1 in let q = and_parts (can class.Comma) (not (can class.Colon)) p.0 in
        subst (λ n. Outside mode Can t behind n) p.1 (second_colon (same-eq (token_class t) class.Colon a.0) (λ x. not-true (can class.Colon) q.1 ((decides class.Colon).1 x)) ((decides class.Comma).0 q.0))
    | inr a ↦ elim (cond-some (same (token_class t) class.DoubleColon) _ _ k a.1) [
      | inl b ↦ let p = when-some _ 12 k b.1 in
          subst (λ n. Outside mode Can t behind n) p.1 (double_colon (same-eq (token_class t) class.DoubleColon b.0)
          (elim (or_cases (can class.Colon) (can class.Comma) p.0) [ inl x ↦ inl ((decides class.Colon).0 x) | inr x ↦ inr ((decides class.Comma).0 x) ]))
      | inr b ↦ elim (cond-some (same (token_class t) class.Name) _ _ k b.1) [
        | inl d ↦ let p = when-some _ 12 k d.1 in
            let q = and_parts (follows class.Equals behind) (can class.Name && can class.Colon) p.0 in
            let r = and_parts (can class.Name) (can class.Colon) q.1 in
            subst (λ n. Outside mode Can t behind n) p.1 (keyword (same-eq (token_class t) class.Name d.0) (follows-class class.Equals behind q.0) ((decides class.Name).0 r.0) ((decides class.Colon).0 r.1))
        | inr d ↦ elim (cond-some (same (token_class t) class.Open) _ _ k d.1) [
          | inl e ↦ let p = when-some _ 12 k e.1 in
              let q = and_parts (follows class.Slash behind) (can class.Open) p.0 in
              subst (λ n. Outside mode Can t behind n) p.1 (array_values (same-eq (token_class t) class.Open e.0) (follows-class class.Slash behind q.0) ((decides class.Open).0 q.1))
          | inr e ↦ let p = when-some _ 10 k e.1 in
              let q = and_parts (is_reserved (token_class t)) (can class.Name) p.0 in
              subst (λ n. Outside mode Can t behind n) p.1 (reserved_word q.0 ((decides class.Name).0 q.1))
        ]
      ]
    ]
  ]

  pub item-sound : (k : ℕ) → item_of mode can t behind ≡ Some k → Outside mode Can t behind k
  item-sound k h = elim (cond-some (is_made_name mode t.text) (Some 10) (item_by can behind (token_class t)) k h) [
    | inl a ↦ subst (λ n. Outside mode Can t behind n) (some-item 10 k a.1) (made_name a.0)
    | inr a ↦ sound-by k a.1
  ]

  -- what the test gives where the token is outside
  abbrev Least : Option ℕ → ℕ → Type 0
  Least None k = ⊥
  Least (Some m) k = m ≤ k

  with-name : (b : Bool) (x : Option ℕ) (k : ℕ) → 10 ≤ k → Least x k → Least (cond b (Some 10) x) k
  with-name true x k h l = h
  with-name false x k h l = l

  at-twelve : (c : Class) (b : Bool) → token_class t ≡ c → item_by can behind c ≡ when b 12 → b ≡ true → Least (item_by can behind (token_class t)) 12
  at-twelve c b e f g = subst (λ q. Least (item_by can behind q) 12) (sym e) (subst (λ q. Least q 12) (sym (f ∙ ap (λ z. when z 12) g)) (lit≤ tt))

  reserved-item : is_reserved (token_class t) ≡ true → can class.Name ≡ true → item_by can behind (token_class t) ≡ Some 10
  reserved-item r n =
      let c = token_class t in
      let p = and_parts (not (same c class.Colon)) (not (same c class.DoubleColon) && (not (same c class.Name) && not (same c class.Open))) (then-use (is_reserved c) (others_apart c) (reserved_apart c) r) in
      let q = and_parts (not (same c class.DoubleColon)) (not (same c class.Name) && not (same c class.Open)) p.1 in
      let s = and_parts (not (same c class.Name)) (not (same c class.Open)) q.1 in
      cond-false (same c class.Colon) _ _ (not-false (same c class.Colon) p.0) ∙
      (cond-false (same c class.DoubleColon) _ _ (not-false (same c class.DoubleColon) q.0) ∙
      (cond-false (same c class.Name) _ _ (not-false (same c class.Name) s.0) ∙
      (cond-false (same c class.Open) _ _ (not-false (same c class.Open) s.1) ∙
      ap (λ z. when z 10) (and_from (is_reserved c) (can class.Name) r n))))

  complete : (k : ℕ) → Outside mode Can t behind k → Least (item_of mode can t behind) k
  complete k (made_name h) = subst (λ b. Least (cond b (Some 10) (item_by can behind (token_class t))) 10) (sym h) (lit≤ tt)
  complete k (reserved_word r n) = with-name (is_made_name mode t.text) (item_by can behind (token_class t)) 10 (lit≤ tt) (subst (λ q. Least q 10) (sym (reserved-item r ((decides class.Name).1 n))) (lit≤ tt))
  complete k (second_colon e never comma) = with-name (is_made_name mode t.text) (item_by can behind (token_class t)) 12 (lit≤ tt)
      (at-twelve class.Colon _ e refl (and_from (can class.Comma) (not (can class.Colon)) ((decides class.Comma).1 comma) (not-from (can class.Colon) (λ x. never ((decides class.Colon).0 x)))))
  complete k (double_colon e (inl x)) = with-name (is_made_name mode t.text) (item_by can behind (token_class t)) 12 (lit≤ tt)
      (at-twelve class.DoubleColon _ e refl (or_left (can class.Colon) (can class.Comma) ((decides class.Colon).1 x)))
  complete k (double_colon e (inr x)) = with-name (is_made_name mode t.text) (item_by can behind (token_class t)) 12 (lit≤ tt)
      (at-twelve class.DoubleColon _ e refl (or_right (can class.Colon) (can class.Comma) ((decides class.Comma).1 x)))
  complete k (keyword e f n c) = with-name (is_made_name mode t.text) (item_by can behind (token_class t)) 12 (lit≤ tt)
      (at-twelve class.Name _ e refl (and_from (follows class.Equals behind) (can class.Name && can class.Colon) (follows-from class.Equals behind f) (and_from (can class.Name) (can class.Colon) ((decides class.Name).1 n) ((decides class.Colon).1 c))))
  complete k (array_values e f o) = with-name (is_made_name mode t.text) (item_by can behind (token_class t)) 12 (lit≤ tt)
      (at-twelve class.Open _ e refl (and_from (follows class.Slash behind) (can class.Open) (follows-from class.Slash behind f) ((decides class.Open).1 o)))

  pub item-none : item_of mode can t behind ≡ None → (k : ℕ) → Outside mode Can t behind k → ⊥
  item-none h k d = subst (λ q. Least q k) h (complete k d)

  pub item-least : (m : ℕ) → item_of mode can t behind ≡ Some m → (k : ℕ) → Outside mode Can t behind k → m ≤ k
  item-least m h k d = subst (λ q. Least q k) h (complete k d)
