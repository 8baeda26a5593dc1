-- The order of texts, and what it says of ascending words.
use Rattle.std.proofs.Common.{◌≡◌, ℕ, zero, suc, ◌<◌, Bool, true, false, cond, ◌&&◌, ◌||◌, List, [], ◌∷◌, length, get_or, refl, sym, ap, ◌∙◌, subst, arith, ◌⊎◌, inl, inr}
use Rattle.std.specs.Prelude.{nat_lt, nat_eq, ◌==◌}
use Rattle.std.specs.Cmp.Lexicographic.{slice_cmp}
use Rattle.std.specs.Ordering.{nat_cmp, ordering_then}
use Rattle.std.specs.declared.cmp.Ordering.{Ordering}
use Rattle.std.specs.declared.cmp.Ordering.TheVariants.{Less, Equal, Greater}
use Rattle.std.proofs.lemmas.Bool.{true≢false, and_parts, or_cases, eqb-true}
use Rattle.std.proofs.lemmas.Bool.Decides.{nat_tests}
use Rattle.fort_tables.specs.Order.{is_before, ascends}

abbrev number : Ordering → ℕ
number Less = 0
number Equal = 1
number Greater = 2

equal≢less : Equal ≡ Less → ⊥
equal≢less h = absurd (omega (arith, ap number h))

greater≢less : Greater ≡ Less → ⊥
greater≢less h = absurd (omega (arith, ap number h))

equal≢greater : Equal ≡ Greater → ⊥
equal≢greater h = absurd (omega (arith, ap number h))

lt-is : (x y : ℕ) → nat_lt x y ≡ true → x < y
lt-is x y h = grind (arith, nat_tests)

lt-back : (x y : ℕ) → x < y → nat_lt x y ≡ true
lt-back x y h = grind (arith, nat_tests)

abbrev Parts : (x y : ℕ) (xs ys : List ℕ) → Type 0
Parts x y xs ys = (x < y) ⊎ ((x ≡ y) × (is_before xs ys ≡ true))

parts : (x y : ℕ) (xs ys : List ℕ) → is_before (x ∷ xs) (y ∷ ys) ≡ true → Parts x y xs ys
parts x y xs ys h = elim (or_cases (nat_lt x y) (nat_eq x y && is_before xs ys) h) [
  | inl l ↦ inl (lt-is x y l)
  | inr r ↦ let r = and_parts (nat_eq x y) (is_before xs ys) r in inr (eqb-true x y r.0, r.1)
]

by-first : (x y : ℕ) (xs ys : List ℕ) → x < y → is_before (x ∷ xs) (y ∷ ys) ≡ true
by-first x y xs ys h = rw (lt-back x y h) refl

or-same : (a b : Bool) → b ≡ true → (a || b) ≡ true
or-same true b h = refl
or-same false b h = h

same-number : (x : ℕ) → nat_eq x x ≡ true
same-number x = grind (arith, nat_tests)

by-rest : (x y : ℕ) (xs ys : List ℕ) → x ≡ y → is_before xs ys ≡ true → is_before (x ∷ xs) (y ∷ ys) ≡ true
by-rest x y xs ys e h = subst (λ y. is_before (x ∷ xs) (y ∷ ys) ≡ true) e (or-same (nat_lt x x) (nat_eq x x && is_before xs ys) (rw (same-number x) h))

-- no text stands before itself
pub before-self : (a : List ℕ) → is_before a a ≡ true → ⊥
before-self [] h = true≢false (sym h)
before-self (x ∷ xs) h = elim (parts x x xs xs h) [
  | inl l ↦ absurd (omega (arith, l))
  | inr r ↦ before-self xs r.1
]

trans-parts : (x y z : ℕ) (xs ys zs : List ℕ) → Parts x y xs ys → Parts y z ys zs → (is_before xs ys ≡ true → is_before ys zs ≡ true → is_before xs zs ≡ true) →
    is_before (x ∷ xs) (z ∷ zs) ≡ true
trans-parts x y z xs ys zs (inl l) (inl k) h = by-first x z xs zs (omega (arith, l, k))
trans-parts x y z xs ys zs (inl l) (inr k) h = by-first x z xs zs (omega (arith, l, k.0))
trans-parts x y z xs ys zs (inr l) (inl k) h = by-first x z xs zs (omega (arith, l.0, k))
trans-parts x y z xs ys zs (inr l) (inr k) h = by-rest x z xs zs (l.0 ∙ k.0) (h l.1 k.1)

pub before-trans : (a b c : List ℕ) → is_before a b ≡ true → is_before b c ≡ true → is_before a c ≡ true
before-trans a b [] h k = absurd (true≢false (sym k))
before-trans a [] (z ∷ zs) h k = absurd (true≢false (sym h))
before-trans [] (y ∷ ys) (z ∷ zs) h k = refl
before-trans (x ∷ xs) (y ∷ ys) (z ∷ zs) h k = trans-parts x y z xs ys zs (parts x y xs ys h) (parts y z ys zs k) (before-trans xs ys zs)

-- ascending words
head-before : (a : List ℕ) (ws : List (List ℕ)) (j : ℕ) (d : List ℕ) → ascends (a ∷ ws) ≡ true → j < length ws → is_before a (get_or ws j d) ≡ true
head-before a [] j d h n = absurd (omega (arith, n))
head-before a (b ∷ ws) zero d h n = (and_parts (is_before a b) (ascends (b ∷ ws)) h).0
head-before a (b ∷ ws) (suc j) d h n =
    let h = and_parts (is_before a b) (ascends (b ∷ ws)) h in
    before-trans a b (get_or ws j d) h.0 (head-before b ws j d h.1 (omega (arith, n)))

ascends-rest : (a : List ℕ) (ws : List (List ℕ)) → ascends (a ∷ ws) ≡ true → ascends ws ≡ true
ascends-rest a [] h = refl
ascends-rest a (b ∷ ws) h = (and_parts (is_before a b) (ascends (b ∷ ws)) h).1

pub pair-before : (ws : List (List ℕ)) (i j : ℕ) (d : List ℕ) → ascends ws ≡ true → i < j → j < length ws → is_before (get_or ws i d) (get_or ws j d) ≡ true
pair-before [] i j d h l n = absurd (omega (arith, n))
pair-before (a ∷ ws) i zero d h l n = absurd (omega (arith, l))
pair-before (a ∷ ws) zero (suc j) d h l n = head-before a ws j d h (omega (arith, n))
pair-before (a ∷ ws) (suc i) (suc j) d h l n = pair-before ws i j d (ascends-rest a ws h) (omega (arith, l)) (omega (arith, n))

-- what a comparison says
less-at : (x y : ℕ) (xs ys : List ℕ) (p q : Bool) → nat_lt x y ≡ p → (x == y) ≡ q → ordering_then (cond p Less (cond q Equal Greater)) (slice_cmp nat_cmp xs ys) ≡ Less →
    (slice_cmp nat_cmp xs ys ≡ Less → is_before xs ys ≡ true) → is_before (x ∷ xs) (y ∷ ys) ≡ true
less-at x y xs ys true q ep eq h k = by-first x y xs ys (lt-is x y ep)
less-at x y xs ys false true ep eq h k = by-rest x y xs ys (eqb-true x y eq) (k h)
less-at x y xs ys false false ep eq h k = absurd (greater≢less h)

pub less-before : (a b : List ℕ) → slice_cmp nat_cmp a b ≡ Less → is_before a b ≡ true
less-before [] [] h = absurd (equal≢less h)
less-before [] (y ∷ ys) h = refl
less-before (x ∷ xs) [] h = absurd (greater≢less h)
less-before (x ∷ xs) (y ∷ ys) h = less-at x y xs ys (nat_lt x y) (x == y) refl refl h (less-before xs ys)

above : (x y : ℕ) → nat_lt x y ≡ false → (x == y) ≡ false → y < x
above x y h k = grind (arith, nat_tests)

greater-at : (x y : ℕ) (xs ys : List ℕ) (p q : Bool) → nat_lt x y ≡ p → (x == y) ≡ q → ordering_then (cond p Less (cond q Equal Greater)) (slice_cmp nat_cmp xs ys) ≡ Greater →
    (slice_cmp nat_cmp xs ys ≡ Greater → is_before ys xs ≡ true) → is_before (y ∷ ys) (x ∷ xs) ≡ true
greater-at x y xs ys true q ep eq h k = absurd (greater≢less (sym h))
greater-at x y xs ys false true ep eq h k = by-rest y x ys xs (sym (eqb-true x y eq)) (k h)
greater-at x y xs ys false false ep eq h k = by-first y x ys xs (above x y ep eq)

pub greater-before : (a b : List ℕ) → slice_cmp nat_cmp a b ≡ Greater → is_before b a ≡ true
greater-before [] [] h = absurd (equal≢greater h)
greater-before [] (y ∷ ys) h = absurd (greater≢less (sym h))
greater-before (x ∷ xs) [] h = refl
greater-before (x ∷ xs) (y ∷ ys) h = greater-at x y xs ys (nat_lt x y) (x == y) refl refl h (greater-before xs ys)

equal-at : (x y : ℕ) (xs ys : List ℕ) (p q : Bool) → (x == y) ≡ q → ordering_then (cond p Less (cond q Equal Greater)) (slice_cmp nat_cmp xs ys) ≡ Equal →
    (slice_cmp nat_cmp xs ys ≡ Equal → xs ≡ ys) → x ∷ xs ≡ y ∷ ys
equal-at x y xs ys true q eq h k = absurd (equal≢less (sym h))
equal-at x y xs ys false true eq h k = ap (λ x. x ∷ xs) (eqb-true x y eq) ∙ ap (λ xs. y ∷ xs) (k h)
equal-at x y xs ys false false eq h k = absurd (equal≢greater (sym h))

pub equal-same : (a b : List ℕ) → slice_cmp nat_cmp a b ≡ Equal → a ≡ b
equal-same [] [] h = refl
equal-same [] (y ∷ ys) h = absurd (equal≢less (sym h))
equal-same (x ∷ xs) [] h = absurd (equal≢greater (sym h))
equal-same (x ∷ xs) (y ∷ ys) h = equal-at x y xs ys (nat_lt x y) (x == y) refl h (equal-same xs ys)
