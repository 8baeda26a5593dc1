-- Words between which a text may still stand.
use Rattle.std.proofs.Common.{◌≡◌, ◌↔◌, ℕ, zero, suc, ◌+◌, ◌-◌, ◌/◌, ◌<◌, ◌≤◌, true, List, [], Option, Some, None, length, get_or, refl, sym, ap, ◌∙◌, subst, arith, ◌⊎◌, inl, inr}
use Rattle.std.proofs.lemmas.Option.{none-some}
use Rattle.std.proofs.lemmas.List.{get_or-map}
use Rattle.std.specs.Borrow.{Bor}
use Rattle.std.specs.Cmp.Lexicographic.{slice_cmp}
use Rattle.std.specs.Ordering.{nat_cmp}
use Rattle.std.specs.declared.cmp.Ordering.{Ordering}
use Rattle.fort_tables.specs.Order.{is_before, ascends, texts, word_at}
use Rattle.fort_tables.proofs.Ordered.{before-self, before-trans, pair-before}

-- each word before low stands before the text, and each from high on behind it
pub record Narrowed (words : List (List ℕ)) (text : List ℕ) (low high : ℕ) : Type 0 where
  pub order : low ≤ high
  pub bound : high ≤ length words
  pub below : (i : ℕ) → i < low → is_before (word_at words i) text ≡ true
  pub above : (i : ℕ) → high ≤ i → i < length words → is_before text (word_at words i) ≡ true

pub narrowed-whole : (words : List (List ℕ)) (text : List ℕ) → Narrowed words text 0 (length words)
narrowed-whole words text = record {
  order = omega arith;
  bound = omega arith;
  below = λ i h. absurd (omega (arith, h));
  above = λ i h k. absurd (omega (arith, h, k));
}

equal-or-past : (m i : ℕ) → m ≤ i → (m ≡ i) ⊎ (m < i)
equal-or-past zero zero h = inl refl
equal-or-past zero (suc i) h = inr (omega arith)
equal-or-past (suc m) zero h = absurd (omega (arith, h))
equal-or-past (suc m) (suc i) h = elim (equal-or-past m i (omega (arith, h))) [ inl e ↦ inl (ap suc e) | inr l ↦ inr (omega (arith, l)) ]

equal-or-past-either : (m i : ℕ) → (m ≡ i) ⊎ ((m < i) ⊎ (i < m))
equal-or-past-either zero zero = inl refl
equal-or-past-either zero (suc i) = inr (inl (omega arith))
equal-or-past-either (suc m) zero = inr (inr (omega arith))
equal-or-past-either (suc m) (suc i) = elim (equal-or-past-either m i) [
  | inl e ↦ inl (ap suc e)
  | inr r ↦ elim r [ inl l ↦ inr (inl (omega (arith, l))) | inr l ↦ inr (inr (omega (arith, l))) ]
]

below-or : (i low : ℕ) → (i < low) ⊎ (low ≤ i)
below-or i zero = inr (omega arith)
below-or zero (suc low) = inl (omega arith)
below-or (suc i) (suc low) = elim (below-or i low) [ inl l ↦ inl (omega (arith, l)) | inr l ↦ inr (omega (arith, l)) ]

behind : (words : List (List ℕ)) (text : List ℕ) (m i : ℕ) → ascends words ≡ true → is_before text (word_at words m) ≡ true → m ≤ i → i < length words → is_before text (word_at words i) ≡ true
behind words text m i up h k l = elim (equal-or-past m i k) [
  | inl e ↦ subst (λ i. is_before text (word_at words i) ≡ true) e h
  | inr p ↦ before-trans text (word_at words m) (word_at words i) h (pair-before words m i [] up p l)
]

before : (words : List (List ℕ)) (text : List ℕ) (m i : ℕ) → ascends words ≡ true → is_before (word_at words m) text ≡ true → i ≤ m → m < length words → is_before (word_at words i) text ≡ true
before words text m i up h k l = elim (equal-or-past i m k) [
  | inl e ↦ subst (λ i. is_before (word_at words i) text ≡ true) (sym e) h
  | inr p ↦ before-trans (word_at words i) (word_at words m) text (pair-before words i m [] up p l) h
]

pub narrowed-left : (words : List (List ℕ)) (text : List ℕ) (low high m : ℕ) → ascends words ≡ true → Narrowed words text low high → low ≤ m → m < high →
    is_before text (word_at words m) ≡ true → Narrowed words text low m
narrowed-left words text low high m up n k l h = record {
  order = k;
  bound = omega (arith, l, n.bound);
  below = n.below;
  above = λ i p q. behind words text m i up h p q;
}

pub narrowed-right : (words : List (List ℕ)) (text : List ℕ) (low high m : ℕ) → ascends words ≡ true → Narrowed words text low high → low ≤ m → m < high →
    is_before (word_at words m) text ≡ true → Narrowed words text (m + 1) high
narrowed-right words text low high m up n k l h = record {
  order = omega (arith, l);
  bound = n.bound;
  below = λ i p. before words text m i up h (omega (arith, p)) (omega (arith, l, n.bound));
  above = n.above;
}

-- the index of the text, in each way to say it
abbrev pub IsPlace : List (List ℕ) → List ℕ → ℕ → ℕ → Type 0
IsPlace words text n i = (i < n) × (word_at words i ≡ text)

one-place : (words : List (List ℕ)) (text : List ℕ) (m i : ℕ) → ascends words ≡ true → m < i → i < length words → word_at words m ≡ text → word_at words i ≡ text → ⊥
one-place words text m i up p l h k =
    before-self text (subst (λ w. is_before w text ≡ true) h (subst (λ w. is_before (word_at words m) w ≡ true) k (pair-before words m i [] up p l)))

same-place : (words : List (List ℕ)) (text : List ℕ) (m i : ℕ) → ascends words ≡ true → m < length words → i < length words → word_at words m ≡ text → word_at words i ≡ text → m ≡ i
same-place words text m i up p q h k = elim (equal-or-past-either m i) [
  | inl e ↦ e
  | inr r ↦ elim r [ inl l ↦ absurd (one-place words text m i up l q h k) | inr l ↦ absurd (one-place words text i m up l p k h) ]
]

abbrev or_zero : Option ℕ → ℕ
or_zero None = 0
or_zero (Some n) = n

some-is : (m i : ℕ) → Some m ≡ Some i → m ≡ i
some-is m i e = ap (λ o. or_zero o) e

pub found : (words : List (List ℕ)) (text : List ℕ) (n m : ℕ) → length words ≡ n → ascends words ≡ true → m < n → word_at words m ≡ text →
    (i : ℕ) → (Some m ≡ Some i) ↔ IsPlace words text n i
found words text n m e up p h i = (
  (λ s. subst (IsPlace words text n) (some-is m i s) (p, h)),
  (λ q. ap Some (same-place words text m i up (omega (arith, e, p)) (omega (arith, e, q.0)) h q.1)),
)

nowhere : (words : List (List ℕ)) (text : List ℕ) (low high i : ℕ) → Narrowed words text low high → high ≤ low → i < length words → word_at words i ≡ text → ⊥
nowhere words text low high i w h l e = elim (below-or i low) [
  | inl p ↦ before-self text (subst (λ x. is_before x text ≡ true) e (w.below i p))
  | inr p ↦ before-self text (subst (λ x. is_before text x ≡ true) e (w.above i (omega (arith, p, h)) l))
]

pub missed : (words : List (List ℕ)) (text : List ℕ) (n low high : ℕ) → length words ≡ n → Narrowed words text low high → high ≤ low →
    (i : ℕ) → (None ≡ Some i) ↔ IsPlace words text n i
missed words text n low high e w h i = (
  (λ s. absurd (none-some i s)),
  (λ q. absurd (nowhere words text low high i w h (omega (arith, e, q.0)) q.1)),
)

-- a word of the list and its text
pub compared : (ws : List (Bor (List ℕ))) (text : List ℕ) (m : ℕ) (d : Bor (List ℕ)) (r o : Ordering) → m < length ws → r ≡ slice_cmp nat_cmp text (get_or ws m d).now → r ≡ o →
    slice_cmp nat_cmp text (word_at (texts ws) m) ≡ o
compared ws text m d r o l e h = ap (slice_cmp nat_cmp text) (get_or-map (λ w. w.now) ws m d [] l) ∙ sym e ∙ h

pub middle-low : (low high : ℕ) → low ≤ low + (high - low) / 2
middle-low low high = omega arith

pub middle-high : (low high : ℕ) → low < high → low + (high - low) / 2 < high
middle-high low high h = omega (arith, h)
