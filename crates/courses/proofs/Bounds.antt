-- The whole numbers from one bound to another, and the places of an array.
use Rattle.std.proofs.Common.{◌≡◌, ℕ, zero, suc, ◌≢◌, ◌+◌, ◌<◌, ◌≤◌, ℤ, pos, negsuc, ◌+ℤ◌, ◌≤ℤ◌, ◌<ℤ◌, refl, ap, sym, ◌∙◌, List, [], ◌∷◌, Bool, true, false, ◌&&◌, ◌||◌, eqb, eq-eqb, arith}
use Rattle.std.specs.Prelude.{int_le}
use Rattle.std.specs.Int.{int_gap}
use Rattle.std.proofs.lemmas.Int.{ints}
use Rattle.std.proofs.lemmas.Bool.{eqb-true, false≢true}
use mathlib.Core.Path.{ap₂}
use Rattle.courses.specs.Ranges.{up_from, wholes, extent}
use Rattle.courses.specs.Steps.{member}
use Rattle.courses.specs.Columns.{is_column, inserted}
use Rattle.courses.specs.Frames.{places, is_place, within, bounds_inserted}
use Rattle.courses.proofs.Alike.{or_left, or_right}
use Rattle.courses.proofs.Stores.{and_both}
use Rattle.courses.proofs.Column_loops.{column_of, of_column}
use Rattle.courses.proofs.Framed.{places_has, no_place}

pub in_up : (k i n : ℕ) → i ≤ k → k < i + n → member k (up_from i n) ≡ true
in_up k i zero h g = absurd (omega arith)
in_up k i (suc n) h g = go (eqb i k) refl (in_up k (suc i) n)
  where
    go : (b : Bool) → eqb i k ≡ b → (suc i ≤ k → k < suc i + n → member k (up_from (suc i) n) ≡ true) → eqb i k || member k (up_from (suc i) n) ≡ true
    go true q ih = or_left _ _ q
    go false q ih = let ne : i ≢ k = λ e. false≢true (sym q ∙ eq-eqb i k e) in or_right (eqb i k) _ (ih (omega arith) (omega arith))

pub up_in : (k i n : ℕ) → member k (up_from i n) ≡ true → (i ≤ k) × (k < i + n)
up_in k i zero h = absurd (false≢true h)
up_in k i (suc n) h = go (eqb i k) refl h (up_in k (suc i) n)
  where
    go : (b : Bool) → eqb i k ≡ b → eqb i k || member k (up_from (suc i) n) ≡ true → (member k (up_from (suc i) n) ≡ true → (suc i ≤ k) × (k < suc i + n)) → (i ≤ k) × (k < i + suc n)
    go true q h ih = let e : i ≡ k = eqb-true i k q in (omega arith, omega arith)
    go false q h ih = let t = ih (rw q at h) in (omega arith, omega arith)

gap_reaches : (low high : ℤ) → low ≤ℤ high → low +ℤ pos (int_gap low high) ≡ high
gap_reaches (pos a) (pos b) h = omega (arith, ints)
gap_reaches (pos a) (negsuc b) h = omega (arith, ints)
gap_reaches (negsuc a) (pos b) h = omega (arith, ints)
gap_reaches (negsuc a) (negsuc b) h = omega (arith, ints)

gap_below : (low top : ℤ) (k : ℕ) → k < int_gap low top → (low +ℤ pos k) <ℤ top
gap_below (pos a) (pos b) k h = omega (arith, ints)
gap_below (pos a) (negsuc b) k h = absurd (omega arith)
gap_below (negsuc a) (pos b) k h = omega (arith, ints)
gap_below (negsuc a) (negsuc b) k h = omega (arith, ints)

gap_more : (low top : ℤ) (k : ℕ) → (low +ℤ pos k) <ℤ top → k < int_gap low top
gap_more (pos a) (pos b) k h = omega (arith, ints)
gap_more (pos a) (negsuc b) k h = absurd (omega (arith, ints))
gap_more (negsuc a) (pos b) k h = omega (arith, ints)
gap_more (negsuc a) (negsuc b) k h = omega (arith, ints)

between : (low high j : ℤ) → int_le low j && int_le j high ≡ true → (low ≤ℤ j) × (j ≤ℤ high)
between low high j h =
    let t = and_both (int_le low j) (int_le j high) h in
    let a : int_le low j ≡ true = t.0 in
    let b : int_le j high ≡ true = t.1 in
    (grind (arith, ints), grind (arith, ints))

-- a whole number is among those from low to high where it lies between them
pub in_wholes : (low high j : ℤ) → is_column j (wholes low high) ≡ int_le low j && int_le j high
in_wholes low high j = go (is_column j (wholes low high)) (int_le low j && int_le j high) refl refl
  where
    go : (a b : Bool) → is_column j (wholes low high) ≡ a → int_le low j && int_le j high ≡ b → is_column j (wholes low high) ≡ int_le low j && int_le j high
    go true true p q = p ∙ sym q
    go false false p q = p ∙ sym q
    go true false p q =
        let t = of_column low j (up_from 0 (extent low high)) p in
        let k : ℕ = t.0 in
        let u = up_in k 0 (extent low high) t.1 in
        let m : k < int_gap low (high +ℤ pos 1) = omega (arith, u.1) in
        let top : (low +ℤ pos k) <ℤ (high +ℤ pos 1) = gap_below low (high +ℤ pos 1) k m in
        let e : low +ℤ pos k ≡ j = t.2 in
        let a : int_le low j ≡ true = grind (arith, ints) in
        let b : int_le j high ≡ true = grind (arith, ints) in
        absurd (false≢true (sym q ∙ rw (a, b) refl))
    go false true p q =
        let t = between low high j q in
        let lo : low ≤ℤ j = t.0 in
        let hi : j ≤ℤ high = t.1 in
        let k : ℕ = int_gap low j in
        let e : low +ℤ pos (int_gap low j) ≡ j = gap_reaches low j lo in
        let below : (low +ℤ pos (int_gap low j)) <ℤ (high +ℤ pos 1) = omega (arith, ints) in
        let m : int_gap low j < int_gap low (high +ℤ pos 1) = gap_more low (high +ℤ pos 1) (int_gap low j) below in
        let c = column_of low (int_gap low j) (up_from 0 (extent low high)) (in_up (int_gap low j) 0 (extent low high) (omega arith) (omega arith)) in
        absurd (false≢true (sym p ∙ ap (λ i. is_column i (wholes low high)) (sym e) ∙ c))

-- the places of an array are the subscripts within its bounds
pub place_within : (bs : List (ℤ × ℤ)) (is : List ℤ) → is_place (places bs) is ≡ within bs is
place_within [] [] = refl
place_within [] (i ∷ is) = refl
place_within (b ∷ bs) [] = no_place b bs
place_within (b ∷ bs) (i ∷ is) = places_has b bs i is ∙ ap₂ ◌&&◌ (in_wholes b.0 b.1 i) (place_within bs is)

no_subscripts : (k : ℕ) (b : ℤ × ℤ) (bs : List (ℤ × ℤ)) → within (bounds_inserted k b bs) [] ≡ false
no_subscripts zero b bs = refl
no_subscripts (suc k) b [] = refl
no_subscripts (suc k) b (d ∷ bs) = refl

no_bounds : (k : ℕ) (c : ℤ) (is : List ℤ) → within [] (inserted k c is) ≡ false
no_bounds zero c is = refl
no_bounds (suc k) c [] = refl
no_bounds (suc k) c (i ∷ is) = refl

and_none : (a : Bool) → a && false ≡ false
and_none true = refl
and_none false = refl

and_turned : (a b c : Bool) → a && (b && c) ≡ b && (a && c)
and_turned true true c = refl
and_turned true false c = refl
and_turned false true c = refl
and_turned false false c = refl

-- a column's element lies within the wide bounds where the column lies within its own and the element within the column's
pub within_inserted : (k : ℕ) (b : ℤ × ℤ) (bs : List (ℤ × ℤ)) (c : ℤ) (is : List ℤ) → within (bounds_inserted k b bs) (inserted k c is) ≡ (int_le b.0 c && int_le c b.1) && within bs is
within_inserted zero b bs c is = refl
within_inserted (suc k) b [] c [] = refl
within_inserted (suc k) b [] c (i ∷ is) =
    ap (λ x. (int_le b.0 i && int_le i b.1) && x) (no_bounds k c is) ∙ and_none (int_le b.0 i && int_le i b.1) ∙ sym (and_none (int_le b.0 c && int_le c b.1))
within_inserted (suc k) b (d ∷ bs) c [] =
    ap (λ x. (int_le d.0 c && int_le c d.1) && x) (no_subscripts k b bs) ∙ and_none (int_le d.0 c && int_le c d.1) ∙ sym (and_none (int_le b.0 c && int_le c b.1))
within_inserted (suc k) b (d ∷ bs) c (i ∷ is) =
    ap (λ x. (int_le d.0 i && int_le i d.1) && x) (within_inserted k b bs c is) ∙ and_turned (int_le d.0 i && int_le i d.1) (int_le b.0 c && int_le c b.1) (within bs is)
