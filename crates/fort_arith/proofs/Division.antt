-- A division with a remainder is the only one of its kind.
use Rattle.std.proofs.Common.{◌≡◌, ℕ, zero, suc, ◌+◌, ◌*◌, ◌/◌, ◌<◌, ◌≤◌, Some, ℤ, pos, negsuc, neg_ℤ, ◌-ℤ◌, ◌*ℤ◌, ◌≤ℤ◌, unsigned_abs, arith, refl, sym, ap, ◌∙◌}
use Rattle.std.specs.Prelude.{◌≢◌, int_div, int_rem}
use Rattle.std.specs.Int.{int_rem_euclid}
use Rattle.std.proofs.Math.Nat.{mul-le-mul_right, mod-le, div-add-mod'}
use Rattle.std.proofs.lemmas.Int.{ints, quot-rem, rem_below, unsigned_abs-mul}
use Rattle.std.proofs.lemmas.Nat.{mod_below}
use Rattle.std.proofs.lemmas.Option.{same_Some}
use borrow.Author.Differences.{up, down}
use Rattle.fort_arith.specs.Power.{quotient}
use Rattle.fort_arith.specs.Intrinsics.{remainder, modulo}
use Rattle.fort_arith.specs.Laws.{Splits, HasSignOfDividend, HasSignOfDivisor, Truncates, Floors}

difference_times : (x y b : ℤ) → (x -ℤ y) *ℤ b ≡ x *ℤ b -ℤ y *ℤ b
difference_times x y b =
    let d : up (x -ℤ y) + down x + up y ≡ down (x -ℤ y) + up x + down y = omega (arith, ints) in
    let above = ap (λ n. n * up b) d in
    let below = ap (λ n. n * down b) d in
    omega (arith, ints, above, below)

-- a multiple of b that is less than b in size is zero
no_multiple : (d b : ℤ) → unsigned_abs (d *ℤ b) < unsigned_abs b → d ≡ pos 0
no_multiple (pos zero) b h = refl
no_multiple (pos (suc n)) b h = let e = unsigned_abs-mul (pos (suc n)) b in let g : 1 * unsigned_abs b ≤ suc n * unsigned_abs b = mul-le-mul_right (unsigned_abs b) (omega arith) in absurd (omega arith)
no_multiple (negsuc n) b h = let e = unsigned_abs-mul (negsuc n) b in let g : 1 * unsigned_abs b ≤ suc n * unsigned_abs b = mul-le-mul_right (unsigned_abs b) (omega arith) in absurd (omega arith)

unique : (a b q r q' r' : ℤ) → Splits a b q r → Splits a b q' r' → unsigned_abs (r' -ℤ r) < unsigned_abs b → (q ≡ q') × (r ≡ r')
unique a b q r q' r' s s' h =
    let e = s.whole in
    let e' = s'.whole in
    let apart : (q -ℤ q') *ℤ b ≡ r' -ℤ r = let t = difference_times q q' b in omega (arith, ints) in
    let none : q -ℤ q' ≡ pos 0 = no_multiple (q -ℤ q') b (rw apart h) in
    let same : q ≡ q' = omega (arith, ints) in
    let products : q *ℤ b ≡ q' *ℤ b = ap (λ z. z *ℤ b) same in
    (same, omega (arith, ints))

-- two numbers on one side of zero
both_above : (r r' : ℤ) (m : ℕ) → unsigned_abs r < m → unsigned_abs r' < m → pos 0 ≤ℤ r → pos 0 ≤ℤ r' → unsigned_abs (r' -ℤ r) < m
both_above r r' m h h' s s' = omega (arith, ints)

both_below : (r r' : ℤ) (m : ℕ) → unsigned_abs r < m → unsigned_abs r' < m → r ≤ℤ pos 0 → r' ≤ℤ pos 0 → unsigned_abs (r' -ℤ r) < m
both_below r r' m h h' s s' = omega (arith, ints)

not_zero : (p : ℤ) → 0 < unsigned_abs p → p ≢ pos 0
not_zero p h e = let z : unsigned_abs p ≡ 0 = ap unsigned_abs e in omega arith

some_size : (p : ℤ) → p ≢ pos 0 → 0 < unsigned_abs p
some_size (pos zero) h = absurd (h refl)
some_size (pos (suc n)) h = omega arith
some_size (negsuc n) h = omega arith

-- ---- the truncating division

rem_above : (a b : ℤ) → pos 0 ≤ℤ a → pos 0 ≤ℤ int_rem a b
rem_above (pos m) b h = omega (arith, ints)
rem_above (negsuc m) b h = absurd (omega (arith, ints))

rem_beneath : (a b : ℤ) → a ≤ℤ pos 0 → int_rem a b ≤ℤ pos 0
rem_beneath (pos m) b h = let e = mod-le m (unsigned_abs b) in omega (arith, ints)
rem_beneath (negsuc m) b h = omega (arith, ints)

truncated : (a b : ℤ) → b ≢ pos 0 → Truncates a b (int_div a b) (int_rem a b)
truncated a b some = (
  record { whole = sym (quot-rem a b) },
  record { smaller = rem_below a b (some_size b some); above = rem_above a b; below = rem_beneath a b },
)

truncations_near : (a b r r' : ℤ) → HasSignOfDividend a b r → HasSignOfDividend a b r' → unsigned_abs (r' -ℤ r) < unsigned_abs b
truncations_near (pos m) b r r' h h' = let up : pos 0 ≤ℤ pos m = omega (arith, ints) in both_above r r' (unsigned_abs b) h.smaller h'.smaller (h.above up) (h'.above up)
truncations_near (negsuc m) b r r' h h' = let low : negsuc m ≤ℤ pos 0 = omega (arith, ints) in both_below r r' (unsigned_abs b) h.smaller h'.smaller (h.below low) (h'.below low)

only_truncation : (a b q r : ℤ) → Truncates a b q r → (b ≢ pos 0) × (int_div a b ≡ q) × (int_rem a b ≡ r)
only_truncation a b q r t =
    let some : b ≢ pos 0 = not_zero b (let h = t.1.smaller in omega arith) in
    let ours = truncated a b some in
    let same = unique a b (int_div a b) (int_rem a b) q r ours.0 t.0 (truncations_near a b (int_rem a b) r ours.1 t.1) in
    (some, same.0, same.1)

quotient_is : (a b : ℤ) → b ≢ pos 0 → quotient a b ≡ Some (int_div a b)
unfolding quotient
quotient_is a (pos zero) some = absurd (some refl)
quotient_is a (pos (suc n)) some = refl
quotient_is a (negsuc n) some = refl

pub quotient_truncates : (a b q : ℤ) → quotient a b ≡ Some q → (r : ℤ) × Truncates a b q r
unfolding quotient
quotient_truncates a (pos zero) q e = cc
quotient_truncates a (pos (suc n)) q e = let same = same_Some _ _ e in (int_rem a (pos (suc n)), rw (← same) (truncated a (pos (suc n)) (not_zero (pos (suc n)) (omega arith))))
quotient_truncates a (negsuc n) q e = let same = same_Some _ _ e in (int_rem a (negsuc n), rw (← same) (truncated a (negsuc n) (not_zero (negsuc n) (omega arith))))

pub truncation_quotient : (a b q r : ℤ) → Truncates a b q r → quotient a b ≡ Some q
truncation_quotient a b q r t = let only = only_truncation a b q r t in quotient_is a b only.0 ∙ ap Some only.1

remainder_is : (a b : ℤ) → b ≢ pos 0 → remainder a b ≡ Some (int_rem a b)
unfolding remainder
remainder_is a (pos zero) some = absurd (some refl)
remainder_is a (pos (suc n)) some = refl
remainder_is a (negsuc n) some = refl

pub remainder_truncates : (a b r : ℤ) → remainder a b ≡ Some r → (q : ℤ) × Truncates a b q r
unfolding remainder
remainder_truncates a (pos zero) r e = cc
remainder_truncates a (pos (suc n)) r e = let same = same_Some _ _ e in (int_div a (pos (suc n)), rw (← same) (truncated a (pos (suc n)) (not_zero (pos (suc n)) (omega arith))))
remainder_truncates a (negsuc n) r e = let same = same_Some _ _ e in (int_div a (negsuc n), rw (← same) (truncated a (negsuc n) (not_zero (negsuc n) (omega arith))))

pub truncation_remainder : (a b q r : ℤ) → Truncates a b q r → remainder a b ≡ Some r
truncation_remainder a b q r t = let only = only_truncation a b q r t in remainder_is a b only.0 ∙ ap Some only.2

-- ---- the division that rounds down

-- the quotient by a number above zero
floor_of : ℤ → ℕ → ℤ
floor_of (pos m) n = pos (m / suc n)
floor_of (negsuc m) n = negsuc (m / suc n)

residue_splits : (a : ℤ) (n : ℕ) → Splits a (pos (suc n)) (floor_of a n) (int_rem_euclid a (pos (suc n)))
unfolding floor_of
residue_splits (pos m) n = record { whole = let e = div-add-mod' m (suc n) in omega (arith, ints) }
residue_splits (negsuc m) n = record { whole = let e = div-add-mod' m (suc n) in let l = mod_below m (suc n) (omega arith) in omega (arith, ints) }

residue_sign : (a : ℤ) (n : ℕ) → HasSignOfDivisor (pos (suc n)) (int_rem_euclid a (pos (suc n)))
residue_sign (pos m) n = let l = mod_below m (suc n) (omega arith) in record { smaller = omega arith; above = λ h. omega (arith, ints); below = λ h. absurd (omega (arith, ints)) }
residue_sign (negsuc m) n = record { smaller = omega arith; above = λ h. omega (arith, ints); below = λ h. absurd (omega (arith, ints)) }

negative_splits : (a : ℤ) (n : ℕ) → Splits a (negsuc n) (floor_of (neg_ℤ a) n) (neg_ℤ (int_rem_euclid (neg_ℤ a) (pos (suc n))))
negative_splits a n = record { whole = let e = (residue_splits (neg_ℤ a) n).whole in omega (arith, ints) }

negative_sign : (a : ℤ) (n : ℕ) → HasSignOfDivisor (negsuc n) (neg_ℤ (int_rem_euclid a (pos (suc n))))
negative_sign a n =
    let s = residue_sign a n in
    let up : pos 0 ≤ℤ pos (suc n) = omega (arith, ints) in
    let at_least = s.above up in
    let small = s.smaller in
    record { smaller = omega (arith, ints); above = λ h. absurd (omega (arith, ints)); below = λ h. omega (arith, ints) }

floors_near : (p r r' : ℤ) → HasSignOfDivisor p r → HasSignOfDivisor p r' → unsigned_abs (r' -ℤ r) < unsigned_abs p
floors_near (pos m) r r' h h' = let up : pos 0 ≤ℤ pos m = omega (arith, ints) in both_above r r' m h.smaller h'.smaller (h.above up) (h'.above up)
floors_near (negsuc m) r r' h h' = let low : negsuc m ≤ℤ pos 0 = omega (arith, ints) in both_below r r' (suc m) h.smaller h'.smaller (h.below low) (h'.below low)

pub modulo_floors : (a p r : ℤ) → modulo a p ≡ Some r → (q : ℤ) × Floors a p q r
unfolding modulo
modulo_floors a (pos zero) r e = cc
modulo_floors a (pos (suc n)) r e = let same = same_Some _ _ e in (floor_of a n, rw (← same) (residue_splits a n, residue_sign a n))
modulo_floors a (negsuc n) r e = let same = same_Some _ _ e in (floor_of (neg_ℤ a) n, rw (← same) (negative_splits a n, negative_sign (neg_ℤ a) n))

pub floor_modulo : (a p q r : ℤ) → Floors a p q r → modulo a p ≡ Some r
unfolding modulo
floor_modulo a (pos zero) q r t = absurd (let h = t.1.smaller in omega arith)
floor_modulo a (pos (suc n)) q r t = ap Some (unique a (pos (suc n)) _ _ q r (residue_splits a n) t.0 (floors_near (pos (suc n)) _ r (residue_sign a n) t.1)).1
floor_modulo a (negsuc n) q r t = ap Some (unique a (negsuc n) _ _ q r (negative_splits a n) t.0 (floors_near (negsuc n) _ r (negative_sign (neg_ℤ a) n) t.1)).1
