-- Lemmas on powers.
use Rattle.std.proofs.Common.{◌≡◌, ℕ, zero, suc, ◌+◌, ◌-◌, ◌*◌, ◌/◌, ◌%◌, ◌^◌, ◌<◌, ◌≤◌, false, None, ℤ, pos, ◌*ℤ◌, unsigned_abs, FitsSigned, w64, arith, refl, sym, ap, ◌∙◌, ⊎_elim}
use Rattle.std.proofs.Math.Nat.{pow-zero, pow-suc, add-suc, add-zero, mul-le-mul_left, div-eq_of_lt}
use Rattle.std.proofs.lemmas.Int.{unsigned_abs-mul, fits_signed_from_abs, ints}
use Rattle.std.proofs.lemmas.Nat.{shr-shr, shr_le, leading_length}
use Rattle.std.proofs.lemmas.Bool.{cases_lt}
use lib.Count.{count_leading_zeros}
use lib.Signed.{nat_abs-le}
use Rattle.fort_arith.specs.declared.kind.Kind.TheVariants.{I8}
use Rattle.fort_arith.specs.Range.{in_kind, fitted}
use Rattle.fort_arith.specs.Power.{power}
use Rattle.fort_arith.proofs.Whole.{product_assoc}
use Rattle.fort_arith.proofs.Ranges.{widest_lacks}

pub abs-power : (x : ℤ) (n : ℕ) → unsigned_abs (power x n) ≡ unsigned_abs x ^ n
unfolding power
abs-power x zero = sym (pow-zero (unsigned_abs x))
abs-power x (suc n) = unsigned_abs-mul (power x n) x ∙ ap (λ m. m * unsigned_abs x) (abs-power x n) ∙ sym (pow-suc (unsigned_abs x) n)

by_one : (m : ℤ) → m *ℤ pos 1 ≡ m
by_one m = omega (arith, ints)

pub power-add : (x : ℤ) (m n : ℕ) → power x (m + n) ≡ power x m *ℤ power x n
unfolding power
power-add x m zero = ap (power x) (add-zero m) ∙ sym (by_one (power x m))
power-add x m (suc n) = ap (power x) (add-suc m n) ∙ ap (λ p. p *ℤ x) (power-add x m n) ∙ product_assoc (power x m) (power x n) x

small : (b n : ℕ) → b ≤ 1 → b ^ n ≤ 1
small b zero h = let e = pow-zero b in omega arith
small b (suc n) h = let e = pow-suc b n in let s = small b n h in let p = mul-le-mul_left (b ^ n) h in omega arith

-- where a power is in 64 bits, so is each lower one
lower_step : (x : ℤ) (k : ℕ) → FitsSigned w64 (power x (suc k)) → FitsSigned w64 (power x k)
lower_step x k f =
    let here = abs-power x k in
    let next = abs-power x (suc k) in
    let grown = pow-suc (unsigned_abs x) k in
    let bounded = nat_abs-le (power x (suc k)) f.sfits in
    fits_signed_from_abs w64 (power x k) (⊎_elim (λ (s : unsigned_abs x < 2). let t : unsigned_abs x ^ k ≤ 1 = small (unsigned_abs x) k (omega arith) in omega arith) (λ (s : 2 ≤ unsigned_abs x). let t = mul-le-mul_left (unsigned_abs x ^ k) s in omega arith) (cases_lt (unsigned_abs x) 2))

lower_fits : (x : ℤ) (k d : ℕ) → FitsSigned w64 (power x (k + d)) → FitsSigned w64 (power x k)
lower_fits x k zero f = rw (add-zero k) at f
lower_fits x k (suc d) f = lower_fits x k d (lower_step x (k + d) (rw (add-suc k d) at f))

-- where a partial power isn't in 64 bits, neither is the whole
pub refused : (x : ℤ) (k n : ℕ) → k ≤ n → ¬ FitsSigned w64 (power x k) → fitted I8 (power x n) ≡ None
unfolding fitted
refused x k n below f =
    let whole : k + (n - k) ≡ n = omega arith in
    let lacks : in_kind I8 (power x n) ≡ false = widest_lacks (power x n) (λ g. f (lower_fits x k (n - k) (rw (sym whole) at g))) in
    rw lacks refl

-- ---- the binary digits of the exponent, the highest first

-- the digits up to one more place
digit : (n place : ℕ) → 0 < place → n / 2 ^ (place - 1) ≡ n / 2 ^ place + n / 2 ^ place + n / 2 ^ (place - 1) % 2
digit n place h =
    let e = shr-shr n (place - 1) 1 in
    let j : place - 1 + 1 ≡ place = omega arith in
    let f : n / 2 ^ (place - 1) / 2 ^ 1 ≡ n / 2 ^ place = e ∙ ap (λ m. n / 2 ^ m) j in
    let g : n / 2 ^ (place - 1) / 2 ≡ n / 2 ^ place = f in
    omega arith

pub no_digit : (n digits : ℕ) → n < 2 ^ 64 → digits ≡ 64 - count_leading_zeros 64 n → n / 2 ^ digits ≡ 0
no_digit n digits h e =
    let l = leading_length 64 n h in
    let same : digits ≡ l.0 = omega (arith, l.1) in
    rw same (div-eq_of_lt l.2)

module _ (x p : ℤ) (n place : ℕ) (some : 0 < place) (is : p ≡ power x (n / 2 ^ place)) where
  square : p *ℤ p ≡ power x (n / 2 ^ place + n / 2 ^ place)
  square = rw is (sym (power-add x (n / 2 ^ place) (n / 2 ^ place)))

  pub squared : n / 2 ^ (place - 1) % 2 ≡ 0 → p *ℤ p ≡ power x (n / 2 ^ (place - 1))
  squared h = square ∙ ap (power x) (omega (arith, digit n place some))

  pub multiplied : n / 2 ^ (place - 1) % 2 ≡ 1 → (p *ℤ p) *ℤ x ≡ power x (n / 2 ^ (place - 1))
  unfolding power
  multiplied h = ap (λ q. q *ℤ x) square ∙ (let e : suc (n / 2 ^ place + n / 2 ^ place) ≡ n / 2 ^ (place - 1) = omega (arith, digit n place some) in ap (power x) e)

  pub square_refused : ¬ FitsSigned w64 (p *ℤ p) → fitted I8 (power x n) ≡ None
  square_refused f = refused x (n / 2 ^ place + n / 2 ^ place) n (omega (arith, digit n place some, shr_le n (place - 1))) (λ g. f (rw (sym square) at g))

  pub product_refused : n / 2 ^ (place - 1) % 2 ≡ 1 → ¬ FitsSigned w64 ((p *ℤ p) *ℤ x) → fitted I8 (power x n) ≡ None
  product_refused h f = refused x (n / 2 ^ (place - 1)) n (shr_le n (place - 1)) (λ g. f (rw (sym (multiplied h)) at g))
