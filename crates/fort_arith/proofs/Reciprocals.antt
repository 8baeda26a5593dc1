-- Lemmas on negative powers: 1 / x ** n for n above zero.
use Rattle.std.proofs.Common.{◌≡◌, ℕ, zero, suc, ◌%◌, ◌^◌, ◌≤◌, Option, Some, None, ℤ, pos, negsuc, ◌*ℤ◌, ◌<ℤ◌, neg_ℤ, unsigned_abs, arith, refl, ap}
use Rattle.std.proofs.Math.Nat.{pow-suc, one-le-pow, mul-le-mul_left, div-eq_of_lt}
use Rattle.std.proofs.lemmas.Int.{ints}
use Rattle.std.specs.Option.{option_and_then}
use Rattle.fort_arith.specs.declared.kind.Kind.TheVariants.{I8}
use Rattle.fort_arith.specs.Range.{fitted}
use Rattle.fort_arith.specs.Power.{power, quotient, exact_power}
use Rattle.fort_arith.proofs.Powers.{abs-power}

one-power : (n : ℕ) → power (pos 1) n ≡ pos 1
unfolding power
one-power zero = refl
one-power (suc n) = ap (λ p. p *ℤ pos 1) (one-power n)

turns : (n : ℕ) → (n % 2 ≡ 0 → power (negsuc 0) n ≡ pos 1) × (n % 2 ≡ 1 → power (negsuc 0) n ≡ negsuc 0)
unfolding power
turns zero = (λ h. refl, λ h. absurd (omega arith))
turns (suc n) = (λ h. ap (λ p. p *ℤ negsuc 0) ((turns n).1 (omega arith)), λ h. ap (λ p. p *ℤ negsuc 0) ((turns n).0 (omega arith)))

pub of_one : (n : ℤ) → n <ℤ pos 0 → exact_power (pos 1) n ≡ Some (pos 1)
unfolding exact_power quotient
of_one (pos k) h = absurd (omega (arith, ints))
of_one (negsuc k) h = rw (one-power (suc k)) refl

pub of_zero : (n : ℤ) → n <ℤ pos 0 → exact_power (pos 0) n ≡ None
unfolding exact_power quotient power
of_zero (pos k) h = absurd (omega (arith, ints))
of_zero (negsuc k) h = let e : power (pos 0) k *ℤ pos 0 ≡ pos 0 = omega (arith, ints) in rw e refl

pub of_even : (n : ℤ) → n <ℤ pos 0 → unsigned_abs n % 2 ≡ 0 → exact_power (negsuc 0) n ≡ Some (pos 1)
unfolding exact_power quotient
of_even (pos k) h e = absurd (omega (arith, ints))
of_even (negsuc k) h e = rw ((turns (suc k)).0 e) refl

pub of_odd : (n : ℤ) → n <ℤ pos 0 → unsigned_abs n % 2 ≡ 1 → exact_power (negsuc 0) n ≡ Some (negsuc 0)
unfolding exact_power quotient
of_odd (pos k) h e = absurd (omega (arith, ints))
of_odd (negsuc k) h e = rw ((turns (suc k)).1 e) refl

vanishes : (v : ℤ) → 2 ≤ unsigned_abs v → quotient (pos 1) v ≡ Some (pos 0)
unfolding quotient
vanishes (pos zero) h = absurd (omega arith)
vanishes (pos (suc n)) h = ap (λ q. Some (pos q)) (div-eq_of_lt h)
vanishes (negsuc n) h = ap (λ q. Some (neg_ℤ (pos q))) (div-eq_of_lt h)

pub of_other : (x n : ℤ) → n <ℤ pos 0 → 2 ≤ unsigned_abs x → exact_power x n ≡ Some (pos 0)
unfolding exact_power
of_other x (pos k) h t = absurd (omega (arith, ints))
of_other x (negsuc k) h t =
    let size = abs-power x (suc k) in
    let grown = pow-suc (unsigned_abs x) k in
    let some = one-le-pow k (unsigned_abs x) (omega arith) in
    let twice = mul-le-mul_left (unsigned_abs x ^ k) t in
    vanishes (power x (suc k)) (omega arith)

-- these three numbers are in kind 8
pub kept : (o : Option ℤ) (v : ℤ) → o ≡ Some v → fitted I8 v ≡ Some v → Some v ≡ option_and_then (fitted I8) o
kept o v e f = rw (e, f) refl

pub of_whole : (x n : ℤ) (m : ℕ) → n ≡ pos m → fitted I8 (power x m) ≡ option_and_then (fitted I8) (exact_power x n)
unfolding exact_power
of_whole x n m e = rw e refl
