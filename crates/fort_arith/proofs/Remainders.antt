-- Lemmas on MOD and MODULO.
use Rattle.std.proofs.Common.{◌≡◌, ℕ, zero, suc, ◌%◌, ◌<◌, ◌≤◌, Bool, true, false, Some, ℤ, pos, negsuc, FitsSigned, w64, ◌+ℤ◌, arith, refl, sym, ap, ◌∙◌, inl, inr, ⊎_elim}
use mathlib.Core.Bool.{beq}
use Rattle.std.specs.Prelude.{◌≢◌, ◌⊎◌, int_rem, int_lt}
use Rattle.std.proofs.Math.Nat.{zero-mod, suc-mod, mod-lt, mod_self, mod-eq_of_lt}
use Rattle.std.proofs.lemmas.Bool.{cases_lt}
use Rattle.std.proofs.lemmas.Int.{ints}
use Rattle.fort_arith.specs.Intrinsics.{modulo}

-- the remainder of the next number
next : (k n : ℕ) → ((k % suc n ≡ n) × (suc k % suc n ≡ 0)) ⊎ ((k % suc n < n) × (suc k % suc n ≡ suc (k % suc n)))
next k n =
    let below : k % suc n < suc n = mod-lt k (omega arith) in
    ⊎_elim
    (λ (s : k % suc n < n). inr (s, suc-mod k (suc n) ∙ mod-eq_of_lt (omega arith)))
    (λ (s : n ≤ k % suc n). let e : k % suc n ≡ n = omega arith in inl (e, suc-mod k (suc n) ∙ ap (λ m. suc m % suc n) e ∙ mod_self (suc n)))
    (cases_lt (k % suc n) n)

-- a remainder that is zero or has the sign of p
pub kept : (a p r : ℤ) → p ≢ pos 0 → r ≡ int_rem a p → (r ≡ pos 0) ⊎ (int_lt r (pos 0) ≡ int_lt p (pos 0)) → modulo a p ≡ Some r
unfolding modulo
kept a (pos zero) r some is s = absurd (some refl)
kept (pos m) (pos (suc n)) r some is s = ap Some (sym is)
kept (pos zero) (negsuc n) r some is s = let e = zero-mod (suc n) in ap Some (omega (arith, ints))
kept (pos (suc k)) (negsuc n) r some is s = let e = next k n in ap Some (grind (arith, ints))
kept (negsuc k) (pos (suc n)) r some is s = let e = next k n in ap Some (grind (arith, ints))
kept (negsuc k) (negsuc n) r some is s = ap Some (sym is)

-- any other remainder
pub shifted : (a p r : ℤ) → p ≢ pos 0 → r ≡ int_rem a p → r ≢ pos 0 → int_lt r (pos 0) ≢ int_lt p (pos 0) → modulo a p ≡ Some (r +ℤ p)
unfolding modulo
shifted a (pos zero) r some is rest s = absurd (some refl)
shifted (pos m) (pos (suc n)) r some is rest s = let e : int_lt r (pos 0) ≡ false = grind (arith, ints) in let f : int_lt (pos (suc n)) (pos 0) ≡ false = grind (arith, ints) in absurd (s (e ∙ sym f))
shifted (pos zero) (negsuc n) r some is rest s = let e = zero-mod (suc n) in absurd (rest (omega (arith, ints)))
shifted (pos (suc k)) (negsuc n) r some is rest s = let e = next k n in ap Some (grind (arith, ints))
shifted (negsuc k) (pos (suc n)) r some is rest s = let e = next k n in ap Some (grind (arith, ints))
shifted (negsuc k) (negsuc n) r some is rest s = let e : int_lt r (pos 0) ≡ true = grind (arith, ints) in absurd (s e)

pub alike : (s t : Bool) → beq s t ≡ true → s ≡ t
alike true true h = refl
alike false false h = refl
alike true false h = cc
alike false true h = cc

pub unlike : (s t : Bool) → beq s t ≡ false → s ≢ t
unlike true true h e = cc
unlike false false h e = cc
unlike true false h e = cc
unlike false true h e = cc

-- numbers of different signs have a sum between them
pub sum_fits : (r p : ℤ) → FitsSigned w64 r → FitsSigned w64 p → int_lt r (pos 0) ≢ int_lt p (pos 0) → FitsSigned w64 (r +ℤ p)
sum_fits (pos m) (pos n) f g h = let e : int_lt (pos m) (pos 0) ≡ false = grind (arith, ints) in let d : int_lt (pos n) (pos 0) ≡ false = grind (arith, ints) in absurd (h (e ∙ sym d))
sum_fits (pos m) (negsuc n) f g h = omega (arith, ints)
sum_fits (negsuc m) (pos n) f g h = omega (arith, ints)
sum_fits (negsuc m) (negsuc n) f g h = absurd (h refl)
