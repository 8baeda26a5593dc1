-- The arguments of an intrinsic function by their places.
use Rattle.std.proofs.Common.{◌≡◌, ◌-◌, ◌≤◌, List, [], ◌∷◌, length, get_or, take, drop, Some, ℤ, pos, arith, refl}
use Rattle.std.specs.Int.{int_max, int_min}
use Rattle.std.specs.List.{fold}
use Rattle.std.proofs.lemmas.List.{take_rest}
use Rattle.fort_arith.specs.declared.op.Intrinsic.TheVariants.{Abs, Max, Min, Mod, Modulo, Sign}
use Rattle.fort_arith.specs.Intrinsics.{absolute, remainder, modulo, with_sign, exact_intrinsic}

rest_of : (a b : ℤ) (rest : List ℤ) → take (length (a ∷ b ∷ rest) - 1) (drop 1 (a ∷ b ∷ rest)) ≡ b ∷ rest
rest_of a b rest = take_rest (a ∷ b ∷ rest) 1

pub of_abs : (args : List ℤ) → length args ≡ 1 → exact_intrinsic Abs args ≡ Some (absolute (get_or args 0 (pos 0)))
unfolding exact_intrinsic
of_abs [] h = absurd (omega arith)
of_abs (a ∷ []) h = refl
of_abs (a ∷ b ∷ rest) h = absurd (omega arith)

pub of_max : (args : List ℤ) → 2 ≤ length args → exact_intrinsic Max args ≡ Some (fold int_max (get_or args 0 (pos 0)) (take (length args - 1) (drop 1 args)))
unfolding exact_intrinsic
of_max [] h = absurd (omega arith)
of_max (a ∷ []) h = absurd (omega arith)
of_max (a ∷ b ∷ rest) h = rw (rest_of a b rest) refl

pub of_min : (args : List ℤ) → 2 ≤ length args → exact_intrinsic Min args ≡ Some (fold int_min (get_or args 0 (pos 0)) (take (length args - 1) (drop 1 args)))
unfolding exact_intrinsic
of_min [] h = absurd (omega arith)
of_min (a ∷ []) h = absurd (omega arith)
of_min (a ∷ b ∷ rest) h = rw (rest_of a b rest) refl

pub of_mod : (args : List ℤ) → length args ≡ 2 → exact_intrinsic Mod args ≡ remainder (get_or args 0 (pos 0)) (get_or args 1 (pos 0))
unfolding exact_intrinsic
of_mod [] h = absurd (omega arith)
of_mod (a ∷ []) h = absurd (omega arith)
of_mod (a ∷ b ∷ []) h = refl
of_mod (a ∷ b ∷ d ∷ rest) h = absurd (omega arith)

pub of_modulo : (args : List ℤ) → length args ≡ 2 → exact_intrinsic Modulo args ≡ modulo (get_or args 0 (pos 0)) (get_or args 1 (pos 0))
unfolding exact_intrinsic
of_modulo [] h = absurd (omega arith)
of_modulo (a ∷ []) h = absurd (omega arith)
of_modulo (a ∷ b ∷ []) h = refl
of_modulo (a ∷ b ∷ d ∷ rest) h = absurd (omega arith)

pub of_sign : (args : List ℤ) → length args ≡ 2 → exact_intrinsic Sign args ≡ Some (with_sign (get_or args 0 (pos 0)) (get_or args 1 (pos 0)))
unfolding exact_intrinsic
of_sign [] h = absurd (omega arith)
of_sign (a ∷ []) h = absurd (omega arith)
of_sign (a ∷ b ∷ []) h = refl
of_sign (a ∷ b ∷ d ∷ rest) h = absurd (omega arith)
