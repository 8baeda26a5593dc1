-- The intrinsic functions on whole numbers, ISO/IEC 1539-1:2018 16.9, each under its name there. That a reference traps where its exact value isn't in the kind is this project's own choice.
use Rattle.std.specs.Prelude.{ℕ, zero, suc, Bool, false, ◌==◌, nat_le, if◌then◌else◌, List, [], ◌∷◌, Option, Some, None, ℤ, pos, negsuc, neg_ℤ, unsigned_abs, int_le, int_rem}
use Rattle.std.specs.Int.{int_max, int_min, int_rem_euclid}
use Rattle.std.specs.List.{fold}
use Rattle.std.specs.Option.{option_and_then}
use Rattle.fort_arith.specs.declared.kind.Kind.{Kind}
use Rattle.fort_arith.specs.declared.op.Intrinsic.{Intrinsic}
use Rattle.fort_arith.specs.declared.op.Intrinsic.TheVariants.{Abs, Int, Max, Min, Mod, Modulo, Sign, Size, Sum}
use Rattle.fort_arith.specs.Range.{fitted}

-- a function of whole numbers that takes this number of arguments: ABS one, MOD, MODULO and SIGN two, MAX and MIN two or more
abbrev pub takes : Intrinsic → ℕ → Bool
takes Abs count = count == 1
takes Max count = nat_le 2 count
takes Min count = nat_le 2 count
takes Mod count = count == 2
takes Modulo count = count == 2
takes Sign count = count == 2
takes Int count = false
takes Size count = false
takes Sum count = false

-- |a|
abbrev pub absolute : ℤ → ℤ
absolute a = pos (unsigned_abs a)

-- what a truncating division of a by p leaves, with the sign of a; none where p is zero
unfoldable pub remainder : ℤ → ℤ → Option ℤ
remainder a (pos zero) = None
remainder a (pos (suc n)) = Some (int_rem a (pos (suc n)))
remainder a (negsuc n) = Some (int_rem a (negsuc n))

-- a without a whole multiple of p: from 0 up to below p for p above zero, and from 0 down to above p for p below zero; none where p is zero
unfoldable pub modulo : ℤ → ℤ → Option ℤ
modulo a (pos zero) = None
modulo a (pos (suc n)) = Some (int_rem_euclid a (pos (suc n)))
modulo a (negsuc n) = Some (neg_ℤ (int_rem_euclid (neg_ℤ a) (pos (suc n))))

-- |a| with the sign of b, where zero counts as positive
unfoldable pub with_sign : ℤ → ℤ → ℤ
with_sign a b = if int_le (pos 0) b then absolute a else neg_ℤ (absolute a)

-- the exact value of a reference, where it exists; none for arguments that the function doesn't take
unfoldable pub exact_intrinsic : Intrinsic → List ℤ → Option ℤ
exact_intrinsic Abs (a ∷ []) = Some (absolute a)
exact_intrinsic Max (a ∷ b ∷ rest) = Some (fold int_max a (b ∷ rest))
exact_intrinsic Min (a ∷ b ∷ rest) = Some (fold int_min a (b ∷ rest))
exact_intrinsic Mod (a ∷ p ∷ []) = remainder a p
exact_intrinsic Modulo (a ∷ p ∷ []) = modulo a p
exact_intrinsic Sign (a ∷ b ∷ []) = Some (with_sign a b)
exact_intrinsic _ _ = None

-- the value of a reference in a kind: the exact one, where it exists and is in the kind; none where the run traps
unfoldable pub intrinsic_applied : Intrinsic → Kind → List ℤ → Option ℤ
intrinsic_applied which kind args = option_and_then (fitted kind) (exact_intrinsic which args)
