-- Translated programs, unit by unit.
use Rattle.std.proofs.Common.{◌≡◌, ℕ, suc, refl, List, [], ◌∷◌, ◌++◌, length, Some, arith}
use Rattle.std.specs.Prelude.{slice_get}
use Rattle.claw_meaning.specs.Syntax.{Unit}
use Rattle.plain_units.specs.Translated.{TranslatesUnit, TranslatesUnits, none, next}

pub one_more : (us ts : List Unit) (u t : Unit) → TranslatesUnits us ts → TranslatesUnit u t → TranslatesUnits (us ++ u ∷ []) (ts ++ t ∷ [])
one_more _ _ u t none h = next h none
one_more _ _ u t (next {us = us} {ts = ts} r rest) h = next r (one_more us ts u t rest h)

pub by_number : (us ts : List Unit) → length ts ≡ length us → ((i : ℕ) (u t : Unit) → slice_get us i ≡ Some u → slice_get ts i ≡ Some t → TranslatesUnit u t) → TranslatesUnits us ts
by_number [] [] e h = none
by_number [] (t ∷ ts) e h = absurd (omega arith)
by_number (u ∷ us) [] e h = absurd (omega arith)
by_number (u ∷ us) (t ∷ ts) e h = let n : length ts ≡ length us = omega arith in next (h 0 u t refl refl) (by_number us ts n (λ i v w a b. h (suc i) v w a b))
