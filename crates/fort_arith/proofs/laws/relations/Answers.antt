use Rattle.std.proofs.Common.{◌≡◌, Bool, true, false, not, IsTrue, ℤ, ◌≤ℤ◌, ◌<ℤ◌, refl, arith}
use Rattle.std.specs.Prelude.{◌↔◌, int_lt, int_le}
use Rattle.std.specs.Ordering.{int_eq}
use Rattle.std.proofs.lemmas.Int.{ints}
use Rattle.std.proofs.lemmas.Bool.Decides.{Decides-int_eq}
use Rattle.fort_arith.specs.Operators.{compared}
use Rattle.fort_arith.proofs.laws.relations.Goals as goal

less : (a b : ℤ) → IsTrue (int_lt a b) ↔ (a <ℤ b)
less a b = (λ e. omega (arith, ints), λ h. grind (arith, ints))

at_most : (a b : ℤ) → IsTrue (int_le a b) ↔ (a ≤ℤ b)
at_most a b = (λ e. omega (arith, ints), λ h. grind (arith, ints))

-- the negation of a test that tells P
unequal : {P : Type 0} (t : Bool) → (t ≡ true → P) → (P → t ≡ true) → IsTrue (not t) ↔ (P → ⊥)
unequal true f g = (λ e p. cc, λ n. absurd (n (f refl)))
unequal false f g = (λ e p. let h = g p in cc, λ n. refl)

pub returns : goal.returns
unfolding compared
returns c = λ a b.
    let equal = Decides-int_eq a b in
    record {
      equal = equal;
      unequal = unequal (int_eq a b) equal.0 equal.1;
      less = less a b;
      at_most = at_most a b;
      greater = less b a;
      at_least = at_most b a;
    }
