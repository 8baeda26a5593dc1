use Rattle.std.proofs.Common.{◌≡◌, Bool, true, false, cond, ⊎_elim, List, [], ◌∷◌, Some, ℤ, pos, negsuc, neg_ℤ, ◌≤ℤ◌, ◌<ℤ◌, refl, sym, inl, inr, arith}
use Rattle.std.specs.Prelude.{int_le}
use Rattle.std.specs.Int.{int_max, int_min}
use Rattle.std.specs.List.{fold}
use Rattle.std.proofs.lemmas.Int.{ints, fold-int_max_bounds, fold-int_max_reached, fold-int_min_bounds, fold-int_min_reached}
use Rattle.std.proofs.lemmas.Option.{same_Some}
use Rattle.std.proofs.lemmas.List.Elements.{All-cons, Contains-append_right}
use Rattle.fort_arith.specs.declared.op.Intrinsic.TheVariants.{Max, Min}
use Rattle.fort_arith.specs.Intrinsics.{absolute, with_sign, exact_intrinsic}
use Rattle.fort_arith.specs.Laws.{IsAbsolute, HasSign, IsGreatest, IsLeast}
use Rattle.fort_arith.proofs.laws.extremes.Goals as goal

is_absolute : (a : ℤ) → IsAbsolute a (absolute a)
is_absolute (pos n) = record { size = inl refl; sign = omega (arith, ints) }
is_absolute (negsuc n) = record { size = inr refl; sign = omega (arith, ints) }

absolute_above : (a b : ℤ) → pos 0 ≤ℤ b → HasSign a b (absolute a)
absolute_above (pos n) b h = record { size = inl refl; positive = λ g. omega (arith, ints); negative = λ g. absurd (omega (arith, ints)) }
absolute_above (negsuc n) b h = record { size = inr refl; positive = λ g. omega (arith, ints); negative = λ g. absurd (omega (arith, ints)) }

opposite_below : (a b : ℤ) → b <ℤ pos 0 → HasSign a b (neg_ℤ (absolute a))
opposite_below (pos n) b h = record { size = inr refl; positive = λ g. absurd (omega (arith, ints)); negative = λ g. omega (arith, ints) }
opposite_below (negsuc n) b h = record { size = inl refl; positive = λ g. absurd (omega (arith, ints)); negative = λ g. omega (arith, ints) }

has_sign : (a b : ℤ) → HasSign a b (with_sign a b)
unfolding with_sign
has_sign a b = by (int_le (pos 0) b) refl
  where
    by : (t : Bool) → int_le (pos 0) b ≡ t → HasSign a b (cond t (absolute a) (neg_ℤ (absolute a)))
    by true e = absolute_above a b (omega (arith, ints))
    by false e = opposite_below a b (omega (arith, ints))

greatest_is : (args : List ℤ) (r : ℤ) → exact_intrinsic Max args ≡ Some r → IsGreatest args r
unfolding exact_intrinsic
greatest_is [] r e = cc
greatest_is (a ∷ []) r e = cc
greatest_is (a ∷ b ∷ rest) r e =
    let is : r ≡ fold int_max a (b ∷ rest) = sym (same_Some _ _ e) in
    let bounds = fold-int_max_bounds a (b ∷ rest) r is in
    record {
      member = ⊎_elim (λ s. (0, omega arith, sym s)) (λ h. Contains-append_right (a ∷ []) (b ∷ rest) r h) (fold-int_max_reached a (b ∷ rest) r is);
      bound = All-cons (λ x. x ≤ℤ r) a (b ∷ rest) bounds.0 bounds.1;
    }

least_is : (args : List ℤ) (r : ℤ) → exact_intrinsic Min args ≡ Some r → IsLeast args r
unfolding exact_intrinsic
least_is [] r e = cc
least_is (a ∷ []) r e = cc
least_is (a ∷ b ∷ rest) r e =
    let is : r ≡ fold int_min a (b ∷ rest) = sym (same_Some _ _ e) in
    let bounds = fold-int_min_bounds a (b ∷ rest) r is in
    record {
      member = ⊎_elim (λ s. (0, omega arith, sym s)) (λ h. Contains-append_right (a ∷ []) (b ∷ rest) r h) (fold-int_min_reached a (b ∷ rest) r is);
      bound = All-cons (λ x. r ≤ℤ x) a (b ∷ rest) bounds.0 bounds.1;
    }

pub returns-clause-absolute : goal.returns-clause-absolute
returns-clause-absolute c = is_absolute

pub returns-clause-sign : goal.returns-clause-sign
returns-clause-sign c = has_sign

pub returns-clause-greatest : goal.returns-clause-greatest
returns-clause-greatest c = greatest_is

pub returns-clause-least : goal.returns-clause-least
returns-clause-least c = least_is
