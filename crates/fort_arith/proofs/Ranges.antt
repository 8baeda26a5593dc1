-- Lemmas on the numbers of a kind. Kind 8 has those of 64 bits, and so all numbers of each kind.
use Rattle.std.proofs.Common.{◌≡◌, Bool, true, false, cond, Option, Some, None, ℤ, FitsSigned, w64, arith, refl, ap}
use Rattle.std.specs.Prelude.{SomeIff}
use Rattle.std.specs.Option.{option_and_then}
use Rattle.std.proofs.lemmas.Int.{ints}
use Rattle.fort_arith.specs.declared.kind.Kind.{Kind}
use Rattle.fort_arith.specs.declared.kind.Kind.TheVariants.{I1, I2, I4, I8, Logical}
use Rattle.fort_arith.specs.Range.{least, greatest, in_kind, fitted}

pub widest_has : (v : ℤ) → FitsSigned w64 v → in_kind I8 v ≡ true
unfolding least greatest in_kind
widest_has v f = grind (arith, ints)

pub widest_lacks : (v : ℤ) → ¬ FitsSigned w64 v → in_kind I8 v ≡ false
unfolding least greatest in_kind
widest_lacks v f = grind (arith, ints)

pub widest_fits : (v : ℤ) → in_kind I8 v ≡ true → FitsSigned w64 v
unfolding least greatest in_kind
widest_fits v h = grind (arith, ints)

-- every kind's numbers are in kind 8
pub widens : (kind : Kind) (v : ℤ) → in_kind kind v ≡ true → in_kind I8 v ≡ true
unfolding least greatest in_kind
widens I1 v h = grind (arith, ints)
widens I2 v h = grind (arith, ints)
widens I4 v h = grind (arith, ints)
widens I8 v h = h
widens Logical v h = grind arith

-- a checked operation's answer
pub fitted_checked : (r : Option ℤ) (v : ℤ) → SomeIff r (FitsSigned w64 v) v → r ≡ fitted I8 v
unfolding fitted
fitted_checked None v h = let e : in_kind I8 v ≡ false = widest_lacks v h in rw e refl
fitted_checked (Some x) v h = let e : in_kind I8 v ≡ true = widest_has v h.0 in rw e (ap Some h.1)

-- a number of a kind, kept in 64 bits on the way
pub fitted-fitted : (kind : Kind) (v : ℤ) → option_and_then (fitted kind) (fitted I8 v) ≡ fitted kind v
unfolding fitted
fitted-fitted kind v = by (in_kind I8 v) (in_kind kind v) refl refl
  where
    by : (wide narrow : Bool) → in_kind I8 v ≡ wide → in_kind kind v ≡ narrow → option_and_then (λ x. cond (in_kind kind x) (Some x) None) (cond wide (Some v) None) ≡ cond narrow (Some v) None
    by true n w e = rw e refl
    by false true w e = let t = widens kind v e in cc
    by false false w e = refl

-- `fitted_checked` where the operation asks for the fact P, which is that the exact value fits
pub fitted_asked : (r : Option ℤ) (P : Type 0) (v : ℤ) → SomeIff r P v → (P → FitsSigned w64 v) → (FitsSigned w64 v → P) → r ≡ fitted I8 v
fitted_asked None P v h to from = fitted_checked None v (λ f. h (from f))
fitted_asked (Some x) P v h to from = fitted_checked (Some x) v (to h.0, h.1)

pub narrowed : (kind : Kind) (o : Option ℤ) → option_and_then (fitted kind) (option_and_then (fitted I8) o) ≡ option_and_then (fitted kind) o
narrowed kind None = refl
narrowed kind (Some v) = fitted-fitted kind v

-- a number of 64 bits is one of kind 8
pub fitted_whole : (v : ℤ) → FitsSigned w64 v → Some v ≡ fitted I8 v
fitted_whole v f = fitted_checked (Some v) v (f, refl)
