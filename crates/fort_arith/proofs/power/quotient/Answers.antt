use Rattle.std.proofs.Common.{◌≡◌, ℤ, pos, negsuc, zero, suc, Option, Some, None, int_div, FitsSigned, w64, arith, refl}
use Rattle.std.specs.Prelude.{SomeIff}
use Rattle.std.specs.Int.{CanDivide, IsNonZero}
use Rattle.std.specs.Option.{option_and_then}
use Rattle.std.proofs.lemmas.Int.{to_z-of_z, ints}
use Rattle.fort_arith.specs.declared.kind.Kind.TheVariants.{I8}
use Rattle.fort_arith.specs.Range.{fitted}
use Rattle.fort_arith.specs.Power.{quotient}
use Rattle.fort_arith.proofs.Ranges.{fitted_asked}
use Rattle.fort_arith.proofs.power.quotient.Goals as goal

checked : (r : Option ℤ) (a b : ℤ) → FitsSigned w64 b → SomeIff r (CanDivide w64 a b) (int_div a b) → r ≡ option_and_then (fitted I8) (quotient a b)
unfolding quotient
checked None a (pos zero) f h = refl
checked (Some x) a (pos zero) f h = let none : IsNonZero w64 (pos zero) = h.0.0 in absurd (omega arith)
checked r a (pos (suc n)) f h = fitted_asked r _ _ h (λ p. p.1) (λ p. (omega arith, p))
checked r a (negsuc n) f h = fitted_asked r _ _ h (λ p. p.1) (λ p. (omega (arith, ints), p))

pub returns : goal.returns
returns c =
    let a_fits : FitsSigned w64 c.args.a = c.ranges.a in
    let b_fits : FitsSigned w64 c.args.b = c.ranges.b in
    checked _ c.args.a c.args.b b_fits (simp to_z-of_z at c.checked_div.ensures)
