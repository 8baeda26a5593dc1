use Rattle.std.proofs.Common.{◌≡◌, pos, FitsSigned, w64, arith, refl, sym, ap, ◌∙◌, inl, inr, ◌+ℤ◌, of_z, true, false}
use Rattle.std.specs.Prelude.{◌≢◌, ◌⊎◌, int_rem, int_lt}
use Rattle.std.proofs.lemmas.Int.{to_z-of_z, ints}
use Rattle.fort_arith.specs.Intrinsics.{modulo}
use Rattle.fort_arith.proofs.Ranges.{fitted_whole}
use Rattle.fort_arith.proofs.Remainders.{kept, shifted, alike, unlike, sum_fits}
use Rattle.fort_arith.proofs.intrinsics.modulo.Goals.{then-rest-eq0, else-rest-eq0}
use Rattle.fort_arith.proofs.intrinsics.modulo.Goals as goal

pub returns-then-p-eq0 : goal.returns-then-p-eq0
unfolding modulo
returns-then-p-eq0 c =
    let p_is : c.args.p ≡ pos 0 = omega (arith, ints) in
    rw p_is refl

pub returns-then-rest-p : goal.returns-then-rest-p
returns-then-rest-p c =
    let a_fits : FitsSigned w64 c.args.a = c.ranges.a in
    let p_fits : FitsSigned w64 c.args.p = c.ranges.p in
    let rest = c.wrapping_rem-rest.result in
    let rest_fits : FitsSigned w64 rest = record { sfits = c.wrapping_rem-rest.type_inv } in
    let rest_is : rest ≡ int_rem c.args.a c.args.p = simp to_z-of_z at c.wrapping_rem-rest.ensures in
    let divides : c.args.p ≢ pos 0 = λ e. c.if-p-eq0.false (ap (of_z w64) e) in
    let keeps : (rest ≡ pos 0) ⊎ (int_lt rest (pos 0) ≡ int_lt c.args.p (pos 0)) =
    elim c.if-rest-eq0.branch [
      | then-rest-eq0 w ↦ inl (omega (arith, ints, w.if-rest-eq0))
      | else-rest-eq0 w ↦ inr (let tested = simp to_z-of_z at w.value-is in alike _ _ (sym tested ∙ c.if-rest-p.true))
    ] in
    rw (to_z-of_z w64 rest rest_fits, kept c.args.a c.args.p rest divides rest_is keeps) (fitted_whole rest rest_fits)

pub returns-else-rest-p : goal.returns-else-rest-p
returns-else-rest-p c =
    let a_fits : FitsSigned w64 c.args.a = c.ranges.a in
    let p_fits : FitsSigned w64 c.args.p = c.ranges.p in
    let rest = c.wrapping_rem-rest.result in
    let rest_fits : FitsSigned w64 rest = record { sfits = c.wrapping_rem-rest.type_inv } in
    let rest_is : rest ≡ int_rem c.args.a c.args.p = simp to_z-of_z at c.wrapping_rem-rest.ensures in
    let divides : c.args.p ≢ pos 0 = λ e. c.if-p-eq0.false (ap (of_z w64) e) in
    let shifts : (rest ≢ pos 0) × (int_lt rest (pos 0) ≢ int_lt c.args.p (pos 0)) =
    elim c.if-rest-eq0.branch [
      | then-rest-eq0 w ↦ absurd (let zero_is = rw w.if-rest-eq0.true at w.value-is in let no : true ≡ false = sym zero_is ∙ c.if-rest-p.false in cc)
      | else-rest-eq0 w ↦ (λ e. w.if-rest-eq0.false (ap (of_z w64) e), let tested = simp to_z-of_z at w.value-is in unlike _ _ (sym tested ∙ c.if-rest-p.false))
    ] in
    let whole_fits : FitsSigned w64 (rest +ℤ c.args.p) = sum_fits rest c.args.p rest_fits p_fits shifts.1 in
    rw (to_z-of_z w64 rest rest_fits, to_z-of_z w64 c.args.p p_fits, to_z-of_z w64 (rest +ℤ c.args.p) whole_fits, shifted c.args.a c.args.p rest divides rest_is shifts.0 shifts.1) (fitted_whole _ whole_fits)
