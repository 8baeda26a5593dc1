use Rattle.std.proofs.Common.{◌≡◌, ◌^◌, ◌/◌, Some, FitsSigned, w64, to_z, arith, ◌∙◌, sym, refl}
use Rattle.std.proofs.Math.Nat.{div-one}
use Rattle.std.proofs.Math.Facts.{sfits_to_z}
use Rattle.std.proofs.lemmas.Int.{to_z-of_z}
use Rattle.fort_arith.specs.Power.{power}
use Rattle.fort_arith.proofs.Ranges.{fitted_checked}
use Rattle.fort_arith.proofs.Powers.{no_digit, squared, multiplied, square_refused, product_refused}
use Rattle.fort_arith.proofs.power.power.Goals as goal

pub loop-place-init : goal.loop-place-init
unfolding power
loop-place-init c = rw (no_digit c.args.exponent _ c.ranges.exponent.fits refl) refl

pub returns-in_err-power : goal.returns-in_err-power
returns-in_err-power c =
    let base_fits : FitsSigned w64 c.args.base = c.ranges.base in
    let is = simp to_z-of_z at c.loop-place.invariant in
    c.from_residual.ensures ∙ sym (square_refused c.args.base _ c.args.exponent c.loop-place.place (omega arith) is c.in_err-power.ensures)

pub returns-in_err-power-2 : goal.returns-in_err-power-2
returns-in_err-power-2 c =
    let base_fits : FitsSigned w64 c.args.base = c.ranges.base in
    let is = simp to_z-of_z at c.loop-place.invariant in
    let squared_fits : FitsSigned w64 c.in_ok-power.power = rw (sym c.in_ok-power.ensures.1) at c.in_ok-power.ensures.0 in
    let failed = simp to_z-of_z at c.in_err-power-2.ensures in
    let refused = rw c.in_ok-power.ensures.1 at failed in
    c.from_residual-in_err-power-2.ensures ∙ sym (product_refused c.args.base _ c.args.exponent c.loop-place.place (omega arith) is c.if-exponent-place-eq1.true refused)

pub loop-place-preserved-then-exponent-place-eq1 : goal.loop-place-preserved-then-exponent-place-eq1
loop-place-preserved-then-exponent-place-eq1 c =
    let base_fits : FitsSigned w64 c.args.base = c.ranges.base in
    let is = simp to_z-of_z at c.loop-place.invariant in
    let squared_fits : FitsSigned w64 c.in_ok-power.power = rw (sym c.in_ok-power.ensures.1) at c.in_ok-power.ensures.0 in
    let product = simp to_z-of_z at c.in_ok-power-2.ensures in
    let product_fits : FitsSigned w64 c.in_ok-power-2.power = rw (sym product.1) at product.0 in
    let whole = rw c.in_ok-power.ensures.1 at product.1 in
    simp to_z-of_z (whole ∙ multiplied c.args.base _ c.args.exponent c.loop-place.place (omega arith) is c.if-exponent-place-eq1.true)

pub loop-place-preserved : goal.loop-place-preserved
loop-place-preserved c =
    let base_fits : FitsSigned w64 c.args.base = c.ranges.base in
    let is = simp to_z-of_z at c.loop-place.invariant in
    let squared_fits : FitsSigned w64 c.in_ok-power.power = rw (sym c.in_ok-power.ensures.1) at c.in_ok-power.ensures.0 in
    simp to_z-of_z (c.in_ok-power.ensures.1 ∙ squared c.args.base _ c.args.exponent c.loop-place.place (omega arith) is (omega arith))

pub returns : goal.returns
returns c =
    let base_fits : FitsSigned w64 c.args.base = c.ranges.base in
    let is = simp to_z-of_z at c.loop-place.invariant in
    let last : c.loop-place.place ≡ 0 = omega arith in
    let whole : c.args.exponent / 2 ^ c.loop-place.place ≡ c.args.exponent = rw last (div-one c.args.exponent) in
    let power_is = rw whole at is in
    let fits : FitsSigned w64 (to_z w64 c.loop-place.power-bits) = sfits_to_z c.loop-place.auto.power-fits in
    fitted_checked (Some _) _ (rw power_is at fits, power_is)
