use Rattle.std.proofs.Common.{◌≡◌, pos, negsuc, FitsSigned, w64, arith, refl, ◌∙◌}
use Rattle.std.proofs.lemmas.Int.{to_z-of_z, ints}
use Rattle.fort_arith.specs.Range.{least, greatest, in_kind, fitted}
use Rattle.fort_arith.proofs.Reciprocals.{of_zero, of_one, of_even, of_odd, of_other, of_whole, kept}
use Rattle.fort_arith.proofs.power.exact_power.Goals as goal

pub returns-then-n-ge0 : goal.returns-then-n-ge0
returns-then-n-ge0 c =
    let x_fits : FitsSigned w64 c.args.x = c.ranges.x in
    let n_fits : FitsSigned w64 c.args.n = c.ranges.n in
    let power_is = simp to_z-of_z at c.power.ensures in
    power_is ∙ of_whole c.args.x c.args.n c.unsigned_abs.result (omega (arith, ints))

pub returns-in-0 : goal.returns-in-0
returns-in-0 c =
    let x_is : c.args.x ≡ pos 0 = omega (arith, ints) in
    rw (x_is, of_zero c.args.n (omega (arith, ints))) refl

pub returns-in-1 : goal.returns-in-1
unfolding least greatest in_kind fitted
returns-in-1 c =
    let x_is : c.args.x ≡ pos 1 = omega (arith, ints) in
    rw x_is (kept _ _ (of_one c.args.n (omega (arith, ints))) refl)

pub returns-then-n-eq0 : goal.returns-then-n-eq0
unfolding least greatest in_kind fitted
returns-then-n-eq0 c =
    let x_is : c.args.x ≡ negsuc 0 = omega (arith, ints) in
    rw x_is (kept _ _ (of_even c.args.n (omega (arith, ints)) (omega (arith, ints))) refl)

pub returns-else-n-eq0 : goal.returns-else-n-eq0
unfolding least greatest in_kind fitted
returns-else-n-eq0 c =
    let x_is : c.args.x ≡ negsuc 0 = omega (arith, ints) in
    rw x_is (kept _ _ (of_odd c.args.n (omega (arith, ints)) (omega (arith, ints))) refl)

pub returns-in_default : goal.returns-in_default
unfolding least greatest in_kind fitted
returns-in_default c = kept _ _ (of_other c.args.x c.args.n (omega (arith, ints)) (omega (arith, ints))) refl
