use Rattle.std.proofs.Common.{◌≡◌, ℤ, pos, Some, neg_ℤ, FitsSigned, w64, arith, refl, true, false}
use Rattle.std.specs.Prelude.{int_le}
use Rattle.std.proofs.lemmas.Int.{to_z-of_z, ints}
use Rattle.fort_arith.specs.Intrinsics.{absolute, with_sign}
use Rattle.fort_arith.proofs.Ranges.{fitted_asked, fitted_checked}
use Rattle.fort_arith.proofs.intrinsics.with_sign.Goals as goal

of_positive : (a b : ℤ) → int_le (pos 0) b ≡ true → with_sign a b ≡ absolute a
unfolding with_sign
of_positive a b h = rw h refl

of_negative : (a b : ℤ) → int_le (pos 0) b ≡ false → with_sign a b ≡ neg_ℤ (absolute a)
unfolding with_sign
of_negative a b h = rw h refl

pub returns-then-b-ge0 : goal.returns-then-b-ge0
returns-then-b-ge0 c =
    let a_fits : FitsSigned w64 c.args.a = c.ranges.a in
    let b_fits : FitsSigned w64 c.args.b = c.ranges.b in
    let positive = simp to_z-of_z at c.if-b-ge0.true in
    let answer = simp to_z-of_z at c.checked_abs.ensures in
    rw (of_positive c.args.a c.args.b positive) (fitted_asked _ _ (absolute c.args.a) answer (λ f. omega (arith, ints, f)) (λ f. omega (arith, ints, f)))

pub returns-then-a-lt0 : goal.returns-then-a-lt0
returns-then-a-lt0 c =
    let a_fits : FitsSigned w64 c.args.a = c.ranges.a in
    let b_fits : FitsSigned w64 c.args.b = c.ranges.b in
    let negative = simp to_z-of_z at c.if-b-ge0.false in
    rw (of_negative c.args.a c.args.b negative) (fitted_checked (Some _) _ (omega (arith, ints), omega (arith, ints)))

pub returns-else-a-lt0 : goal.returns-else-a-lt0
returns-else-a-lt0 c =
    let a_fits : FitsSigned w64 c.args.a = c.ranges.a in
    let b_fits : FitsSigned w64 c.args.b = c.ranges.b in
    let negative = simp to_z-of_z at c.if-b-ge0.false in
    rw (of_negative c.args.a c.args.b negative) (fitted_checked (Some _) _ (omega (arith, ints), omega (arith, ints)))
