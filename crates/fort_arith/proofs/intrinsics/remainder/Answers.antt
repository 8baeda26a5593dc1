use Rattle.std.proofs.Common.{◌≡◌, ℤ, pos, negsuc, zero, suc, Some, FitsSigned, w64, arith, refl, ap, of_z}
use Rattle.std.specs.Prelude.{◌≢◌, int_rem}
use Rattle.std.proofs.lemmas.Int.{to_z-of_z, ints}
use Rattle.fort_arith.specs.Intrinsics.{remainder}
use Rattle.fort_arith.proofs.Ranges.{fitted_whole}
use Rattle.fort_arith.proofs.intrinsics.remainder.Goals as goal

divided : (a p : ℤ) → p ≢ pos 0 → remainder a p ≡ Some (int_rem a p)
unfolding remainder
divided a (pos zero) some = absurd (some refl)
divided a (pos (suc n)) some = refl
divided a (negsuc n) some = refl

pub returns-then-p-eq0 : goal.returns-then-p-eq0
unfolding remainder
returns-then-p-eq0 c =
    let p_is : c.args.p ≡ pos 0 = omega (arith, ints) in
    rw p_is refl

pub returns-else-p-eq0 : goal.returns-else-p-eq0
returns-else-p-eq0 c =
    let a_fits : FitsSigned w64 c.args.a = c.ranges.a in
    let p_fits : FitsSigned w64 c.args.p = c.ranges.p in
    let rest_fits : FitsSigned w64 c.wrapping_rem.result = record { sfits = c.wrapping_rem.type_inv } in
    let rest_is = simp to_z-of_z at c.wrapping_rem.ensures in
    let divides : c.args.p ≢ pos 0 = λ e. c.if-p-eq0.false (ap (of_z w64) e) in
    rw (to_z-of_z w64 c.wrapping_rem.result rest_fits, divided c.args.a c.args.p divides, ← rest_is) (fitted_whole _ rest_fits)
