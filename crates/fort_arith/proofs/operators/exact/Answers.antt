use Rattle.std.proofs.Common.{FitsSigned, w64}
use Rattle.std.proofs.lemmas.Int.{to_z-of_z}
use Rattle.fort_arith.specs.Operators.{exact}
use Rattle.fort_arith.proofs.Ranges.{fitted_checked}
use Rattle.fort_arith.proofs.operators.exact.Goals as goal

pub returns-in-Pow : goal.returns-in-Pow
unfolding exact
returns-in-Pow c =
    let a_fits : FitsSigned w64 c.args.a = c.ranges.a in
    let b_fits : FitsSigned w64 c.args.b = c.ranges.b in
    rw c.in-Pow.is (simp to_z-of_z at c.exact_power.ensures)

pub returns-in-Mul : goal.returns-in-Mul
unfolding exact
returns-in-Mul c =
    let a_fits : FitsSigned w64 c.args.a = c.ranges.a in
    let b_fits : FitsSigned w64 c.args.b = c.ranges.b in
    rw c.in-Mul.is (fitted_checked _ _ (simp to_z-of_z at c.checked_mul.ensures))

pub returns-in-Div : goal.returns-in-Div
unfolding exact
returns-in-Div c =
    let a_fits : FitsSigned w64 c.args.a = c.ranges.a in
    let b_fits : FitsSigned w64 c.args.b = c.ranges.b in
    rw c.in-Div.is (simp to_z-of_z at c.quotient.ensures)

pub returns-in-Add : goal.returns-in-Add
unfolding exact
returns-in-Add c =
    let a_fits : FitsSigned w64 c.args.a = c.ranges.a in
    let b_fits : FitsSigned w64 c.args.b = c.ranges.b in
    rw c.in-Add.is (fitted_checked _ _ (simp to_z-of_z at c.checked_add.ensures))

pub returns-in-Sub : goal.returns-in-Sub
unfolding exact
returns-in-Sub c =
    let a_fits : FitsSigned w64 c.args.a = c.ranges.a in
    let b_fits : FitsSigned w64 c.args.b = c.ranges.b in
    rw c.in-Sub.is (fitted_checked _ _ (simp to_z-of_z at c.checked_sub.ensures))
