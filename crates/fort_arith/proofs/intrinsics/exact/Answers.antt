use Rattle.std.proofs.Common.{◌≡◌, ◌≤◌, length, get_or, pos, FitsSigned, w64, arith, rules}
use Rattle.std.proofs.lemmas.Int.{to_z-of_z, ints}
use Rattle.std.proofs.lemmas.Bool.Decides.{nat_tests}
use Rattle.fort_arith.specs.Intrinsics.{absolute}
use Rattle.fort_arith.proofs.Ranges.{fitted_asked, fitted_whole}
use Rattle.fort_arith.proofs.Arguments.{of_abs, of_max, of_min, of_mod, of_modulo, of_sign}
use Rattle.fort_arith.proofs.intrinsics.exact.Goals as goal

pub returns-in-Abs : goal.returns-in-Abs
returns-in-Abs c =
    let args = c.args.args.now in
    let taken = rw c.in-Abs.is at c.requires.takes in
    let count : length args ≡ 1 = grind (arith, nat_tests) in
    let first_fits : FitsSigned w64 (get_or args 0 (pos 0)) = search rules in
    let result_is = simp to_z-of_z at c.checked_abs.ensures in
    rw (c.in-Abs.is, of_abs args count) (fitted_asked _ _ (absolute (get_or args 0 (pos 0))) result_is (λ f. omega (arith, ints, f)) (λ f. omega (arith, ints, f)))

pub returns-in-Max : goal.returns-in-Max
returns-in-Max c =
    let args = c.args.args.now in
    let taken = rw c.in-Max.is at c.requires.takes in
    let count : 2 ≤ length args = grind (arith, nat_tests) in
    let first_fits : FitsSigned w64 (get_or args 0 (pos 0)) = search rules in
    let result_fits : FitsSigned w64 c.greatest_of.result = record { sfits = c.greatest_of.type_inv } in
    let result_is = simp to_z-of_z at c.greatest_of.ensures in
    rw (c.in-Max.is, of_max args count, ← result_is, to_z-of_z w64 c.greatest_of.result result_fits) (fitted_whole _ result_fits)

pub returns-in-Min : goal.returns-in-Min
returns-in-Min c =
    let args = c.args.args.now in
    let taken = rw c.in-Min.is at c.requires.takes in
    let count : 2 ≤ length args = grind (arith, nat_tests) in
    let first_fits : FitsSigned w64 (get_or args 0 (pos 0)) = search rules in
    let result_fits : FitsSigned w64 c.least_of.result = record { sfits = c.least_of.type_inv } in
    let result_is = simp to_z-of_z at c.least_of.ensures in
    rw (c.in-Min.is, of_min args count, ← result_is, to_z-of_z w64 c.least_of.result result_fits) (fitted_whole _ result_fits)

pub returns-in-Mod : goal.returns-in-Mod
returns-in-Mod c =
    let args = c.args.args.now in
    let taken = rw c.in-Mod.is at c.requires.takes in
    let count : length args ≡ 2 = grind (arith, nat_tests) in
    let first_fits : FitsSigned w64 (get_or args 0 (pos 0)) = search rules in
    let second_fits : FitsSigned w64 (get_or args 1 (pos 0)) = search rules in
    rw (c.in-Mod.is, of_mod args count) (simp to_z-of_z at c.remainder.ensures)

pub returns-in-Modulo : goal.returns-in-Modulo
returns-in-Modulo c =
    let args = c.args.args.now in
    let taken = rw c.in-Modulo.is at c.requires.takes in
    let count : length args ≡ 2 = grind (arith, nat_tests) in
    let first_fits : FitsSigned w64 (get_or args 0 (pos 0)) = search rules in
    let second_fits : FitsSigned w64 (get_or args 1 (pos 0)) = search rules in
    rw (c.in-Modulo.is, of_modulo args count) (simp to_z-of_z at c.modulo.ensures)

pub returns-in-Sign : goal.returns-in-Sign
returns-in-Sign c =
    let args = c.args.args.now in
    let taken = rw c.in-Sign.is at c.requires.takes in
    let count : length args ≡ 2 = grind (arith, nat_tests) in
    let first_fits : FitsSigned w64 (get_or args 0 (pos 0)) = search rules in
    let second_fits : FitsSigned w64 (get_or args 1 (pos 0)) = search rules in
    rw (c.in-Sign.is, of_sign args count) (simp to_z-of_z at c.with_sign.ensures)
