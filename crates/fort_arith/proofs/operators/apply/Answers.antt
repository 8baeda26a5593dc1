use Rattle.std.proofs.Common.{◌∙◌, ap, FitsSigned, w64, rules}
use Rattle.std.specs.Option.{option_and_then}
use Rattle.std.proofs.lemmas.Int.{to_z-of_z}
use Rattle.fort_arith.specs.Range.{fitted}
use Rattle.fort_arith.specs.Operators.{applied}
use Rattle.fort_arith.proofs.Ranges.{narrowed}
use Rattle.fort_arith.proofs.operators.apply.Goals as goal

pub returns-in_err-exact : goal.returns-in_err-exact
unfolding applied
returns-in_err-exact c =
    let a_fits : FitsSigned w64 c.args.a = c.ranges.a in
    let b_fits : FitsSigned w64 c.args.b = c.ranges.b in
    let none = simp to_z-of_z at c.in_err-exact.ensures in
    c.from_residual.ensures ∙ ap (option_and_then (fitted c.args.kind)) none ∙ narrowed c.args.kind _

pub returns : goal.returns
unfolding applied
returns c =
    let a_fits : FitsSigned w64 c.args.a = c.ranges.a in
    let b_fits : FitsSigned w64 c.args.b = c.ranges.b in
    let exact_fits : FitsSigned w64 c.in_ok-exact.field-0 = search rules in
    let some = simp to_z-of_z at c.in_ok-exact.ensures in
    let fitted_is = simp to_z-of_z at c.fit.ensures in
    fitted_is ∙ ap (option_and_then (fitted c.args.kind)) some ∙ narrowed c.args.kind _
