use Rattle.std.proofs.Common.{◌∙◌, ap, FitsSigned, w64, rules}
use Rattle.std.specs.Option.{option_and_then}
use Rattle.std.proofs.lemmas.Int.{to_z-of_z}
use Rattle.fort_arith.specs.Range.{fitted}
use Rattle.fort_arith.specs.Intrinsics.{intrinsic_applied}
use Rattle.fort_arith.proofs.Ranges.{narrowed}
use Rattle.fort_arith.proofs.intrinsics.intrinsic.Goals as goal

pub returns-in_err-exact : goal.returns-in_err-exact
unfolding intrinsic_applied
returns-in_err-exact c = c.from_residual.ensures ∙ ap (option_and_then (fitted c.args.kind)) c.in_err-exact.ensures ∙ narrowed c.args.kind _

pub returns : goal.returns
unfolding intrinsic_applied
returns c =
    let exact_fits : FitsSigned w64 c.in_ok-exact.field-0 = search rules in
    let fitted_is = simp to_z-of_z at c.fit.ensures in
    fitted_is ∙ ap (option_and_then (fitted c.args.kind)) c.in_ok-exact.ensures ∙ narrowed c.args.kind _
