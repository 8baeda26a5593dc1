use Rattle.std.proofs.Common.{refl}
use Rattle.fort_arith.specs.Range.{least, greatest, in_kind, fitted}
use Rattle.fort_arith.specs.Power.{power, quotient, exact_power}
use Rattle.fort_arith.specs.Operators.{exact, applied}
use Rattle.fort_arith.specs.Intrinsics.{remainder, modulo, with_sign, exact_intrinsic, intrinsic_applied}
use Rattle.fort_arith.proofs.laws.rows.Goals as goal

pub returns-clause-operators : goal.returns-clause-operators
unfolding least greatest in_kind fitted power quotient exact_power exact applied
returns-clause-operators c = record {
  least_by_minus_one = refl;
  least_as_power = refl;
  greatest_passed = refl;
  half_truncated = refl;
  odd_negative_power = refl;
  zero_to_zero = refl;
  zero_to_minus_one = refl;
  toward_zero = refl;
  by_zero = refl;
  greatest_and_one = refl;
  least_less_one = refl;
  widest_product = refl;
}

pub returns-clause-intrinsics : goal.returns-clause-intrinsics
unfolding least greatest in_kind fitted remainder modulo with_sign exact_intrinsic intrinsic_applied
returns-clause-intrinsics c = record {
  mod_has_sign_of_first = refl;
  modulo_has_sign_of_second = refl;
  modulo_of_negative = refl;
  mod_of_zero = refl;
  abs_of_least = refl;
  sign_of_least = refl;
  sign_keeps_least = refl;
  sign_of_zero = refl;
  greatest_of_three = refl;
  least_of_three = refl;
}
