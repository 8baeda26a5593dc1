use Rattle.std.proofs.Common.{◌≡◌, ℤ, pos, ◌*ℤ◌, arith, refl}
use Rattle.std.proofs.lemmas.Int.{ints}
use Rattle.fort_arith.specs.Power.{power}
use Rattle.fort_arith.proofs.Powers.{power-add}
use Rattle.fort_arith.proofs.laws.powers.Goals as goal

pub returns-clause-none : goal.returns-clause-none
unfolding power
returns-clause-none c = λ x. refl

one_times : (x : ℤ) → pos 1 *ℤ x ≡ x
one_times x = omega (arith, ints)

pub returns-clause-one : goal.returns-clause-one
unfolding power
returns-clause-one c = one_times

pub returns-clause-sum : goal.returns-clause-sum
returns-clause-sum c = power-add
