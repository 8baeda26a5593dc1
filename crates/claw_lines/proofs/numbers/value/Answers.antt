use Rattle.std.proofs.Common.{◌≡◌, ◌∷◌, [], ◌++◌, ℕ, ◌+◌, ◌-◌, ◌*◌, take, get_or, arith, ap, ◌∙◌}
use Rattle.std.proofs.lemmas.List.{take_more, take_all}
use Rattle.claw_lines.specs.Words.{value_of}
use Rattle.claw_lines.proofs.Texts.{value_more}
use Rattle.claw_lines.proofs.numbers.value.Goals as goal

pub loop-digit-preserved : goal.loop-digit-preserved
loop-digit-preserved c =
    let before = take c.loop-digit.digit-index c.args.digits.now in
    let d : ℕ = get_or c.args.digits.now c.loop-digit.digit-index 0 in
    let taken : value_of (take (c.loop-digit.digit-index + 1) c.args.digits.now) ≡ value_of (before ++ d ∷ []) = ap value_of (take_more c.args.digits.now c.loop-digit.digit-index 0 c.loop-digit-test.true) in
    let more : value_of (before ++ d ∷ []) ≡ value_of before * 10 + (d - 48) = value_more 0 before d in
    let total : value_of (take (c.loop-digit.digit-index + 1) c.args.digits.now) ≡ value_of before * 10 + (d - 48) = taken ∙ more in
    rw total (omega (arith, c.loop-digit.invariant, c.saturating_mul.ensures, c.saturating_sub.ensures, c.saturating_add-value.ensures, c.from.ensures))

pub returns : goal.returns
returns c = rw (take_all c.loop-digit.digit-index c.args.digits.now c.loop-digit-test.false) at c.loop-digit.invariant
