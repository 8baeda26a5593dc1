use Rattle.std.proofs.Common.{◌≡◌, ◌==◌, rules, true, false, None, length, arith}
use Rattle.std.proofs.lemmas.Grind.{common_steps}
use Rattle.claw_lines.specs.Steps.{next_part}
use Rattle.claw_lines.proofs.PartLaws.{empty-is, some-is, next-shorter, along-next, along-end, along-stuck}
use Rattle.claw_lines.proofs.given.all_parts.Goals as goal

pub returns-in_err-left-clause-none : goal.returns-in_err-left-clause-none
returns-in_err-left-clause-none c e =
    let stuck : next_part c.args.word c.loop-left.given c.loop-left.left.now ≡ None = first_of (search rules, grind (arith, common_steps)) in
    let some : (length c.loop-left.left.now == 0) ≡ false = first_of (search rules, grind (arith, common_steps)) in
    along-stuck c.args.word c.args.tokens.now c.loop-left.left.now c.loop-left.given stuck (some-is c.loop-left.left.now some) c.loop-left.invariant

pub loop-left-smaller : goal.loop-left-smaller
loop-left-smaller c = next-shorter c.args.word c.loop-left.given c.loop-left.left.now (c.take_next.new.self, c.in_ok-left.left.now) c.in_ok-left.ensures.some

pub loop-left-preserved : goal.loop-left-preserved
loop-left-preserved c =
    let some : (length c.loop-left.left.now == 0) ≡ false = first_of (search rules, grind (arith, common_steps)) in
    along-next c.args.word c.args.tokens.now c.loop-left.left.now c.in_ok-left.left.now c.loop-left.given c.take_next.new.self c.in_ok-left.ensures.some
    (some-is c.loop-left.left.now some) c.loop-left.invariant

pub returns-clause-some : goal.returns-clause-some
returns-clause-some c =
    let empty : (length c.loop-left.left.now == 0) ≡ true = first_of (search rules, grind (arith, common_steps)) in
    along-end c.args.word c.args.tokens.now c.loop-left.left.now c.loop-left.given (empty-is c.loop-left.left.now empty) c.loop-left.invariant
