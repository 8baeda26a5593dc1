use Rattle.std.proofs.Common.{◌≡◌, rules, true, false, arith}
use Rattle.std.proofs.lemmas.Grind.{common_steps}
use Rattle.claw_lines.specs.Forms.{is_whole}
use Rattle.claw_lines.proofs.Asking.{names-missing, ok_parts}
use Rattle.claw_lines.proofs.line.of_parts.Goals as goal

pub returns-then-not-is_whole-clause-none : goal.returns-then-not-is_whole-clause-none
returns-then-not-is_whole-clause-none c e =
    let missing : is_whole c.args.word c.in_ok-given.given ≡ false = first_of (search rules, grind (arith, common_steps)) in
    names-missing c.args.at c.args.word c.args.tokens.now c.in_ok-given.given c.requires c.in_ok-given.ensures.some missing

pub returns-clause-some : goal.returns-clause-some
returns-clause-some c =
    let whole : is_whole c.args.word c.in_ok-given.given ≡ true = first_of (search rules, grind (arith, common_steps)) in
    ok_parts c.args.at c.args.word c.args.tokens.now c.in_ok-given.given c.made.result c.one.result c.requires c.in_ok-given.ensures.some whole c.made.ensures c.one.ensures.some
