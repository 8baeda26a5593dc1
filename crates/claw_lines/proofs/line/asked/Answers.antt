use Rattle.std.proofs.Common.{◌≡◌, rules, None, Some, arith}
use Rattle.std.proofs.lemmas.Grind.{common_steps}
use Rattle.claw_lines.specs.Words.{forms, phrase}
use Rattle.fort_tree.specs.declared.stmt.DirectiveWord.TheVariants as word
use Rattle.claw_lines.specs.Steps.{found}
use Rattle.claw_lines.proofs.Asking.{line-none, line_not, ok_line, found-of_parts}
use Rattle.claw_lines.proofs.line.asked.Goals as goal

pub returns-in_err-word-clause-none : goal.returns-in_err-word-clause-none
returns-in_err-word-clause-none c e =
    let stuck : found phrase forms c.args.tokens.now ≡ None = first_of (search rules, grind (arith, common_steps)) in
    line-none c.args.at c.args.tokens.now stuck

pub of_parts-requires : goal.of_parts-requires
of_parts-requires c =
    let is : found phrase forms c.args.tokens.now ≡ Some (c.in_ok-word.word, c.in_ok-word.behind.now) = first_of (search rules, grind (arith, common_steps)) in
    found-of_parts c.args.tokens.now (c.in_ok-word.word, c.in_ok-word.behind.now) is c.in_default.not-Define

pub returns-in-Define-clause-some : goal.returns-in-Define-clause-some
returns-in-Define-clause-some c =
    let is : found phrase forms c.args.tokens.now ≡ Some (word.Define, c.in_ok-word.behind.now) = first_of (search rules, grind (arith, common_steps)) in
    ok_line c.args.at c.args.tokens.now (word.Define, c.in_ok-word.behind.now) c.of_dimension.result is c.of_dimension.ensures.some

pub returns-in-Define-clause-none : goal.returns-in-Define-clause-none
returns-in-Define-clause-none c e =
    let is : found phrase forms c.args.tokens.now ≡ Some (word.Define, c.in_ok-word.behind.now) = first_of (search rules, grind (arith, common_steps)) in
    line_not c.args.at c.args.tokens.now (word.Define, c.in_ok-word.behind.now) is (c.of_dimension.ensures.none e)

pub returns-in_default : goal.returns-in_default
returns-in_default c =
    let is : found phrase forms c.args.tokens.now ≡ Some (c.in_ok-word.word, c.in_ok-word.behind.now) = first_of (search rules, grind (arith, common_steps)) in
    record {
      some = ok_line c.args.at c.args.tokens.now (c.in_ok-word.word, c.in_ok-word.behind.now) c.of_parts.result is c.of_parts.ensures.some;
      none = λ e. line_not c.args.at c.args.tokens.now (c.in_ok-word.word, c.in_ok-word.behind.now) is (c.of_parts.ensures.none e);
    }
