use Rattle.std.proofs.Common.{rules, ap₂, ◌≡◌, ◌∙◌, Option, Some, None, IsSomeAnd, ap, codes}
use Rattle.clap.specs.Lexer.{usize_max}
use Rattle.clap.specs.Words.{Rule, new_rule, rule_of, with_rule}
use Rattle.clap.specs.declared.builder.ArgAction.TheVariants.{Append}
use Rattle.clap.specs.declared.builder.range.ValueRange.{ValueRange}
use Rattle.claw_words.specs.Command.{words_rule, target_rule, directive_rule}
use Rattle.claw_words.proofs.matching.command.Goals as goal

some_is : (o : Option ValueRange) (r : ValueRange) → IsSomeAnd o (λ v. v ≡ r) → o ≡ Some r
some_is None r is = absurd is
some_is (Some v) r is = ap (λ (x : ValueRange). Some x) is

abbrev from_one : ValueRange
from_one = record { start_inclusive = 1; end_inclusive = usize_max }

pub returns : goal.returns
returns c =
    let range : c.num_args.result.num_vals ≡ Some from_one = some_is _ _ c.num_args.ensures.1 in
    let with_range : rule_of c.num_args.result ≡ record (new_rule (codes "words")) { range = Some from_one }
    = ap rule_of c.num_args.ensures.0 ∙ ap₂ (λ (r : Rule) (v : Option ValueRange). record r { range = v }) c.new.ensures.rule range in
    let words_is : rule_of c.action-words.result ≡ words_rule
    = ap rule_of c.action-words.ensures ∙ ap (λ (r : Rule). record r { action = Some Append }) with_range in
    let target_is : rule_of c.action-target.result ≡ target_rule = search rules in
    let directive_is : rule_of c.action-directive.result ≡ directive_rule = search rules in
    c.in_ok-command.ensures.shape (search rules) ∙ ap₂ with_rule
    (c.in_ok-arg-2.ensures.shape (search rules) ∙ ap₂ with_rule
    (c.in_ok-arg.ensures.shape (search rules) ∙ ap₂ with_rule c.new-4.ensures.app words_is) target_is) directive_is
