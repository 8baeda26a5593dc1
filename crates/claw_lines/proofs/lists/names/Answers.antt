use Rattle.std.proofs.Common.{◌≡◌, ℕ, List, None, rules, sym, ap, ◌∙◌, arith}
use Rattle.std.proofs.lemmas.Grind.{common_steps}
use Rattle.claw_lines.specs.Items.{free_item}
use Rattle.claw_lines.specs.Steps.{marked, listed_from}
use Rattle.claw_lines.proofs.Listing.{listed_unmarked, listed_no_item, listed_more}
use Rattle.claw_lines.proofs.lists.names.Goals as goal

pub returns-in_default-clause-none : goal.returns-in_default-clause-none
returns-in_default-clause-none c e =
    let stuck : marked c.loop-token.left.now ≡ None = first_of (search rules, grind (arith, common_steps)) in
    sym c.loop-token.invariant ∙ listed_unmarked (free_item c.args.word) c.loop-token.names c.loop-token.left.now stuck

pub returns-in_default-free_name-clause-none : goal.returns-in_default-free_name-clause-none
returns-in_default-free_name-clause-none c e =
    let stuck : free_item c.args.word c.in-Some.token.now ≡ None = first_of (search rules, grind (arith, common_steps)) in
    sym c.loop-token.invariant
    ∙ listed_no_item (free_item c.args.word) c.loop-token.names c.loop-token.left.now c.in-Some.rest.now c.in-Some.token.now c.in-Some.last (sym c.in-Some.ensures.value) stuck

pub loop-token-preserved : goal.loop-token-preserved
loop-token-preserved c =
    let put = λ (read : List (List ℕ)). listed_from (free_item c.args.word) read c.in-Some.rest.now in
    ap put c.in_ok-push.ensures.ok
    ∙ sym (listed_more (free_item c.args.word) c.loop-token.names c.loop-token.left.now c.in-Some.rest.now c.in-Some.token.now c.in-Some-free_name.name c.in-Some.last
    (sym c.in-Some.ensures.value) (sym c.in-Some-free_name.ensures) c.if-last.false)
    ∙ c.loop-token.invariant
