use Rattle.std.proofs.Common.{◌≡◌, ℕ, List, Option, None, rules, sym, ap, ◌∙◌, arith}
use Rattle.std.proofs.lemmas.Grind.{common_steps}
use Rattle.claw_lines.specs.Items.{position_item}
use Rattle.claw_lines.specs.Steps.{marked, listed_from}
use Rattle.claw_lines.proofs.Listing.{listed_unmarked, listed_no_item, listed_more}
use Rattle.claw_lines.proofs.lists.positions.Goals as goal

pub returns-in_default-clause-none : goal.returns-in_default-clause-none
returns-in_default-clause-none c e =
    let stuck : marked c.loop-token.left.now ≡ None = first_of (search rules, grind (arith, common_steps)) in
    sym c.loop-token.invariant ∙ listed_unmarked (position_item c.args.word) c.loop-token.positions c.loop-token.left.now stuck

pub returns-in_default-position-clause-none : goal.returns-in_default-position-clause-none
returns-in_default-position-clause-none c e =
    let stuck : position_item c.args.word c.in-Some.token.now ≡ None = first_of (search rules, grind (arith, common_steps)) in
    sym c.loop-token.invariant
    ∙ listed_no_item (position_item c.args.word) c.loop-token.positions c.loop-token.left.now c.in-Some.rest.now c.in-Some.token.now c.in-Some.last (sym c.in-Some.ensures.value) stuck

pub loop-token-preserved : goal.loop-token-preserved
loop-token-preserved c =
    let put = λ (read : List (Option (List ℕ))). listed_from (position_item c.args.word) read c.in-Some.rest.now in
    ap put c.in_ok-push.ensures.ok
    ∙ sym (listed_more (position_item c.args.word) c.loop-token.positions c.loop-token.left.now c.in-Some.rest.now c.in-Some.token.now c.in-Some-position.position c.in-Some.last
    (sym c.in-Some.ensures.value) (sym c.in-Some-position.ensures) c.if-last.false)
    ∙ c.loop-token.invariant
