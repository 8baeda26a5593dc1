use Rattle.std.proofs.Common.{◌≡◌, suc, ◌+◌, length, arith, ap, sym, subst, ◌∙◌, true}
use Rattle.std.specs.List.{list_all}
use Rattle.sound_programs.specs.Links.{leads_within, leads}
use Rattle.fort_names.specs.Circles.{AreThose}
use Rattle.fort_names.specs.NameLists.{has}
use Rattle.fort_names.proofs.Circling.{round_more, at_rest}
use Rattle.fort_names.proofs.cycles.is_led.Goals as goal

-- src/cycles.rt
pub returns-then-are_among : goal.returns-then-are_among
returns-then-are_among c =
    let links = c.args.links.now in
    let to = c.args.to.now in
    let n = c.loop-round._round in
    let names = c.loop-round.names in
    let next = c.in_ok-next.next in
    let none : list_all (has c.loop-round.names) c.in_ok-next.next ≡ true =
    sym (c.are_among.ensures ∙ ap (list_all (has c.loop-round.names)) c.names-in-loop-round-2.ensures) ∙ c.if-are_among.true in
    c.has.ensures.there ∙ at_rest links to n names next c.args.from.now (omega arith) c.loop-round.invariant (round_more links to n names next c.loop-round.invariant c.in_ok-next.ensures) none

pub loop-round-preserved : goal.loop-round-preserved
loop-round-preserved c =
    let links = c.args.links.now in
    let to = c.args.to.now in
    let n = c.loop-round._round in
    let one_more : suc n ≡ n + 1 = omega arith in
    subst (λ k. AreThose c.in_ok-next.next (λ x. leads_within c.args.links.now k x c.args.to.now)) one_more
    (round_more links to n c.loop-round.names c.in_ok-next.next c.loop-round.invariant c.in_ok-next.ensures)

pub returns : goal.returns
returns c =
    let all : c.loop-round._round ≡ length c.args.links.now = omega arith in
    let led : has c.loop-round.names c.args.from.now ≡ leads c.args.links.now c.args.from.now c.args.to.now =
    c.loop-round.invariant.each c.args.from.now ∙ ap (λ n. leads_within c.args.links.now n c.args.from.now c.args.to.now) all in
    cc led
