use Rattle.std.proofs.Common.{◌≡◌, ◌<◌, ◌+◌, length, arith, ap, sym, subst, ◌∙◌, take, [], ◌∷◌, ◌++◌, true, false}
use Rattle.std.proofs.lemmas.List.{take_more}
use Rattle.fort_names.specs.Circles.{one_further, AreThose}
use Rattle.fort_names.specs.NameLists.{has}
use Rattle.fort_names.proofs.Circling.{one_link, no_link}
use Rattle.fort_names.proofs.cycles.further.Goals.{then-has+in_ok-insert-2, else-has}
use Rattle.fort_names.proofs.cycles.further.Goals as goal

-- src/cycles.rt
pub loop-link-preserved : goal.loop-link-preserved
loop-link-preserved c =
    let items = c.args.links.now in
    let i = c.loop-link.link-index in
    let link = c.link-item.result in
    let to = c.args.to.now in
    let test = has c.args.names.now in
    let next = c.loop-link.next in
    let within : i < length items = omega arith in
    let more : take (i + 1) items ≡ take i items ++ link ∷ [] = take_more items i link within ∙ ap (λ x. take i items ++ x ∷ []) (sym c.link-item.is) in
    subst (λ l. AreThose c.if-has.next (one_further l to (has c.args.names.now))) (sym more)
    (elim c.if-has.branch [
      | then-has+in_ok-insert-2 w ↦
          let led : has c.args.names.now link.1 ≡ true = sym c.has.ensures.there ∙ w.if-has.true in
          subst (λ n. AreThose n (one_further (take i items ++ link ∷ []) to (has c.args.names.now))) (sym (w.next-is ∙ w.in_ok-insert-2.ensures.ok))
          (one_link (take i items) link to test next c.loop-link.invariant led)
      | else-has w ↦
          let led : has c.args.names.now link.1 ≡ false = sym c.has.ensures.there ∙ w.if-has.false in
          subst (λ n. AreThose n (one_further (take i items ++ link ∷ []) to (has c.args.names.now))) (sym w.next-is)
          (no_link (take i items) link to test next c.loop-link.invariant led)
    ])
