use Rattle.std.proofs.Common.{◌≡◌, List, ℕ, Option, Some, sym, ◌∙◌, subst, ap}
use Rattle.std.proofs.lemmas.Result.{on_ok_weaker}
use Rattle.numbered_graph.specs.Deepness.{depth_at}
use Rattle.call_graph.specs.Grouping.{AreReached, rooted_all}
use Rattle.call_graph.proofs.Rooting.{passed_on}
use Rattle.call_graph.proofs.roots.Roots.pass_on.Goals as goal

-- src/roots.rt
pub returns-in-Some : goal.returns-in-Some
returns-in-Some c =
    let rows = c.args.rows.now in
    let groups = c.args.groups.now in
    let point = c.args.point in
    let root = c.in-Some.root in
    let roots : List (Option ℕ) = c.args.self.now in
    let is : depth_at roots point ≡ Some root = ap (λ l. depth_at l point) (sym c.self.view_is ∙ sym c.as_slice.ensures.value) ∙ sym c.depth_of.ensures ∙ c.in-Some.is in
    on_ok_weaker c.note_all.result
    (λ e. subst (AreReached rows) (sym (e ∙ ap (rooted_all groups point root roots) c.links_of.ensures)) (passed_on rows groups point root roots c.requires is))
    c.note_all.ensures
