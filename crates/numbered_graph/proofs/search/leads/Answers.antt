use Rattle.std.proofs.Common.{◌<◌, ◌+◌, arith, subst, sym, ap, ◌∙◌, length, take, IsTrue, ◌↔◌}
use Rattle.numbered_graph.specs.Graphs.{Way}
use Rattle.numbered_graph.specs.Searching.{Searched, Searches, found_one}
use Rattle.numbered_graph.proofs.Searching.{SearchAt, starts_search, search_within, search_goes_on, search_next, search_ends}
use Rattle.numbered_graph.proofs.Peeling.{cut_within}
use Rattle.numbered_graph.proofs.search.leads.Goals as goal

-- src/search.rt
pub loop-point-init : goal.loop-point-init
loop-point-init c = starts_search c.args.rows.now c.args.from c.find.new.self c.requires.starts (c.in_ok-find.ensures ∙ ap (λ (s : Searched). found_one s c.args.from) c.in_ok-search.ensures)

at_point : (c : goal.After-search-in-Some-1) → SearchAt c.args.rows.now c.args.from c.loop-point.search c.loop-point.next c.in-Some.point
at_point c = record { graph = c.requires.graph; so_far = c.loop-point.invariant; at = sym c.at.ensures ∙ c.in-Some.is }

pub go_through-requires : goal.go_through-requires
go_through-requires c = record {
  within = search_within c.args.rows.now c.args.from c.loop-point.search c.loop-point.next c.in-Some.point (at_point c);
  below = λ x e. omega (arith, c.requires.graph.within c.in-Some.point x e, c.loop-point.invariant.is_search.same_length);
}

behind_point : (c : goal.In_ok-go_through) → SearchAt c.args.rows.now c.args.from c.loop-point.search c.loop-point.next c.in-Some.point
behind_point c = record { graph = c.requires.graph; so_far = c.loop-point.invariant; at = sym c.at.ensures ∙ c.in-Some.is }

pub overflow_add-next : goal.overflow_add-next
overflow_add-next c =
    let within : c.loop-point.next < length c.search-in-loop-point.inside.found.items = subst (λ (q : Searched). c.loop-point.next < length q.found) (sym c.search-in-loop-point.view_is) (cut_within c.loop-point.search.found c.loop-point.next c.in-Some.point (behind_point c).at) in
    omega (arith, within, c.search-in-loop-point.inside.found.small)

pub loop-point-smaller : goal.loop-point-smaller
loop-point-smaller c =
    let within : c.loop-point.next < length c.args.rows.now = search_goes_on c.args.rows.now c.args.from c.loop-point.search c.loop-point.next c.in-Some.point (behind_point c) in
    omega (arith, within)

pub loop-point-preserved : goal.loop-point-preserved
loop-point-preserved c =
    subst (λ (q : Searched). Searches c.args.rows.now c.args.from (take (c.loop-point.next + 1) q.found) q) (sym c.in_ok-go_through.ensures)
    (search_next c.args.rows.now c.args.from c.loop-point.search c.loop-point.next c.in-Some.point (behind_point c))

pub returns : goal.returns
returns c =
    subst (λ b. IsTrue b ↔ Way c.args.rows.now c.args.from c.args.to) (sym c.has.ensures)
    (search_ends c.args.rows.now c.args.from c.args.to c.loop-point.search c.loop-point.next c.loop-point.invariant (sym c.at.ensures ∙ c.in_default.is))
