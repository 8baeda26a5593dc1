use Rattle.std.proofs.Common.{◌≡◌, ◌∙◌, [], ap, sym, arith, get_or}
use Rattle.std.proofs.lemmas.List.{get_or_default}
use Rattle.numbered_graph.specs.Graphs.{stands}
use Rattle.call_graph.specs.declared.reference.Reference.{Reference}
use Rattle.call_graph.specs.Referring.{numbers}
use Rattle.call_graph.proofs.Cycles.{numbers_at}
use Rattle.call_graph.proofs.search.recursion_in.Goals as goal

-- src/search.rt
pub is_recursive-requires-clause-there : goal.is_recursive-requires-clause-there
is_recursive-requires-clause-there c =
    let rows = c.args.calls.now.references.items in
    let refs = c.items-reference-items.result.now in
    let is : refs ≡ get_or rows c.args.unit [] = c.items-reference-items.ensures ∙ c.index.ensures ∙ get_or_default rows c.args.unit c.index.result.now [] c.requires.within in
    let none : Reference = record { unit = 0; at = record { file = 0; line = 0; column = 0 } } in
    ap (λ l. stands (get_or refs c.loop-reference.reference-index none).unit (numbers l)) (sym is) ∙ numbers_at refs c.loop-reference.reference-index none (omega arith)
