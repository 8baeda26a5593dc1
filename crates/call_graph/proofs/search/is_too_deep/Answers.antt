use Rattle.std.proofs.Common.{◌∙◌, ap, sym}
use Rattle.numbered_graph.specs.Deepness.{depth_at}
use Rattle.call_graph.proofs.Cycles.{not_deep, deep_is}
use Rattle.call_graph.proofs.search.is_too_deep.Goals as goal

-- src/search.rt
pub returns-in-None : goal.returns-in-None
returns-in-None c = not_deep c.args.calls.now c.requires.calls c.args.unit c.requires.within (ap (λ l. depth_at l c.args.unit) (sym c.as_slice.ensures.value) ∙ sym c.depth_of.ensures ∙ c.in-None.is)

pub returns-in-Some : goal.returns-in-Some
returns-in-Some c = deep_is c.args.calls.now c.requires.calls c.args.unit c.in-Some.depth c.requires.within (ap (λ l. depth_at l c.args.unit) (sym c.as_slice.ensures.value) ∙ sym c.depth_of.ensures ∙ c.in-Some.is)
