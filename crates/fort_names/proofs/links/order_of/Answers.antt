use Rattle.std.proofs.Common.{sym, ◌∙◌, subst}
use Rattle.numbered_graph.specs.Graphs.{IsGraph}
use Rattle.fort_names.proofs.Passes.{graph_of}
use Rattle.fort_names.proofs.links.order_of.Goals as goal

-- src/links.rt
pub reversed-requires : goal.reversed-requires
reversed-requires c = subst IsGraph (sym (c.as_slice.ensures.value ∙ c.in_ok-links.ensures)) (graph_of c.args.names.now c.args.modules.now c.requires)

pub peel-requires-clause-graph : goal.peel-requires-clause-graph
peel-requires-clause-graph c = subst IsGraph (sym (c.as_slice-2.ensures.value ∙ c.in_ok-links.ensures)) (graph_of c.args.names.now c.args.modules.now c.requires)
