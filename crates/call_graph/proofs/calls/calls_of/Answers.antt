use Rattle.std.proofs.Common.{◌∙◌, ap, sym, subst}
use Rattle.numbered_graph.specs.Graphs.{IsGraph, IsOrder}
use Rattle.numbered_graph.specs.Deepness.{AreDepths}
use Rattle.call_graph.specs.Grouping.{AreGroups}
use Rattle.call_graph.specs.Referring.{callees_of}
use Rattle.call_graph.proofs.Added.{graph_of}
use Rattle.call_graph.proofs.Differing.{names_differ}
use Rattle.call_graph.proofs.calls.calls_of.Goals as goal

-- src/calls.rt
pub reversed-requires : goal.reversed-requires
reversed-requires c =
    subst IsGraph (sym (c.as_slice-2.ensures.value ∙ c.in_ok-callees.ensures ∙ ap callees_of c.as_slice.ensures.value))
    (graph_of c.args.file.now c.in_ok-references.references.items (names_differ c.args.file.now c.requires.names) c.in_ok-references.ensures)

pub peel-requires-clause-graph : goal.peel-requires-clause-graph
peel-requires-clause-graph c =
    subst IsGraph (sym (c.as_slice-3.ensures.value ∙ c.in_ok-callees.ensures ∙ ap callees_of c.as_slice.ensures.value))
    (graph_of c.args.file.now c.in_ok-references.references.items (names_differ c.args.file.now c.requires.names) c.in_ok-references.ensures)

pub returns-clause-calls : goal.returns-clause-calls
returns-clause-calls c = record {
  differ = names_differ c.args.file.now c.requires.names;
  references = c.in_ok-references.ensures;
  callees = c.in_ok-callees.ensures ∙ ap callees_of c.as_slice.ensures.value;
  order = subst (λ rows. IsOrder rows c.in_ok-order.order.items) c.as_slice-3.ensures.value c.in_ok-order.ensures;
  depths = subst (λ rows. AreDepths rows c.in_ok-order.order.items 65 c.in_ok-depth_list.depth_list.items) c.as_slice-5.ensures.value
      (subst (λ order. AreDepths c.as_slice-5.result.now order 65 c.in_ok-depth_list.depth_list.items) c.as_slice-6.ensures.value c.in_ok-depth_list.ensures);
  groups = subst (λ rows. AreGroups rows c.in_ok-groups.groups) c.as_slice-7.ensures.value c.in_ok-groups.ensures;
}
