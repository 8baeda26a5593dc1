use Rattle.std.proofs.Common.{◌↔◌, ap, sym, subst, arith, length, IsTrue}
use Rattle.numbered_graph.specs.Graphs.{IsGraph, Way}
use Rattle.call_graph.specs.Grouping.{AreGroups}
use Rattle.call_graph.proofs.Cycles.{unit_within, callee_within, recursive_is, graph, many_callees}
use Rattle.call_graph.proofs.search.is_recursive.Goals as goal

-- src/search.rt
pub lead-requires : goal.lead-requires
lead-requires c =
    let calls = c.args.calls.now in
    record {
      groups = subst (λ rows. AreGroups rows calls.groups) (sym c.as_slice-callees.ensures.value) c.requires.calls.groups;
      graph = subst IsGraph (sym c.as_slice-callees.ensures.value) (graph calls c.requires.calls);
      starts = omega (arith, callee_within calls c.requires.calls c.args.unit c.args.reference c.requires.there, many_callees calls c.requires.calls, ap length c.as_slice-callees.ensures.value);
      ends = omega (arith, unit_within calls c.requires.calls c.args.unit c.args.reference c.requires.there, many_callees calls c.requires.calls, ap length c.as_slice-callees.ensures.value);
    }

pub returns : goal.returns
returns c =
    recursive_is c.args.calls.now c.requires.calls c.args.unit c.args.reference c.requires.there c.in_ok-lead.field-0
    (subst (λ rows. IsTrue c.in_ok-lead.field-0 ↔ Way rows c.args.reference.unit c.args.unit) c.as_slice-callees.ensures.value c.in_ok-lead.ensures)
