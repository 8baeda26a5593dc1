use Rattle.std.proofs.Common.{◌∙◌, ap}
use Rattle.call_graph.specs.Grouping.{rises_from}
use Rattle.call_graph.proofs.Rooting.{are_groups}
use Rattle.call_graph.proofs.groups.Groups.of.Goals as goal

-- src/groups.rt
pub returns : goal.returns
returns c =
    are_groups c.args.rows.now c.args.back.now
    (record { numbers = c.in_ok-numbers.numbers.items; rise = c.is_rising-rise.result; behind = c.in_ok-behind.behind.items; before = c.in_ok-before.before.items })
    c.requires
    (c.is_rising-rise.ensures ∙ ap (λ l. rises_from l 0 c.args.rows.now) c.as_slice-6.ensures.value)
    c.in_ok-behind.ensures
    c.in_ok-before.ensures
