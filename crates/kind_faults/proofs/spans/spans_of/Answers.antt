use Rattle.std.proofs.Common.{◌<◌, ◌+◌, ◌++◌, length, drop, arith, sym, ap, ◌∙◌}
use Rattle.kind_faults.specs.Spans.{spans_of}
use Rattle.kind_faults.proofs.Arguments.{at_any}
use Rattle.kind_faults.proofs.spans.spans_of.Goals as goal

-- src/spans.rt
pub loop-choice-preserved : goal.loop-choice-preserved
loop-choice-preserved c =
    let items = c.args.choices.now in
    let within : c.loop-choice.choice-index < length items = omega arith in
    c.in_ok-add_span.ensures (spans_of (drop (c.loop-choice.choice-index + 1) items))
    ∙ ap (λ l. c.loop-choice.list.items ++ spans_of l) (sym (at_any items c.loop-choice.choice-index _ within)) ∙ c.loop-choice.invariant
