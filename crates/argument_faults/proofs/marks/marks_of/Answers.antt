use Rattle.std.proofs.Common.{◌<◌, length, arith, ap, ◌∙◌}
use Rattle.argument_faults.specs.Marking.{with_mark}
use Rattle.argument_faults.proofs.Marked.{next_mark}
use Rattle.argument_faults.proofs.marks.marks_of.Goals as goal

-- src/marks.rt
pub loop-variable-preserved : goal.loop-variable-preserved
loop-variable-preserved c =
    let items = c.args.list.now in
    let within : c.loop-variable.variable-index < length items = omega arith in
    next_mark c.args.variables.now items c.loop-variable.variable-index c.variable-item.result within c.variable-item.is c.requires c.loop-variable.marks.items c.mark.new.marks.items c.loop-variable.invariant
    (c.mark.ensures ∙ ap (with_mark c.loop-variable.marks.items) c.place.ensures)
