use Rattle.std.proofs.Common.{◌≡◌, [], get_or, sym, ap, subst, ◌∙◌}
use Rattle.argument_faults.specs.Marking.{AreMarks, HasAll, IsMarkedFrom}
use Rattle.argument_faults.specs.ModuleNames.{pairs, rows_of}
use Rattle.argument_faults.proofs.Marked.{merged_marks, row_at}
use Rattle.argument_faults.proofs.reached.marks_from.Goals as goal

-- src/reached.rt
pub marks_of-requires : goal.marks_of-requires
marks_of-requires c =
    subst (HasAll c.args.variables.now)
    (row_at c.args.named.now c.args.unit c.index-named-unit.result c.requires.unit c.index-named-unit.is ∙ ap pairs (sym c.items.ensures))
    (c.requires.named.each c.args.unit)

-- src/reached.rt
pub returns : goal.returns
returns c =
    let vs = c.args.variables.now in
    let list = pairs c.items.result.now in
    let row : get_or (rows_of c.args.named.now) c.args.unit [] ≡ list = row_at c.args.named.now c.args.unit c.index-named-unit.result c.requires.unit c.index-named-unit.is ∙ ap pairs (sym c.items.ensures) in
    let own : AreMarks vs list c.as_slice.result.now = subst (AreMarks vs list) (sym c.as_slice.ensures.value) c.in_ok-own.ensures in
    subst (IsMarkedFrom vs (get_or (rows_of c.args.named.now) c.args.unit []) c.args.rows.now c.args.callees.now) (sym c.from_vec.ensures)
    (subst (λ l. IsMarkedFrom vs l c.args.rows.now c.args.callees.now c.in_ok-marks.marks.items) (sym row)
    (merged_marks vs list c.as_slice.result.now c.args.rows.now c.args.callees.now c.in_ok-marks.marks.items own c.in_ok-marks.ensures))
