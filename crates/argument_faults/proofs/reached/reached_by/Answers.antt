use Rattle.std.proofs.Common.{[], sym, ap, subst, ◌∙◌}
use Rattle.argument_faults.specs.Marking.{HasAllRows}
use Rattle.argument_faults.specs.ModuleNames.{rows_of, with_rows}
use Rattle.argument_faults.proofs.Marked.{rows_there}
use Rattle.argument_faults.proofs.reached.reached_by.Goals as goal

-- src/reached.rt
pub all_marks-requires-clause-all : goal.all_marks-requires-clause-all
all_marks-requires-clause-all c =
    subst (λ vs. HasAllRows vs (rows_of c.as_slice-2.result.now)) (sym (c.in_ok-variables.ensures ∙ ap (λ l. with_rows [] (rows_of l)) (c.as_slice.ensures.value ∙ sym c.as_slice-2.ensures.value)))
    (rows_there [] (rows_of c.as_slice-2.result.now))
