use Rattle.std.proofs.Common.{◌≡◌, ◌+◌, ◌≤◌, map, length}
use Rattle.std.specs.Vec.Iter.{into_iter_items, into_iter_len}
use Rattle.form_nesting.specs.Forms.{form_of, statements_among}
use Rattle.form_nesting.specs.Runs.{run}
use Rattle.form_nesting.specs.Steps.{start}
use Rattle.form_nesting.proofs.reading.nested.Given as goal

-- the forms that are left do to the file so far what all forms do to none
abbrev pub invariant-loop-form : goal.invariant-loop-form
invariant-loop-form l = record {
  counted : into_iter_len l.form-iterator ≡ length (into_iter_items l.form-iterator);
  modules : length l.nest.file.modules + statements_among (map form_of (into_iter_items l.form-iterator)) ≤ statements_among (map form_of l.fn.forms);
  units : length l.nest.file.units + statements_among (map form_of (into_iter_items l.form-iterator)) ≤ statements_among (map form_of l.fn.forms);
  runs : run (map form_of (into_iter_items l.form-iterator)) l.nest ≡ run (map form_of l.fn.forms) start;
}
