use Rattle.std.proofs.Common.{[], ap, ◌∙◌, map}
use Rattle.layout_reading.specs.Shown.{shown}
use Rattle.layout_reading.proofs.RowsRead.{rows_read}
use Rattle.layout_reading.proofs.laws.rows_are_read.Goals as goal

pub returns-clause-read : goal.returns-clause-read
returns-clause-read c file mode rows h = rows_read file mode rows h

pub returns-clause-alone : goal.returns-clause-alone
returns-clause-alone c file mode rows lines faults h k =
    let r = rows_read file mode rows h in
    let one = c.lines_are_unique.ensures file mode _ lines r.lines faults [] k r.are_lines in
    (ap (map shown) one.0 ∙ r.are_rows, one.1)
