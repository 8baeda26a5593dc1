use Rattle.std.proofs.Common.{[]}
use Rattle.layout_reading.proofs.ProgramsRead.{file_read, layout_spells, rows_are_file}
use Rattle.layout_reading.proofs.laws.layouts_are_read.Goals as goal

pub returns-clause-read : goal.returns-clause-read
returns-clause-read c number file h = layout_spells number file h

pub returns-clause-alone : goal.returns-clause-alone
returns-clause-alone c number file lines faults h k =
    let r = file_read number file h in
    let one = c.lines_are_unique.ensures number _ _ _ r.lines faults [] k r.are_lines in
    (rows_are_file number file lines h r one.0, one.1)
