use Rattle.std.proofs.Common.{[], ap, ◌∙◌, map}
use Rattle.std.specs.List.{list_all}
use Rattle.fort_lex.specs.Lines.{Written}
use Rattle.layout_reading.specs.Shown.{shown, begins_in}
use Rattle.layout_reading.proofs.ProgramsRead.{file_read}
use Rattle.layout_reading.proofs.TextsTaken.{file_taken}
use Rattle.layout_reading.proofs.laws.layouts_are_programs.Goals as goal

pub returns-clause-read : goal.returns-clause-read
returns-clause-read c number file h =
    let s = c.layouts_are_read.ensures.read number file h.printable in
    let r = file_read number file h.printable in
    let one = c.lines_are_unique.ensures number _ _ _ r.lines [] [] s.are_lines r.are_lines in
    record {
      lines = s.lines;
      are_lines = s.are_lines;
      are_read = file_taken c.statements_are_derived.ensures.forms c.reading_is_unique.ensures c.lines_that_nest_are_a_program.ensures.program number file s.lines [] h s.are_lines
          (ap (map shown) one.0 ∙ r.are_rows) (ap (list_all (λ (w : Written). begins_in number w.words)) one.0 ∙ r.in_file) s.are_file;
    }

pub returns-clause-alone : goal.returns-clause-alone
returns-clause-alone c number file lines faults h k =
    let a = c.layouts_are_read.ensures.alone number file lines faults h.printable k in
    let r = file_read number file h.printable in
    let one = c.lines_are_unique.ensures number _ _ _ r.lines faults [] k r.are_lines in (
      file_taken c.statements_are_derived.ensures.forms c.reading_is_unique.ensures c.lines_that_nest_are_a_program.ensures.program number file lines faults h k (ap (map shown) one.0 ∙ r.are_rows)
          (ap (list_all (λ (w : Written). begins_in number w.words)) one.0 ∙ r.in_file) a.0,
      a.1,
    )
