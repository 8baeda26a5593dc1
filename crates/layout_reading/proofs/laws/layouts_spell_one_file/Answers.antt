use Rattle.std.proofs.Common.{[], subst}
use Rattle.fort_tree.specs.declared.choice.Mode.TheVariants.{Target}
use Rattle.layout_reading.specs.Programs.{Spells}
use Rattle.layout_reading.proofs.FirstTokens.{lines_headed}
use Rattle.layout_reading.proofs.OneProgram.{one_program, one_text}
use Rattle.layout_reading.proofs.laws.layouts_spell_one_file.Goals as goal

pub returns-clause-program : goal.returns-clause-program
returns-clause-program c number file other lines faults h k p =
    let read = c.layouts_are_read.ensures.alone number file lines faults h k in
    one_program c.reading_is_unique.ensures c.forms_nest_into_one_file.ensures lines file other (lines_headed number Target _ lines faults k) read.0 p

pub returns-clause-spelled : goal.returns-clause-spelled
returns-clause-spelled c number file other h s =
    let read = c.layouts_are_read.ensures.alone number file s.lines [] h s.are_lines in
    one_text c.statements_are_derived.ensures.forms c.reading_is_unique.ensures c.forms_nest_into_one_file.ensures _ file other read.0 s.are_file

pub returns-clause-same : goal.returns-clause-same
returns-clause-same c file other h k e =
    let s = subst (λ text. Spells 0 text other) e (c.layouts_are_read.ensures.read 0 other k) in
    let read = c.layouts_are_read.ensures.alone 0 file s.lines [] h s.are_lines in
    one_text c.statements_are_derived.ensures.forms c.reading_is_unique.ensures c.forms_nest_into_one_file.ensures _ file other read.0 s.are_file
