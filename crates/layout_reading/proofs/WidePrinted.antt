-- What has forms that fit and nest can be written, and so can a unit of column scalars for all columns.
use Rattle.std.proofs.Common.{List, ap, sym, ◌∙◌, map}
use Rattle.std.specs.List.{list_all}
use Rattle.fort_tree.specs.declared.choice.Mode.TheVariants.{Target}
use Rattle.fort_tree.specs.declared.unit.File.{File}
use Rattle.fort_lex.specs.Lines.{Written}
use Rattle.fort_spell.specs.Units.{file_rows}
use Rattle.sound_programs.specs.Forms.{Form}
use Rattle.sound_programs.specs.Nesting.{Nests}
use Rattle.layout_reading.specs.Programs.{IsPrintableFile, token_line}
use Rattle.layout_reading.specs.Shown.{shown, begins_in}
use Rattle.layout_reading.specs.WideUnits.{WideUnitsPrintable}
use Rattle.layout_reading.proofs.Bodies.{FormFits}
use Rattle.layout_reading.proofs.Declarations.{Each}
use Rattle.layout_reading.proofs.ProgramsRead.{lines_are, written_stands, written_nests}
use Rattle.layout_reading.proofs.RowsRead.{rows_read}
use Rattle.layout_reading.proofs.Whole.{lines_whole}
use Rattle.layout_reading.proofs.WideForms.{unit_written}

pub fits_printable : {forms : List Form} (file : File) → Nests Target forms file → Each FormFits forms → IsPrintableFile file
fits_printable file n f =
    let st = written_stands file n f in
    let r = rows_read 0 Target (file_rows file) st in
    let l = lines_whole (file_rows file) r.lines st r.are_rows in
    let k = lines_are 0 (file_rows file) l.0 (ap (map shown) l.1 ∙ r.are_rows) (ap (list_all (λ (w : Written). begins_in 0 w.words)) l.1 ∙ r.in_file) in
    let a = written_nests 0 file (map token_line l.0) n f k in
    record { lines = map token_line l.0; forms = a.forms; written = a.read; have = a.have; nest = a.nest; same = a.same }

pub wide_printable : WideUnitsPrintable
wide_printable u file s w e =
    let h = unit_written u s w in
    let x = fits_printable h.file h.nest h.fits in
    record { lines = x.lines; forms = x.forms; written = x.written; have = x.have; nest = x.nest; same = x.same ∙ (h.same ∙ sym e) }
