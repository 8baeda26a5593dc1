-- The text of a file's layout is read as the file.
use Rattle.std.proofs.Common.{◌≡◌, ℕ, List, [], ◌∷◌, true, map, refl, sym, ap, ◌∙◌, subst}
use Rattle.std.specs.List.{list_all}
use Rattle.std.proofs.lemmas.Bool.{true≢false, and_parts, eqb-true}
use Rattle.fort_tree.specs.declared.choice.Mode.TheVariants.{Target}
use Rattle.fort_tree.specs.declared.statement.Token.{Token}
use Rattle.fort_tree.specs.declared.unit.File.{File}
use Rattle.fort_tree.specs.declared.statement.Line.{Line}
use Rattle.fort_tokens.specs.Reads.{Word, word_of}
use Rattle.fort_lex.specs.Lines.{Written, written, AreLines}
use Rattle.fort_expr.specs.Words.{front_place}
use Rattle.fort_spell.specs.Rows.{Row}
use Rattle.fort_spell.specs.Units.{file_rows, layout_of}
use Rattle.claw_meaning.specs.Syntax as plain
use Rattle.claw_meaning.specs.Plain.{plain_item, plain_module, plain_unit}
use Rattle.layout_reading.specs.Readable.{AreReadable}
use Rattle.layout_reading.specs.Tokens.{texts}
use Rattle.layout_reading.specs.Shown.{Shown, shown, line_of, begins_in, AreRead}
use Rattle.layout_reading.specs.FormLines.{TokenLine, IsLineOf, AreLinesOf}
use Rattle.layout_reading.specs.Programs.{IsPrintableFile, AreFile, token_line, Spells}
use Rattle.sound_programs.specs.Forms.{Form}
use Rattle.sound_programs.specs.Nesting.{Nests}
use Rattle.layout_reading.proofs.Declarations.{Each}
use Rattle.layout_reading.proofs.Bodies.{FormFits, all_fit}
use Rattle.layout_reading.proofs.PlainRows.{same_file_rows}
use Rattle.layout_reading.proofs.FilesRead.{Around, law_file}
use Rattle.layout_reading.proofs.RowsRead.{rows_read}
use Rattle.layout_reading.proofs.Whole.{first_shown, others_shown, lines_whole}

-- LINES

same_texts : (ts : List Token) → texts ts ≡ map (λ (word : Word). word.text) (map word_of ts)
same_texts [] = refl
same_texts (t ∷ ts) = ap (λ x. t.text ∷ x) (same_texts ts)

front_file : (number : ℕ) (ts : List Token) → begins_in number (map word_of ts) ≡ true → (front_place ts).file ≡ number
front_file number [] h = absurd (true≢false (sym h))
front_file number (t ∷ ts) h = eqb-true t.at.file number h

pub line_is : (number : ℕ) (row : Row) (l : Line) → shown (written l) ≡ line_of Target row → begins_in number (map word_of l.tokens) ≡ true → IsLineOf number row (token_line l)
line_is number row l e h = record {
  directive = ap (λ (s : Shown). s.directive) e;
  texts_are = same_texts l.tokens ∙ ap (λ (s : Shown). s.texts) e;
  in_file = front_file number l.tokens h;
}

pub lines_are : (number : ℕ) (rows : List Row) (lines : List Line) → map shown (map written lines) ≡ map (line_of Target) rows → list_all (λ (w : Written). begins_in number w.words) (map written lines) ≡ true →
    AreLinesOf number rows (map token_line lines)
lines_are number [] [] e h = tt
lines_are number [] (l ∷ lines) e h = absurd cc
lines_are number (row ∷ rows) [] e h = absurd cc
lines_are number (row ∷ rows) (l ∷ lines) e h =
    let k = and_parts (begins_in number (map word_of l.tokens)) (list_all (λ (w : Written). begins_in number w.words) (map written lines)) h in
    (line_is number row l (first_shown e) k.0, lines_are number rows lines (others_shown e) k.1)

-- FILES

whole : (number : ℕ) (file : File) → Around number 0 0 file.modules file.units file
whole number file = record { modules_before = []; units_before = []; count_modules = refl; count_units = refl; below = tt; modules_are = refl; units_are = refl }

same_file : (a b : List plain.Module) (c d : List plain.Unit) (o : List plain.Item) → a ≡ b → c ≡ d → ◌≡◌ {A = plain.Program} (record { modules = a; units = c; order = o }) (record { modules = b; units = d; order = o })
same_file a b c d o e f = ap (λ x. record { modules = x; units = c; order = o }) e ∙ ap (λ x. record { modules = b; units = x; order = o }) f

pub written_stands : {forms : List Form} (file : File) → Nests Target forms file → Each (FormFits) forms → AreReadable (file_rows file)
written_stands file n r = (law_file 0 n r).stands file (whole 0 file)

pub written_nests : (number : ℕ) {forms : List Form} (file : File) (lines : List TokenLine) → Nests Target forms file → Each (FormFits) forms → AreLinesOf number (file_rows file) lines → AreFile lines file
written_nests number file lines n r k =
    let a = (law_file number n r).again file (whole number file) lines k in
    record {
      forms = a.forms;
      read = record { modules = a.modules; units = a.units; order = file.order };
      have = a.have;
      nest = a.nest;
      same = same_file (map plain_module a.modules) (map plain_module file.modules) (map plain_unit a.units) (map plain_unit file.units) (map plain_item file.order) a.same_modules a.same_units;
    }

pub file_stands : (file : File) → IsPrintableFile file → AreReadable (file_rows file)
file_stands file h = subst AreReadable (same_file_rows h.written file h.same) (written_stands h.written h.nest (all_fit 0 h.have))

pub file_nests : (number : ℕ) (file : File) (lines : List TokenLine) → IsPrintableFile file → AreLinesOf number (file_rows file) lines → AreFile lines file
file_nests number file lines h k =
    let a = written_nests number h.written lines h.nest (all_fit number h.have) (subst (λ r. AreLinesOf number r lines) (sym (same_file_rows h.written file h.same)) k) in
    record { forms = a.forms; read = a.read; have = a.have; nest = a.nest; same = a.same ∙ h.same }

pub rows_are_file : (number : ℕ) (file : File) (lines : List Line) → IsPrintableFile file → (r : AreRead number Target (file_rows file)) → map written lines ≡ r.lines → AreFile (map token_line lines) file
rows_are_file number file lines h r e =
    file_nests number file (map token_line lines) h
    (lines_are number (file_rows file) lines (ap (map shown) e ∙ r.are_rows) (ap (list_all (λ (w : Written). begins_in number w.words)) e ∙ r.in_file))

pub file_read : (number : ℕ) (file : File) → IsPrintableFile file → AreRead number Target (file_rows file)
file_read number file h = rows_read number Target (file_rows file) (file_stands file h)

pub layout_spells : (number : ℕ) (file : File) → IsPrintableFile file → Spells number (layout_of file) file
layout_spells number file h =
    let r = file_read number file h in
    let l = lines_whole (file_rows file) r.lines (file_stands file h) r.are_rows in
    record { lines = l.0; are_lines = subst (λ x. AreLines number Target (layout_of file) x) (sym l.1) r.are_lines; are_file = rows_are_file number file l.0 h r l.1 }
