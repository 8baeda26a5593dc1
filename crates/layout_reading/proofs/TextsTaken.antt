-- The lines of a file's layout are read as a program, where they are within the limits.
use Rattle.std.proofs.Common.{◌≡◌, ℕ, ◌≤◌, List, [], ◌∷◌, ◌++◌, Option, None, Some, Bool, true, false, cond, map, length, is_some, inl, inr, refl, sym, ap, ◌∙◌, subst, arith}
use Rattle.std.specs.Prelude.{⊤}
use Rattle.std.specs.List.{AllByRecursion, list_all}
use Rattle.std.proofs.lemmas.Bool.{true≢false, and_parts}
use Rattle.std.proofs.lemmas.List.{length-map}
use Rattle.std.proofs.lemmas.Option.{slice_get_within}
use Rattle.std.proofs.lemmas.List.Elements.{All-from_recursion, recursion_from_All}
use Rattle.fort_tree.specs.declared.choice.Mode.TheVariants.{Source, Target}
use Rattle.fort_tree.specs.declared.fault.Fault.{Fault}
use Rattle.fort_tree.specs.declared.place.Place.{Place}
use Rattle.fort_tree.specs.declared.statement.Line.{Line}
use Rattle.fort_tree.specs.declared.statement.Statement.{Statement, out-Statement}
use Rattle.fort_tree.specs.declared.statement.Token.{Token}
use Rattle.fort_tree.specs.declared.unit.File.{File}
use Rattle.fort_tokens.specs.Reads.{word_of}
use Rattle.fort_lex.specs.Lines as lex
use Rattle.fort_lex.specs.Lines.{Written, written}
use Rattle.fort_stmt.specs.Form.{IsStatement}
use Rattle.fort_stmt.specs.Sort.{sort_of}
use Rattle.fort_stmt.specs.Verdict.{NoFault, outside, syntax, limit}
use Rattle.fort_spell.specs.Pieces.{Piece, text_of}
use Rattle.fort_spell.specs.Rows.{Row}
use Rattle.fort_spell.specs.Units.{file_rows, layout_of}
use Rattle.fort_spell.specs.declared.line.Sentinel.{Sentinel}
use Rattle.fort_spell.specs.declared.line.Sentinel.TheVariants as sentinel
use Rattle.fort_units.specs.declared.item.Item.{Item}
use Rattle.fort_units.specs.declared.item.Item.TheVariants as item
use Rattle.fort_units.specs.Depth.{program_depth}
use Rattle.fort_units.specs.Faults.{limit as limit_of}
use Rattle.fort_units.specs.Program as program
use Rattle.fort_units.specs.Program.{HasLine, whole, HasLines, no_line, a_line, mode_of, IsProgram, item_of_directive}
use Rattle.fort_units.specs.Within.{IsWithin, line_file, LinesFrom, StandsAlone, NestingProgram}
use Rattle.claw_lines.specs.Forms.{IsLine, sentinel_place}
use Rattle.sound_programs.specs.Forms.{Form, Says, says}
use Rattle.sound_programs.specs.Nesting.{Nests}
use Rattle.layout_reading.specs.FormLines.{IsLineOf, HaveForms, no_form, form}
use Rattle.layout_reading.specs.Programs.{AreFile, token_line}
use Rattle.layout_reading.specs.Shown.{Shown, shown, line_of, begins_in, is_mark, sentinel_words}
use Rattle.layout_reading.specs.Tokens.{texts, piece_texts}
use Rattle.layout_reading.specs.WholeTexts.{IsTaken, IsTakenRow, IsWholeFile, AreReadAs}
use Rattle.layout_reading.proofs.Declarations.{Each}
use Rattle.layout_reading.proofs.FirstTokens.{IsHeaded, lines_headed}
use Rattle.layout_reading.proofs.OneForm.{AreBuilt, AskOnce, one_statement, Gives, gives, a_statement, a_mark}
use Rattle.layout_reading.proofs.OneProgram.{line_front, line_first, none_nests}
use Rattle.layout_reading.proofs.ProgramsRead.{line_is}
use Rattle.layout_reading.proofs.Whole.{first_shown, others_shown}

-- ---- A line

-- the line of a row
pub record IsRowLine (number : ℕ) (row : Row) (line : Line) : Type 0 where
  pub is : IsLineOf number row (token_line line)
  finished : line.unfinished ≡ None
  alone : line.within ≡ false
  headed : IsHeaded Target line

none_some : {A : Type 0} (o : Option A) → is_some o ≡ false → o ≡ None
none_some None h = refl
none_some (Some x) h = absurd (true≢false h)

row_line : (number : ℕ) (row : Row) (l : Line) → shown (written l) ≡ line_of Target row → begins_in number (map word_of l.tokens) ≡ true → IsHeaded Target l → IsRowLine number row l
row_line number row l e b h = record {
  is = line_is number row l e b;
  finished = none_some l.unfinished (ap (λ (s : Shown). s.unfinished) e);
  alone = ap (λ (s : Shown). s.within) e;
  headed = h;
}

-- tokens of a row that is taken, and that are a statement, have no fault
no_fault : (row : Row) (tokens : List Token) (s : Statement) → IsTaken row → texts tokens ≡ piece_texts row.pieces → IsStatement tokens s → NoFault Target tokens
no_fault row tokens s h e k j d m (outside {i = i} b o) = h.inside tokens e i (slice_get_within tokens i o.0 o.1) m o
no_fault row tokens s h e k j d m (syntax r n) = n s k
no_fault row tokens s h e k j d m (limit {i = i} less b (inl past)) =
    let same : length tokens ≡ length row.pieces = sym (length-map tokens (λ (t : Token). t.text)) ∙ (ap length e ∙ length-map row.pieces (λ (p : Piece). text_of p.token)) in
    let few = h.few in absurd (omega arith)
no_fault row tokens s h e k j d m (limit {i = i} less b (inr deep)) = h.shallow tokens i e deep

bare : (s : Sentinel) → is_mark s ≡ false → sentinel_words s ≡ []
bare sentinel.Absent h = refl
bare sentinel.OpenMp h = absurd (true≢false h)
bare sentinel.OpenAcc h = absurd (true≢false h)

-- what the line is judged by
record HasItems (line : Line) (g : Form) : Type 0 where
  items : List Item
  has : HasLine line items [] (g ∷ [])

module _ (built : AreBuilt) (once : AskOnce) where
  line_judged : (number : ℕ) (row : Row) (line : Line) (g : Form) → IsRowLine number row line → IsTakenRow row → Gives (token_line line) g → HasItems line g
  line_judged number row line g h t (a_statement s e r f) =
      let unmarked = sym h.is.directive ∙ e in
      let same = h.is.texts_are ∙ ap (λ ws. ws ++ piece_texts row.pieces) (bare row.margin.sentinel unmarked) in
      let sound = subst (λ m. NoFault m line.tokens) (sym h.headed.in_mode) (no_fault row line.tokens s (t unmarked) same r) in
      let is_form : says line.at s ≡ g = ap (λ p. Says p (out-Statement s)) (line_front line h.headed) ∙ sym f in
      record {
        items = _;
        has = subst (λ x. HasLine line (item.Statement line.at (sort_of s) ∷ []) [] (x ∷ [])) is_form
            (whole e (record { spelled = r; unique = λ x k. one_statement built once line.tokens x s k r }, sound, h.finished));
      }
  line_judged number row line g h t (a_mark d e r f) = record {
    items = _;
    has = subst (λ x. HasLine line (map (item_of_directive line.within) (d ∷ [])) [] (x ∷ [])) (sym f)
        (program.directs e (record { whole = h.finished; form = subst (λ p. IsLine p line.tokens (d ∷ [])) (sym (line_first line h.headed)) r }));
  }

  -- ---- All lines

  abbrev pub AreRowLines : ℕ → List Row → List Line → Type 0
  AreRowLines number [] [] = ⊤
  AreRowLines number [] (l ∷ ls) = ⊥
  AreRowLines number (row ∷ rows) [] = ⊥
  AreRowLines number (row ∷ rows) (l ∷ ls) = IsRowLine number row l × AreRowLines number rows ls

  row_lines : (number : ℕ) (rows : List Row) (lines : List Line) → map shown (map written lines) ≡ map (line_of Target) rows →
      list_all (λ (w : Written). begins_in number w.words) (map written lines) ≡ true → Each (IsHeaded Target) lines → AreRowLines number rows lines
  row_lines number [] [] e b h = tt
  row_lines number [] (l ∷ lines) e b h = absurd cc
  row_lines number (row ∷ rows) [] e b h = absurd cc
  row_lines number (row ∷ rows) (l ∷ lines) e b h =
      let parts = and_parts (begins_in number (map word_of l.tokens)) (list_all (λ (w : Written). begins_in number w.words) (map written lines)) b in
      (row_line number row l (first_shown e) parts.0 h.0, row_lines number rows lines (others_shown e) parts.1 h.1)

  record AllItems (lines : List Line) (gs : List Form) : Type 0 where
    items : List Item
    are : HasLines lines items [] gs

  lines_judged : (number : ℕ) (rows : List Row) (lines : List Line) (gs : List Form) → AreRowLines number rows lines → AllByRecursion IsTakenRow rows → HaveForms (map token_line lines) gs → AllItems lines gs
  lines_judged number [] [] gs h t no_form = record { items = []; are = no_line }
  lines_judged number [] (l ∷ lines) gs h t k = absurd h
  lines_judged number (row ∷ rows) [] gs h t k = absurd h
  lines_judged number (row ∷ rows) (l ∷ lines) gs h t (form {g = g} {gs = others} k more) =
      let a = line_judged number row l g h.0 t.0 (gives k) in
      let b = lines_judged number rows lines others h.1 t.1 more in
      record { items = a.items ++ b.items; are = a_line a.has b.are }

  all_alone : (number : ℕ) (rows : List Row) (lines : List Line) → AreRowLines number rows lines → AllByRecursion StandsAlone lines
  all_alone number [] [] h = tt
  all_alone number [] (l ∷ lines) h = absurd h
  all_alone number (row ∷ rows) [] h = absurd h
  all_alone number (row ∷ rows) (l ∷ lines) h = (λ d. h.0.alone, all_alone number rows lines h.1)

  either_same : (b : Bool) (p q : Place) (number : ℕ) → p.file ≡ number → q.file ≡ number → cond b p.file q.file ≡ number
  either_same true p q number e f = e
  either_same false p q number e f = f

  file_same : (number : ℕ) (row : Row) (line : Line) → IsRowLine number row line → line_file line ≡ number
  file_same number row line h =
      either_same line.directive (sentinel_place line) line.at number (ap (λ (p : Place). p.file) (line_first line h.headed) ∙ h.is.in_file) (ap (λ (p : Place). p.file) (line_front line h.headed) ∙ h.is.in_file)

  lines_from : (n number : ℕ) (rows : List Row) (lines : List Line) → n ≤ number → AreRowLines number rows lines → LinesFrom n lines
  lines_from n number [] [] less h = tt
  lines_from n number [] (l ∷ lines) less h = absurd h
  lines_from n number (row ∷ rows) [] less h = absurd h
  lines_from n number (row ∷ rows) (l ∷ lines) less h =
      let same = file_same number row l h.0 in (omega arith, lines_from (line_file l) number rows lines (omega arith) h.1)

  -- ---- Programs

  no_lines : {gs : List Form} {f : File} → HaveForms [] gs → Nests Target gs f → IsProgram [] f
  no_lines no_form n = record { judged = record { items = []; own = []; forms = []; are = no_line }; sound = refl; nests = none_nests Source n }

  pub lines_taken : NestingProgram → (number : ℕ) (rows : List Row) (lines : List Line) (gs : List Form) (f : File) → AreRowLines number rows lines → AllByRecursion IsTakenRow rows →
      HaveForms (map token_line lines) gs → Nests Target gs f → IsWithin Target f → IsProgram lines f
  lines_taken nest number rows [] gs f h t k n w = no_lines k n
  lines_taken nest number [] (l ∷ lines) gs f h t k n w = absurd h
  lines_taken nest number (row ∷ rows) (l ∷ lines) gs f h t k n w =
      let a = lines_judged number (row ∷ rows) (l ∷ lines) gs h t k in
      let in_mode = sym h.0.headed.in_mode in
      nest (l ∷ lines) (record { items = a.items; own = []; forms = gs; are = a.are }) f (lines_from 0 number (row ∷ rows) (l ∷ lines) (omega arith) h)
      (All-from_recursion StandsAlone (l ∷ lines) (all_alone number (row ∷ rows) (l ∷ lines) h)) refl (subst (λ m. Nests m gs f) in_mode n) (subst (λ m. IsWithin m f) in_mode w)

  -- lines of a file's rows, which have forms that nest into it
  pub file_taken : NestingProgram → (number : ℕ) (file : File) (lines : List Line) (faults : List Fault) → IsWholeFile file → lex.HasLines number Target (layout_of file) (map written lines) faults → map shown (map written lines) ≡ map (line_of Target) (file_rows file) →
      list_all (λ (w : Written). begins_in number w.words) (map written lines) ≡ true → AreFile (map token_line lines) file → AreReadAs lines file
  file_taken nest number file lines faults h k e b a =
      let rows = row_lines number (file_rows file) lines e b (lines_headed number Target (layout_of file) lines faults k) in
      let within : IsWithin Target a.read = subst (λ p. program_depth p ≤ limit_of Target) (sym a.same) h.within in
      record { read = a.read; program = lines_taken nest number (file_rows file) lines a.forms a.read rows (recursion_from_All IsTakenRow (file_rows file) h.taken) a.have a.nest within; same = a.same }
