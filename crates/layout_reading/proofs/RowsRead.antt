-- The text of rows is read as a line for each row.
use Rattle.std.proofs.Common.{◌≡◌, ℕ, zero, suc, ◌+◌, ◌<◌, ◌≤◌, Bool, true, false, ◌&&◌, nat_le, nat_lt, nat_eq, ◌==◌, List, [], ◌∷◌, ◌++◌, map, length, None, refl, sym, ap, ◌∙◌, subst, arith, append_assoc, length-append, suc-add}
use Rattle.std.proofs.lemmas.Bool.{and_parts, and_from, or_left}
use Rattle.std.proofs.lemmas.Bool.Decides.{nat_tests}
use Rattle.std.proofs.lemmas.List.{append-nil}
use Rattle.std.specs.List.{list_all}
use Rattle.std.specs.Char.{to_ascii_lowercase}
use Rattle.fort_tree.specs.declared.place.Place.{Place}
use Rattle.fort_tokens.specs.declared.character.Char.{Char}
use Rattle.fort_tree.specs.declared.choice.Mode.{Mode}
use Rattle.fort_spell.specs.declared.line.Margin.{Margin}
use Rattle.fort_spell.specs.declared.line.Sentinel.{Sentinel as RowSentinel}
use Rattle.fort_spell.specs.declared.line.Sentinel.TheVariants as spelled
use Rattle.fort_lex.specs.declared.sentinel.Sentinel.{Sentinel}
use Rattle.fort_lex.specs.declared.sentinel.Sentinel.TheVariants.{Omp, Acc}
use Rattle.fort_tokens.specs.Reads.{Word, bytes, lowered, Cut}
use Rattle.fort_spell.specs.Text.{first_margin, margin_text, sentinel_text}
use Rattle.fort_spell.specs.Pieces.{Token, Piece, text_of}
use Rattle.fort_spell.specs.Rows.{Row, lead, line, text}
use Rattle.fort_lex.specs.Rows.{word_of_sentinel, directive, rows, physical, byte_faults}
use Rattle.fort_lex.specs.Joined.{Statement, Group, group_at, statement_texts}
use Rattle.fort_lex.specs.Lines.{Written, directive_line, pieces, PieceLines, last_piece, StatementLines, no_statement, statement_first, DirectiveLines, no_directive, passed_over, directive_first, is_before, in_order}
use Rattle.layout_reading.specs.Readable.{IsToken, AreReadable}
use Rattle.layout_reading.specs.Shown.{begins_in, shown, sentinel_words, is_mark, line_of, AreRead}
use Rattle.layout_reading.proofs.Texts.{is_plain, all_append, all_under}
use Rattle.layout_reading.proofs.Cutting.{blanks, Follows, cut_blanks, cut_follows}
use Rattle.layout_reading.proofs.Laying.{broken, behind, Segment, Segments, Laid, laid_row}
use Rattle.layout_reading.proofs.Physical.{text_lines, in_line, AllInLine, lines_row, Leads, omp_leads, acc_leads, length_blanks}
use Rattle.layout_reading.proofs.Joining.{after, after_more, between, all_more, Stands, whole_statement, begun, statement_passed, front_plain}
use Rattle.layout_reading.proofs.Grouping.{head, Marked, whole_mark, no_statement_in, statement_bytes, mark_bytes}

-- TOKENS OF A TEXT

plain_lower : (b : ℕ) → is_plain b ≡ true → to_ascii_lowercase b ≡ b
plain_lower b h = grind (arith, nat_tests)

lowered_bytes : (cs : List Char) → list_all is_plain (bytes cs) ≡ true → bytes (map lowered cs) ≡ bytes cs
lowered_bytes [] h = refl
lowered_bytes (c ∷ cs) h =
    let k = and_parts (is_plain c.byte) (list_all is_plain (bytes cs)) h in
    ap (λ b. b ∷ bytes (map lowered cs)) (plain_lower c.byte k.0) ∙ ap (λ x. c.byte ∷ x) (lowered_bytes cs k.1)

lowered_places : (P : Place → Bool) (cs : List Char) → list_all (λ (c : Char). P c.at) cs ≡ true → list_all (λ (c : Char). P c.at) (map lowered cs) ≡ true
lowered_places P [] h = refl
lowered_places P (c ∷ cs) h = let k = and_parts (P c.at) (list_all (λ (c : Char). P c.at) cs) h in and_from (P c.at) (list_all (λ (c : Char). P c.at) (map lowered cs)) k.0 (lowered_places P cs k.1)

further_plain : (room : ℕ) (zs : List (List ℕ)) → Segments room zs → list_all is_plain (behind zs) ≡ true
further_plain room [] s = refl
further_plain room (z ∷ zs) s = all_append is_plain z (behind zs) s.0.plain (further_plain room zs s.1)

-- a row's tokens, with the places that its text has
pub record Tokens (f : ℕ) (chars : List Char) (tokens : List Token) (from to : ℕ) : Type 0 where
  pub first : Word
  pub others : List Word
  pub cut : Cut (map lowered chars) (first ∷ others) None
  pub texts : map (λ (word : Word). word.text) (first ∷ others) ≡ map text_of tokens
  pub stands : between f from to first.at ≡ true

tokens_at : (f : ℕ) (chars : List Char) (t : Token) (ts : List Token) (from to : ℕ) (words : List Word) → Cut (map lowered chars) words None → map (λ (word : Word). word.text) words ≡ map text_of (t ∷ ts) →
    list_all (λ (word : Word). between f from to word.at) words ≡ true → Tokens f chars (t ∷ ts) from to
tokens_at f chars t ts from to [] c e h = absurd cc
tokens_at f chars t ts from to (w ∷ ws) c e h = record {
  first = w;
  others = ws;
  cut = c;
  texts = e;
  stands = (and_parts (between f from to w.at) (list_all (λ (word : Word). between f from to word.at) ws) h).0;
}

tokens_of : (file : ℕ) (chars : List Char) (k from to room room' : ℕ) (t : Token) (ts : List Token) (here : List ℕ) (zs : List (List ℕ)) → IsToken t → Follows t (here ++ behind zs) ts →
    Segment room (text_of t ++ here) → Segments room' zs → Stands file chars (blanks k ++ (text_of t ++ here ++ behind zs)) from to → Tokens file chars (t ∷ ts) from to
tokens_of file chars k from to room room' t ts here zs h f s ss st =
    let plain : list_all is_plain (bytes chars) ≡ true =
    ap (list_all is_plain) st.spell ∙ front_plain k (text_of t ++ here ++ behind zs) (all_append is_plain (text_of t ++ here) (behind zs) s.plain (further_plain room' zs ss)) in
    let spell : bytes (map lowered chars) ≡ blanks k ++ (text_of t ++ (here ++ behind zs)) =
    lowered_bytes chars plain ∙ st.spell ∙ ap (λ w. blanks k ++ w) (append_assoc (text_of t) here (behind zs)) in
    let c = cut_blanks k (map lowered chars) (text_of t ++ (here ++ behind zs)) (t ∷ ts) spell (λ ds e. cut_follows t (here ++ behind zs) ts f h ds e) in
    tokens_at file chars t ts from to c.words c.cut c.texts (c.places (between file from to) (lowered_places (between file from to) chars st.lines))

-- SEMICOLONS

no_semicolon : (b : ℕ) → is_plain b ≡ true → (b == 59) ≡ false
no_semicolon b h = grind (arith, nat_tests)

one_piece : (front cs : List Char) → list_all is_plain (bytes cs) ≡ true → pieces front cs ≡ (front ++ cs) ∷ []
one_piece front [] h = ap (λ x. x ∷ []) (sym (append-nil front))
one_piece front (c ∷ cs) h =
    let k = and_parts (is_plain c.byte) (list_all is_plain (bytes cs)) h in
    rw (no_semicolon c.byte k.0) (one_piece (front ++ c ∷ []) cs k.1 ∙ ap (λ x. x ∷ []) (append_assoc front (c ∷ []) cs))

-- ORDER

abbrev since : ℕ → List Written → Bool
since n = list_all (λ (w : Written). nat_le n w.at.line)

since_more : (n m : ℕ) (ws : List Written) → n ≤ m → since m ws ≡ true → since n ws ≡ true
since_more n m ws k h = all_more (λ (w : Written). nat_le m w.at.line) (λ (w : Written). nat_le n w.at.line) (λ w g. grind (arith, nat_tests, k, g)) ws h

earlier : (p q : Place) (m : ℕ) → p.line < m → m ≤ q.line → is_before p q ≡ true
earlier p q m h k = or_left (nat_lt p.line q.line) _ (grind (arith, nat_tests))

not_earlier : (p q : Place) (m : ℕ) → q.line < m → m ≤ p.line → is_before p q ≡ false
not_earlier p q m h k =
    let a : nat_lt p.line q.line ≡ false = grind (arith, nat_tests) in
    let b : (p.line == q.line) ≡ false = grind (arith, nat_tests) in rw (a, b) refl

pub directive_before : (d : Written) (m : ℕ) (ss ds : List Written) → d.at.line < m → since m ss ≡ true → in_order ss (d ∷ ds) ≡ d ∷ in_order ss ds
directive_before d m [] ds h k = refl
directive_before d m (s ∷ ss) ds h k =
    let g = and_parts (nat_le m s.at.line) (since m ss) k in
    rw (earlier d.at s.at m h (grind (arith, nat_tests, g.0))) refl

pub statement_before : (s : Written) (m : ℕ) (ss ds : List Written) → s.at.line < m → since m ds ≡ true → in_order (s ∷ ss) ds ≡ s ∷ in_order ss ds
statement_before s m ss [] h k = refl
statement_before s m ss (d ∷ ds) h k =
    let g = and_parts (nat_le m d.at.line) (since m ds) k in
    rw (not_earlier d.at s.at m h (grind (arith, nat_tests, g.0))) refl

-- WHAT STANDS BEFORE

-- the lines of the text of rows that begins in line n
pub record ReadFrom (f : ℕ) (mode : Mode) (n : ℕ) (ls : List (List ℕ)) (rs : List Row) : Type 0 where
  pub statements : List Written
  pub directives : List Written
  pub lines : List Written
  pub are_statements : StatementLines mode (statement_texts (rows f n ls)) statements []
  pub are_directives : DirectiveLines mode None (rows f n ls) directives []
  pub right : byte_faults f n ls ≡ []
  pub order : in_order statements directives ≡ lines
  pub are_rows : map shown lines ≡ map (line_of mode) rs
  pub statements_since : since n statements ≡ true
  pub directives_since : since n directives ≡ true
  pub in_file : list_all (λ (w : Written). begins_in f w.words) lines ≡ true

read_end : (f : ℕ) (mode : Mode) (n : ℕ) → ReadFrom f mode n ([] ∷ []) []
read_end f mode n = record {
  statements = [];
  directives = [];
  lines = [];
  are_statements = statement_first (last_piece Cut.end) no_statement;
  are_directives = passed_over no_directive;
  right = refl;
  order = refl;
  are_rows = refl;
  statements_since = refl;
  directives_since = refl;
  in_file = refl;
}

-- A STATEMENT'S ROW

statement_at_first : (mode : Mode) (ts : List (List Char)) (chars : List Char) (rest : List (List Char)) (xs ys : List Written) → 0 < length chars → begun ts ≡ record { text = chars; mark = None; rest = rest } →
    PieceLines mode None (pieces [] chars) xs [] → StatementLines mode rest ys [] → StatementLines mode ts (xs ++ ys) []
statement_at_first mode [] chars rest xs ys k e p s = absurd (omega (arith, k, ap (λ (q : Statement). length q.text) e))
statement_at_first mode (l ∷ ls) chars rest xs ys k e p s =
    statement_first (subst (λ (q : Statement). PieceLines mode q.mark (pieces [] q.text) xs []) (sym e) p) (subst (λ (q : Statement). StatementLines mode q.rest ys []) (sym e) s)

map-map : (ps : List Piece) → map text_of (map (λ (p : Piece). p.token) ps) ≡ map (λ (p : Piece). text_of p.token) ps
map-map [] = refl
map-map (p ∷ ps) = ap (λ x. text_of p.token ∷ x) (map-map ps)

-- the line of a statement
abbrev statement_written : (mode : Mode) → Word → List Word → Written
statement_written mode w ws = record { at = w.at; mode = mode; directive = false; unfinished = None; within = false; words = w ∷ ws }

same_cons : {A : Type 0} {x y : A} {xs ys : List A} → x ≡ y → xs ≡ ys → x ∷ xs ≡ y ∷ ys
same_cons e g = cc

line_ends : (f n m : ℕ) (w : Written) (ws : List Written) → between f n m w.at ≡ true → n < m → since m ws ≡ true → since n (w ∷ ws) ≡ true
line_ends f n m w ws h k g = and_from (nat_le n w.at.line) (since n ws) (and_parts (nat_le n w.at.line) (nat_lt w.at.line m) (and_parts (nat_eq w.at.file f) (nat_le n w.at.line && nat_lt w.at.line m) h).1).0 (since_more n m ws (omega (arith, k)) g)

read_statement : (f : ℕ) (mode : Mode) (n m : ℕ) (ls ms : List (List ℕ)) (row : Row) (rs : List Row) (chars : List Char) (tokens : List Token) → n < m → 0 < length chars → row.margin.sentinel ≡ spelled.Absent →
    map (λ (p : Piece). p.token) row.pieces ≡ tokens →
    begun (statement_texts (rows f n ls)) ≡ record { text = chars; mark = None; rest = statement_texts (rows f m ms) } → pieces [] chars ≡ chars ∷ [] → Tokens f chars tokens n m →
    ((ys : List Written) → DirectiveLines mode None (rows f m ms) ys [] → DirectiveLines mode None (rows f n ls) ys []) → byte_faults f n ls ≡ byte_faults f m ms →
    ReadFrom f mode m ms rs → ReadFrom f mode n ls (row ∷ rs)
read_statement f mode n m ls ms row rs chars tokens k some absent ts b one t pass right r =
    let w : Written = statement_written mode t.first t.others in
    let p : PieceLines mode None (chars ∷ []) (w ∷ []) [] = last_piece t.cut in
    let before : w.at.line < m = grind (arith, nat_tests, (and_parts (nat_le n w.at.line) (nat_lt w.at.line m) (and_parts (nat_eq w.at.file f) (nat_le n w.at.line && nat_lt w.at.line m) t.stands).1).1) in
    let texts : map (λ (word : Word). word.text) (t.first ∷ t.others) ≡ map (λ (p : Piece). text_of p.token) row.pieces = t.texts ∙ ap (map text_of) (sym ts) ∙ map-map row.pieces in
    let seen : shown w ≡ line_of mode row =
    ap (λ x. record { mode = mode; directive = false; unfinished = false; within = false; texts = x }) texts
    ∙ ap (λ s. record { mode = mode; directive = is_mark s; unfinished = false; within = false; texts = sentinel_words s ++ map (λ (p : Piece). text_of p.token) row.pieces }) (sym absent) in
    record {
      statements = w ∷ r.statements;
      directives = r.directives;
      lines = w ∷ r.lines;
      are_statements = statement_at_first mode (statement_texts (rows f n ls)) chars (statement_texts (rows f m ms)) (w ∷ []) r.statements some b (subst (λ x. PieceLines mode None x (w ∷ []) []) (sym one) p) r.are_statements;
      are_directives = pass r.directives r.are_directives;
      right = right ∙ r.right;
      order = statement_before w m r.statements r.directives before r.directives_since ∙ ap (λ x. w ∷ x) r.order;
      are_rows = same_cons seen r.are_rows;
      statements_since = line_ends f n m w r.statements t.stands k r.statements_since;
      directives_since = since_more n m r.directives (omega (arith, k)) r.directives_since;
      in_file = and_from (nat_eq w.at.file f) (list_all (λ (w : Written). begins_in f w.words) r.lines) (and_parts (nat_eq w.at.file f) (nat_le n w.at.line && nat_lt w.at.line m) t.stands).0 r.in_file;
    }

-- A MARK'S ROW

-- the sentinel of a row as it is read
pub record Marks (s : RowSentinel) (l : Sentinel) : Type 0 where
  pub text : sentinel_text s ≡ word_of_sentinel l ++ 32 ∷ []
  pub words : sentinel_words s ≡ word_of_sentinel l ∷ []
  pub is : is_mark s ≡ true
  pub leads : Leads l

abbrev mark_written : (mode : Mode) → Sentinel → Place → List Word → Written
mark_written mode l at words = directive_line mode l at words None false

read_mark : (f : ℕ) (mode : Mode) (n m : ℕ) (ls ms : List (List ℕ)) (row : Row) (rs : List Row) (l : Sentinel) (tokens : List Token) (bs : List ℕ) → n < m → Marks row.margin.sentinel l →
    map (λ (p : Piece). p.token) row.pieces ≡ tokens → (g : Marked f (rows f n ls) (rows f m ms) l bs n m) → Tokens f g.chars tokens n m →
    statement_texts (rows f n ls) ≡ statement_texts (rows f m ms) → byte_faults f n ls ≡ byte_faults f m ms →
    ReadFrom f mode m ms rs → ReadFrom f mode n ls (row ∷ rs)
read_mark f mode n m ls ms row rs l tokens bs k s ts g t none right r =
    let w : Written = mark_written mode l g.at (t.first ∷ t.others) in
    let before : w.at.line < m = omega (arith, k, g.stands_at) in
    let here : between f n m g.at ≡ true = and_from (nat_eq g.at.file f) (nat_le n g.at.line && nat_lt g.at.line m) (grind (arith, nat_tests, g.in_file)) (and_from (nat_le n g.at.line) (nat_lt g.at.line m) (grind (arith, nat_tests, g.stands_at)) (grind (arith, nat_tests, g.stands_at, k))) in
    let texts : map (λ (word : Word). word.text) (t.first ∷ t.others) ≡ map (λ (p : Piece). text_of p.token) row.pieces = t.texts ∙ ap (map text_of) (sym ts) ∙ map-map row.pieces in
    let seen : shown w ≡ line_of mode row =
    ap (λ x. record { mode = mode; directive = true; unfinished = false; within = false; texts = word_of_sentinel l ∷ x }) texts
    ∙ ap (λ x. record { mode = mode; directive = true; unfinished = false; within = false; texts = x ++ map (λ (p : Piece). text_of p.token) row.pieces }) (sym s.words)
    ∙ ap (λ b. record { mode = mode; directive = b; unfinished = false; within = false; texts = sentinel_words row.margin.sentinel ++ map (λ (p : Piece). text_of p.token) row.pieces }) (sym s.is) in
    let cut : Cut (map lowered (group_at l g.line g.others).text) (t.first ∷ t.others) None = subst (λ (q : Group). Cut (map lowered q.text) (t.first ∷ t.others) None) (sym g.group) t.cut in
    let rest : DirectiveLines mode None (group_at l g.line g.others).rest r.directives [] = subst (λ (q : Group). DirectiveLines mode None q.rest r.directives []) (sym g.group) r.are_directives in
    let d : DirectiveLines mode None (directive l g.at g.line ∷ g.others) (directive_line mode l g.at (t.first ∷ t.others) (group_at l g.line g.others).mark false ∷ r.directives) [] = directive_first cut rest in
    let d' : DirectiveLines mode None (rows f n ls) (w ∷ r.directives) [] =
    subst (λ (q : Group). DirectiveLines mode None (rows f n ls) (directive_line mode l g.at (t.first ∷ t.others) q.mark false ∷ r.directives) []) g.group
    (subst (λ x. DirectiveLines mode None x (directive_line mode l g.at (t.first ∷ t.others) (group_at l g.line g.others).mark false ∷ r.directives) []) (sym g.is) d) in
    record {
      statements = r.statements;
      directives = w ∷ r.directives;
      lines = w ∷ r.lines;
      are_statements = subst (λ x. StatementLines mode x r.statements []) (sym none) r.are_statements;
      are_directives = d';
      right = right ∙ r.right;
      order = directive_before w m r.statements r.directives before r.statements_since ∙ ap (λ x. w ∷ x) r.order;
      are_rows = same_cons seen r.are_rows;
      statements_since = since_more n m r.statements (omega (arith, k)) r.statements_since;
      directives_since = line_ends f n m w r.directives here k r.directives_since;
      in_file = and_from (nat_eq w.at.file f) (list_all (λ (w : Written). begins_in f w.words) r.lines) (grind (arith, nat_tests, g.in_file)) r.in_file;
    }

-- ROWS

row_lines : (row : Row) (d : Laid row) (first more : List ℕ) (rest : List ℕ) → first_margin row.margin ++ lead d.spaced ≡ first → margin_text row.margin ≡ more → list_all in_line first ≡ true → list_all in_line more ≡ true →
    physical (line row ++ rest) ≡ text_lines first more (text_of d.token ++ d.here) d.further ++ physical rest
row_lines row d first more rest e g h k =
    let m : Margin = row.margin in
    let x : List ℕ = text_of d.token ++ d.here in
    let b : List ℕ = broken m x d.further in
    ap (λ w. physical (w ++ rest)) (d.is ∙ sym (append_assoc (first_margin m) (lead d.spaced) b) ∙ ap (λ w. w ++ b) e)
    ∙ lines_row m first x d.further rest h (ap (list_all in_line) g ∙ k) (all_under is_plain in_line plain_in_line x d.first.plain) (further_in_line (length (margin_text m)) d.further d.segments)
    ∙ ap (λ w. text_lines first w x d.further ++ physical rest) g
  where
    plain_in_line : (b : ℕ) → is_plain b ≡ true → in_line b ≡ true
    plain_in_line b h = grind (arith, nat_tests)

    further_in_line : (room : ℕ) (zs : List (List ℕ)) → Segments room zs → AllInLine zs
    further_in_line room [] s = tt
    further_in_line room (z ∷ zs) s = (all_under is_plain in_line plain_in_line z s.0.plain, further_in_line room zs s.1)

blanks_in_line : (k : ℕ) → list_all in_line (blanks k) ≡ true
blanks_in_line zero = refl
blanks_in_line (suc k) = blanks_in_line k

blanks_lead : (k : ℕ) (s : Bool) → blanks k ++ lead s ≡ blanks (k + length (lead s))
blanks_lead zero true = refl
blanks_lead zero false = refl
blanks_lead (suc k) s = ap (λ w. 32 ∷ w) (blanks_lead k s) ∙ ap blanks (sym (suc-add k (length (lead s))))

some_chars : (f : ℕ) (chars : List Char) (text : List ℕ) (from to : ℕ) → Stands f chars text from to → 0 < length text → 0 < length chars
some_chars f chars text from to st h = omega (arith, h, sym (same chars) ∙ ap length st.spell)
  where
    same : (cs : List Char) → length (bytes cs) ≡ length cs
    same [] = refl
    same (c ∷ cs) = ap suc (same cs)

some_text : (k room : ℕ) (x y : List ℕ) → Segment room x → 0 < length (blanks k ++ (x ++ y))
some_text k room x y s =
    let e : length x ≡ suc (length s.others) = ap length s.is in
    rw (length-append (blanks k) (x ++ y), length-append x y) (omega (arith, e))

plain_chars : (f : ℕ) (chars : List Char) (k room room' from to : ℕ) (x : List ℕ) (zs : List (List ℕ)) → Segment room x → Segments room' zs → Stands f chars (blanks k ++ (x ++ behind zs)) from to → list_all is_plain (bytes chars) ≡ true
plain_chars f chars k room room' from to x zs s ss st = ap (list_all is_plain) st.spell ∙ front_plain k (x ++ behind zs) (all_append is_plain x (behind zs) s.plain (further_plain room' zs ss))

statement_step : (f : ℕ) (mode : Mode) (n : ℕ) (row : Row) (rs : List Row) (d : Laid row) → row.margin.sentinel ≡ spelled.Absent →
    ((m : ℕ) → ReadFrom f mode m (physical (text rs)) rs) → ReadFrom f mode n (physical (line row ++ text rs)) (row ∷ rs)
statement_step f mode n row rs d absent go =
    let k : ℕ = row.margin.indent + length (lead d.spaced) in
    let k' : ℕ = row.margin.indent + 4 in
    let x : List ℕ = text_of d.token ++ d.here in
    let ms : List (List ℕ) = physical (text rs) in
    let ls : List (List ℕ) = text_lines (blanks k) (blanks k') x d.further ++ ms in
    let none : sentinel_text row.margin.sentinel ≡ [] = ap sentinel_text absent in
    let first : first_margin row.margin ++ lead d.spaced ≡ blanks k =
    ap (λ w. (blanks row.margin.indent ++ w) ++ lead d.spaced) none ∙ ap (λ w. w ++ lead d.spaced) (append-nil (blanks row.margin.indent)) ∙ blanks_lead row.margin.indent d.spaced in
    let more : margin_text row.margin ≡ blanks k' = ap (λ w. blanks k' ++ w) none ∙ append-nil (blanks k') in
    let is : physical (line row ++ text rs) ≡ ls = row_lines row d (blanks k) (blanks k') (text rs) first more (blanks_in_line k) (blanks_in_line k') in
    let room : ℕ = length (first_margin row.margin) + length (lead d.spaced) in
    let room' : ℕ = length (margin_text row.margin) in
    let m : ℕ = after n d.further in
    let w = whole_statement f n k k' room room' x d.further ms d.first d.segments in
    let wide : k ≤ room = omega (arith, sym (length_blanks k) ∙ ap length (sym first) ∙ length-append (first_margin row.margin) (lead d.spaced)) in
    let wide' : k' ≤ room' = omega (arith, sym (length_blanks k') ∙ ap length (sym more)) in
    subst (λ l. ReadFrom f mode n l (row ∷ rs)) (sym is)
    (read_statement f mode n m ls ms row rs w.chars (d.token ∷ d.others) (after_more n d.further) (some_chars f w.chars _ n m w.stands (some_text k room x (behind d.further) d.first)) absent d.tokens w.is
    (one_piece [] w.chars (plain_chars f w.chars k room room' n m x d.further d.first d.segments w.stands))
    (tokens_of f w.chars k n m room room' d.token d.others d.here d.further d.known d.follows d.first d.segments w.stands)
    (λ ys h. statement_passed f n k k' room room' x d.further ms d.first d.segments h)
    (statement_bytes f n k k' room room' x d.further ms wide wide' d.first d.segments) (go m))

head_in_line : (l : Sentinel) (k j : ℕ) → Leads l → list_all in_line (head l k j) ≡ true
head_in_line l k j m = all_append in_line (blanks k) (word_of_sentinel l ++ blanks (suc j)) (blanks_in_line k) (all_append in_line (word_of_sentinel l) (blanks (suc j)) m.within (blanks_in_line (suc j)))

lead_blanks : (s : Bool) → 32 ∷ lead s ≡ blanks (suc (length (lead s)))
lead_blanks true = refl
lead_blanks false = refl

mark_step : (f : ℕ) (mode : Mode) (n : ℕ) (row : Row) (rs : List Row) (d : Laid row) (l : Sentinel) → Marks row.margin.sentinel l →
    ((m : ℕ) → ReadFrom f mode m (physical (text rs)) rs) → ReadFrom f mode n (physical (line row ++ text rs)) (row ∷ rs)
mark_step f mode n row rs d l s go =
    let k : ℕ = row.margin.indent in
    let k' : ℕ = row.margin.indent + 4 in
    let j : ℕ = length (lead d.spaced) in
    let x : List ℕ = text_of d.token ++ d.here in
    let ms : List (List ℕ) = physical (text rs) in
    let ls : List (List ℕ) = text_lines (head l k j) (head l k' 0) x d.further ++ ms in
    let first : first_margin row.margin ++ lead d.spaced ≡ head l k j =
    ap (λ w. (blanks k ++ w) ++ lead d.spaced) s.text ∙ append_assoc (blanks k) (word_of_sentinel l ++ 32 ∷ []) (lead d.spaced)
    ∙ ap (λ w. blanks k ++ w) (append_assoc (word_of_sentinel l) (32 ∷ []) (lead d.spaced)) ∙ ap (λ w. blanks k ++ (word_of_sentinel l ++ w)) (lead_blanks d.spaced) in
    let more : margin_text row.margin ≡ head l k' 0 = ap (λ w. blanks k' ++ w) s.text in
    let is : physical (line row ++ text rs) ≡ ls = row_lines row d (head l k j) (head l k' 0) (text rs) first more (head_in_line l k j s.leads) (head_in_line l k' 0 s.leads) in
    let room : ℕ = length (first_margin row.margin) + length (lead d.spaced) in
    let room' : ℕ = length (margin_text row.margin) in
    let m : ℕ = after n d.further in
    let g = whole_mark f n l k j k' 0 room room' x d.further ms s.leads d.first d.segments in
    let wide : length (head l k j) ≤ room = omega (arith, ap length (sym first) ∙ length-append (first_margin row.margin) (lead d.spaced)) in
    let wide' : length (head l k' 0) ≤ room' = omega (arith, ap length (sym more)) in
    subst (λ l. ReadFrom f mode n l (row ∷ rs)) (sym is)
    (read_mark f mode n m ls ms row rs l (d.token ∷ d.others) _ (after_more n d.further) s d.tokens g
    (tokens_of f g.chars (suc j) n m room room' d.token d.others d.here d.further d.known d.follows d.first d.segments g.stands)
    (no_statement_in f n l k j k' 0 room room' x d.further ms s.leads d.first d.segments)
    (mark_bytes f n l k j k' 0 room room' x d.further ms s.leads wide wide' d.first d.segments) (go m))

row_step : (f : ℕ) (mode : Mode) (n : ℕ) (row : Row) (rs : List Row) (d : Laid row) (s : RowSentinel) → row.margin.sentinel ≡ s →
    ((m : ℕ) → ReadFrom f mode m (physical (text rs)) rs) → ReadFrom f mode n (physical (line row ++ text rs)) (row ∷ rs)
row_step f mode n row rs d spelled.Absent e go = statement_step f mode n row rs d e go
row_step f mode n row rs d spelled.OpenMp e go = mark_step f mode n row rs d Omp (subst (λ s. Marks s Omp) (sym e) (record { text = refl; words = refl; is = refl; leads = omp_leads })) go
row_step f mode n row rs d spelled.OpenAcc e go = mark_step f mode n row rs d Acc (subst (λ s. Marks s Acc) (sym e) (record { text = refl; words = refl; is = refl; leads = acc_leads })) go

read_rows : (f : ℕ) (mode : Mode) (n : ℕ) (rs : List Row) → AreReadable rs → ReadFrom f mode n (physical (text rs)) rs
read_rows f mode n [] h = read_end f mode n
read_rows f mode n (row ∷ rs) h = row_step f mode n row rs (laid_row row h.0) row.margin.sentinel refl (λ m. read_rows f mode m rs h.1)

-- THE TEXT OF ROWS IS READ AS THE ROWS.
pub rows_read : (file : ℕ) (mode : Mode) (rs : List Row) → AreReadable rs → AreRead file mode rs
rows_read file mode rs h =
    let r = read_rows file mode 1 rs h in
    record {
      lines = r.lines;
      are_lines = record {
        statements = r.statements;
        directives = r.directives;
        of_statements = [];
        of_directives = [];
        are_statements = r.are_statements;
        are_directives = r.are_directives;
        are_lines = sym r.order;
        are_faults = ap (λ x. x ++ [] ++ []) (sym r.right);
      };
      are_rows = r.are_rows;
      in_file = r.in_file;
    }
