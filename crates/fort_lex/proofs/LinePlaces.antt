-- All places of a text's lines and faults are in the text.
use Rattle.std.proofs.Common.{◌≡◌, ℕ, zero, suc, ◌+◌, Bool, true, false, cond, ◌&&◌, not, List, [], ◌∷◌, ◌++◌, map, length, drop, position, unwrap_or, Option, None, Some, refl, sym, subst}
use Rattle.std.specs.Prelude.{IfSome, nat_lt}
use Rattle.std.specs.List.{All}
use Rattle.std.proofs.lemmas.List.Elements.{All-nil, All-cons}
use Rattle.fort_tree.specs.declared.fault.Code.TheVariants.{E01, E02}
use Rattle.fort_tree.specs.declared.fault.Fault.{Fault}
use Rattle.fort_tree.specs.declared.place.Place.{Place}
use Rattle.fort_tree.specs.declared.choice.Mode.{Mode}
use Rattle.fort_tree.specs.declared.statement.Line.{Line}
use Rattle.fort_tree.specs.declared.statement.Token.{Token}
use Rattle.fort_tokens.specs.declared.character.Char.{Char}
use Rattle.fort_tokens.specs.Reads.{Word, Cut, end, blank, token, broken, none as misread, Reads, lowered, word_of}
use Rattle.fort_lex.specs.declared.sentinel.Sentinel.{Sentinel}
use Rattle.fort_lex.specs.Rows.{Row, statement, directive, row_as, rows, physical, placed, place, sentinel_of, indent, start, code, is_bad, fault, bad_bytes, too_long, byte_faults}
use Rattle.fort_lex.specs.Joined.{Part, Statement, Group, is_mark, is_blank, all_blank, mark_off, blank_at, without_blanks, continuing_at, continuing, next_part, joined, statement_at, same, grouped, group_at, statement_texts}
use Rattle.fort_lex.specs.Lines.{Written, written, statement_line, bad_token, is_semicolon, is_before, pieces, PieceLines, last_piece, piece, StatementLines, no_statement, statement_first, DirectiveLines, no_directive, passed_over, directive_first, lines_before, lines_behind, in_order, HasLines, IsFirstTextFault}
use Rattle.fort_lex.specs.Places.{InFile, StandsIn}

-- ---- lists

data Each (A : Type 0) (P : A → Type 0) : List A → Type 0 where
  nil : Each A P []
  cons : {x : A} {xs : List A} → P x → Each A P xs → Each A P (x ∷ xs)

join : {A : Type 0} {P : A → Type 0} {xs ys : List A} → Each A P xs → Each A P ys → Each A P (xs ++ ys)
join nil k = k
join (cons p h) k = cons p (join h k)

behind : {A : Type 0} {P : A → Type 0} (xs ys : List A) → Each A P (xs ++ ys) → Each A P ys
behind [] ys h = h
behind (x ∷ xs) ys (cons p h) = behind xs ys h

either : {A : Type 0} {P : A → Type 0} (b : Bool) (xs ys : List A) → Each A P xs → Each A P ys → Each A P (cond b xs ys)
either true xs ys h k = h
either false xs ys h k = k

dropped : {A : Type 0} {P : A → Type 0} (n : ℕ) (xs : List A) → Each A P xs → Each A P (drop n xs)
dropped zero xs h = h
dropped (suc n) [] h = nil
dropped (suc n) (x ∷ xs) (cons p h) = dropped n xs h

all : {A : Type 0} {P : A → Type 0} (xs : List A) → Each A P xs → All P xs
all {A = A} {P = P} [] h = All-nil P
all {A = A} {P = P} (x ∷ xs) (cons p h) = All-cons P x xs p (all xs h)

front-of : {A : Type 0} {P : A → Type 0} (front : List A) (x : A) (back : List A) → Each A P (front ++ x ∷ back) → P x
front-of [] x back (cons p h) = p
front-of (y ∷ front) x back (cons p h) = front-of front x back h

-- ---- what is in a text

abbrev CharsIn : ℕ → List Char → Type 0
CharsIn f cs = Each Char (λ c. c.at.file ≡ f) cs

abbrev TextsIn : ℕ → List (List Char) → Type 0
TextsIn f ls = Each (List Char) (CharsIn f) ls

abbrev MarkIn : ℕ → Option Place → Type 0
MarkIn f mark = IfSome mark (InFile f)

abbrev WordsIn : ℕ → List Word → Type 0
WordsIn f ws = Each Word (λ w. w.at.file ≡ f) ws

record WrittenIn (f : ℕ) (line : Written) : Type 0 where
  at : line.at.file ≡ f
  unfinished : MarkIn f line.unfinished
  words : WordsIn f line.words

abbrev LinesIn : ℕ → List Written → Type 0
LinesIn f ls = Each Written (WrittenIn f) ls

abbrev FaultsIn : ℕ → List Fault → Type 0
FaultsIn f fs = Each Fault (λ g. g.place.file ≡ f) fs

-- ---- tokens

record ReadIn (f : ℕ) (ws : List Word) (b : Option Place) : Type 0 where
  words : WordsIn f ws
  bad : MarkIn f b

cut-in : (f : ℕ) {cs : List Char} {ws : List Word} {b : Option Place} → CharsIn f cs → Cut cs ws b → ReadIn f ws b
cut-in f h end = record { words = nil; bad = tt }
cut-in f (cons p h) (blank first e rest) = cut-in f h rest
cut-in f (cons p h) (token {rest = rest} first others e g cut) = let more = cut-in f (behind others rest h) cut in record { words = cons p more.words; bad = more.bad }
cut-in f (cons p h) (broken first others e g) = record { words = nil; bad = p }
cut-in f (cons p h) (misread first e g) = record { words = nil; bad = p }

lowered-in : (f : ℕ) (cs : List Char) → CharsIn f cs → CharsIn f (map lowered cs)
lowered-in f [] h = nil
lowered-in f (c ∷ cs) (cons p h) = cons p (lowered-in f cs h)

reads-in : (f : ℕ) (cs : List Char) {ws : List Word} {b : Option Place} → CharsIn f cs → Reads cs ws b → ReadIn f ws b
reads-in f cs h r = cut-in f (lowered-in f cs h) r

bad-in : (f : ℕ) (b : Option Place) → MarkIn f b → FaultsIn f (bad_token b)
bad-in f None h = nil
bad-in f (Some at) h = cons h nil

-- ---- continued lines

record PartIn (f : ℕ) (p : Part) : Type 0 where
  text : CharsIn f p.text
  mark : MarkIn f p.mark

part-either : (f : ℕ) (b : Bool) (p q : Part) → PartIn f p → PartIn f q → PartIn f (cond b p q)
part-either f true p q h k = h
part-either f false p q h k = k

mark_off-in : (f : ℕ) (line : List Char) → CharsIn f line → PartIn f (mark_off line)
mark_off-in f [] h = record { text = nil; mark = tt }
mark_off-in f (c ∷ line) (cons p h) =
    let more = mark_off-in f line h in
    part-either f (is_mark c && all_blank line) (record { text = []; mark = Some c.at }) (record { text = c ∷ (mark_off line).text; mark = (mark_off line).mark })
    (record { text = nil; mark = p }) (record { text = cons p more.text; mark = more.mark })

continuing_at-in : (f : ℕ) (line : List Char) → CharsIn f line → CharsIn f (continuing_at line)
continuing_at-in f [] h = nil
continuing_at-in f (c ∷ line) (cons p h) =
    either (is_mark c) (cond (all_blank line) (c ∷ []) line) (blank_at c.at ∷ c ∷ line) (either (all_blank line) (c ∷ []) line (cons p nil) h) (cons p (cons p h))

continuing-in : (f : ℕ) (line : List Char) → CharsIn f line → CharsIn f (continuing line)
continuing-in f line h = continuing_at-in f (without_blanks line) (dropped (unwrap_or (position (λ c. not (is_blank c)) line) (length line)) line h)

next_part-in : (f : ℕ) (at : Place) (line : List Char) → at.file ≡ f → CharsIn f line → PartIn f (next_part at line)
next_part-in f at line k h =
    part-either f (all_blank line) (record { text = []; mark = Some at }) (mark_off (continuing line)) (record { text = nil; mark = k }) (mark_off-in f (continuing line) (continuing-in f line h))

record StatementIn (f : ℕ) (s : Statement) : Type 0 where
  text : CharsIn f s.text
  mark : MarkIn f s.mark
  rest : TextsIn f s.rest

joined-in : (f : ℕ) (text : List Char) (mark : Option Place) (lines : List (List Char)) → CharsIn f text → MarkIn f mark → TextsIn f lines → StatementIn f (joined text mark lines)
joined-in f text None lines h k ls = record { text = h; mark = tt; rest = ls }
joined-in f text (Some at) [] h k ls = record { text = h; mark = k; rest = nil }
joined-in f text (Some at) (line ∷ lines) h k (cons l ls) =
    let next = next_part-in f at line k l in joined-in f (text ++ (next_part at line).text) (next_part at line).mark lines (join h next.text) next.mark ls

-- ---- statements

pieces-in : (f : ℕ) (front text : List Char) → CharsIn f front → CharsIn f text → TextsIn f (pieces front text)
pieces-in f front [] h k = cons h nil
pieces-in f front (c ∷ text) h (cons p k) =
    either (is_semicolon c) (front ∷ pieces [] text) (pieces (front ++ c ∷ []) text) (cons h (pieces-in f [] text nil k)) (pieces-in f (front ++ c ∷ []) text (join h (cons p nil)) k)

statement_line-in : (f : ℕ) (mode : Mode) (ws : List Word) (mark : Option Place) → WordsIn f ws → MarkIn f mark → LinesIn f (statement_line mode ws mark)
statement_line-in f mode [] mark h k = nil
statement_line-in f mode (w ∷ ws) mark (cons p h) k = cons (record { at = p; unfinished = k; words = cons p h }) nil

record LinesAndFaults (f : ℕ) (xs : List Written) (fs : List Fault) : Type 0 where
  lines : LinesIn f xs
  faults : FaultsIn f fs

piece-lines-in : (f : ℕ) {mode : Mode} {mark : Option Place} {ps : List (List Char)} {xs : List Written} {fs : List Fault} → MarkIn f mark → TextsIn f ps →
    PieceLines mode mark ps xs fs → LinesAndFaults f xs fs
piece-lines-in f k nil p = elim p [ ]
piece-lines-in f {mode = mode} {mark = mark} k (cons p nil) (last_piece {piece = text} {words = ws} {bad = b} r) =
    let one = reads-in f text p r in record { lines = statement_line-in f mode ws mark one.words k; faults = bad-in f b one.bad }
piece-lines-in f {mode = mode} k (cons p ps) (piece {first = text} {words = ws} {bad = b} r rest) =
    let one = reads-in f text p r in
    let more = piece-lines-in f k ps rest in
    record { lines = join (statement_line-in f mode ws None one.words tt) more.lines; faults = join (bad-in f b one.bad) more.faults }

statement-lines-in : (f : ℕ) {mode : Mode} {ls : List (List Char)} {xs : List Written} {fs : List Fault} → TextsIn f ls → StatementLines mode ls xs fs → LinesAndFaults f xs fs
statement-lines-in f h no_statement = record { lines = nil; faults = nil }
statement-lines-in f (cons l ls) (statement_first {line = line} {lines = lines} p rest) =
    let part = mark_off-in f line l in
    let at = joined-in f (mark_off line).text (mark_off line).mark lines part.text part.mark ls in
    let here = piece-lines-in f at.mark (pieces-in f [] (statement_at line lines).text nil at.text) p in
    let more = statement-lines-in f at.rest rest in
    record { lines = join here.lines more.lines; faults = join here.faults more.faults }

-- ---- directive and mark lines

RowIn : ℕ → Row → Type 0
RowIn f (statement line) = CharsIn f line
RowIn f (directive s at line) = (at.file ≡ f) × CharsIn f line

abbrev RowsIn : ℕ → List Row → Type 0
RowsIn f rs = Each Row (RowIn f) rs

record GroupIn (f : ℕ) (g : Group) : Type 0 where
  text : CharsIn f g.text
  mark : MarkIn f g.mark
  rest : RowsIn f g.rest

group-either : (f : ℕ) (b : Bool) (g h : Group) → GroupIn f g → GroupIn f h → GroupIn f (cond b g h)
group-either f true g h p q = p
group-either f false g h p q = q

grouped-in : (f : ℕ) (s : Sentinel) (text : List Char) (mark : Option Place) (rs : List Row) → CharsIn f text → MarkIn f mark → RowsIn f rs → GroupIn f (grouped s text mark rs)
unfolding RowIn
grouped-in f s text None rs h k r = record { text = h; mark = tt; rest = r }
grouped-in f s text (Some at) [] h k r = record { text = h; mark = k; rest = nil }
grouped-in f s text (Some at) (statement line ∷ rs) h k r = record { text = h; mark = k; rest = r }
grouped-in f s text (Some at) (directive t place line ∷ rs) h k (cons r more) =
    let next = mark_off (continuing line) in
    let part = mark_off-in f (continuing line) (continuing-in f line r.1) in
    group-either f (same s t) (grouped s (text ++ next.text) next.mark rs) (record { text = text; mark = Some at; rest = directive t place line ∷ rs })
    (grouped-in f s (text ++ next.text) next.mark rs (join h part.text) part.mark more) (record { text = h; mark = k; rest = cons r more })

directive-lines-in : (f : ℕ) {mode : Mode} {after : Option Place} {rs : List Row} {xs : List Written} {fs : List Fault} → RowsIn f rs → DirectiveLines mode after rs xs fs → LinesAndFaults f xs fs
unfolding RowIn
directive-lines-in f h no_directive = record { lines = nil; faults = nil }
directive-lines-in f (cons r h) (passed_over rest) = directive-lines-in f h rest
directive-lines-in f {mode = mode} (cons r h) (directive_first {after = after} {s = s} {at = at} {line = line} {others = others} {words = ws} {bad = b} reads rest) =
    let part = mark_off-in f line r.1 in
    let group = grouped-in f s (mark_off line).text (mark_off line).mark others part.text part.mark h in
    let one = reads-in f (group_at s line others).text group.text reads in
    let more = directive-lines-in f group.rest rest in
    record {
      lines = cons (record { at = r.0; unfinished = group.mark; words = cons r.0 one.words }) more.lines;
      faults = join (bad-in f b one.bad) more.faults;
    }

-- ---- rows

placed-in : (f n k : ℕ) (bytes : List ℕ) → CharsIn f (placed f n k bytes)
placed-in f n k [] = nil
placed-in f n k (b ∷ bytes) = cons refl (placed-in f n (k + 1) bytes)

row-in : (f : ℕ) (s : Option Sentinel) (at : Place) (text : List Char) → at.file ≡ f → CharsIn f text → RowIn f (row_as s at text)
unfolding RowIn
row-in f None at text h k = k
row-in f (Some s) at text h k = (h, k)

rows-in : (f n : ℕ) (lines : List (List ℕ)) → RowsIn f (rows f n lines)
rows-in f n [] = nil
rows-in f n (line ∷ lines) =
    cons (row-in f (sentinel_of line) (place f n (indent line + 1)) (placed f n (start line + 1) (drop (start line) (code line))) refl (placed-in f n (start line + 1) (drop (start line) (code line))))
    (rows-in f (n + 1) lines)

statement_texts-in : (f : ℕ) (rs : List Row) → RowsIn f rs → TextsIn f (statement_texts rs)
unfolding RowIn
statement_texts-in f [] h = nil
statement_texts-in f (statement line ∷ rs) (cons r h) = cons r (statement_texts-in f rs h)
statement_texts-in f (directive s at line ∷ rs) (cons r h) = statement_texts-in f rs h

bad_bytes-in : (f n k : ℕ) (bytes : List ℕ) → FaultsIn f (bad_bytes f n k bytes)
bad_bytes-in f n k [] = nil
bad_bytes-in f n k (b ∷ bytes) = join (either (is_bad b) (fault E01 (place f n k) ∷ []) [] (cons refl nil) nil) (bad_bytes-in f n (k + 1) bytes)

too_long-in : (f n : ℕ) (bytes : List ℕ) → FaultsIn f (too_long f n bytes)
too_long-in f n bytes = either (nat_lt 132 (length bytes)) (fault E02 (place f n 133) ∷ []) [] (cons refl nil) nil

byte_faults-in : (f n : ℕ) (lines : List (List ℕ)) → FaultsIn f (byte_faults f n lines)
byte_faults-in f n [] = nil
byte_faults-in f n (line ∷ lines) = join (join (bad_bytes-in f n 1 (code line)) (too_long-in f n (code line))) (byte_faults-in f (n + 1) lines)

-- ---- both

before-in : (f : ℕ) (at : Place) (ls : List Written) → LinesIn f ls → LinesIn f (lines_before at ls)
before-in f at [] h = nil
before-in f at (l ∷ ls) (cons p h) = either (is_before l.at at) (l ∷ lines_before at ls) [] (cons p (before-in f at ls h)) nil

behind-in : (f : ℕ) (at : Place) (ls : List Written) → LinesIn f ls → LinesIn f (lines_behind at ls)
behind-in f at [] h = nil
behind-in f at (l ∷ ls) (cons p h) = either (is_before l.at at) (lines_behind at ls) (l ∷ ls) (behind-in f at ls h) (cons p h)

in_order-in : (f : ℕ) (ss ds : List Written) → LinesIn f ss → LinesIn f ds → LinesIn f (in_order ss ds)
in_order-in f [] ds h k = k
in_order-in f (s ∷ ss) ds (cons p h) k = join (before-in f s.at ds k) (cons p (in_order-in f ss (lines_behind s.at ds) h (behind-in f s.at ds k)))

-- ---- a text

lines-and-faults : (f : ℕ) (mode : Mode) (text : List ℕ) (lines : List Written) (faults : List Fault) → HasLines f mode text lines faults → LinesAndFaults f lines faults
lines-and-faults f mode text lines faults h =
    let rs = rows-in f 1 (physical text) in
    let s = statement-lines-in f (statement_texts-in f (rows f 1 (physical text)) rs) h.are_statements in
    let d = directive-lines-in f rs h.are_directives in
    record {
      lines = subst (LinesIn f) (sym h.are_lines) (in_order-in f h.statements h.directives s.lines d.lines);
      faults = subst (FaultsIn f) (sym h.are_faults) (join (join (byte_faults-in f 1 (physical text)) s.faults) d.faults);
    }

tokens-in : (f : ℕ) (tokens : List Token) → WordsIn f (map word_of tokens) → Each Token (λ t. t.at.file ≡ f) tokens
tokens-in f [] h = nil
tokens-in f (t ∷ tokens) (cons p h) = cons p (tokens-in f tokens h)

stand-in : (f : ℕ) (lines : List Line) → LinesIn f (map written lines) → Each Line (StandsIn f) lines
stand-in f [] h = nil
stand-in f (line ∷ lines) (cons p h) = cons (record { at = p.at; tokens = all line.tokens (tokens-in f line.tokens p.words); unfinished = p.unfinished }) (stand-in f lines h)

pub lines-in-file : (f : ℕ) (mode : Mode) (text : List ℕ) (lines : List Line) (faults : List Fault) → HasLines f mode text (map written lines) faults → All (StandsIn f) lines
lines-in-file f mode text lines faults h = all lines (stand-in f lines (lines-and-faults f mode text (map written lines) faults h).lines)

pub first-in-file : (f : ℕ) (mode : Mode) (text : List ℕ) (first : Fault) → IsFirstTextFault f mode text first → InFile f first.place
first-in-file f mode text first h =
    front-of h.is_first.front first h.is_first.back (subst (FaultsIn f) h.is_first.is_one (lines-and-faults f mode text h.lines h.faults h.are).faults)
