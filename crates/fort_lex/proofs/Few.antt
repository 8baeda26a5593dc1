-- A text has at most one logical line more than bytes.
use Rattle.std.proofs.Common.{◌≡◌, ℕ, ◌+◌, ◌-◌, ◌≤◌, Bool, true, false, cond, ◌==◌, ◌&&◌, not, List, [], ◌∷◌, ◌++◌, length, take, drop, position, unwrap_or, Option, None, Some, get_or, refl, ap, arith, length-append, length-drop}
use Rattle.std.proofs.lemmas.List.{length-take}
use Rattle.fort_tree.specs.declared.fault.Fault.{Fault}
use Rattle.fort_tree.specs.declared.place.Place.{Place}
use Rattle.fort_tree.specs.declared.choice.Mode.{Mode}
use Rattle.fort_tokens.specs.declared.character.Char.{Char}
use Rattle.fort_tokens.specs.Reads.{Word}
use Rattle.fort_lex.specs.declared.sentinel.Sentinel.{Sentinel}
use Rattle.fort_lex.specs.Rows.{Row, statement, directive, row_as, rows, lines_from, physical, placed, place, without_return, sentinel_of, indent, start, code, comment_start}
use Rattle.fort_lex.specs.Joined.{Part, Group, is_mark, is_blank, all_blank, mark_off, blank_at, without_blanks, continuing_at, continuing, next_part, joined, statement_at, same, grouped, statement_texts}
use Rattle.fort_lex.specs.Lines.{Written, statement_line, is_semicolon, is_before, pieces, PieceLines, last_piece, piece, StatementLines, no_statement, statement_first, DirectiveLines, no_directive, passed_over, directive_first, lines_before, lines_behind, in_order, HasLines}

-- ---- either of two

list-either : {A : Type 0} (b : Bool) (xs ys : List A) (n : ℕ) → length xs ≤ n → length ys ≤ n → length (cond b xs ys) ≤ n
list-either true xs ys n h k = h
list-either false xs ys n h k = k

part-either : (b : Bool) (p q : Part) (n : ℕ) → length p.text ≤ n → length q.text ≤ n → length (cond b p q).text ≤ n
part-either true p q n h k = h
part-either false p q n h k = k

-- ---- texts of statements

mark_off-short : (line : List Char) → length (mark_off line).text ≤ length line
mark_off-short [] = omega arith
mark_off-short (c ∷ line) =
    let before : length (mark_off line).text ≤ length line = mark_off-short line in
    part-either (is_mark c && all_blank line) (record { text = []; mark = Some c.at }) (record { text = c ∷ (mark_off line).text; mark = (mark_off line).mark })
    (length (c ∷ line)) (omega arith) (omega arith)

continuing_at-short : (line : List Char) → length (continuing_at line) ≤ 1 + length line
continuing_at-short [] = omega arith
continuing_at-short (c ∷ line) =
    list-either (is_mark c) (cond (all_blank line) (c ∷ []) line) (blank_at c.at ∷ c ∷ line) (1 + length (c ∷ line))
    (list-either (all_blank line) (c ∷ []) line (1 + length (c ∷ line)) (omega arith) (omega arith)) (omega arith)

continuing-short : (line : List Char) → length (continuing line) ≤ 1 + length line
continuing-short line =
    let k = unwrap_or (position (λ c. not (is_blank c)) line) (length line) in
    omega (arith, continuing_at-short (without_blanks line), length-drop k line)

next_part-short : (at : Place) (line : List Char) → length (next_part at line).text ≤ 1 + length line
next_part-short at line =
    part-either (all_blank line) (record { text = []; mark = Some at }) (mark_off (continuing line)) (1 + length line) (omega arith)
    (omega (arith, mark_off-short (continuing line), continuing-short line))

-- all characters of lines, and one more for each line
size : List (List Char) → ℕ
size [] = 0
size (line ∷ lines) = 1 + length line + size lines

-- a joined text holds no more than the lines that it takes
joined-short : (text : List Char) (mark : Option Place) (lines : List (List Char)) → length (joined text mark lines).text + size (joined text mark lines).rest ≤ length text + size lines
unfolding size
joined-short text None lines = omega arith
joined-short text (Some at) [] = omega arith
joined-short text (Some at) (line ∷ lines) =
    omega (
      arith,
      joined-short (text ++ (next_part at line).text) (next_part at line).mark lines,
      length-append text (next_part at line).text,
      next_part-short at line,
    )

-- ---- statements

few-pieces : (front text : List Char) → length (pieces front text) ≤ 1 + length text
few-pieces front [] = omega arith
few-pieces front (c ∷ text) =
    list-either (is_semicolon c) (front ∷ pieces [] text) (pieces (front ++ c ∷ []) text) (1 + length (c ∷ text)) (omega (arith, few-pieces [] text))
    (omega (arith, few-pieces (front ++ c ∷ []) text))

at-most-one : (mode : Mode) (words : List Word) (mark : Option Place) → length (statement_line mode words mark) ≤ 1
at-most-one mode [] mark = omega arith
at-most-one mode (word ∷ words) mark = omega arith

few-of-pieces : {mode : Mode} {mark : Option Place} {ps : List (List Char)} {xs : List Written} {fs : List Fault} → PieceLines mode mark ps xs fs → length xs ≤ length ps
few-of-pieces {mode = mode} {mark = mark} (last_piece {words = words} r) = at-most-one mode words mark
few-of-pieces {mode = mode} (piece {words = words} {lines = lines} r rest) =
    omega (arith, at-most-one mode words None, few-of-pieces rest, length-append (statement_line mode words None) lines)

few-statements : {mode : Mode} {ls : List (List Char)} {xs : List Written} {fs : List Fault} → StatementLines mode ls xs fs → length xs ≤ size ls
unfolding size
few-statements no_statement = omega arith
few-statements (statement_first {line = line} {lines = lines} {xs = xs} {ys = ys} p rest) =
    omega (
      arith,
      length-append xs ys,
      few-of-pieces p,
      few-pieces [] (statement_at line lines).text,
      few-statements rest,
      joined-short (mark_off line).text (mark_off line).mark lines,
      mark_off-short line,
    )

-- ---- directive and mark lines

directive-rows : List Row → ℕ
directive-rows [] = 0
directive-rows (statement line ∷ rows) = directive-rows rows
directive-rows (directive s at line ∷ rows) = 1 + directive-rows rows

group-either : (b : Bool) (g h : Group) (n : ℕ) → directive-rows g.rest ≤ n → directive-rows h.rest ≤ n → directive-rows (cond b g h).rest ≤ n
group-either true g h n p q = p
group-either false g h n p q = q

grouped-fewer : (s : Sentinel) (text : List Char) (mark : Option Place) (rows : List Row) → directive-rows (grouped s text mark rows).rest ≤ directive-rows rows
unfolding directive-rows
grouped-fewer s text None rows = omega arith
grouped-fewer s text (Some at) [] = omega arith
grouped-fewer s text (Some at) (statement line ∷ rows) = omega arith
grouped-fewer s text (Some at) (directive t place line ∷ rows) =
    let next = mark_off (continuing line) in
    group-either (same s t) (grouped s (text ++ next.text) next.mark rows) (record { text = text; mark = Some at; rest = directive t place line ∷ rows })
    (1 + directive-rows rows) (omega (arith, grouped-fewer s (text ++ next.text) next.mark rows)) (omega arith)

few-directives : {mode : Mode} {after : Option Place} {rs : List Row} {xs : List Written} {fs : List Fault} → DirectiveLines mode after rs xs fs → length xs ≤ directive-rows rs
unfolding directive-rows
few-directives no_directive = omega arith
few-directives (passed_over rest) = few-directives rest
few-directives (directive_first {s = s} {line = line} {others = others} r rest) =
    omega (arith, few-directives rest, grouped-fewer s (mark_off line).text (mark_off line).mark others)

-- ---- both

parted : (b : Bool) (line : Written) (before behind lines : List Written) → length before + length behind ≡ length lines →
    length (cond b (line ∷ before) []) + length (cond b behind (line ∷ lines)) ≡ length (line ∷ lines)
parted true line before behind lines h = omega arith
parted false line before behind lines h = omega arith

all-parted : (at : Place) (lines : List Written) → length (lines_before at lines) + length (lines_behind at lines) ≡ length lines
all-parted at [] = omega arith
all-parted at (line ∷ lines) = parted (is_before line.at at) line (lines_before at lines) (lines_behind at lines) lines (all-parted at lines)

all-in_order : (statements directives : List Written) → length (in_order statements directives) ≡ length statements + length directives
all-in_order [] directives = omega arith
all-in_order (line ∷ statements) directives =
    omega (
      arith,
      length-append (lines_before line.at directives) (line ∷ in_order statements (lines_behind line.at directives)),
      all-in_order statements (lines_behind line.at directives),
      all-parted line.at directives,
    )

-- ---- rows

-- all bytes of lines, and one more for each line
total : List (List ℕ) → ℕ
total [] = 0
total (line ∷ lines) = 1 + length line + total lines

length-placed : (f n k : ℕ) (bytes : List ℕ) → length (placed f n k bytes) ≡ length bytes
length-placed f n k [] = refl
length-placed f n k (b ∷ bytes) = omega (arith, length-placed f n (k + 1) bytes)

of-row : (s : Option Sentinel) (at : Place) (text : List Char) (rs : List Row) →
    size (statement_texts (row_as s at text ∷ rs)) + directive-rows (row_as s at text ∷ rs) ≤ 1 + length text + (size (statement_texts rs) + directive-rows rs)
unfolding size directive-rows
of-row None at text rs = omega arith
of-row (Some s) at text rs = omega arith

of-rows : (f n : ℕ) (lines : List (List ℕ)) → size (statement_texts (rows f n lines)) + directive-rows (rows f n lines) ≤ total lines
unfolding total size directive-rows
of-rows f n [] = omega arith
of-rows f n (line ∷ lines) =
    let bytes = drop (start line) (code line) in
    omega (
      arith,
      of-row (sentinel_of line) (place f n (indent line + 1)) (placed f n (start line + 1) bytes) (rows f (n + 1) lines),
      length-placed f n (start line + 1) bytes,
      length-drop (start line) (code line),
      length-take (comment_start (start line) line) line,
      of-rows f (n + 1) lines,
    )

without_return-short : (line : List ℕ) → length (without_return line) ≤ length line
without_return-short line =
    list-either (get_or line (length line - 1) 0 == 13) (take (length line - 1) line) line (length line) (omega (arith, length-take (length line - 1) line)) (omega arith)

total-either : (b : Bool) (ls ms : List (List ℕ)) (n : ℕ) → total ls ≤ n → total ms ≤ n → total (cond b ls ms) ≤ n
total-either true ls ms n h k = h
total-either false ls ms n h k = k

of-physical : (front text : List ℕ) → total (lines_from front text) ≤ 1 + length front + length text
unfolding total
of-physical front [] = omega arith
of-physical front (b ∷ text) =
    total-either (b == 10) (without_return front ∷ lines_from [] text) (lines_from (front ++ b ∷ []) text) (1 + length front + length (b ∷ text))
    (omega (arith, without_return-short front, of-physical [] text)) (omega (arith, of-physical (front ++ b ∷ []) text, length-append front (b ∷ [])))

-- ---- a text

pub few-lines : (file : ℕ) (mode : Mode) (text : List ℕ) (lines : List Written) (faults : List Fault) → HasLines file mode text lines faults → length lines ≤ length text + 1
few-lines file mode text lines faults h =
    omega (
      arith,
      ap (length {A = Written}) h.are_lines,
      all-in_order h.statements h.directives,
      few-statements h.are_statements,
      few-directives h.are_directives,
      of-rows file 1 (physical text),
      of-physical [] text,
    )
