-- Each line of a text stands at its first token and is of the text's mode.
use Rattle.std.proofs.Common.{◌≡◌, ℕ, List, [], ◌∷◌, ◌++◌, Option, None, Bool, true, false, cond, map, refl, sym, ap, ◌∙◌, subst}
use Rattle.fort_tree.specs.declared.choice.Mode.{Mode}
use Rattle.fort_tree.specs.declared.fault.Fault.{Fault}
use Rattle.fort_tree.specs.declared.place.Place.{Place}
use Rattle.fort_tree.specs.declared.statement.Line.{Line}
use Rattle.fort_tree.specs.declared.statement.Token.{Token}
use Rattle.fort_tokens.specs.declared.character.Char.{Char}
use Rattle.fort_tokens.specs.Reads.{Word, word_of}
use Rattle.fort_lex.specs.Rows.{Row}
use Rattle.fort_lex.specs.Lines.{Written, written, statement_line, PieceLines, last_piece, piece, StatementLines, no_statement, statement_first, DirectiveLines, no_directive, passed_over, directive_first, is_before, lines_before, lines_behind, in_order, HasLines}
use Rattle.layout_reading.proofs.Declarations.{Each}

-- the line is of the mode, and stands where its first word does
record IsBegun (mode : Mode) (w : Written) : Type 0 where
  in_mode : w.mode ≡ mode
  first : Word
  rest : List Word
  words_are : w.words ≡ first ∷ rest
  at_first : w.at ≡ first.at

-- LISTS

each_join : {A : Type 0} (P : A → Type 0) (k l : List A) → Each P k → Each P l → Each P (k ++ l)
each_join P [] l a b = b
each_join P (x ∷ k) l a b = (a.0, each_join P k l a.1 b)

-- a line of the front, where it is one
front_at : (P : Written → Type 0) (b : Bool) (x : Written) (l : List Written) → P x → Each P l → Each P (cond b (x ∷ l) [])
front_at P true x l a h = (a, h)
front_at P false x l a h = tt

rest_at : (P : Written → Type 0) (b : Bool) (l m : List Written) → Each P l → Each P m → Each P (cond b l m)
rest_at P true l m h k = h
rest_at P false l m h k = k

each_before : (P : Written → Type 0) (at : Place) (l : List Written) → Each P l → Each P (lines_before at l)
each_before P at [] h = tt
each_before P at (x ∷ l) h = front_at P (is_before x.at at) x (lines_before at l) h.0 (each_before P at l h.1)

each_behind : (P : Written → Type 0) (at : Place) (l : List Written) → Each P l → Each P (lines_behind at l)
each_behind P at [] h = tt
each_behind P at (x ∷ l) h = rest_at P (is_before x.at at) (lines_behind at l) (x ∷ l) (each_behind P at l h.1) h

each_in_order : (P : Written → Type 0) (k l : List Written) → Each P k → Each P l → Each P (in_order k l)
each_in_order P [] l a b = b
each_in_order P (x ∷ k) l a b =
    each_join P (lines_before x.at l) (x ∷ in_order k (lines_behind x.at l)) (each_before P x.at l b) (a.0, each_in_order P k (lines_behind x.at l) a.1 (each_behind P x.at l b))

-- LINES

statement_begun : (mode : Mode) (words : List Word) (mark : Option Place) → Each (IsBegun mode) (statement_line mode words mark)
statement_begun mode [] mark = tt
statement_begun mode (w ∷ words) mark = (record { in_mode = refl; first = w; rest = words; words_are = refl; at_first = refl }, tt)

pieces_begun : {mode : Mode} {mark : Option Place} {texts : List (List Char)} {lines : List Written} {faults : List Fault} → PieceLines mode mark texts lines faults → Each (IsBegun mode) lines
pieces_begun {mode = mode} {mark = mark} (last_piece {words = words} r) = statement_begun mode words mark
pieces_begun {mode = mode} (piece {words = words} {lines = lines} r others) = each_join (IsBegun mode) (statement_line mode words None) lines (statement_begun mode words None) (pieces_begun others)

statements_begun : {mode : Mode} {texts : List (List Char)} {lines : List Written} {faults : List Fault} → StatementLines mode texts lines faults → Each (IsBegun mode) lines
statements_begun no_statement = tt
statements_begun {mode = mode} (statement_first {xs = xs} {ys = ys} here others) = each_join (IsBegun mode) xs ys (pieces_begun here) (statements_begun others)

directives_begun : {mode : Mode} {after : Option Place} {rows : List Row} {lines : List Written} {faults : List Fault} → DirectiveLines mode after rows lines faults → Each (IsBegun mode) lines
directives_begun no_directive = tt
directives_begun (passed_over others) = directives_begun others
directives_begun (directive_first r others) = (record { in_mode = refl; first = _; rest = _; words_are = refl; at_first = refl }, directives_begun others)

lines_begun : (file : ℕ) (mode : Mode) (text : List ℕ) (lines : List Written) (faults : List Fault) → HasLines file mode text lines faults → Each (IsBegun mode) lines
lines_begun file mode text lines faults h = subst (Each (IsBegun mode)) (sym h.are_lines) (each_in_order (IsBegun mode) h.statements h.directives (statements_begun h.are_statements) (directives_begun h.are_directives))

-- THEIR TOKENS

-- the line is of the mode, and stands where its first token does
pub record IsHeaded (mode : Mode) (line : Line) : Type 0 where
  pub in_mode : line.mode ≡ mode
  pub first : Token
  pub rest : List Token
  pub tokens_are : line.tokens ≡ first ∷ rest
  pub at_first : line.at ≡ first.at

-- tokens whose words are some have a first one
record HasFront (w : Word) (tokens : List Token) : Type 0 where
  first : Token
  rest : List Token
  tokens_are : tokens ≡ first ∷ rest
  place : first.at ≡ w.at

front_of : (w : Word) (words : List Word) (tokens : List Token) → map word_of tokens ≡ w ∷ words → HasFront w tokens
front_of w words [] e = absurd cc
front_of w words (t ∷ ts) e =
    let same : word_of t ≡ w = cc in
    record { first = t; rest = ts; tokens_are = refl; place = ap (λ (x : Word). x.at) same }

line_headed : (mode : Mode) (line : Line) → IsBegun mode (written line) → IsHeaded mode line
line_headed mode line h =
    let f = front_of h.first h.rest line.tokens h.words_are in
    record { in_mode = h.in_mode; first = f.first; rest = f.rest; tokens_are = f.tokens_are; at_first = h.at_first ∙ sym f.place }

each_headed : (mode : Mode) (lines : List Line) → Each (IsBegun mode) (map written lines) → Each (IsHeaded mode) lines
each_headed mode [] h = tt
each_headed mode (l ∷ lines) h = (line_headed mode l h.0, each_headed mode lines h.1)

-- The lines of a text are of its mode, and each stands at its first token.
pub lines_headed : (file : ℕ) (mode : Mode) (text : List ℕ) (lines : List Line) (faults : List Fault) → HasLines file mode text (map written lines) faults → Each (IsHeaded mode) lines
lines_headed file mode text lines faults h = each_headed mode lines (lines_begun file mode text (map written lines) faults h)
