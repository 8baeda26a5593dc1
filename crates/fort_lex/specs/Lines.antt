-- The logical lines of a text, and its text faults.
use Rattle.std.specs.Prelude.{ℕ, ◌≡◌, Bool, false, true, cond, ◌==◌, ◌&&◌, ◌||◌, not, nat_lt, List, [], ◌∷◌, ◌++◌, map, Option, None, Some, is_some}
use Rattle.std.specs.List.{list_all}
use Rattle.fort_tree.specs.declared.place.Place.{Place}
use Rattle.fort_tree.specs.declared.choice.Mode.{Mode}
use Rattle.fort_tree.specs.declared.statement.Line.{Line}
use Rattle.fort_tree.specs.declared.fault.Fault.{Fault}
use Rattle.fort_tree.specs.declared.fault.Code.TheVariants.{E03}
use Rattle.fort_tree.specs.Code.{code_number}
use Rattle.fort_tokens.specs.declared.character.Char.{Char}
use Rattle.fort_tokens.specs.Reads.{Word, word_of, Reads}
use Rattle.fort_lex.specs.declared.sentinel.Sentinel.{Sentinel}
use Rattle.fort_lex.specs.Rows.{Row, statement, directive, rows, physical, word_of_sentinel, byte_faults, fault}
use Rattle.fort_lex.specs.Joined.{statement_at, group_at, statement_texts, has_text, open_after}

-- a logical line, its tokens as their texts and places
pub record Written : Type 0 where
  pub at : Place
  pub mode : Mode
  pub directive : Bool
  pub unfinished : Option Place
  pub within : Bool
  pub words : List Word

abbrev pub written : Line → Written
written line = record {
  at = line.at;
  mode = line.mode;
  directive = line.directive;
  unfinished = line.unfinished;
  within = line.within;
  words = map word_of line.tokens;
}

-- a statement without tokens is no line
abbrev pub statement_line : Mode → List Word → Option Place → List Written
statement_line mode [] mark = []
statement_line mode (word ∷ words) mark =
    record { at = word.at; mode = mode; directive = false; unfinished = mark; within = false; words = word ∷ words } ∷ []

-- the sentinel is the first token
abbrev pub directive_line : Mode → Sentinel → Place → List Word → Option Place → Bool → Written
directive_line mode s at words mark within =
    record { at = at; mode = mode; directive = true; unfinished = mark; within = within; words = record { text = word_of_sentinel s; at = at } ∷ words }

-- the first bad token of a line
abbrev pub bad_token : Option Place → List Fault
bad_token None = []
bad_token (Some at) = fault E03 at ∷ []

abbrev pub is_semicolon : Char → Bool
is_semicolon c = c.byte == 59

-- the pieces between semicolons; `front` stands before the text
abbrev pub pieces : List Char → List Char → List (List Char)
pieces front [] = front ∷ []
pieces front (c ∷ text) = cond (is_semicolon c) (front ∷ pieces [] text) (pieces (front ++ c ∷ []) text)

-- The lines of the pieces of one statement text, and their bad tokens. The last piece is unfinished where the text is.
pub data PieceLines (mode : Mode) (mark : Option Place) : List (List Char) → List Written → List Fault → Type 0 where
  last_piece : {piece : List Char} {words : List Word} {bad : Option Place} → Reads piece words bad → PieceLines mode mark (piece ∷ []) (statement_line mode words mark) (bad_token bad)
  piece : {first : List Char} {others : List (List Char)} {words : List Word} {bad : Option Place} {lines : List Written} {faults : List Fault} →
      Reads first words bad → PieceLines mode mark others lines faults →
      PieceLines mode mark (first ∷ others) (statement_line mode words None ++ lines) (bad_token bad ++ faults)

-- the statements of lines without comments, and their bad tokens
pub data StatementLines (mode : Mode) : List (List Char) → List Written → List Fault → Type 0 where
  no_statement : StatementLines mode [] [] []
  statement_first : {line : List Char} {lines : List (List Char)} {xs ys : List Written} {fs gs : List Fault} →
      PieceLines mode (statement_at line lines).mark (pieces [] (statement_at line lines).text) xs fs → StatementLines mode (statement_at line lines).rest ys gs →
      StatementLines mode (line ∷ lines) (xs ++ ys) (fs ++ gs)

-- The directive and mark lines of rows, and their bad tokens. `after` is the place of the `&` after which a statement goes on that began before the rows.
pub data DirectiveLines (mode : Mode) : Option Place → List Row → List Written → List Fault → Type 0 where
  no_directive : {after : Option Place} → DirectiveLines mode after [] [] []
  passed_over : {after : Option Place} {line : List Char} {others : List Row} {ys : List Written} {gs : List Fault} →
      DirectiveLines mode (open_after after line) others ys gs → DirectiveLines mode after (statement line ∷ others) ys gs
  directive_first : {after : Option Place} {s : Sentinel} {at : Place} {line : List Char} {others : List Row} {words : List Word} {bad : Option Place} {ys : List Written}
      {gs : List Fault} →
      Reads (group_at s line others).text words bad → DirectiveLines mode after (group_at s line others).rest ys gs →
      DirectiveLines mode after (directive s at line ∷ others)
      (directive_line mode s at words (group_at s line others).mark (is_some after && has_text (group_at s line others).rest) ∷ ys)
      (bad_token bad ++ gs)

-- the place stands before the other
abbrev pub is_before : Place → Place → Bool
is_before p q = nat_lt p.line q.line || (p.line == q.line && nat_lt p.column q.column)

-- the lines at the front that stand before a place, and the others
abbrev pub lines_before : Place → List Written → List Written
lines_before at [] = []
lines_before at (line ∷ lines) = cond (is_before line.at at) (line ∷ lines_before at lines) []

abbrev pub lines_behind : Place → List Written → List Written
lines_behind at [] = []
lines_behind at (line ∷ lines) = cond (is_before line.at at) (lines_behind at lines) (line ∷ lines)

abbrev pub begins_before : Place → List Written → Bool
begins_before at [] = false
begins_before at (line ∷ lines) = is_before line.at at

-- statements and directive lines in the order of their first tokens
abbrev pub in_order : List Written → List Written → List Written
in_order [] directives = directives
in_order (line ∷ statements) directives = lines_before line.at directives ++ line ∷ in_order statements (lines_behind line.at directives)

-- the fault comes before the other: it has a lesser place, or the same and a smaller code
abbrev pub comes_before : Fault → Fault → Bool
comes_before f g = is_before f.place g.place || (f.place.line == g.place.line && f.place.column == g.place.column && nat_lt (code_number f.code) (code_number g.code))

-- The logical lines of text number `file`, and its text faults.
pub record HasLines (file : ℕ) (mode : Mode) (text : List ℕ) (lines : List Written) (faults : List Fault) : Type 0 where
  pub statements : List Written
  pub directives : List Written
  pub of_statements : List Fault
  pub of_directives : List Fault
  pub are_statements : StatementLines mode (statement_texts (rows file 1 (physical text))) statements of_statements
  pub are_directives : DirectiveLines mode None (rows file 1 (physical text)) directives of_directives
  pub are_lines : lines ≡ in_order statements directives
  pub are_faults : faults ≡ byte_faults file 1 (physical text) ++ of_statements ++ of_directives

-- the fault is one of them, and none of them comes before it
pub record IsFirst (first : Fault) (faults : List Fault) : Type 0 where
  pub front : List Fault
  pub back : List Fault
  pub is_one : faults ≡ front ++ first ∷ back
  pub is_least : list_all (λ other. not (comes_before other first)) faults ≡ true

-- the text has no fault, and these are its lines
abbrev pub AreLines : ℕ → Mode → List ℕ → List Written → Type 0
AreLines file mode text lines = HasLines file mode text lines []

-- the text has faults, and this is the first
pub record IsFirstTextFault (file : ℕ) (mode : Mode) (text : List ℕ) (first : Fault) : Type 0 where
  pub lines : List Written
  pub faults : List Fault
  pub are : HasLines file mode text lines faults
  pub is_first : IsFirst first faults
