-- Continued lines.
use Rattle.std.specs.Prelude.{Bool, false, true, cond, ◌==◌, ◌&&◌, not, ◌||◌, List, [], ◌∷◌, ◌++◌, length, drop, position, Option, None, Some, unwrap_or}
use Rattle.std.specs.List.{list_all}
use Rattle.fort_tree.specs.declared.place.Place.{Place}
use Rattle.fort_tokens.specs.declared.character.Char.{Char}
use Rattle.fort_lex.specs.declared.sentinel.Sentinel.{Sentinel}
use Rattle.fort_lex.specs.declared.sentinel.Sentinel.TheVariants.{Claw, Omp, Acc}
use Rattle.fort_lex.specs.Rows.{Row, statement, directive}

abbrev pub is_blank : Char → Bool
is_blank c = c.byte == 32

abbrev pub is_mark : Char → Bool
is_mark c = c.byte == 38

abbrev pub all_blank : List Char → Bool
all_blank = list_all is_blank

-- a text, and the place of the `&` that it goes on after
pub record Part : Type 0 where
  pub text : List Char
  pub mark : Option Place

-- the text before the last `&` of a line, behind which only blanks stand, and its place, if the line has one
abbrev pub mark_off : List Char → Part
mark_off [] = record { text = []; mark = None }
mark_off (c ∷ line) = cond (is_mark c && all_blank line) (record { text = []; mark = Some c.at }) (record { text = c ∷ (mark_off line).text; mark = (mark_off line).mark })

-- the blank that stands between two lines
abbrev pub blank_at : Place → Char
blank_at at = record { byte = 32; at = at }

-- a line without the blanks that it begins with
abbrev pub without_blanks : List Char → List Char
without_blanks line = drop (unwrap_or (position (λ c. not (is_blank c)) line) (length line)) line

-- What a line gives that continues another: what is behind its first `&`, if it begins with one and more follows; else a blank and then its text. A last `&` is kept, an `&`
-- alone too.
abbrev pub continuing_at : List Char → List Char
continuing_at [] = []
continuing_at (c ∷ line) = cond (is_mark c) (cond (all_blank line) (c ∷ []) line) (blank_at c.at ∷ c ∷ line)

abbrev pub continuing : List Char → List Char
continuing line = continuing_at (without_blanks line)

-- what a line gives to a text that goes on after the `&` at a place: nothing if the line is blank, and the text still goes on
abbrev pub next_part : Place → List Char → Part
next_part at line = cond (all_blank line) (record { text = []; mark = Some at }) (mark_off (continuing line))

-- the text of a statement with the lines that continue it, the place of its last `&` where no line follows, and the lines behind it
pub record Statement : Type 0 where
  pub text : List Char
  pub mark : Option Place
  pub rest : List (List Char)

abbrev pub joined : List Char → Option Place → List (List Char) → Statement
joined text None lines = record { text = text; mark = None; rest = lines }
joined text (Some at) [] = record { text = text; mark = Some at; rest = [] }
joined text (Some at) (line ∷ lines) = joined (text ++ (next_part at line).text) (next_part at line).mark lines

-- the statement that a line begins
abbrev pub statement_at : List Char → List (List Char) → Statement
statement_at line lines = joined (mark_off line).text (mark_off line).mark lines

abbrev pub same : Sentinel → Sentinel → Bool
same Claw Claw = true
same Claw Omp = false
same Claw Acc = false
same Omp Claw = false
same Omp Omp = true
same Omp Acc = false
same Acc Claw = false
same Acc Omp = false
same Acc Acc = true

-- the text of a directive or mark line with the lines that continue it, the place of its last `&` where the line behind it doesn't continue it, and the rows behind it
pub record Group : Type 0 where
  pub text : List Char
  pub mark : Option Place
  pub rest : List Row

-- only the very next line continues it, and only with the same sentinel
abbrev pub grouped : Sentinel → List Char → Option Place → List Row → Group
grouped s text None rows = record { text = text; mark = None; rest = rows }
grouped s text (Some at) [] = record { text = text; mark = Some at; rest = [] }
grouped s text (Some at) (statement line ∷ rows) = record { text = text; mark = Some at; rest = statement line ∷ rows }
grouped s text (Some at) (directive t place line ∷ rows) =
    let next = mark_off (continuing line) in
    cond (same s t) (grouped s (text ++ next.text) next.mark rows) (record { text = text; mark = Some at; rest = directive t place line ∷ rows })

-- the directive or mark line that a line with this sentinel begins
abbrev pub group_at : Sentinel → List Char → List Row → Group
group_at s line rows = grouped s (mark_off line).text (mark_off line).mark rows

-- the lines that are no directive or mark lines
abbrev pub statement_texts : List Row → List (List Char)
statement_texts [] = []
statement_texts (statement line ∷ rows) = line ∷ statement_texts rows
statement_texts (directive s at line ∷ rows) = statement_texts rows

-- a line of a statement follows that isn't blank
abbrev pub has_text : List Row → Bool
has_text [] = false
has_text (statement line ∷ rows) = not (all_blank line) || has_text rows
has_text (directive s at line ∷ rows) = has_text rows

-- the `&` after which a statement goes on behind a line
abbrev pub open_after : Option Place → List Char → Option Place
open_after None line = (mark_off line).mark
open_after (Some at) line = (next_part at line).mark
