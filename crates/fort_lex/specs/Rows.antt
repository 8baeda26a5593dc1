-- Physical lines: where they end, what sentinel they begin with, and what stands outside comments.
use Rattle.std.specs.Prelude.{ℕ, ◌+◌, ◌-◌, Bool, cond, ◌==◌, ◌&&◌, ◌||◌, not, nat_lt, List, [], ◌∷◌, ◌++◌, length, take, drop, slice_index, position, codes, bytes_eq, Option, None, Some, unwrap_or}
use Rattle.fort_tree.specs.Name.{lowercase}
use Rattle.fort_tree.specs.declared.place.Place.{Place}
use Rattle.fort_tree.specs.declared.fault.Fault.{Fault}
use Rattle.fort_tree.specs.declared.fault.Code.{Code}
use Rattle.fort_tree.specs.declared.fault.Code.TheVariants.{E01, E02}
use Rattle.fort_tokens.specs.declared.character.Char.{Char}
use Rattle.fort_lex.specs.declared.sentinel.Sentinel.{Sentinel}
use Rattle.fort_lex.specs.declared.sentinel.Sentinel.TheVariants.{Claw, Omp, Acc}

-- a line without a CR at its end
abbrev pub without_return : List ℕ → List ℕ
without_return line = cond (slice_index line (length line - 1) == 13) (take (length line - 1) line) line

-- The lines of a text: LF ends a line, and a CR before it is dropped. What stands behind the last LF is a line too. `front` stands before the text.
abbrev pub lines_from : List ℕ → List ℕ → List (List ℕ)
lines_from front [] = front ∷ []
lines_from front (b ∷ text) = cond (b == 10) (without_return front ∷ lines_from [] text) (lines_from (front ++ b ∷ []) text)

abbrev pub physical : List ℕ → List (List ℕ)
physical text = lines_from [] text

-- a blank or a tab
abbrev pub is_gap : ℕ → Bool
is_gap b = b == 32 || b == 9

abbrev pub word_of_sentinel : Sentinel → List ℕ
word_of_sentinel Claw = codes "!$claw"
word_of_sentinel Omp = codes "!$omp"
word_of_sentinel Acc = codes "!$acc"

-- the word stands at the front, in any case, and a blank behind it
abbrev pub begins_with_word : List ℕ → List ℕ → Bool
begins_with_word word line =
    nat_lt (length word) (length line) && (is_gap (slice_index line (length word)) && bytes_eq (lowercase (take (length word) line)) (lowercase word))

abbrev pub sentinel_at_front : List ℕ → Option Sentinel
sentinel_at_front line =
    cond (begins_with_word (word_of_sentinel Claw) line) (Some Claw)
    (cond (begins_with_word (word_of_sentinel Omp) line) (Some Omp)
    (cond (begins_with_word (word_of_sentinel Acc) line) (Some Acc) None))

-- how many blanks a line begins with
abbrev pub indent : List ℕ → ℕ
indent line = unwrap_or (position (λ b. not (is_gap b)) line) (length line)

-- the sentinel of a directive or mark line
abbrev pub sentinel_of : List ℕ → Option Sentinel
sentinel_of line = sentinel_at_front (drop (indent line) line)

-- where the first byte stands that can begin a comment: in a directive or mark line behind its sentinel
abbrev pub start_as : Option Sentinel → List ℕ → ℕ
start_as None line = 0
start_as (Some sentinel) line = indent line + length (word_of_sentinel sentinel)

abbrev pub start : List ℕ → ℕ
start line = start_as (sentinel_of line) line

-- where the comment begins, or the line ends
abbrev pub comment_start : ℕ → List ℕ → ℕ
comment_start from line = from + unwrap_or (position (λ b. b == 33) (drop from line)) (length line - from)

-- a line without its comment
abbrev pub code : List ℕ → List ℕ
code line = take (comment_start (start line) line) line

abbrev pub place : ℕ → ℕ → ℕ → Place
place f n k = record { file = f; line = n; column = k }

-- a tab counts as a blank
abbrev pub blanked : ℕ → ℕ
blanked b = cond (b == 9) 32 b

-- bytes at their places in line n of text f, the first in column k
abbrev pub placed : ℕ → ℕ → ℕ → List ℕ → List Char
placed f n k [] = []
placed f n k (b ∷ bytes) = record { byte = blanked b; at = place f n k } ∷ placed f n (k + 1) bytes

-- A physical line as its characters without comment: of a directive or mark line those behind the sentinel, which stands at a place; else all of them, and none where the line
-- is blank or a comment.
pub data Row : Type 0 where
  statement : List Char → Row
  directive : Sentinel → Place → List Char → Row

abbrev pub row_as : Option Sentinel → Place → List Char → Row
row_as None at text = statement text
row_as (Some sentinel) at text = directive sentinel at text

abbrev pub row : ℕ → ℕ → List ℕ → Row
row f n line = row_as (sentinel_of line) (place f n (indent line + 1)) (placed f n (start line + 1) (drop (start line) (code line)))

-- the rows of lines, the first with number n
abbrev pub rows : ℕ → ℕ → List (List ℕ) → List Row
rows f n [] = []
rows f n (line ∷ lines) = row f n line ∷ rows f (n + 1) lines

abbrev pub fault : Code → Place → Fault
fault code at = record { code = code; place = at; item = 0; first = None; second = None }

-- no tab, and not one of 32 to 126
abbrev pub is_bad : ℕ → Bool
is_bad b = not (b == 9) && (nat_lt b 32 || nat_lt 126 b)

-- the bad bytes, where the first byte stands in column k
abbrev pub bad_bytes : ℕ → ℕ → ℕ → List ℕ → List Fault
bad_bytes f n k [] = []
bad_bytes f n k (b ∷ bytes) = cond (is_bad b) (fault E01 (place f n k) ∷ []) [] ++ bad_bytes f n (k + 1) bytes

-- a byte past column 132
abbrev pub too_long : ℕ → ℕ → List ℕ → List Fault
too_long f n bytes = cond (nat_lt 132 (length bytes)) (fault E02 (place f n 133) ∷ []) []

-- the faults of bytes outside comments
abbrev pub byte_faults : ℕ → ℕ → List (List ℕ) → List Fault
byte_faults f n [] = []
byte_faults f n (line ∷ lines) = bad_bytes f n 1 (code line) ++ too_long f n (code line) ++ byte_faults f (n + 1) lines
