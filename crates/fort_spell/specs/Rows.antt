-- The layout of rows: each row is spaced, and broken into lines.
use Rattle.std.specs.Prelude.{◌≡◌, ℕ, ◌+◌, Bool, true, false, nat_le, List, [], ◌∷◌, ◌++◌, length, if◌then◌else◌, codes, min}
use Rattle.fort_spell.specs.declared.line.Margin.{Margin}
use Rattle.fort_spell.specs.declared.line.Sentinel.{Sentinel}
use Rattle.fort_spell.specs.declared.line.Sentinel.TheVariants as sentinel
use Rattle.fort_spell.specs.Text.{first_margin, margin_text}
use Rattle.fort_spell.specs.Pieces.{Piece, Spelling, text_of}

-- A statement or a mark line: what its lines begin with, and its pieces.
pub record Row : Type 0 where
  pub margin : Margin
  pub pieces : List Piece

abbrev pub lead : Bool → List ℕ
lead true = codes " "
lead false = []

-- the bytes of the line up to the end of the piece, where it is not broken off
abbrev pub past : ℕ → Piece → ℕ
past col p = col + length (lead p.spaced) + length (text_of p.token)

-- The pieces of a row from this column on, where col bytes stand in the line: a token that would end past column 130
-- goes into a new line, without the blank before it.
unfoldable pub laid : Margin → ℕ → List Piece → List ℕ
laid m col [] = codes "\n"
laid m col (p ∷ ps) =
    if nat_le (past col p) 130
    then lead p.spaced ++ (text_of p.token ++ laid m (past col p) ps)
    else codes " &\n" ++ (margin_text m ++ (text_of p.token ++ laid m (length (margin_text m) + length (text_of p.token)) ps))

abbrev pub line : Row → List ℕ
line r = first_margin r.margin ++ laid r.margin (length (first_margin r.margin)) r.pieces

abbrev pub text : List Row → List ℕ
text [] = []
text (r ∷ rs) = line r ++ text rs

abbrev pub margin : Sentinel → ℕ → Margin
margin s n = record { indent = n; sentinel = s }

-- a statement's row, before those behind it
abbrev pub row : ℕ → List Piece → List Row → List Row
row n ps rs = record { margin = margin sentinel.Absent n; pieces = ps } ∷ rs

-- a mark line's row
abbrev pub mark_row : Sentinel → ℕ → List Piece → List Row → List Row
mark_row s n ps rs = record { margin = margin s n; pieces = ps } ∷ rs

-- the indentation of what stands in it
abbrev pub deeper : ℕ → ℕ
deeper n = min (n + 2) 40

-- Parts, one after the other. Each part gives its rows at an indentation, before those behind it.
abbrev pub Block : Type 0
Block = ℕ → List Row → List Row

abbrev pub all_rows : List Block → Block
all_rows [] n rs = rs
all_rows (b ∷ bs) n rs = b n (all_rows bs n rs)

-- a statement of one row
abbrev pub one_row : Spelling → Block
one_row f n rs = row n (f false []) rs

-- the indentation of the next line
abbrev pub next_indent : List Row → ℕ
next_indent [] = 0
next_indent (r ∷ rs) = r.margin.indent

-- Whether a block has rows: the first of them has the block's indentation. Without one the next line is what stands
-- behind it.
pub record Starts (some : Bool) (block : Block) : Type 0 where
  pub next : (n : ℕ) (rs : List Row) → next_indent (block n rs) ≡ (if some then n else next_indent rs)
