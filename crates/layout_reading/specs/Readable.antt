-- The rows that can be read back.
use Rattle.std.specs.Prelude.{ℕ, ◌≡◌, ◌≤◌, ◌<◌, ◌^◌, Bool, true, ◌||◌, not, List, [], ◌∷◌, ◌++◌, ⊤}
use Rattle.fort_tree.specs.Name.{IsName}
use Rattle.fort_tokens.specs.Texts.{is_name_byte, is_begun}
use Rattle.fort_spell.specs.Text.{mark_text}
use Rattle.fort_spell.specs.Pieces.{Token, Word, Number, Sign, text_of, Piece}
use Rattle.fort_spell.specs.Rows.{Row}

-- a word is a name in lower case, and a number one of at most 63 bits
abbrev pub IsToken : Token → Type 0
IsToken (Word name) = IsName name
IsToken (Number n suffix) = n < 2 ^ 63
IsToken (Sign m) = ⊤

-- A token may go on with a byte: a word or a number with what a name has, another mark where a longer one begins so.
abbrev pub goes_on : Token → ℕ → Bool
goes_on (Word name) b = is_name_byte b
goes_on (Number n suffix) b = is_name_byte b
goes_on (Sign m) b = is_begun (mark_text m ++ b ∷ [])

abbrev pub first_byte : List ℕ → ℕ
first_byte [] = 32
first_byte (b ∷ bs) = b

-- a blank stands between the two, or the first doesn't go on with the other
abbrev pub stands_off : Token → Piece → Bool
stands_off t p = p.spaced || not (goes_on t (first_byte (text_of p.token)))

-- the pieces are tokens, each standing off from the one before it
abbrev pub AreBehind : Token → List Piece → Type 0
AreBehind t [] = ⊤
AreBehind t (p ∷ ps) = IsToken p.token × (stands_off t p ≡ true) × AreBehind p.token ps

-- at least one token, and each stands off from the next
abbrev pub ArePieces : List Piece → Type 0
ArePieces [] = ⊥
ArePieces (p ∷ ps) = IsToken p.token × AreBehind p.token ps

pub record IsReadable (row : Row) : Type 0 where
  pub indented : row.margin.indent ≤ 40
  pub pieces : ArePieces row.pieces

abbrev pub AreReadable : List Row → Type 0
AreReadable [] = ⊤
AreReadable (row ∷ rows) = IsReadable row × AreReadable rows
