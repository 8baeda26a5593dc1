-- Tokens with the blanks before them. A part of a tree is spelled by a function: whether a blank stands before the part,
-- and the pieces behind it, give the pieces from it on.
use Rattle.std.specs.Prelude.{ℕ, Bool, true, false, List, [], ◌∷◌, ◌++◌, Option, None, Some, codes, decimal}
use Rattle.fort_arith.specs.declared.kind.Kind.{Kind}
use Rattle.fort_spell.specs.declared.mark.Mark.{Mark}
use Rattle.fort_spell.specs.declared.mark.Mark.TheVariants as mark
use Rattle.fort_spell.specs.Text.{mark_text, suffix_text}

-- A token: a name or a keyword, a number with the suffix that it has, or another mark.
pub data Token : Type 0 where
  Word : List ℕ → Token
  Number : ℕ → Option Kind → Token
  Sign : Mark → Token

abbrev pub text_of : Token → List ℕ
text_of (Word name) = name
text_of (Number n suffix) = decimal n ++ suffix_text suffix
text_of (Sign m) = mark_text m

-- A token, and whether a blank stands before it.
pub record Piece : Type 0 where
  pub spaced : Bool
  pub token : Token

abbrev pub Spelling : Type 0
Spelling = Bool → List Piece → List Piece

abbrev pub piece : Bool → Token → List Piece → List Piece
piece s t k = record { spaced = s; token = t } ∷ k

abbrev pub word : Bool → List ℕ → List Piece → List Piece
word s name k = piece s (Word name) k

abbrev pub number : Bool → ℕ → Option Kind → List Piece → List Piece
number s n suffix k = piece s (Number n suffix) k

abbrev pub sign : Bool → Mark → List Piece → List Piece
sign s m k = piece s (Sign m) k

abbrev pub or_none : Option Spelling → Spelling
or_none None s k = k
or_none (Some f) s k = f s k

-- Items with commas between them, and a blank behind each comma or none: from behind the first item on.
abbrev pub more_items : Bool → List Spelling → List Piece → List Piece
more_items gap [] k = k
more_items gap (f ∷ fs) k = sign false mark.Comma (f gap (more_items gap fs k))

abbrev pub items : Bool → List Spelling → Spelling
items gap [] s k = k
items gap (f ∷ fs) s k = f s (more_items gap fs k)

abbrev pub bracketed : Bool → List Spelling → Spelling
bracketed gap fs s k = sign s mark.Open (items gap fs false (sign false mark.Close k))

-- a lower bound, where it is given, and the colon behind it
abbrev pub lower : Option Spelling → Spelling
lower None s k = sign s mark.Colon k
lower (Some f) s k = f s (sign false mark.Colon k)

abbrev pub span : Option Spelling → Option Spelling → Spelling
span a b s k = lower a s (or_none b false k)

abbrev pub name_pieces : List ℕ → Spelling
name_pieces name s k = word s name k

abbrev pub pair : List ℕ → List ℕ → Spelling
pair first second s k = word s first (word true second k)

abbrev pub end_pieces : List ℕ → List ℕ → Spelling
end_pieces opening name s k = word s (codes "end") (word true opening (word true name k))
