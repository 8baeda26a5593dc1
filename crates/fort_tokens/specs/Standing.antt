-- What a reader shows, and what its text is in each shape.
use Rattle.std.specs.Prelude.{ℕ, ◌≡◌, Bool, true, false, ◌&&◌, List, [], ◌∷◌, ◌++◌, map, ⊤}
use Rattle.std.specs.List.{list_all}
use Rattle.std.specs.Char.{is_ascii_lowercase, is_ascii_digit}
use Rattle.fort_tokens.specs.declared.reader.Reader.TheInside.{Inside}
use Rattle.fort_tokens.specs.declared.shape.Shape.{Shape}
use Rattle.fort_tokens.specs.declared.shape.Shape.TheVariants as shape
use Rattle.fort_tokens.specs.Texts.{is_name_byte, front}
use Rattle.fort_tokens.specs.Forms.{is_number_form}
use Rattle.fort_tokens.specs.Reads.{word_of}
use Rattle.fort_tokens.specs.Reading.{Reading}

abbrev pub reading_of : Inside → Reading
reading_of r = record { words = map word_of r.tokens; shape = r.shape; text = r.text; at = r.at; last = r.last; bad = r.bad }

-- a name, however long
abbrev pub is_name_form : List ℕ → Bool
is_name_form [] = false
is_name_form (b ∷ bs) = is_ascii_lowercase b && list_all is_name_byte bs

-- digits, at least one
abbrev pub is_digits : List ℕ → Bool
is_digits [] = false
is_digits (b ∷ bs) = is_ascii_digit b && list_all is_ascii_digit bs

-- the text has the form that its shape says
abbrev pub HasShape : Shape → List ℕ → Type 0
HasShape shape.Empty text = text ≡ []
HasShape shape.Name text = is_name_form text ≡ true
HasShape shape.Digits text = is_digits text ≡ true
HasShape shape.Under text = (is_digits (front text) ≡ true) × (text ≡ front text ++ 95 ∷ [])
HasShape shape.Suffixed text = is_number_form text ≡ true
HasShape shape.Point text = (is_number_form (front text) ≡ true) × (text ≡ front text ++ 46 ∷ [])
HasShape shape.Fixed text = ⊤

abbrev pub IsStanding : Inside → Type 0
IsStanding r = HasShape r.shape r.text
