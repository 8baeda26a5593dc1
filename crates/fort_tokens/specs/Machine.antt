-- What one character does to a reader.
use Rattle.std.specs.Prelude.{ℕ, Bool, false, true, cond, ◌==◌, ◌&&◌, not, nat_le, List, [], ◌∷◌, ◌++◌, length, Option, None, Some, is_some}
use Rattle.std.specs.Char.{is_ascii_lowercase, is_ascii_digit}
use Rattle.fort_tree.specs.declared.place.Place.{Place}
use Rattle.fort_tokens.specs.declared.character.Char.{Char}
use Rattle.fort_tokens.specs.declared.shape.Shape.{Shape}
use Rattle.fort_tokens.specs.declared.shape.Shape.TheVariants as shape
use Rattle.fort_tokens.specs.Texts.{is_name_byte, is_kind, is_begun, is_fixed, is_small, front}
use Rattle.fort_tokens.specs.Reads.{lowered}
use Rattle.fort_tokens.specs.Reading.{Reading}

-- the shape of a text of one byte, if a token can begin so
abbrev pub first_shape : ℕ → Option Shape
first_shape byte = cond (is_ascii_lowercase byte) (Some shape.Name) (cond (is_ascii_digit byte) (Some shape.Digits) (cond (is_begun (byte ∷ [])) (Some shape.Fixed) None))

-- the shape of the text with one byte more, if a token can begin so
abbrev pub goes_on : Shape → List ℕ → ℕ → Option Shape
goes_on shape.Empty text byte = first_shape byte
goes_on shape.Name text byte = cond (is_name_byte byte) (Some shape.Name) None
goes_on shape.Digits text byte = cond (is_ascii_digit byte) (Some shape.Digits) (cond (byte == 95) (Some shape.Under) (cond (byte == 46) (Some shape.Point) None))
goes_on shape.Under text byte = cond (is_kind byte) (Some shape.Suffixed) None
goes_on shape.Suffixed text byte = cond (byte == 46) (Some shape.Point) None
goes_on shape.Point text byte = None
goes_on shape.Fixed text byte = cond (is_begun (text ++ byte ∷ [])) (Some shape.Fixed) None

abbrev pub is_empty : Shape → Bool
is_empty shape.Empty = true
is_empty _ = false

abbrev pub first_place : Place
first_place = record { file = 0; line = 1; column = 1 }

-- before a line
abbrev pub fresh : Reading
fresh = record { words = []; shape = shape.Empty; text = []; at = first_place; last = first_place; bad = None }

-- the text has the character behind it, and this shape
abbrev pub grown : Reading → Shape → Char → Reading
grown reading to character = record { words = reading.words; shape = to; text = reading.text ++ character.byte ∷ []; at = cond (is_empty reading.shape) character.at reading.at; last = character.at; bad = None }

abbrev pub spoiled : Reading → Place → Reading
spoiled reading at = record { words = reading.words; shape = reading.shape; text = reading.text; at = reading.at; last = reading.last; bad = Some at }

-- the text becomes a token
abbrev pub emitted : Reading → Reading
emitted reading = record { words = reading.words ++ record { text = reading.text; at = reading.at } ∷ []; shape = shape.Empty; text = []; at = reading.at; last = reading.last; bad = reading.bad }

-- the text without its last byte becomes a token, and a point is left
abbrev pub split : Reading → Reading
split reading = record { words = reading.words ++ record { text = front reading.text; at = reading.at } ∷ []; shape = shape.Fixed; text = 46 ∷ []; at = reading.last; last = reading.last; bad = reading.bad }

-- the text ends before this byte
abbrev pub settled_at : Shape → Reading → ℕ → Reading
settled_at shape.Empty reading byte = reading
settled_at shape.Name reading byte = cond (nat_le (length reading.text) 63) (emitted reading) (spoiled reading reading.at)
settled_at shape.Digits reading byte = cond (is_small reading.text && not (is_ascii_lowercase byte)) (emitted reading) (spoiled reading reading.at)
settled_at shape.Suffixed reading byte = cond (is_small reading.text && not (is_ascii_lowercase byte)) (emitted reading) (spoiled reading reading.at)
settled_at shape.Under reading byte = cond (is_small reading.text) (spoiled (split reading) reading.last) (spoiled reading reading.at)
settled_at shape.Point reading byte = cond (is_small reading.text && not (is_ascii_digit byte)) (split reading) (spoiled reading reading.at)
settled_at shape.Fixed reading byte = cond (is_fixed reading.text) (emitted reading) (spoiled reading reading.at)

abbrev pub settled : Reading → ℕ → Reading
settled reading byte = settled_at reading.shape reading byte

abbrev pub started_as : Option Shape → Reading → Char → Reading
started_as (Some to) reading character = grown reading to character
started_as None reading character = cond (is_empty reading.shape) (cond (character.byte == 32) reading (spoiled reading character.at)) (spoiled reading reading.at)

abbrev pub started : Reading → Char → Reading
started reading character = cond (is_some reading.bad) reading (started_as (goes_on reading.shape reading.text character.byte) reading character)

abbrev pub taken_as : Option Shape → Reading → Char → Reading
taken_as (Some to) reading character = grown reading to character
taken_as None reading character = started (settled reading character.byte) character

-- a character that is no upper-case letter is taken
abbrev pub taken : Reading → Char → Reading
taken reading character = cond (is_some reading.bad) reading (taken_as (goes_on reading.shape reading.text character.byte) reading character)

-- a character is taken, whose case doesn't count
abbrev pub fed : Reading → Char → Reading
fed reading character = taken reading (lowered character)

-- the line ends
abbrev pub closed : Reading → Reading
closed reading = cond (is_some reading.bad) reading (cond (is_empty reading.shape) reading (spoiled reading reading.at))

abbrev pub finished : Reading → Reading
finished reading = cond (is_some reading.bad) reading (closed (settled reading 32))

abbrev pub fed_all : Reading → List Char → Reading
fed_all reading [] = reading
fed_all reading (character ∷ characters) = fed_all (fed reading character) characters
