-- The tokens of a line: each is the longest at its place.
use Rattle.std.specs.Prelude.{ℕ, ◌≡◌, ◌≢◌, Bool, false, true, cond, ◌==◌, ◌&&◌, ◌||◌, not, nat_le, List, [], ◌∷◌, ◌++◌, length, map, Option, None, Some}
use Rattle.std.specs.Char.{is_ascii_lowercase, is_ascii_digit, to_ascii_lowercase}
use Rattle.fort_tree.specs.declared.place.Place.{Place}
use Rattle.fort_tree.specs.declared.statement.Token.{Token}
use Rattle.fort_tokens.specs.declared.character.Char.{Char}
use Rattle.fort_tokens.specs.Texts.{is_small}
use Rattle.fort_tokens.specs.Forms.{is_form, is_number_form}

-- a token's text and the place of its first character
pub record Word : Type 0 where
  pub text : List ℕ
  pub at : Place

abbrev pub word_of : Token → Word
word_of token = record { text = token.text; at = token.at }

abbrev pub bytes : List Char → List ℕ
bytes = map (λ c. c.byte)

-- the characters have a token's form, and with more of those that follow they no longer have one
pub record Longest (token rest : List Char) : Type 0 where
  pub form : is_form (bytes token) ≡ true
  pub most : (more after : List Char) → more ≢ [] → rest ≡ more ++ after → is_form (bytes (token ++ more)) ≡ false

-- what no number may be followed by: a letter, or a point and a digit
abbrev pub goes_wrong : List Char → Bool
goes_wrong [] = false
goes_wrong (c ∷ []) = is_ascii_lowercase c.byte
goes_wrong (c ∷ d ∷ rest) = is_ascii_lowercase c.byte || (c.byte == 46 && is_ascii_digit d.byte)

-- a number is at most 9223372036854775807 and rightly followed, and a name has at most 63 characters
abbrev pub is_sound : List Char → List Char → Bool
is_sound token rest = cond (is_number_form (bytes token)) (is_small (bytes token) && not (goes_wrong rest)) (nat_le (length token) 63)

abbrev pub word_at : Place → List Char → Word
word_at at token = record { text = bytes token; at = at }

-- The characters, letters in lower case, are cut into these tokens, up to the first bad one if there is one.
pub data Cut : List Char → List Word → Option Place → Type 0 where
  end : Cut [] [] None
  blank : {rest : List Char} {words : List Word} {bad : Option Place} (first : Char) → first.byte ≡ 32 → Cut rest words bad → Cut (first ∷ rest) words bad
  token : {rest : List Char} {words : List Word} {bad : Option Place} (first : Char) (others : List Char) → Longest (first ∷ others) rest → is_sound (first ∷ others) rest ≡ true →
      Cut rest words bad → Cut (first ∷ others ++ rest) (word_at first.at (first ∷ others) ∷ words) bad
  broken : {rest : List Char} (first : Char) (others : List Char) → Longest (first ∷ others) rest → is_sound (first ∷ others) rest ≡ false → Cut (first ∷ others ++ rest) [] (Some first.at)
  none : {rest : List Char} (first : Char) → first.byte ≢ 32 → ((others after : List Char) → rest ≡ others ++ after → is_form (bytes (first ∷ others)) ≡ false) → Cut (first ∷ rest) [] (Some first.at)

-- the character with an upper-case letter put into lower case
abbrev pub lowered : Char → Char
lowered c = record { byte = to_ascii_lowercase c.byte; at = c.at }

-- The characters, whose case doesn't count, are read as these tokens, up to the first bad one if there is one.
abbrev pub Reads : List Char → List Word → Option Place → Type 0
Reads line words bad = Cut (map lowered line) words bad
