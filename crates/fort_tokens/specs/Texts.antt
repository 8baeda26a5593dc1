-- Bytes of tokens, and the tokens that are fixed words.
use Rattle.std.specs.Prelude.{ℕ, ◌+◌, ◌-◌, ◌*◌, Bool, false, true, cond, ◌&&◌, ◌||◌, ◌==◌, nat_le, nat_eq, List, [], ◌∷◌, ◌++◌, length, take}
use Rattle.std.specs.List.{list_any}
use Rattle.std.specs.Char.{is_ascii_lowercase, is_ascii_digit}
use Rattle.fort_tree.specs.Token.{is_one_of, dotted_words, operators}

-- a letter in lower case, a digit or an underscore
abbrev pub is_name_byte : ℕ → Bool
is_name_byte b = is_ascii_lowercase b || (is_ascii_digit b || b == 95)

-- 1, 2, 4 or 8, a number of bytes
abbrev pub is_kind : ℕ → Bool
is_kind b = b == 49 || (b == 50 || (b == 52 || b == 56))

-- the words between points, the operators and the delimiters
abbrev pub fixed_words : List (List ℕ)
fixed_words = dotted_words ++ operators

-- the word begins with the text
abbrev pub begins_with : List ℕ → List ℕ → Bool
begins_with word [] = true
begins_with [] (b ∷ bs) = false
begins_with (w ∷ ws) (b ∷ bs) = nat_eq b w && begins_with ws bs

-- the text is the front of a fixed word
abbrev pub is_begun : List ℕ → Bool
is_begun text = list_any (λ word. begins_with word text) fixed_words

-- the text is a fixed word
abbrev pub is_fixed : List ℕ → Bool
is_fixed text = is_one_of fixed_words text

-- the number that the digits at the front of a text continue
abbrev pub value_from : ℕ → List ℕ → ℕ
value_from v [] = v
value_from v (b ∷ bs) = cond (is_ascii_digit b) (value_from (10 * v + (b - 48)) bs) v

-- the number at the front of a text is not too large
abbrev pub is_small : List ℕ → Bool
is_small text = nat_le (value_from 0 text) 9223372036854775807

-- a text without its last byte
abbrev pub front : List ℕ → List ℕ
front text = take (length text - 1) text
