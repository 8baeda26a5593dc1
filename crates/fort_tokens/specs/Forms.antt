-- What a token's text looks like, its length and value set aside. Letters stand in lower case.
use Rattle.std.specs.Prelude.{ℕ, Bool, false, true, cond, ◌==◌, List, [], ◌∷◌}
use Rattle.std.specs.List.{list_all}
use Rattle.std.specs.Char.{is_ascii_lowercase, is_ascii_digit}
use Rattle.fort_tokens.specs.Texts.{is_name_byte, is_kind, is_fixed}

-- behind an underscore a kind and no more
abbrev pub is_suffix : List ℕ → Bool
is_suffix [] = false
is_suffix (k ∷ []) = is_kind k
is_suffix (k ∷ b ∷ bs) = false

-- behind a digit, digits and then a suffix or nothing
abbrev pub is_number_tail : List ℕ → Bool
is_number_tail [] = true
is_number_tail (b ∷ bs) = cond (is_ascii_digit b) (is_number_tail bs) (cond (b == 95) (is_suffix bs) false)

-- a number, however large
abbrev pub is_number_form : List ℕ → Bool
is_number_form [] = false
is_number_form (b ∷ bs) = cond (is_ascii_digit b) (is_number_tail bs) false

-- a name, however long, a number, or a fixed word
abbrev pub is_form : List ℕ → Bool
is_form [] = false
is_form (b ∷ bs) = cond (is_ascii_lowercase b) (list_all is_name_byte bs) (cond (is_ascii_digit b) (is_number_tail bs) (is_fixed (b ∷ bs)))
