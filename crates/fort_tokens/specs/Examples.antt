-- Small lines and their tokens.
use Rattle.std.specs.Prelude.{ℕ, ◌+◌, List, [], ◌∷◌, Option, map, option_map}
use Rattle.fort_tokens.specs.declared.character.Char.{Char}
use Rattle.fort_tokens.specs.Machine.{fresh, fed_all, finished}

-- the bytes of line 1, from a column on
abbrev pub placed : ℕ → List ℕ → List Char
placed column [] = []
placed column (b ∷ bs) = record { byte = b; at = record { file = 0; line = 1; column = column } } ∷ placed (column + 1) bs

-- the texts of a line's tokens, up to the first bad one
abbrev pub texts : List ℕ → List (List ℕ)
texts line = map (λ word. word.text) (finished (fed_all fresh (placed 1 line))).words

-- the column of a line's first bad token
abbrev pub bad_column : List ℕ → Option ℕ
bad_column line = option_map (λ place. place.column) (finished (fed_all fresh (placed 1 line))).bad
