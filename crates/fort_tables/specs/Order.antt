-- Words in ascending order.
use Rattle.std.specs.Prelude.{ℕ, Bool, true, false, ◌&&◌, ◌||◌, nat_lt, nat_eq, List, [], ◌∷◌, map, slice_index_or}
use Rattle.std.specs.Borrow.{Bor}

-- the first text stands before the second in order of bytes, and is not the second
abbrev pub is_before : List ℕ → List ℕ → Bool
is_before a [] = false
is_before [] (y ∷ ys) = true
is_before (x ∷ xs) (y ∷ ys) = nat_lt x y || (nat_eq x y && is_before xs ys)

-- each word stands before the next one
abbrev pub ascends : List (List ℕ) → Bool
ascends [] = true
ascends (a ∷ []) = true
ascends (a ∷ b ∷ more) = is_before a b && ascends (b ∷ more)

-- the texts of words
abbrev pub texts : List (Bor (List ℕ)) → List (List ℕ)
texts = map (λ word. word.now)

-- the word at an index
abbrev pub word_at : List (List ℕ) → ℕ → List ℕ
word_at words i = slice_index_or words i []
