-- Numbers in increasing order.
use Rattle.std.specs.Prelude.{ℕ, zero, suc, ℤ, pos, ◌+ℤ◌, List, [], ◌∷◌, map}
use Rattle.std.specs.Int.{int_gap}

-- n numbers from k on
abbrev pub up_from : ℕ → ℕ → List ℕ
up_from k zero = []
up_from k (suc n) = k ∷ up_from (suc k) n

-- n whole numbers from low on
abbrev pub wholes_from : ℤ → ℕ → List ℤ
wholes_from low n = map (λ k. low +ℤ pos k) (up_from 0 n)

-- how many whole numbers there are from low to high, none where high is less than low
abbrev pub extent : ℤ → ℤ → ℕ
extent low high = int_gap low (high +ℤ pos 1)

-- the whole numbers from low to high
abbrev pub wholes : ℤ → ℤ → List ℤ
wholes low high = wholes_from low (extent low high)
