-- Counts that never fall. One that is kept in a u64 stops at the greatest u64, and counts as risen there.
use Rattle.std.specs.Prelude.{ℕ, ◌+◌, ◌-◌, ◌^◌, ◌≤◌, min}

-- the count after n more, kept in a u64
abbrev pub raised : ℕ → ℕ → ℕ
raised before n = min (before + n) (2 ^ 64 - 1)

-- The count rose.
abbrev pub Rose : ℕ → ℕ → Type 0
Rose before now = raised before 1 ≤ now

-- The count rose by at least n.
abbrev pub RoseBy : ℕ → ℕ → ℕ → Type 0
RoseBy n before now = raised before n ≤ now
