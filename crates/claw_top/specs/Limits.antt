-- Limits of the sources.
use Rattle.std.specs.Prelude.{ℕ, List, length, sum_by}

-- A request names at most so many files.
abbrev pub most_files : ℕ
most_files = 64

-- The sources have at most so many bytes together.
abbrev pub most_bytes : ℕ
most_bytes = 4194304

-- the bytes of the sources together
abbrev pub total_length : List (List ℕ) → ℕ
total_length sources = sum_by length sources

-- So the sources have at most so many logical lines: of each at most one more than bytes.
abbrev pub most_lines : ℕ
most_lines = 4194368
