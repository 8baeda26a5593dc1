-- Turning all links of a graph, link by link, as values.
use Rattle.std.specs.Prelude.{ℕ, ◌+◌, List, [], ◌∷◌, ◌++◌, slice_set}
use Rattle.numbered_graph.specs.Graphs.{Rows, row}

abbrev pub with_link : ℕ → Rows → ℕ → Rows
with_link from back to = slice_set back to (row back to ++ from ∷ [])

abbrev pub with_links : ℕ → Rows → List ℕ → Rows
with_links from back [] = back
with_links from back (to ∷ rest) = with_links from (with_link from back to) rest

-- the links of the first point have this number
abbrev pub all_links : ℕ → Rows → Rows → Rows
all_links from back [] = back
all_links from back (r ∷ rs) = all_links (from + 1) (with_links from back r) rs
