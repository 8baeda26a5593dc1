-- The depth of points: how long the longest chain is that begins there, up to a limit.
use Rattle.std.specs.Prelude.{◌≡◌, ℕ, ◌+◌, ◌≤◌, cond, nat_le, nat_lt, List, [], ◌∷◌, length, Option, Some, None, is_some, slice_index_or}
use Rattle.numbered_graph.specs.Graphs.{Rows, stands, has_chain}

-- the greater of two
abbrev pub greater : ℕ → ℕ → ℕ
greater a b = cond (nat_lt a b) b a

-- one more, up to the limit
abbrev pub one_deeper : ℕ → ℕ → ℕ
one_deeper limit d = cond (nat_lt d limit) (d + 1) limit

-- the depth of a point, where it has one
abbrev pub depth_at : List (Option ℕ) → ℕ → Option ℕ
depth_at depths x = slice_index_or depths x None

abbrev pub deeper_by : ℕ → ℕ → Option ℕ → ℕ
deeper_by limit so_far None = so_far
deeper_by limit so_far (Some d) = greater so_far (one_deeper limit d)

-- one more than the greatest depth of these points, or what it was so far
abbrev pub depth_over : ℕ → List (Option ℕ) → ℕ → List ℕ → ℕ
depth_over limit depths so_far [] = so_far
depth_over limit depths so_far (x ∷ xs) = depth_over limit depths (deeper_by limit so_far (depth_at depths x)) xs

-- The points of the order have a depth, and no others: of k links up to the limit a chain begins there exactly where the depth
-- is no less.
pub record AreDepths (rows : Rows) (order : List ℕ) (limit : ℕ) (depths : List (Option ℕ)) : Type 0 where
  pub same_length : length depths ≡ length rows
  pub ordered : (x : ℕ) → is_some (depth_at depths x) ≡ stands x order
  pub depth : (x d k : ℕ) → depth_at depths x ≡ Some d → k ≤ limit → has_chain rows k x ≡ nat_le k d
