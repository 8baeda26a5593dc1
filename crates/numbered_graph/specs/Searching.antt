-- Searching a graph, as values: points are found one after the other, each once.
use Rattle.std.specs.Prelude.{◌≡◌, ℕ, ◌<◌, ◌≤◌, Bool, true, false, cond, List, [], ◌∷◌, ◌++◌, length, slice_index_or, slice_set}
use Rattle.numbered_graph.specs.Graphs.{Rows, row, stands, times, Way}

-- the points in the order in which they were found, and for each whether it was
pub record Searched : Type 0 where
  pub found : List ℕ
  pub seen : List Bool

abbrev pub is_seen : Searched → ℕ → Bool
is_seen s x = slice_index_or s.seen x false

abbrev pub found_one : Searched → ℕ → Searched
found_one s x = cond (is_seen s x) s (record { found = s.found ++ x ∷ []; seen = slice_set s.seen x true })

abbrev pub found_all : Searched → List ℕ → Searched
found_all s [] = s
found_all s (x ∷ xs) = found_all (found_one s x) xs

-- each point that was found is one, and noted as such
pub record IsSearch (n : ℕ) (s : Searched) : Type 0 where
  pub same_length : length s.seen ≡ n
  pub within : (x : ℕ) → stands x s.found ≡ true → x < n
  pub once : (x : ℕ) → times x s.found ≤ 1
  pub seen_is : (x : ℕ) → is_seen s x ≡ stands x s.found

-- What was found can be reached, and the links of the points gone through lead to what was found.
pub record Searches (rows : Rows) (from : ℕ) (done : List ℕ) (s : Searched) : Type 0 where
  pub is_search : IsSearch (length rows) s
  pub starts : stands from s.found ≡ true
  pub led : (x : ℕ) → stands x s.found ≡ true → Way rows from x
  pub closed : (x y : ℕ) → stands x done ≡ true → stands y (row rows x) ≡ true → stands y s.found ≡ true
  pub rest : List ℕ
  pub goes_on : s.found ≡ done ++ rest
