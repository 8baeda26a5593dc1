-- Peeling a graph, as values: a point joins the order once all to which it has links have been gone through.
use Rattle.std.specs.Prelude.{◌≡◌, ℕ, ◌-◌, ◌<◌, ◌+◌, Bool, true, ◌&&◌, cond, nat_eq, nat_lt, map, List, [], ◌∷◌, ◌++◌, length, slice_index, slice_set}
use Rattle.numbered_graph.specs.Graphs.{Rows, row, stands, times, is_behind}

-- the order so far, and for each point how many of its links lead to points that haven't been gone through
pub record Peeled : Type 0 where
  pub order : List ℕ
  pub waits : List ℕ

-- one link less of the point
abbrev pub released_one : Peeled → ℕ → Peeled
released_one p x = record {
  order = cond (nat_eq (slice_index p.waits x - 1) 0) (p.order ++ x ∷ []) p.order;
  waits = slice_set p.waits x (slice_index p.waits x - 1);
}

abbrev pub released : Peeled → List ℕ → Peeled
released p [] = p
released p (x ∷ xs) = released (released_one p x) xs

-- each of the points waits for a link
abbrev pub can_release : Peeled → List ℕ → Bool
can_release p [] = true
can_release p (x ∷ xs) = (nat_lt x (length p.waits) && nat_lt 0 (slice_index p.waits x)) && can_release (released_one p x) xs

-- what the order has before anything has been gone through: the points without links, of which the first has this number
abbrev pub leaves : ℕ → Rows → List ℕ
leaves n [] = []
leaves n (r ∷ rs) = cond (nat_eq (length r) 0) (n ∷ leaves (n + 1) rs) (leaves (n + 1) rs)

abbrev pub unpeeled : Rows → Peeled
unpeeled rows = record { order = leaves 0 rows; waits = map length rows }

-- how many of these aren't among the others
abbrev pub missing : List ℕ → List ℕ → ℕ
missing done [] = 0
missing done (x ∷ xs) = cond (stands x done) 0 1 + missing done xs

-- The first points of the order have been gone through, except that of links to the last of them these callers are still to come.
pub record Peels (rows : Rows) (done callers : List ℕ) (p : Peeled) : Type 0 where
  pub same_length : length p.waits ≡ length rows
  pub within : (x : ℕ) → stands x p.order ≡ true → x < length rows
  pub waiting : (x : ℕ) → x < length rows → slice_index p.waits x ≡ missing done (row rows x) + times x callers
  pub ready : (x : ℕ) → x < length rows → times x p.order ≡ cond (nat_eq (slice_index p.waits x) 0) 1 0
  pub behind : is_behind rows [] p.order ≡ true
  pub rest : List ℕ
  pub goes_on : p.order ≡ done ++ rest
