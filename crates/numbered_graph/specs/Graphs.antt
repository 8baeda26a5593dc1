-- Graphs whose points are numbers: for each point a row, the points to which it has links, in an order.
use Rattle.std.specs.Prelude.{◌≡◌, ℕ, zero, suc, ◌+◌, ◌<◌, ◌≤◌, Bool, true, false, ◌&&◌, cond, nat_eq, List, [], ◌∷◌, ◌++◌, length, slice_index_or}
use Rattle.std.specs.List.{list_any, list_all}

abbrev pub Rows : Type 0
Rows = List (List ℕ)

-- the points to which a point has links
abbrev pub row : Rows → ℕ → List ℕ
row rows x = slice_index_or rows x []

-- the point is one of these
abbrev pub stands : ℕ → List ℕ → Bool
stands x xs = list_any (nat_eq x) xs

-- how often it is
abbrev pub times : ℕ → List ℕ → ℕ
times x [] = 0
times x (y ∷ ys) = cond (nat_eq x y) 1 0 + times x ys

-- each link leads to a point of the graph
pub record IsGraph (rows : Rows) : Type 0 where
  pub within : (x y : ℕ) → stands y (row rows x) ≡ true → y < length rows

-- the second graph has the links of the first the other way round, each as often
pub record IsReverse (rows back : Rows) : Type 0 where
  pub same_length : length back ≡ length rows
  pub turned : (x y : ℕ) → times x (row back y) ≡ times y (row rows x)

-- links lead from the first point to the second, any number of them
pub data Way (rows : Rows) : ℕ → ℕ → Type 0 where
  here : {x : ℕ} → Way rows x x
  onwards : {x y z : ℕ} → stands y (row rows x) ≡ true → Way rows y z → Way rows x z

-- a link from one point to another that leads back lies on a cycle, to which all points lead that lead to its first
pub record LeadsToCycle (rows : Rows) (x : ℕ) : Type 0 where
  pub from : ℕ
  pub to : ℕ
  pub way : Way rows x from
  pub link : stands to (row rows from) ≡ true
  pub back : Way rows to from

-- a chain of n links begins at the point
abbrev pub has_chain : Rows → ℕ → ℕ → Bool
has_chain rows zero x = true
has_chain rows (suc n) x = list_any (has_chain rows n) (row rows x)

-- Behind those that stand before, each point of the list stands behind all to which it has links.
abbrev pub is_behind : Rows → List ℕ → List ℕ → Bool
is_behind rows before [] = true
is_behind rows before (x ∷ xs) = list_all (λ y. stands y before) (row rows x) && is_behind rows (before ++ x ∷ []) xs

-- An order of the points that lead to no cycle: each stands once, behind all to which it has links.
pub record IsOrder (rows : Rows) (order : List ℕ) : Type 0 where
  pub once : (x : ℕ) → times x order ≤ 1
  pub within : (x : ℕ) → stands x order ≡ true → x < length rows
  pub behind : is_behind rows [] order ≡ true
  pub left_over : (x : ℕ) → x < length rows → stands x order ≡ false → LeadsToCycle rows x
  pub none_on_cycle : (x : ℕ) → stands x order ≡ true → LeadsToCycle rows x → ⊥

-- the numbers of a list in the order in which each first stands there
abbrev pub with_number : List ℕ → ℕ → List ℕ
with_number xs x = cond (stands x xs) xs (xs ++ x ∷ [])

abbrev pub firsts_after : List ℕ → List ℕ → List ℕ
firsts_after before [] = before
firsts_after before (x ∷ xs) = firsts_after (with_number before x) xs

abbrev pub each_once : List ℕ → List ℕ
each_once = firsts_after []
