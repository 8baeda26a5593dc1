-- Groups of points that lead to one another: a root of each, and numbers that fall along no link.
use Rattle.std.specs.Prelude.{◌≡◌, ℕ, ◌+◌, ◌≤◌, Bool, true, false, ◌&&◌, not, cond, nat_eq, nat_lt, is_none, List, [], ◌∷◌, length, Option, Some, None, slice_set}
use Rattle.std.specs.List.{list_all}
use Rattle.numbered_graph.specs.Graphs.{Rows, row, stands, Way}
use Rattle.numbered_graph.specs.Deepness.{depth_at}

abbrev pub or_zero : Option ℕ → ℕ
or_zero None = 0
or_zero (Some n) = n

abbrev pub number_at : List (Option ℕ) → ℕ → ℕ
number_at numbers x = or_zero (depth_at numbers x)

abbrev pub are_alike : List (Option ℕ) → ℕ → ℕ → Bool
are_alike groups x y = nat_eq (number_at groups x) (number_at groups y)

-- ---- roots

-- it is a point without a root
abbrev pub is_free : List (Option ℕ) → ℕ → Bool
is_free roots x = nat_lt x (length roots) && is_none (depth_at roots x)

abbrev pub rooted : ℕ → List (Option ℕ) → ℕ → List (Option ℕ)
rooted root roots x = cond (is_free roots x) (slice_set roots x (Some root)) roots

-- those of the points that are in one group with the first
abbrev pub rooted_all : List (Option ℕ) → ℕ → ℕ → List (Option ℕ) → List ℕ → List (Option ℕ)
rooted_all groups from root roots [] = roots
rooted_all groups from root roots (x ∷ xs) = rooted_all groups from root (cond (are_alike groups from x) (rooted root roots x) roots) xs

-- each point that has a root is reached from it
pub record AreReached (rows : Rows) (roots : List (Option ℕ)) : Type 0 where
  pub way : (x r : ℕ) → depth_at roots x ≡ Some r → Way rows r x

-- ---- numbers

-- the numbers fall along no link of the points, of which the first has this number
abbrev pub rises_from : List (Option ℕ) → ℕ → Rows → Bool
rises_from numbers x [] = true
rises_from numbers x (r ∷ rs) = list_all (λ y. not (nat_lt (number_at numbers y) (number_at numbers x))) r && rises_from numbers (x + 1) rs

-- ---- groups

-- for each point a number; whether the numbers fall along no link; for each point one to which it leads, and one that leads to it
pub record Grouped : Type 0 where
  pub numbers : List (Option ℕ)
  pub rise : Bool
  pub behind : List (Option ℕ)
  pub before : List (Option ℕ)

pub record AreGroups (rows : Rows) (g : Grouped) : Type 0 where
  pub rises : g.rise ≡ true → (x y : ℕ) → stands y (row rows x) ≡ true → number_at g.numbers x ≤ number_at g.numbers y
  pub onwards : (x r : ℕ) → depth_at g.behind x ≡ Some r → Way rows x r
  pub back : (x r : ℕ) → depth_at g.before x ≡ Some r → Way rows r x

-- the numbers say that nothing leads from the first point to the second
abbrev pub is_apart : Grouped → ℕ → ℕ → Bool
is_apart g from to = g.rise && nat_lt (number_at g.numbers to) (number_at g.numbers from)

abbrev pub are_one : Option ℕ → Option ℕ → Bool
are_one None b = false
are_one (Some a) None = false
are_one (Some a) (Some b) = nat_eq a b

-- a root says that the first point leads to the second
abbrev pub is_joined : Grouped → ℕ → ℕ → Bool
is_joined g from to = are_one (depth_at g.behind from) (depth_at g.before to)
