-- Plans: the orders of all marked loops of a run, and schedules, as they are given from outside, where iterations count from 1.
use Rattle.std.specs.Prelude.{ℕ, zero, suc, List, [], ◌∷◌, Bool, true, ◌&&◌, not, if◌then◌else◌}
use Rattle.courses.specs.Ranges.{up_from}
use Rattle.courses.specs.Interaction.{Orders}
use Rattle.courses.specs.Steps.{member}

pub data Plan : Type 0 where
  -- each marked loop in increasing order
  Up : Plan
  -- each in decreasing order
  Down : Plan
  -- each in this order
  Each : List ℕ → Plan
  -- the first marked loop of the run in the first of these orders, and so on
  Given : List (List ℕ) → Plan

-- n, n - 1 .. 1
abbrev pub down_from : ℕ → List ℕ
down_from zero = []
down_from (suc n) = suc n ∷ down_from n

-- the list of that number, from 0
abbrev pub listed : List (List ℕ) → ℕ → List ℕ
listed [] j = []
listed (l ∷ ls) zero = l
listed (l ∷ ls) (suc j) = listed ls j

-- the plan's list for the marked loop of number j, from 0, with n iterations
abbrev pub planned : Plan → ℕ → ℕ → List ℕ
planned Up j n = up_from 1 n
planned Down j n = down_from n
planned (Each is) j n = is
planned (Given ls) j n = listed ls j

abbrev pub distinct : List ℕ → Bool
distinct [] = true
distinct (i ∷ is) = not (member i is) && distinct is

abbrev pub all_in : List ℕ → List ℕ → Bool
all_in [] ys = true
all_in (i ∷ is) ys = member i ys && all_in is ys

-- the list holds each number from 1 to n once and no other
abbrev pub is_permutation : List ℕ → ℕ → Bool
is_permutation is n = distinct is && (all_in is (up_from 1 n) && all_in (up_from 1 n) is)

-- the iterations that these numbers name, counted from 0
abbrev pub from_one : List ℕ → List ℕ
from_one [] = []
from_one (zero ∷ is) = from_one is
from_one (suc i ∷ is) = i ∷ from_one is

-- the plan's list where that is a permutation of the iterations, else increasing order
abbrev pub orders_of : Plan → Orders
orders_of plan j n = if is_permutation (planned plan j n) n then from_one (planned plan j n) else up_from 0 n
