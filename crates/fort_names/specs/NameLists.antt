-- Lists of names, and the first place of each key in a list.
use Rattle.std.specs.Prelude.{◌≡◌, ℕ, List, [], ◌∷◌, ◌++◌, Bool, true, not, ◌&&◌, IsTrue, if◌then◌else◌, position}
use Rattle.std.specs.List.{list_any}
use Rattle.std.specs.Str.{bytes_eq}
use Rattle.indexmap.specs.IndexMap.{IndexMap, get}

-- one of the names is this one
abbrev pub has : List (List ℕ) → List ℕ → Bool
has names name = list_any (bytes_eq name) names

-- the names, and this one as the last if it isn't among them
abbrev pub with_name : List (List ℕ) → List ℕ → List (List ℕ)
with_name names name = if has names name then names else names ++ name ∷ []

-- no name stands twice
abbrev pub all_differ : List (List ℕ) → Bool
all_differ [] = true
all_differ (name ∷ names) = not (has names name) && all_differ names

pub record AllDiffer (names : List (List ℕ)) : Type 0 where
  pub differ : IsTrue (all_differ names)

-- the map has the first place of each key of the list, and nothing else
pub record IsFirstOfEach {K S : Type 0} (eq : K → K → Bool) (keys : List K) (first : IndexMap K ℕ S) : Type 0 where
  pub place : (key : K) → get eq first key ≡ position (eq key) keys
