-- Marks of the variables of a list, each at the variable's first place in it.
use Rattle.std.specs.Prelude.{◌≡◌, ℕ, ◌<◌, Bool, true, false, ◌||◌, List, [], length, Option, Some, None, position, slice_set, slice_index_or}
use Rattle.std.specs.List.{list_any}
use Rattle.claw_meaning.specs.Syntax.{Text}
use Rattle.numbered_graph.specs.Graphs.{stands}
use Rattle.sound_programs.specs.ArgumentFaults.{same_pair}

-- the mark at a place
abbrev pub mark_at : List Bool → Option ℕ → Bool
mark_at marks None = false
mark_at marks (Some n) = slice_index_or marks n false

-- the variable is in the list, and is marked
abbrev pub is_marked : List (Text × Text) → List Bool → Text × Text → Bool
is_marked variables marks v = mark_at marks (position (same_pair v) variables)

-- a mark more
abbrev pub with_mark : List Bool → Option ℕ → List Bool
with_mark marks None = marks
with_mark marks (Some n) = slice_set marks n true

-- just these variables are marked
pub record AreMarks (variables list : List (Text × Text)) (marks : List Bool) : Type 0 where
  pub same_length : length marks ≡ length variables
  pub marked : (v : Text × Text) → is_marked variables marks v ≡ list_any (same_pair v) list

-- all these variables are in the list
pub record HasAll (variables list : List (Text × Text)) : Type 0 where
  pub there : (v : Text × Text) → list_any (same_pair v) list ≡ true → list_any (same_pair v) variables ≡ true

-- one of the rows of these numbers has a mark at the place
abbrev pub some_mark : List (List Bool) → List ℕ → ℕ → Bool
some_mark rows numbers n = list_any (λ k. slice_index_or (slice_index_or rows k []) n false) numbers

-- all these rows are as long
pub record AreLong (rows : List (List Bool)) (numbers : List ℕ) (count : ℕ) : Type 0 where
  pub there : (k : ℕ) → stands k numbers ≡ true → k < length rows
  pub long : (k : ℕ) → stands k numbers ≡ true → length (slice_index_or rows k []) ≡ count

-- the marks of the first list and of the rows of these numbers
pub record AreMerged (own : List Bool) (rows : List (List Bool)) (numbers : List ℕ) (marks : List Bool) : Type 0 where
  pub same_length : length marks ≡ length own
  pub merged : (n : ℕ) → n < length own → slice_index_or marks n false ≡ (slice_index_or own n false || some_mark rows numbers n)

-- all variables of these rows are in the list
pub record HasAllRows (variables : List (Text × Text)) (rows : List (List (Text × Text))) : Type 0 where
  pub each : (n : ℕ) → HasAll variables (slice_index_or rows n [])

-- just those variables are marked that are in the second list, or that one of the rows of these numbers marks
pub record IsMarkedFrom (variables list : List (Text × Text)) (rows : List (List Bool)) (numbers : List ℕ) (marks : List Bool) : Type 0 where
  pub same_length : length marks ≡ length variables
  pub marked : (v : Text × Text) → is_marked variables marks v ≡ (list_any (same_pair v) list || list_any (λ k. is_marked variables (slice_index_or rows k []) v) numbers)
