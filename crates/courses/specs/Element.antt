-- The elements of variables, what they hold, and stores.
use Rattle.std.specs.Prelude.{ℕ, ℤ, List, Bool, false, ◌&&◌, nat_eq, if◌then◌else◌}
use Rattle.std.specs.Ordering.{int_eq}
use Rattle.std.specs.Cmp.Lexicographic.{pointwise}

-- what an element holds
pub data Value : Type 0 where
  Undefined : Value
  Whole : ℤ → Value
  Truth : Bool → Value

-- a scalar, or an element of an array. Unit and module names differ over all files, so a home and a name tell a variable
pub record Element : Type 0 where
  pub home : List ℕ  -- the bytes of the name of the unit or module that declares the variable
  pub name : List ℕ  -- the bytes of the variable's name
  pub index : List ℤ  -- its subscripts, none for a scalar

abbrev pub same_name : List ℕ → List ℕ → Bool
same_name a b = pointwise nat_eq a b

abbrev pub same_index : List ℤ → List ℤ → Bool
same_index is js = pointwise int_eq is js

-- the test by which stores and logs tell elements apart
unfoldable pub same_element : Element → Element → Bool
same_element a b = same_name a.home b.home && (same_name a.name b.name && same_index a.index b.index)

-- each element's value
abbrev pub Store : Type 0
Store = Element → Value

unfoldable pub put : Store → Element → Value → Store
put s e v x = if same_element e x then v else s x

-- where nothing is defined
abbrev pub blank : Store
blank e = Undefined

-- the first store's elements of p, and the second's others
unfoldable pub merged : (Element → Bool) → Store → Store → Store
merged p t s e = if p e then t e else s e

-- no element
abbrev pub nobody : Element → Bool
nobody e = false
