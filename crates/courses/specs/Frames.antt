-- Frames: stores of declared variables as finite maps.
use Rattle.std.specs.Prelude.{◌≡◌, ℕ, zero, suc, ℤ, List, [], ◌∷◌, map, length, flat_map, Bool, true, false, ◌&&◌, ◌||◌, int_le, if◌then◌else◌}
use Rattle.courses.specs.Element.{Value, Undefined, Element, same_name, same_index, Store}
use Rattle.courses.specs.Ranges.{wholes}

-- one variable: its lower and upper bounds in each dimension, and its values in element order, the first subscript fastest
pub record Entry : Type 0 where
  pub home : List ℕ
  pub name : List ℕ
  pub bounds : List (ℤ × ℤ)
  pub items : List Value

-- the subscripts of an array's elements in element order
abbrev pub places : List (ℤ × ℤ) → List (List ℤ)
places [] = [] ∷ []
places (b ∷ bs) = flat_map (λ rest. map (λ i. i ∷ rest) (wholes b.0 b.1)) (places bs)

-- there is one subscript for each dimension, within its bounds
abbrev pub within : List (ℤ × ℤ) → List ℤ → Bool
within [] [] = true
within [] (i ∷ is) = false
within (b ∷ bs) [] = false
within (b ∷ bs) (i ∷ is) = (int_le b.0 i && int_le i b.1) && within bs is

-- the value beside these subscripts
abbrev pub found : List (List ℤ) → List Value → List ℤ → Value
found [] vs is = Undefined
found (p ∷ ps) [] is = Undefined
found (p ∷ ps) (v ∷ vs) is = if same_index p is then v else found ps vs is

abbrev pub is_place : List (List ℤ) → List ℤ → Bool
is_place [] is = false
is_place (p ∷ ps) is = same_index p is || is_place ps is

abbrev pub is_named : Entry → List ℕ → List ℕ → Bool
is_named f home name = same_name f.home home && same_name f.name name

-- what the frame holds at an element, and Undefined elsewhere
abbrev pub look : List Entry → Store
look [] e = Undefined
look (f ∷ fs) e = if is_named f e.home e.name then found (places f.bounds) f.items e.index else look fs e

-- the element is of a variable of the frame, within its bounds
abbrev pub inside : List Entry → Element → Bool
inside [] e = false
inside (f ∷ fs) e = if is_named f e.home e.name then is_place (places f.bounds) e.index else inside fs e

-- the same variables and bounds, with the store's values
abbrev pub filled : List Entry → Store → List Entry
filled [] s = []
filled (f ∷ fs) s =
    record { home = f.home; name = f.name; bounds = f.bounds; items = map (λ is. s (record { home = f.home; name = f.name; index = is })) (places f.bounds) } ∷ filled fs s

abbrev pub has_name : List Entry → List ℕ → List ℕ → Bool
has_name [] home name = false
has_name (f ∷ fs) home name = is_named f home name || has_name fs home name

-- one entry a variable, and one value a place
abbrev pub IsFrame : List Entry → Type 0
IsFrame [] = Unit {0}
IsFrame (f ∷ fs) = (has_name fs f.home f.name ≡ false) × (length f.items ≡ length (places f.bounds)) × IsFrame fs

-- the bounds with those of one more dimension at this place, or behind them all where there are fewer
abbrev pub bounds_inserted : ℕ → ℤ × ℤ → List (ℤ × ℤ) → List (ℤ × ℤ)
bounds_inserted zero b bs = b ∷ bs
bounds_inserted (suc k) b [] = b ∷ []
bounds_inserted (suc k) b (d ∷ bs) = d ∷ bounds_inserted k b bs
