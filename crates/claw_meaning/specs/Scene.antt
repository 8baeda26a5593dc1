-- An activation of a unit: what its names mean, with the bounds of its arrays, and the units that it calls.
use Rattle.std.specs.Prelude.{ℕ, zero, suc, ℤ, pos, negsuc, ◌+ℤ◌, ◌-ℤ◌, int_le, int_lt, List, [], ◌∷◌, map, Option, Some, None, Bool, true, false, ◌&&◌, if◌then◌else◌}
use Rattle.fort_arith.specs.declared.kind.Kind.{Kind}
use Rattle.fort_tree.specs.declared.unit.Intent.{Intent}
use Rattle.courses.specs.Element.{Value, Element}
use Rattle.courses.specs.Ranges.{extent}
use Rattle.courses.specs.Course.{Sort, Item, Many, Course}
use Rattle.claw_meaning.specs.Syntax.{Text}

-- lower and upper bound of a dimension; where it holds nothing, the upper one is the lower less 1
abbrev pub Bounds : Type 0
Bounds = List (ℤ × ℤ)

-- a variable of this activation or of a module; a scalar has no bounds
pub record Variable : Type 0 where
  pub home : Text
  pub name : Text
  pub kind : Kind
  pub bounds : Bounds

-- what a name means in an activation
pub data Meant : Type 0 where
  Unmeant : Meant
  Held : Variable → Meant
  Known : Kind → Value → Meant  -- a PARAMETER
  Called : Text → Kind → Meant  -- a unit, and the kind of its result

-- a dummy argument as its callers see it
pub record Dummy : Type 0 where
  pub name : Text
  pub kind : Kind
  pub intent : Intent
  pub is_array : Bool
  pub is_column : Bool

-- an actual argument as the callee gets it: the elements that it names, none for an evaluated value; their extents where
-- it is an array; and the values that are copied in, none for an OUT dummy
pub record Passed : Type 0 where
  pub elements : List Element
  pub extents : List ℕ
  pub values : List Value

-- a unit as it is called: its dummies, its own elements, and its course from what it is passed to what its OUT and INOUT
-- dummies hold at the end, element by element, or to the result of a function
pub record Callee : Type 0 where
  pub dummies : List Dummy
  pub owns : Element → Bool
  pub course : List Passed → Course (Many Item)

pub record Scene : Type 0 where
  pub meant : Text → Meant
  pub callee : Text → Callee

abbrev pub kind_meant : Meant → Kind
kind_meant Unmeant = Rattle.fort_arith.specs.declared.kind.Kind.TheVariants.I4
kind_meant (Held v) = v.kind
kind_meant (Known kind value) = kind
kind_meant (Called unit kind) = kind

abbrev pub bounds_meant : Meant → Bounds
bounds_meant (Held v) = v.bounds
bounds_meant other = []

abbrev pub extents : Bounds → List ℕ
extents [] = []
extents (b ∷ bs) = extent b.0 b.1 ∷ extents bs

-- each subscript is within its dimension's bounds
abbrev pub within : Bounds → List ℤ → Bool
within [] [] = true
within [] (i ∷ is) = false
within (b ∷ bs) [] = false
within (b ∷ bs) (i ∷ is) = (int_le b.0 i && int_le i b.1) && within bs is

abbrev pub element : Variable → List ℤ → Element
element v is = record { home = v.home; name = v.name; index = is }

-- the subscripts at these distances from the lower bounds
abbrev pub moved : Bounds → List ℤ → List ℤ
moved [] offsets = []
moved (b ∷ bs) [] = []
moved (b ∷ bs) (o ∷ offsets) = (b.0 +ℤ o) ∷ moved bs offsets

-- the distances of an array's elements from its first, in element order: the first dimension fastest
abbrev pub from_zero : List ℕ → Bounds
from_zero ns = map (λ n. (pos 0, pos n -ℤ pos 1)) ns
