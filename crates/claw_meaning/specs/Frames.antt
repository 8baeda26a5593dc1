-- What a unit is given and what it leaves: a frame holds the values of its dummies and of all module variables.
use Rattle.std.specs.Prelude.{◌≡◌, ℕ, zero, suc, ℤ, pos, ◌+ℤ◌, ◌-ℤ◌, ◌≤ℤ◌, List, [], ◌∷◌, ◌++◌, map, flat_map, length, Option, Some, None, Bool, true, false, ◌&&◌, ◌||◌, not, if◌then◌else◌, is_none, ⊤}
use Rattle.std.specs.List.{find, filter}
use Rattle.std.specs.Str.{bytes_eq}
use Rattle.fort_arith.specs.declared.kind.Kind.{Kind}
use Rattle.fort_arith.specs.Range.{in_kind, is_whole}
use Rattle.fort_tree.specs.declared.unit.Intent.{Intent}
use Rattle.courses.specs.Element.{Value, Undefined, Whole, Truth, Element, Store, same_name}
use Rattle.courses.specs.Frames.{Entry, places, look, filled}
use Rattle.claw_meaning.specs.Syntax.{Text, Expr, Dimension, Decl, Module, Unit, Program}
use Rattle.claw_meaning.specs.Scope.{decl_named}
use Rattle.claw_meaning.specs.Scene.{Bounds, Dummy, extents}
use Rattle.claw_meaning.specs.Evaluation.{is_in, is_out}
use Rattle.claw_meaning.specs.Statements.{whole_of}
use Rattle.claw_meaning.specs.Units.{Given, dummies_of, is_array_decl, first_whole_of, known_in_unit, known_in_module, declared_bounds, lower_value, raised_upper, bounds_from, or_number, bound_value}

-- a dummy of the unit, or a variable of a module
pub record Key : Type 0 where
  pub of_module : Option Text
  pub name : Text

-- the values in element order, the first subscript fastest
pub record Cells : Type 0 where
  pub kind : Kind
  pub bounds : Bounds
  pub values : List Value

pub record Held : Type 0 where
  pub key : Key
  pub cells : Cells

abbrev pub Frame : Type 0
Frame = List Held

-- the unit or module that declares the variable
abbrev pub home_of : Text → Option Text → Text
home_of unit None = unit
home_of unit (Some owner) = owner

abbrev pub entries : Text → Frame → List Entry
entries unit frame = map (λ h. record { home = home_of unit h.key.of_module; name = h.key.name; bounds = h.cells.bounds; items = h.cells.values }) frame

-- the same variables, with what the store holds
abbrev pub with_store : Text → Frame → Store → Frame
with_store unit frame s =
    map (λ h. record { key = h.key; cells = record { kind = h.cells.kind; bounds = h.cells.bounds; values = map (λ is. s (record { home = home_of unit h.key.of_module; name = h.key.name; index = is })) (places h.cells.bounds) } }) frame

-- the cells of a dummy
abbrev pub is_dummy_named : Text → Held → Bool
is_dummy_named x h = is_none h.key.of_module && bytes_eq h.key.name x

abbrev pub cells_of : Frame → Text → Option Held
cells_of frame x = find (is_dummy_named x) frame

abbrev pub whole_held : Option Held → Option ℤ
whole_held None = None
whole_held (Some h) = first_whole_of h.cells.values

abbrev pub extents_held : Option Held → List ℕ
extents_held None = []
extents_held (Some h) = extents h.cells.bounds

-- what a frame gives a run of the unit
abbrev pub given_by_frame : Frame → Given
given_by_frame frame = record { value = λ x. whole_held (cells_of frame x); extents = λ x. extents_held (cells_of frame x) }

abbrev pub is_out_intent : Option Intent → Bool
is_out_intent None = false
is_out_intent (Some i) = is_out i

abbrev pub is_out_decl : Option Decl → Bool
is_out_decl None = false
is_out_decl (Some d) = is_out_intent d.intent

-- an element of an OUT dummy
abbrev pub is_out_dummy : Unit → Element → Bool
is_out_dummy u e = bytes_eq e.home u.name && is_out_decl (decl_named u.decls e.name)

-- at entry the dummies and module variables hold the frame's values; OUT dummies and all other variables are undefined
abbrev pub started : Unit → Frame → Store
started u frame e = if is_out_dummy u e then Undefined else look (entries u.name frame) e

-- Well-typed inputs

-- the dimension of the columns, by its place from 0 and its bounds, which the variables have that this tells
pub record ColumnDimension : Type 0 where
  pub place : Text → Option ℕ
  pub bounds : ℤ × ℤ

abbrev pub fits_kind : Kind → Value → Bool
fits_kind kind Undefined = true
fits_kind kind (Whole n) = in_kind kind n
fits_kind kind (Truth b) = not (is_whole kind)

abbrev pub FitsUpper : (Text → Option ℤ) → Option Expr → ℤ → ℤ × ℤ → Type 0
FitsUpper known None lower b = (b.0 ≡ lower) × ((lower -ℤ pos 1) ≤ℤ b.1)
FitsUpper known (Some upper) lower b = b ≡ raised_upper (lower, or_number lower (bound_value known upper))

-- a dimension's bounds: those of the declaration where it gives both; an assumed shape begins at its lower bound, and its
-- upper bound is at least the lower one less 1
abbrev pub FitsDimension : (Text → Option ℤ) → Dimension → ℤ × ℤ → Type 0
FitsDimension known d b = FitsUpper known d.upper (lower_value known d.lower) b

abbrev pub FitsDimensions : (Text → Option ℤ) → List Dimension → Bounds → Type 0
FitsDimensions known [] [] = ⊤
FitsDimensions known [] (b ∷ bs) = ⊥
FitsDimensions known (d ∷ ds) [] = ⊥
FitsDimensions known (d ∷ ds) (b ∷ bs) = FitsDimension known d b × FitsDimensions known ds bs

-- the same, where the dimension at this place is the columns'
abbrev pub FitsWide : (Text → Option ℤ) → Option ℕ → ℤ × ℤ → List Dimension → Bounds → Type 0
FitsWide known None columns ds bs = FitsDimensions known ds bs
FitsWide known (Some place) columns [] bs = ⊥
FitsWide known (Some place) columns (d ∷ ds) [] = ⊥
FitsWide known (Some zero) columns (d ∷ ds) (b ∷ bs) = (b ≡ raised_upper columns) × FitsDimensions known ds bs
FitsWide known (Some (suc place)) columns (d ∷ ds) (b ∷ bs) = FitsDimension known d b × FitsWide known (Some place) columns ds bs

abbrev pub AllFit : Kind → List Value → Type 0
AllFit kind [] = ⊤
AllFit kind (v ∷ vs) = (fits_kind kind v ≡ true) × AllFit kind vs

abbrev pub AreDefined : List Value → Type 0
AreDefined [] = ⊤
AreDefined (Undefined ∷ vs) = ⊥
AreDefined (Whole n ∷ vs) = AreDefined vs
AreDefined (Truth b ∷ vs) = AreDefined vs

-- the cells of a declared variable
pub record FitsDecl (known : Text → Option ℤ) (place : Option ℕ) (columns : ℤ × ℤ) (d : Decl) (cells : Cells) : Type 0 where
  pub kind : cells.kind ≡ d.kind
  pub bounds : FitsWide known place columns d.shape cells.bounds
  pub whole : length cells.values ≡ length (places cells.bounds)
  pub values : AllFit d.kind cells.values

-- a scalar IN dummy that isn't a column dummy is defined
abbrev pub IsGiven : Bool → List Value → Type 0
IsGiven true vs = AreDefined vs
IsGiven false vs = ⊤

abbrev pub FitsDummy : Program → Unit → Frame → ColumnDimension → Dummy → Option Decl → Held → Type 0
FitsDummy p u frame columns d None h = ⊥
FitsDummy p u frame columns d (Some decl) h =
    (h.key ≡ record { of_module = None; name = d.name })
    × FitsDecl (known_in_unit p u (given_by_frame frame).value) (columns.place d.name) columns.bounds decl h.cells
    × IsGiven (is_in d.intent && (not d.is_array && (is_none (columns.place d.name) && not d.is_column))) h.cells.values

-- one entry for each dummy, in order, and then these
abbrev pub FitDummies : Program → Unit → Frame → ColumnDimension → List Dummy → Frame → (Frame → Type 0) → Type 0
FitDummies p u frame columns [] hs Rest = Rest hs
FitDummies p u frame columns (d ∷ ds) [] Rest = ⊥
FitDummies p u frame columns (d ∷ ds) (h ∷ hs) Rest = FitsDummy p u frame columns d (decl_named u.decls d.name) h × FitDummies p u frame columns ds hs Rest

abbrev pub FitsModuleVariable : Program → Text → Decl → Held → Type 0
FitsModuleVariable p owner d h =
    (h.key ≡ record { of_module = Some owner; name = d.name }) × FitsDecl (known_in_module p owner) None (pos 1, pos 0) d h.cells

-- the variables of the modules, in order, PARAMETERs left out
abbrev pub module_variables : Program → List (Text × Decl)
module_variables p = flat_map (λ m. map (λ d. (m.name, d)) (filter (λ d. is_none d.value) m.decls)) p.modules

abbrev pub FitModules : Program → List (Text × Decl) → Frame → Type 0
FitModules p [] [] = ⊤
FitModules p [] (h ∷ hs) = ⊥
FitModules p (v ∷ vs) [] = ⊥
FitModules p (v ∷ vs) (h ∷ hs) = FitsModuleVariable p v.0 v.1 h × FitModules p vs hs

-- a frame that a run of the unit may begin with
abbrev pub WellTyped : Program → Unit → ColumnDimension → Frame → Type 0
WellTyped p u columns frame = FitDummies p u frame columns (dummies_of u) frame (FitModules p (module_variables p))

-- where no dimension is the columns'
abbrev pub no_columns : ColumnDimension
no_columns = record { place = λ x. None; bounds = (pos 1, pos 0) }
