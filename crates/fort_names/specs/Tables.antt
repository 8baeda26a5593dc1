-- Tables of declarations and of what USE lines bring, and what is found in them.
use Rattle.std.specs.Prelude.{ℕ, zero, suc, ◌+◌, List, [], ◌∷◌, map, length, Option, Some, None, Bool, false, ◌&&◌, is_some, if◌then◌else◌, position, slice_get}
use Rattle.std.specs.Option.{option_and_then}
use Rattle.std.specs.Str.{bytes_eq}
use Rattle.fort_tree.specs.declared.unit.Decl.{Decl}
use Rattle.fort_tree.specs.declared.unit.File.{File}
use Rattle.fort_tree.specs.declared.unit.Unit as tree_unit
use Rattle.fort_tree.specs.declared.unit.Module as tree_module
use Rattle.fort_tree.specs.declared.unit.Use.{Use}
use Rattle.claw_meaning.specs.Plain.{plain_unit, plain_use}
use Rattle.claw_meaning.specs.Scope.{brings, same_host}
use Rattle.claw_meaning.specs.Syntax.{Text}
use Rattle.claw_meaning.specs.Units.{is_column_dummy}
use Rattle.sound_programs.specs.Scopes.{or_other}
use Rattle.fort_names.specs.declared.entity.Entity.{Entity}
use Rattle.fort_names.specs.declared.entity.Home.{Home}
use Rattle.fort_names.specs.declared.entity.Home.TheVariants as home
use Rattle.fort_names.specs.declared.table.Table.{Table}
use Rattle.fort_names.specs.declared.homes.Declared.{Declared}
use Rattle.fort_names.specs.Entities.{decl_entity, unit_entity, module_entity}

-- the column dummies of a unit, if it is one
abbrev pub columns_of : Option tree_unit.Unit → Text → Bool
columns_of None x = false
columns_of (Some u) x = is_column_dummy (plain_unit u) x

-- the entities of declarations, of which the first has this number
abbrev pub decl_entities : Home → (Text → Bool) → ℕ → List Decl → List Entity
decl_entities at columns n [] = []
decl_entities at columns n (d ∷ ds) = decl_entity at (columns d.name) n d ∷ decl_entities at columns (n + 1) ds

abbrev pub table_of : Home → (Text → Bool) → List Decl → Table
table_of at columns decls = record { names = map (λ d. d.name) decls; entities = decl_entities at columns 0 decls }

abbrev pub table_find : Table → Text → Option Entity
table_find t x = option_and_then (slice_get t.entities) (position (bytes_eq x) t.names)

-- What the modules and units of a file declare

abbrev pub same_key : Option ℕ × Text → Option ℕ × Text → Bool
same_key a b = same_host a.0 b.0 && bytes_eq a.1 b.1

-- a unit by its module and its name
abbrev pub key_of : tree_unit.Unit → Option ℕ × Text
key_of u = (u.host, u.name)

abbrev pub unit_entities : ℕ → List tree_unit.Unit → List Entity
unit_entities n [] = []
unit_entities n (u ∷ us) = unit_entity n u ∷ unit_entities (n + 1) us

abbrev pub module_entities : ℕ → List tree_module.Module → List Entity
module_entities n [] = []
module_entities n (m ∷ ms) = module_entity n ∷ module_entities (n + 1) ms

-- the tables of modules, of which the first has this number
abbrev pub module_tables : ℕ → List tree_module.Module → List Table
module_tables n [] = []
module_tables n (m ∷ ms) = table_of (home.Module n) (columns_of None) m.decls ∷ module_tables (n + 1) ms

abbrev pub declared_of : File → Declared
declared_of f = record {
  names = map (λ m. m.name) f.modules;
  decls = module_tables 0 f.modules;
  units = map key_of f.units;
  unit_entities = unit_entities 0 f.units;
  module_entities = module_entities 0 f.modules;
}

abbrev pub unit_find : Declared → Option ℕ → Text → Option Entity
unit_find d host x = option_and_then (slice_get d.unit_entities) (position (same_key (host, x)) d.units)

abbrev pub module_find : Declared → Text → Option Entity
module_find d x = option_and_then (slice_get d.module_entities) (position (bytes_eq x) d.names)

-- what the module of the number declares under the name
abbrev pub declared_in : Declared → ℕ → Text → Option Entity
declared_in d n x = option_and_then (λ t. or_other (table_find t x) (unit_find d (Some n) x)) (slice_get d.decls n)

-- Which module declares what another gives, by number

abbrev pub at_number : List (Option ℕ) → ℕ → Option ℕ
at_number row n = option_and_then (λ o. o) (slice_get row n)

abbrev pub origin_by_name : List Text → List (Option ℕ) → Text → Option ℕ
origin_by_name names row m = option_and_then (at_number row) (position (bytes_eq m) names)

-- by the first USE line that brings the name, where the row says it of each module
abbrev pub lines_origin : List Text → List (Option ℕ) → List Use → Text → Option ℕ
lines_origin names row [] x = None
lines_origin names row (line ∷ lines) x =
    or_other (if brings (plain_use line) x then origin_by_name names row line.name else None)
    (lines_origin names row lines x)

-- by the declarations of the module of the number, and then by its USE lines
abbrev pub module_origin : Declared → List (Option ℕ) → Text → ℕ → tree_module.Module → Option ℕ
module_origin d row x n m = if is_some (declared_in d n x) then Some n else lines_origin d.names row m.uses x

-- one USE further than the row
abbrev pub next_row : Declared → ℕ → List tree_module.Module → List (Option ℕ) → Text → List (Option ℕ)
next_row d n [] row x = []
next_row d n (m ∷ ms) row x = module_origin d row x n m ∷ next_row d (n + 1) ms row x

abbrev pub nowhere : List tree_module.Module → List (Option ℕ)
nowhere ms = map (λ m. None) ms

-- through so many USE lines one behind another
abbrev pub rounds : Declared → List tree_module.Module → ℕ → Text → List (Option ℕ)
rounds d ms zero x = nowhere ms
rounds d ms (suc k) x = next_row d 0 ms (rounds d ms k x) x

abbrev pub origins : Declared → List tree_module.Module → Text → List (Option ℕ)
origins d ms = rounds d ms (suc (length ms))
