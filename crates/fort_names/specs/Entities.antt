-- The entity that a name is in a scope, as a value: what declares it is given by what is seen under the name there.
use Rattle.std.specs.Prelude.{ℕ, List, Option, Some, None, Bool, true, false, ◌&&◌, position, slice_get}
use Rattle.std.specs.Option.{option_map, option_and_then}
use Rattle.std.specs.Str.{bytes_eq}
use Rattle.fort_tree.specs.declared.expr.Expr.{Expr}
use Rattle.fort_tree.specs.declared.unit.Decl.{Decl}
use Rattle.fort_tree.specs.declared.unit.File.{File}
use Rattle.fort_tree.specs.declared.unit.Module as tree_module
use Rattle.fort_tree.specs.declared.unit.Unit as tree_unit
use Rattle.claw_meaning.specs.Plain.{plain_unit}
use Rattle.claw_meaning.specs.Scope.{same_host}
use Rattle.claw_meaning.specs.Syntax.{Text}
use Rattle.claw_meaning.specs.Units.{is_column_dummy}
use Rattle.sound_programs.specs.Placing.{placed, placed_unit, placed_module}
use Rattle.sound_programs.specs.Scopes.{Of_unit, Of_module, or_other}
use Rattle.sound_programs.specs.Visible.{Seen, Nothing_seen, Declared_here, Declared_in, External, A_module, seen}
use Rattle.fort_names.specs.declared.entity.Entity.{Entity}
use Rattle.fort_names.specs.declared.entity.Home.{Home}
use Rattle.fort_names.specs.declared.entity.Home.TheVariants as home
use Rattle.fort_names.specs.declared.entity.Sort.{Sort}
use Rattle.fort_names.specs.declared.entity.Sort.TheVariants as sort

-- a declaration with a value is that of a PARAMETER
abbrev pub sort_of : Option Expr → Sort
sort_of None = sort.Variable
sort_of (Some value) = sort.Parameter

abbrev pub decl_entity : Home → Bool → ℕ → Decl → Entity
decl_entity at column index d = record { sort = sort_of d.value; home = at; index = index; decl = Some d; column = column }

abbrev pub home_of : Option ℕ → Home
home_of None = home.Global
home_of (Some n) = home.Module n

abbrev pub unit_entity : ℕ → tree_unit.Unit → Entity
unit_entity index u = record { sort = sort.Unit; home = home_of u.host; index = index; decl = None; column = false }

abbrev pub module_entity : ℕ → Entity
module_entity index = record { sort = sort.Module; home = home.Global; index = index; decl = None; column = false }

-- the first declaration of the name among some
abbrev pub first_decl : Home → (Text → Bool) → List Decl → Text → Option Entity
first_decl at columns decls x =
    option_and_then (λ i. option_map (decl_entity at (columns x) i) (slice_get decls i)) (position (λ d. bytes_eq d.name x) decls)

-- the first unit of the name in a module, or the first external one
abbrev pub first_unit : File → Option ℕ → Text → Option Entity
first_unit f host x =
    option_and_then (λ i. option_map (unit_entity i) (slice_get f.units i)) (position (λ u. same_host u.host host && bytes_eq u.name x) f.units)

-- the number of the first module of the name
abbrev pub module_number : File → Text → Option ℕ
module_number f x = position (λ m. bytes_eq m.name x) f.modules

abbrev pub declared_by : File → ℕ → Option tree_module.Module → Text → Option Entity
declared_by f n None x = None
declared_by f n (Some m) x = or_other (first_decl (home.Module n) (λ y. false) m.decls x) (first_unit f (Some n) x)

-- what the module of the number declares: a variable or a PARAMETER, or a unit
abbrev pub in_module : File → ℕ → Text → Option Entity
in_module f n = declared_by f n (slice_get f.modules n)

abbrev pub in_unit : tree_unit.Unit → Text → Option Entity
in_unit u = first_decl home.Local (is_column_dummy (plain_unit u)) u.decls

-- the entity that is seen, where this is what the scope declares itself
abbrev pub as_entity : File → (Text → Option Entity) → Text → Seen → Option Entity
as_entity f own x Nothing_seen = None
as_entity f own x (Declared_here entity) = own x
as_entity f own x (Declared_in m entity) = option_and_then (λ n. in_module f n x) (module_number f m)
as_entity f own x (External u) = first_unit f None x
as_entity f own x (A_module m) = option_map module_entity (module_number f x)

-- the entity that a name is in a unit of the file
abbrev pub entity_in_unit : File → tree_unit.Unit → Text → Option Entity
entity_in_unit f u x = as_entity f (in_unit u) x (seen (placed f) (Of_unit (placed_unit u)) x)

-- the entity that a name is in a module of the file, which has this number
abbrev pub entity_in_module : File → ℕ → tree_module.Module → Text → Option Entity
entity_in_module f n m x = as_entity f (in_module f n) x (seen (placed f) (Of_module n (placed_module m)) x)

abbrev pub is_seen : Seen → Bool
is_seen Nothing_seen = false
is_seen (Declared_here entity) = true
is_seen (Declared_in m entity) = true
is_seen (External u) = true
is_seen (A_module m) = true
