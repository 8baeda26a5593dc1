-- Scopes and what a name is in each. A scope is a unit or a module. The one entity that a name is in a unit is `visible` of
-- claw_meaning: what the unit declares; else what a USE of the unit brings; else what its host module declares or has by
-- USE, its units among it; else an external unit. Here stands the same for a module, and where an entity is declared, which
-- tells two entities of one name apart. A module's name is visible too, but it is no variable, no constant and no unit, so
-- for every rule on names in statements and declarations it is as a name that nothing has.
use Rattle.std.specs.Prelude.{ℕ, zero, suc, List, [], ◌∷◌, ◌++◌, map, length, Option, Some, None, Bool, true, false, ◌&&◌, ◌||◌, not, if◌then◌else◌, is_some, flat_map}
use Rattle.std.specs.List.{find, filter, position, enumerate_from}
use Rattle.std.specs.Str.{bytes_eq}
use Rattle.fort_tree.specs.declared.place.Place.{Place}
use Rattle.fort_tree.specs.declared.stmt.Named.{Named}
use Rattle.fort_tree.specs.declared.unit.Intent.{Intent}
use Rattle.fort_tree.specs.declared.unit.Intent.TheVariants.{In, Out, InOut}
use Rattle.fort_tree.specs.declared.unit.Use.{Use}
use Rattle.claw_meaning.specs.Syntax as plain
use Rattle.claw_meaning.specs.Syntax.{Text}
use Rattle.claw_meaning.specs.Scope.{Entity, Unknown, Variable, Constant, Procedure, or_else, decl_named, procedure_of, unit_within, brings, module_at, module_gives, visible, same_host}
use Rattle.claw_meaning.specs.Units.{is_listed, is_intent_in, is_array_decl}
use Rattle.sound_programs.specs.Places.{is_earlier}
use Rattle.sound_programs.specs.Placed.{Decl, Unit, Module, Program, bare_unit, bare_use}

pub data Scope : Type 0 where
  Of_unit : Unit → Scope
  Of_module : ℕ → Module → Scope  -- with its number among the modules

abbrev pub scopes : Program → List Scope
scopes p = map (λ m. Of_module m.0 m.1) (enumerate_from 0 p.modules) ++ map Of_unit p.units

abbrev pub uses_of : Scope → List Use
uses_of (Of_unit u) = u.uses
uses_of (Of_module n m) = m.uses

abbrev pub decls_of : Scope → List Decl
decls_of (Of_unit u) = u.decls
decls_of (Of_module n m) = m.decls

-- a module has no dummies
abbrev pub dummies_of : Scope → List Named
dummies_of (Of_unit u) = u.dummies
dummies_of (Of_module n m) = []

abbrev pub name_of_scope : Scope → Text
name_of_scope (Of_unit u) = u.name
name_of_scope (Of_module n m) = m.name

-- The entity that a name is

-- in a module: what it gives, or an external unit
abbrev pub visible_in_module : plain.Program → Text → Text → Entity
visible_in_module q m x = or_else (module_gives q m x) (procedure_of (unit_within q None x))

abbrev pub entity_in : plain.Program → Scope → Text → Entity
entity_in q (Of_unit u) x = visible q (bare_unit u) x
entity_in q (Of_module n m) x = visible_in_module q m.name x

abbrev pub is_known : Entity → Bool
is_known Unknown = false
is_known (Variable home d) = true
is_known (Constant d) = true
is_known (Procedure v) = true

abbrev pub is_variable : Entity → Bool
is_variable Unknown = false
is_variable (Variable home d) = true
is_variable (Constant d) = false
is_variable (Procedure v) = false

abbrev pub is_variable_or_constant : Entity → Bool
is_variable_or_constant Unknown = false
is_variable_or_constant (Variable home d) = true
is_variable_or_constant (Constant d) = true
is_variable_or_constant (Procedure v) = false

abbrev pub is_array : Entity → Bool
is_array Unknown = false
is_array (Variable home d) = is_array_decl d
is_array (Constant d) = false
is_array (Procedure v) = false

abbrev pub is_function : Entity → Bool
is_function Unknown = false
is_function (Variable home d) = false
is_function (Constant d) = false
is_function (Procedure v) = is_some v.result

abbrev pub is_subroutine : Entity → Bool
is_subroutine Unknown = false
is_subroutine (Variable home d) = false
is_subroutine (Constant d) = false
is_subroutine (Procedure v) = not (is_some v.result)

-- the unit that a name is
abbrev pub unit_of : Entity → Option plain.Unit
unit_of Unknown = None
unit_of (Variable home d) = None
unit_of (Constant d) = None
unit_of (Procedure v) = Some v

-- the module that declares the variable, where it isn't one of the unit's own: its name and the variable's
abbrev pub module_variable : Text → Text → Entity → Option (Text × Text)
module_variable unit x Unknown = None
module_variable unit x (Variable home d) = if bytes_eq home unit then None else Some (home, x)
module_variable unit x (Constant d) = None
module_variable unit x (Procedure v) = None

abbrev pub is_written_intent : Option Intent → Bool
is_written_intent None = false
is_written_intent (Some In) = false
is_written_intent (Some Out) = true
is_written_intent (Some InOut) = true

-- a dummy that is INTENT(IN): only a dummy has INTENT
abbrev pub is_in_dummy : Entity → Bool
is_in_dummy Unknown = false
is_in_dummy (Variable home d) = is_intent_in d.intent
is_in_dummy (Constant d) = false
is_in_dummy (Procedure v) = false

-- Where it is declared

abbrev pub or_other : {A : Type 0} → Option A → Option A → Option A
or_other None other = other
or_other (Some a) other = Some a

abbrev pub declares : plain.Program → Option ℕ → plain.Module → Text → Bool
declares q number m x = is_some (decl_named m.decls x) || is_some (unit_within q number x)

-- the first module that USE lines bring it from, where this is the module that declares what each module gives
abbrev pub origin_used : (Text → Text → Option Text) → List plain.Use → Text → Option Text
origin_used origins [] x = None
origin_used origins (u ∷ us) x = or_other (if brings u x then origins u.name x else None) (origin_used origins us x)

abbrev pub origin_in : plain.Program → Option ℕ → Option plain.Module → (Text → Text → Option Text) → Text → Option Text
origin_in q number None origins x = None
origin_in q number (Some m) origins x = if declares q number m x then Some m.name else origin_used origins m.uses x

abbrev pub origin_within : plain.Program → ℕ → Text → Text → Option Text
origin_within q zero m x = None
origin_within q (suc depth) m x =
    let number = position (λ d. bytes_eq d.name m) q.modules in
    origin_in q number (module_at q number) (origin_within q depth) x

-- the module that declares what a module gives under a name, by its own USE lines too
abbrev pub origin : plain.Program → Text → Text → Option Text
origin q = origin_within q (suc (length q.modules))

abbrev pub same_origin : Option Text → Option Text → Bool
same_origin None None = true
same_origin (Some m) (Some n) = bytes_eq m n
same_origin None (Some n) = false
same_origin (Some m) None = false

-- What stands in a scope

-- the units of a module, by its number
abbrev pub units_within : Program → ℕ → List Unit
units_within p n = filter (λ u. same_host u.host (Some n)) p.units

abbrev pub named_decl : Decl → Named
named_decl d = record { name = d.name; at = d.at }

abbrev pub named_unit : Unit → Named
named_unit u = record { name = u.name; at = u.at }

abbrev pub named_module : Module → Named
named_module m = record { name = m.name; at = m.at }

-- what a scope declares: its declarations, and in a module its units
abbrev pub declared : Program → Scope → List Named
declared p (Of_unit u) = map named_decl u.decls
declared p (Of_module n m) = map named_decl m.decls ++ map named_unit (units_within p n)

-- A type before FUNCTION is a declaration of the result, and stands before the function's name.
abbrev pub is_prefix : Unit → Decl → Bool
is_prefix u d = is_earlier d.at u.at

abbrev pub is_dummy : Scope → Text → Bool
is_dummy s x = is_listed (map (λ d. d.name) (dummies_of s)) x

abbrev pub module_named : Program → Text → Option Module
module_named p x = find (λ m. bytes_eq m.name x) p.modules

abbrev pub unit_named : Program → Text → Option Unit
unit_named p x = find (λ u. bytes_eq u.name x) p.units

-- a USE brings the name, and the module gives something under it
abbrev pub is_given : plain.Program → Text → Text → Bool
is_given q m x = is_known (module_gives q m x)

abbrev pub is_brought : plain.Program → Use → Text → Bool
is_brought q line x = brings (bare_use line) x && is_given q line.name x

-- the entities that the modules declare, each by its module and its name: no module gives another
abbrev pub entities_of_module : Program → ℕ × Module → List (Text × Text)
entities_of_module p m = map (λ n. (m.1.name, n.name)) (declared p (Of_module m.0 m.1))

abbrev pub entities_of_modules : Program → List (Text × Text)
entities_of_modules p = flat_map (entities_of_module p) (enumerate_from 0 p.modules)

-- where a USE names what it brings: at the name behind ONLY, or else at the module's name
abbrev pub place_of_only : List Named → Text → Place → Place
place_of_only [] x place = place
place_of_only (n ∷ rest) x place = if bytes_eq n.name x then n.at else place_of_only rest x place

abbrev pub only_names : Option (List Named) → List Named
only_names None = []
only_names (Some only) = only

abbrev pub place_of_use : Use → Text → Place
place_of_use u x = place_of_only (only_names u.only) x u.at
