-- What modules and units declare, with its places.
use Rattle.std.specs.Prelude.{ℕ, zero, suc, ◌+◌, List, [], ◌∷◌, ◌++◌, map, Option, Some, None, if◌then◌else◌}
use Rattle.fort_tree.specs.declared.place.Place.{Place}
use Rattle.fort_tree.specs.declared.stmt.Named.{Named}
use Rattle.fort_tree.specs.declared.unit.Decl.{Decl}
use Rattle.fort_tree.specs.declared.unit.File.{File}
use Rattle.fort_tree.specs.declared.unit.Module as tree_module
use Rattle.fort_tree.specs.declared.unit.Unit as tree_unit
use Rattle.claw_meaning.specs.Scope.{same_host}
use Rattle.claw_meaning.specs.Syntax.{Text}
use Rattle.sound_programs.specs.DeclarationFaults.{two_dummies, two_units_or_modules}
use Rattle.sound_programs.specs.Placing.{placed, placed_unit}
use Rattle.sound_programs.specs.Scopes.{Of_unit}
use Rattle.fort_names.specs.declared.shared.Shared.{Shared}
use Rattle.fort_names.specs.Leasts.{name_of_unit, of_units}
use Rattle.fort_names.specs.Sharing.{shared_of}
use Rattle.fort_names.specs.Using.{scope_twice, contested_names}

abbrev pub name_of_decl : Decl → Named
name_of_decl d = record { name = d.name; at = d.at }

abbrev pub names_of_decls : List Decl → List Named
names_of_decls ds = map name_of_decl ds

-- those of these units that stand in the module of this number
abbrev pub names_within : ℕ → List tree_unit.Unit → List Named
names_within n [] = []
names_within n (u ∷ us) = if same_host u.host (Some n) then name_of_unit u ∷ names_within n us else names_within n us

-- what each module declares, of which the first has this number: its declarations, and those of these units that stand in it
abbrev pub module_names : ℕ → List tree_module.Module → List tree_unit.Unit → List (List Named)
module_names n [] us = []
module_names n (m ∷ ms) us = (names_of_decls m.decls ++ names_within n us) ∷ module_names (n + 1) ms us

-- one more name in the list at this number, if there is one
abbrev pub push_at : ℕ → Named → List (List Named) → List (List Named)
push_at n name [] = []
push_at zero name (l ∷ ls) = (l ++ name ∷ []) ∷ ls
push_at (suc n) name (l ∷ ls) = l ∷ push_at n name ls

abbrev pub push_within : Option ℕ → Named → List (List Named) → List (List Named)
push_within None name lists = lists
push_within (Some n) name lists = push_at n name lists

-- what stands twice in modules that declare these names
abbrev pub modules_twice : Shared → List Text → List (List Named) → List tree_module.Module → List Place
modules_twice s contested [] ms = []
modules_twice s contested (names ∷ lists) [] = []
modules_twice s contested (names ∷ lists) (m ∷ ms) = scope_twice s contested names m.uses ++ modules_twice s contested lists ms

abbrev pub unit_twice : Shared → List Text → tree_unit.Unit → List Place
unit_twice s contested u = scope_twice s contested (names_of_decls u.decls) u.uses ++ two_dummies (Of_unit (placed_unit u))

-- all names that stand twice
abbrev pub all_twice_in : File → List Place
all_twice_in f =
    modules_twice (shared_of f) (contested_names (shared_of f)) (module_names 0 f.modules f.units) f.modules
    ++ (of_units (unit_twice (shared_of f) (contested_names (shared_of f))) f.units ++ two_units_or_modules (placed f))
