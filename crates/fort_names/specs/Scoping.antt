-- The scopes of a file, and what is found in them.
use Rattle.std.specs.Prelude.{◌≡◌, ℕ, ◌+◌, List, [], ◌∷◌, length, Option, Some, None, position, slice_get}
use Rattle.std.specs.Option.{option_and_then}
use Rattle.std.specs.Str.{bytes_eq}
use Rattle.fort_tree.specs.declared.unit.File.{File}
use Rattle.fort_tree.specs.declared.unit.Module as tree_module
use Rattle.fort_tree.specs.declared.unit.Unit as tree_unit
use Rattle.claw_meaning.specs.Syntax.{Text}
use Rattle.fort_names.specs.declared.entity.Home.TheVariants as home
use Rattle.fort_names.specs.declared.scope.Own.TheVariants.{Declared, OfModule}
use Rattle.fort_names.specs.declared.scope.Scope.{Scope}
use Rattle.fort_names.specs.declared.shared.Shared.{Shared}
use Rattle.fort_names.specs.declared.symbols.Symbols.{Symbols}
use Rattle.fort_names.specs.Entities.{entity_in_unit, entity_in_module, in_unit}
use Rattle.fort_names.specs.Tables.{table_of, columns_of}
use Rattle.fort_names.specs.Finding.{found, own_found}
use Rattle.fort_names.specs.Sharing.{shared_of}

-- the number of the first module that has the name of the module of this number
abbrev pub host_number : List tree_module.Module → List Text → Option ℕ → Option ℕ
host_number ms names host = option_and_then (λ n. option_and_then (λ m. position (bytes_eq m.name) names) (slice_get ms n)) host

pub record IsUnitScope (ms : List tree_module.Module) (s : Shared) (u : tree_unit.Unit) (c : Scope) : Type 0 where
  pub own : c.own ≡ Declared (table_of home.Local (columns_of (Some u)) u.decls)
  pub uses : c.uses ≡ u.uses
  pub host : c.host ≡ host_number ms s.declared.names u.host
  pub shared : c.shared.value ≡ s

pub record IsModuleScope (s : Shared) (n : ℕ) (m : tree_module.Module) (c : Scope) : Type 0 where
  pub own : c.own ≡ OfModule n
  pub uses : c.uses ≡ m.uses
  pub host : c.host ≡ None
  pub shared : c.shared.value ≡ s

-- each item of the second list fits the item of the first at its number, of which the first is n
abbrev pub AllFit : {A B : Type 0} → (ℕ → A → B → Type 0) → ℕ → List A → List B → Type 0
AllFit Fits n [] [] = Unit {0}
AllFit Fits n [] (b ∷ ys) = ⊥
AllFit Fits n (a ∷ xs) [] = ⊥
AllFit Fits n (a ∷ xs) (b ∷ ys) = Fits n a b × AllFit Fits (n + 1) xs ys

pub record UnitScopes (ms : List tree_module.Module) (s : Shared) (us : List tree_unit.Unit) (cs : List Scope) : Type 0 where
  pub each : AllFit (λ n. IsUnitScope ms s) 0 us cs

pub record ModuleScopes (s : Shared) (ms : List tree_module.Module) (cs : List Scope) : Type 0 where
  pub each : AllFit (IsModuleScope s) 0 ms cs

-- In the scope of each unit and module there is found under each name just the entity that it is there, and a unit's own are its declarations.
pub record AreSymbolsOf (f : File) (s : Symbols) : Type 0 where
  pub shared : s.shared.value ≡ shared_of f
  pub unit_count : length s.units.items ≡ length f.units
  pub module_count : length s.modules.items ≡ length f.modules
  pub of_units : (n : ℕ) (u : tree_unit.Unit) (c : Scope) → slice_get f.units n ≡ Some u → slice_get s.units.items n ≡ Some c → (x : Text) → found c x ≡ entity_in_unit f u x
  pub own_of_units : (n : ℕ) (u : tree_unit.Unit) (c : Scope) → slice_get f.units n ≡ Some u → slice_get s.units.items n ≡ Some c → (x : Text) → own_found c.own c.shared.value x ≡ in_unit u x
  pub of_modules : (n : ℕ) (m : tree_module.Module) (c : Scope) → slice_get f.modules n ≡ Some m → slice_get s.modules.items n ≡ Some c → (x : Text) → found c x ≡ entity_in_module f n m x
