-- What is found in the scope of a unit or a module is the entity that is seen there.
use Rattle.std.proofs.Common.{◌≡◌, ℕ, ◌+◌, arith, Bool, true, false, ◌&&◌, ◌||◌, List, map, Option, None, Some, is_some, refl, sym, ap, ◌∙◌, subst, if◌then◌else◌}
use Rattle.std.specs.List.{position, slice_get, list_any}
use Rattle.std.specs.Option.{option_map, option_and_then}
use Rattle.std.specs.Str.{bytes_eq}
use Rattle.std.proofs.lemmas.Bool.{false≢true}
use Rattle.fort_tree.specs.declared.stmt.Named.{Named}
use Rattle.fort_tree.specs.declared.unit.Decl.{Decl}
use Rattle.fort_tree.specs.declared.unit.File.{File}
use Rattle.fort_tree.specs.declared.unit.Module as tree_module
use Rattle.fort_tree.specs.declared.unit.Unit as tree_unit
use Rattle.fort_tree.specs.declared.unit.Use.{Use}
use Rattle.claw_meaning.specs.Syntax as plain
use Rattle.claw_meaning.specs.Syntax.{Text}
use Rattle.claw_meaning.specs.Scope.{Entity as Meant, unit_within, module_at, same_host}
use Rattle.sound_programs.specs.Placed.{Module, Unit as Placed, bare_module, bare_program}
use Rattle.sound_programs.specs.Placing.{placed, placed_decl, placed_unit, placed_module}
use Rattle.sound_programs.specs.Scopes.{Of_unit, Of_module, or_other, origin, entity_in, module_named, named_decl, named_unit, units_within}
use Rattle.sound_programs.specs.Visible.{Seen, Declared_here, seen, is_declared, seen_outside, seen_in_files, origin_of_host, origin_outside}
use Rattle.fort_names.specs.declared.entity.Entity.{Entity}
use Rattle.fort_names.specs.declared.entity.Home.TheVariants as home
use Rattle.fort_names.specs.declared.scope.Own.{Own}
use Rattle.fort_names.specs.declared.scope.Scope.{Scope}
use Rattle.fort_names.specs.declared.shared.Shared.{Shared}
use Rattle.fort_names.specs.Entities.{module_entity, first_decl, first_unit, module_number, declared_by, in_module, in_unit, as_entity, entity_in_unit, entity_in_module, is_seen}
use Rattle.fort_names.specs.Tables.{columns_of, declared_of, declared_in, unit_find, module_find, at_number}
use Rattle.fort_names.specs.Sharing.{shared_of, row_of}
use Rattle.fort_names.specs.Finding.{own_found, origin_found, found_outside, found}
use Rattle.fort_names.specs.Scoping.{host_number, IsUnitScope, IsModuleScope, UnitScopes, ModuleScopes, AreSymbolsOf}
use Rattle.fort_names.specs.declared.symbols.Symbols.{Symbols}
use Rattle.fort_names.proofs.Fitting.{fits_at, fits_length}
use Rattle.fort_names.proofs.Places.{some_position, some_find, any_map, any_append, any_filter}
use Rattle.fort_names.proofs.Tabled.{decl_found, unit_found, module_found, in_module_found, some_decl, some_unit}
use Rattle.fort_names.proofs.Given.{Same, neither, both, same_or, same_lines, q_module, some_within}
use Rattle.fort_names.proofs.Covering.{stored_same}

some_first : {A : Type 0} (a b : Option A) → is_some a ≡ true → or_other a b ≡ a
some_first None b e = absurd (false≢true e)
some_first (Some x) b e = refl

none_first : {A : Type 0} (a b : Option A) → is_some a ≡ false → or_other a b ≡ b
none_first None b e = refl
none_first (Some x) b e = absurd (false≢true (sym e))

none_is : {A : Type 0} (a : Option A) → is_some a ≡ false → a ≡ None
none_is None e = refl
none_is (Some x) e = absurd (false≢true (sym e))

some_map : {A B : Type 0} (g : A → B) (o : Option A) → is_some (option_map g o) ≡ is_some o
some_map g None = refl
some_map g (Some a) = refl

some_or : {A : Type 0} (a b : Option A) → is_some (or_other a b) ≡ (is_some a || is_some b)
some_or None b = refl
some_or (Some x) b = refl

pub some_module : (f : File) (x : Text) → is_some (module_named (placed f) x) ≡ is_some (module_number f x)
some_module f x =
    some_find (λ (m : Module). bytes_eq m.name x) (map placed_module f.modules)
    ∙ any_map (λ (m : Module). bytes_eq m.name x) placed_module f.modules
    ∙ sym (some_position (λ (m : tree_module.Module). bytes_eq m.name x) f.modules)

module _ (f : File) (x : Text) (own : Text → Option Entity) where
  -- neither declared in the scope nor given: in the files
  in_files : as_entity f own x (seen_in_files (unit_within (bare_program (placed f)) None x) (module_named (placed f) x)) ≡ or_other (unit_find (declared_of f) None x) (module_find (declared_of f) x)
  in_files = go (unit_within (bare_program (placed f)) None x) (module_named (placed f) x) (sym (some_within f None x ∙ sym (some_unit f None x))) (sym (some_module f x))
    where
      go : (v : Option plain.Unit) (m : Option Module) → is_some (first_unit f None x) ≡ is_some v → is_some (module_number f x) ≡ is_some m
          → as_entity f own x (seen_in_files v m) ≡ or_other (unit_find (declared_of f) None x) (module_find (declared_of f) x)
      go (Some v) m there e =
          sym (unit_found f None x) ∙ sym (some_first (unit_find (declared_of f) None x) (module_find (declared_of f) x) (ap is_some (unit_found f None x) ∙ there))
      go None (Some m) there e =
          sym (module_found f x) ∙ sym (none_first (unit_find (declared_of f) None x) (module_find (declared_of f) x) (ap is_some (unit_found f None x) ∙ there))
      go None None there e =
          sym (none_first (unit_find (declared_of f) None x) (module_find (declared_of f) x) (ap is_some (unit_found f None x) ∙ there)
          ∙ none_is (module_find (declared_of f) x) (ap is_some (module_found f x) ∙ some_map module_entity (module_number f x) ∙ e))

  outside : (meant : Meant) (o : Option Text) (n : Option ℕ) → Same f x o n
      → as_entity f own x (seen_outside o meant (seen_in_files (unit_within (bare_program (placed f)) None x) (module_named (placed f) x)))
      ≡ or_other (option_and_then (λ i. declared_in (declared_of f) i x) n) (or_other (unit_find (declared_of f) None x) (module_find (declared_of f) x))
  outside meant o n neither = in_files
  outside meant o n (both m i e declared) =
      ap (option_and_then (λ k. in_module f k x)) e ∙ sym (in_module_found f i x)
      ∙ sym (some_first (declared_in (declared_of f) i x) (or_other (unit_find (declared_of f) None x) (module_find (declared_of f) x)) declared)

  -- what the scope declares hides the rest
  here_first : (meant : Meant) (rest : Seen) (out : Option Entity) → as_entity f own x rest ≡ out → (b : Bool) → is_some (own x) ≡ b
      → as_entity f own x (if b then Declared_here meant else rest) ≡ or_other (own x) out
  here_first meant rest out e true h = sym (some_first (own x) out h)
  here_first meant rest out e false h = e ∙ sym (none_first (own x) out h)

  -- what is seen is an entity, and nothing else is
  some_in_files : is_some (as_entity f own x (seen_in_files (unit_within (bare_program (placed f)) None x) (module_named (placed f) x))) ≡ is_seen (seen_in_files (unit_within (bare_program (placed f)) None x) (module_named (placed f) x))
  some_in_files = go (unit_within (bare_program (placed f)) None x) (module_named (placed f) x) (sym (some_within f None x ∙ sym (some_unit f None x))) (sym (some_module f x))
    where
      go : (v : Option plain.Unit) (m : Option Module) → is_some (first_unit f None x) ≡ is_some v → is_some (module_number f x) ≡ is_some m
          → is_some (as_entity f own x (seen_in_files v m)) ≡ is_seen (seen_in_files v m)
      go (Some v) m there e = there
      go None (Some m) there e = some_map module_entity (module_number f x) ∙ e
      go None None there e = refl

  some_outside : (meant : Meant) (o : Option Text) (n : Option ℕ) → Same f x o n
      → is_some (as_entity f own x (seen_outside o meant (seen_in_files (unit_within (bare_program (placed f)) None x) (module_named (placed f) x))))
      ≡ is_seen (seen_outside o meant (seen_in_files (unit_within (bare_program (placed f)) None x) (module_named (placed f) x)))
  some_outside meant o n neither = some_in_files
  some_outside meant o n (both m i e declared) = ap is_some (ap (option_and_then (λ k. in_module f k x)) e ∙ sym (in_module_found f i x)) ∙ declared

  some_here : (meant : Meant) (rest : Seen) → is_some (as_entity f own x rest) ≡ is_seen rest → (b : Bool) → is_some (own x) ≡ b
      → is_some (as_entity f own x (if b then Declared_here meant else rest)) ≡ is_seen (if b then Declared_here meant else rest)
  some_here meant rest e true h = h
  some_here meant rest e false h = e

-- ---- units

pub host_same : (f : File) (x : Text) (host : Option ℕ)
    → Same f x (origin_of_host (bare_program (placed f)) (module_at (bare_program (placed f)) host) x)
    (option_and_then (at_number (row_of (shared_of f) x)) (host_number f.modules (declared_of f).names host))
host_same f x None = neither
host_same f x (Some h) = subst (λ o. Same f x (origin_of_host (bare_program (placed f)) o x) (option_and_then (at_number (row_of (shared_of f) x)) (host_number f.modules (declared_of f).names (Some h)))) (sym (q_module f h)) (go (slice_get f.modules h))
  where
    go : (o : Option tree_module.Module)
        → Same f x (origin_of_host (bare_program (placed f)) (option_map (λ m. bare_module (placed_module m)) o) x)
        (option_and_then (at_number (row_of (shared_of f) x)) (option_and_then (λ m. position (bytes_eq m.name) (declared_of f).names) o))
    go None = neither
    go (Some m) = stored_same f x m.name

unit_declares : (f : File) (u : tree_unit.Unit) (x : Text) → is_declared (placed f) (Of_unit (placed_unit u)) x ≡ is_some (in_unit u x)
unit_declares f u x =
    any_map (λ (n : Named). bytes_eq n.name x) named_decl (map placed_decl u.decls)
    ∙ any_map (λ d. bytes_eq (named_decl d).name x) placed_decl u.decls
    ∙ sym (some_position (λ (d : Decl). bytes_eq d.name x) u.decls)
    ∙ sym (some_decl home.Local (columns_of (Some u)) u.decls x)

abbrev found_with : Own → Shared → List Use → Option ℕ → Text → Option Entity
found_with own s uses host x = or_other (own_found own s x) (found_outside s uses host x)

-- what is found in the tables of the unit's scope
pub unit_form : (f : File) (u : tree_unit.Unit) (x : Text)
    → or_other (in_unit u x) (found_outside (shared_of f) u.uses (host_number f.modules (declared_of f).names u.host) x) ≡ entity_in_unit f u x
unit_form f u x =
    sym (here_first f x (in_unit u) (entity_in (bare_program (placed f)) (Of_unit (placed_unit u)) x)
    (seen_outside (origin_outside (bare_program (placed f)) (Of_unit (placed_unit u)) x) (entity_in (bare_program (placed f)) (Of_unit (placed_unit u)) x)
    (seen_in_files (unit_within (bare_program (placed f)) None x) (module_named (placed f) x)))
    (found_outside (shared_of f) u.uses (host_number f.modules (declared_of f).names u.host) x)
    (outside f x (in_unit u) (entity_in (bare_program (placed f)) (Of_unit (placed_unit u)) x)
    (origin_outside (bare_program (placed f)) (Of_unit (placed_unit u)) x) (origin_found (shared_of f) u.uses (host_number f.modules (declared_of f).names u.host) x)
    (same_or (same_lines f x (row_of (shared_of f) x) (origin (bare_program (placed f))) (stored_same f x) u.uses) (host_same f x u.host)))
    (is_declared (placed f) (Of_unit (placed_unit u)) x) (sym (unit_declares f u x)))

pub unit_sight : (f : File) (u : tree_unit.Unit) (c : Scope) → IsUnitScope f.modules (shared_of f) u c → (x : Text) → found c x ≡ entity_in_unit f u x
unit_sight f u c is x =
    (λ i. found_with (is.own i) (is.shared i) (is.uses i) (is.host i) x)
    ∙ ap (λ o. or_other o (found_outside (shared_of f) u.uses (host_number f.modules (declared_of f).names u.host) x)) (decl_found home.Local (columns_of (Some u)) u.decls x)
    ∙ unit_form f u x

unit_owns : (f : File) (u : tree_unit.Unit) (c : Scope) → IsUnitScope f.modules (shared_of f) u c → (x : Text) → own_found c.own c.shared.value x ≡ in_unit u x
unit_owns f u c is x = (λ i. own_found (is.own i) (is.shared i) x) ∙ decl_found home.Local (columns_of (Some u)) u.decls x

pub unit_seen : (f : File) (u : tree_unit.Unit) (x : Text) → is_some (entity_in_unit f u x) ≡ is_seen (seen (placed f) (Of_unit (placed_unit u)) x)
unit_seen f u x =
    some_here f x (in_unit u) (entity_in (bare_program (placed f)) (Of_unit (placed_unit u)) x)
    (seen_outside (origin_outside (bare_program (placed f)) (Of_unit (placed_unit u)) x) (entity_in (bare_program (placed f)) (Of_unit (placed_unit u)) x)
    (seen_in_files (unit_within (bare_program (placed f)) None x) (module_named (placed f) x)))
    (some_outside f x (in_unit u) (entity_in (bare_program (placed f)) (Of_unit (placed_unit u)) x)
    (origin_outside (bare_program (placed f)) (Of_unit (placed_unit u)) x) (origin_found (shared_of f) u.uses (host_number f.modules (declared_of f).names u.host) x)
    (same_or (same_lines f x (row_of (shared_of f) x) (origin (bare_program (placed f))) (stored_same f x) u.uses) (host_same f x u.host)))
    (is_declared (placed f) (Of_unit (placed_unit u)) x) (sym (unit_declares f u x))

-- ---- modules

module_units : (f : File) (n : ℕ) (x : Text) → list_any (λ n'. bytes_eq n'.name x) (map named_unit (units_within (placed f) n)) ≡ is_some (first_unit f (Some n) x)
module_units f n x =
    any_map (λ (a : Named). bytes_eq a.name x) named_unit (units_within (placed f) n)
    ∙ any_filter (λ (u : Placed). bytes_eq u.name x) (λ (u : Placed). same_host u.host (Some n)) (map placed_unit f.units)
    ∙ any_map (λ (u : Placed). same_host u.host (Some n) && bytes_eq u.name x) placed_unit f.units
    ∙ sym (some_position (λ (u : tree_unit.Unit). same_host u.host (Some n) && bytes_eq u.name x) f.units)
    ∙ sym (some_unit f (Some n) x)

module_decls : (f : File) (n : ℕ) (m : tree_module.Module) (x : Text) → list_any (λ n'. bytes_eq n'.name x) (map named_decl (map placed_decl m.decls)) ≡ is_some (first_decl (home.Module n) (columns_of None) m.decls x)
module_decls f n m x =
    any_map (λ (a : Named). bytes_eq a.name x) named_decl (map placed_decl m.decls)
    ∙ any_map (λ d. bytes_eq (named_decl d).name x) placed_decl m.decls
    ∙ sym (some_position (λ (d : Decl). bytes_eq d.name x) m.decls)
    ∙ sym (some_decl (home.Module n) (columns_of None) m.decls x)

module_declares : (f : File) (n : ℕ) (m : tree_module.Module) (x : Text) → slice_get f.modules n ≡ Some m → is_declared (placed f) (Of_module n (placed_module m)) x ≡ is_some (in_module f n x)
module_declares f n m x e =
    any_append (λ (a : Named). bytes_eq a.name x) (map named_decl (map placed_decl m.decls)) (map named_unit (units_within (placed f) n))
    ∙ (λ i. module_decls f n m x i || module_units f n x i)
    ∙ sym (some_or (first_decl (home.Module n) (columns_of None) m.decls x) (first_unit f (Some n) x))
    ∙ sym (ap (λ o. is_some (declared_by f n o x)) e)

pub module_sight : (f : File) (n : ℕ) (m : tree_module.Module) (c : Scope) → slice_get f.modules n ≡ Some m → IsModuleScope (shared_of f) n m c → (x : Text) → found c x ≡ entity_in_module f n m x
module_sight f n m c at is x =
    (λ i. found_with (is.own i) (is.shared i) (is.uses i) (is.host i) x)
    ∙ ap (λ o. or_other o (found_outside (shared_of f) m.uses None x)) (in_module_found f n x)
    ∙ sym (here_first f x (in_module f n) (entity_in (bare_program (placed f)) (Of_module n (placed_module m)) x)
    (seen_outside (origin_outside (bare_program (placed f)) (Of_module n (placed_module m)) x) (entity_in (bare_program (placed f)) (Of_module n (placed_module m)) x)
    (seen_in_files (unit_within (bare_program (placed f)) None x) (module_named (placed f) x)))
    (found_outside (shared_of f) m.uses None x)
    (outside f x (in_module f n) (entity_in (bare_program (placed f)) (Of_module n (placed_module m)) x)
    (origin_outside (bare_program (placed f)) (Of_module n (placed_module m)) x) (origin_found (shared_of f) m.uses None x)
    (same_or (same_lines f x (row_of (shared_of f) x) (origin (bare_program (placed f))) (stored_same f x) m.uses) neither))
    (is_declared (placed f) (Of_module n (placed_module m)) x) (sym (module_declares f n m x at)))

pub module_seen : (f : File) (n : ℕ) (m : tree_module.Module) (x : Text) → slice_get f.modules n ≡ Some m → is_some (entity_in_module f n m x) ≡ is_seen (seen (placed f) (Of_module n (placed_module m)) x)
module_seen f n m x at =
    some_here f x (in_module f n) (entity_in (bare_program (placed f)) (Of_module n (placed_module m)) x)
    (seen_outside (origin_outside (bare_program (placed f)) (Of_module n (placed_module m)) x) (entity_in (bare_program (placed f)) (Of_module n (placed_module m)) x)
    (seen_in_files (unit_within (bare_program (placed f)) None x) (module_named (placed f) x)))
    (some_outside f x (in_module f n) (entity_in (bare_program (placed f)) (Of_module n (placed_module m)) x)
    (origin_outside (bare_program (placed f)) (Of_module n (placed_module m)) x) (origin_found (shared_of f) m.uses None x)
    (same_or (same_lines f x (row_of (shared_of f) x) (origin (bare_program (placed f))) (stored_same f x) m.uses) neither))
    (is_declared (placed f) (Of_module n (placed_module m)) x) (sym (module_declares f n m x at))

-- ---- all scopes of a file

of_this_file : (f : File) (sy : Symbols) → sy.shared.value ≡ shared_of f → UnitScopes f.modules (shared_of f) f.units sy.units.items → ModuleScopes (shared_of f) f.modules sy.modules.items → AreSymbolsOf f sy
of_this_file f sy same us ms = record {
  shared = same;
  unit_count = fits_length (λ n. IsUnitScope f.modules (shared_of f)) 0 f.units sy.units.items us.each;
  module_count = fits_length (IsModuleScope (shared_of f)) 0 f.modules sy.modules.items ms.each;
  of_units = λ n u c at found_at. unit_sight f u c (fits_at (λ k. IsUnitScope f.modules (shared_of f)) 0 f.units sy.units.items n u c us.each at found_at);
  own_of_units = λ n u c at found_at. unit_owns f u c (fits_at (λ k. IsUnitScope f.modules (shared_of f)) 0 f.units sy.units.items n u c us.each at found_at);
  of_modules = λ n m c at found_at.
      let e : 0 + n ≡ n = omega arith in
      module_sight f n m c at (subst (λ k. IsModuleScope (shared_of f) k m c) e (fits_at (IsModuleScope (shared_of f)) 0 f.modules sy.modules.items n m c ms.each at found_at));
}

pub symbols_are : (f : File) (ms : List tree_module.Module) (us : List tree_unit.Unit) (s : Shared) (sy : Symbols) → ms ≡ f.modules → us ≡ f.units → s ≡ shared_of f → sy.shared.value ≡ s
    → UnitScopes ms s us sy.units.items → ModuleScopes s ms sy.modules.items → AreSymbolsOf f sy
symbols_are f ms us s sy same_modules same_units same_shared kept of_units of_modules =
    of_this_file f sy (kept ∙ same_shared)
    (subst (λ a. UnitScopes f.modules a f.units sy.units.items) same_shared
    (subst (λ a. UnitScopes f.modules s a sy.units.items) same_units (subst (λ a. UnitScopes a s us sy.units.items) same_modules of_units)))
    (subst (λ a. ModuleScopes a f.modules sy.modules.items) same_shared (subst (λ a. ModuleScopes s a sy.modules.items) same_modules of_modules))
