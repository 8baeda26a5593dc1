-- What stands twice in the scopes of a file, by its tables.
use Rattle.std.proofs.Common.{◌≡◌, ℕ, ◌+◌, Bool, true, false, ◌&&◌, ◌||◌, List, [], ◌∷◌, ◌++◌, map, Option, Some, cond, refl, sym, ap, ◌∙◌, arith, if◌then◌else◌}
use Rattle.std.specs.Prelude.{flat_map}
use Rattle.std.specs.List.{filter, enumerate_from}
use Rattle.std.proofs.lemmas.Bool.Decides.{nat_tests}
use Rattle.fort_tree.specs.declared.fault.Code.{Code}
use Rattle.fort_tree.specs.declared.place.Place.{Place}
use Rattle.fort_tree.specs.declared.stmt.Named.{Named}
use Rattle.fort_tree.specs.declared.unit.Decl.{Decl}
use Rattle.fort_tree.specs.declared.unit.File.{File}
use Rattle.fort_tree.specs.declared.unit.Module as tree_module
use Rattle.fort_tree.specs.declared.unit.Unit as tree_unit
use Rattle.fort_tree.specs.declared.unit.Use.{Use}
use Rattle.claw_meaning.specs.Plain.{plain_use}
use Rattle.claw_meaning.specs.Scope.{brings, same_host}
use Rattle.claw_meaning.specs.Syntax.{Text}
use Rattle.sound_programs.specs.DeclarationFaults.{seconds, two_declarations, two_dummies, declared_and_used, two_uses, two_units_or_modules, declared_twice_in, declared_twice}
use Rattle.sound_programs.specs.Faults.{Found, found}
use Rattle.sound_programs.specs.Placed.{Unit, bare_program}
use Rattle.sound_programs.specs.Places.{later_of, where_place}
use Rattle.sound_programs.specs.Placing.{placed, placed_decl, placed_unit, placed_module}
use Rattle.sound_programs.specs.Scopes.{Scope, Of_unit, Of_module, scopes, uses_of, declared, named_decl, named_unit, place_of_use, is_brought}
use Rattle.fort_names.specs.declared.shared.Shared.{Shared}
use Rattle.fort_names.specs.Declaring.{name_of_decl, names_of_decls, names_within, module_names, modules_twice, unit_twice, all_twice_in}
use Rattle.fort_names.specs.Leasts.{noted, of_units, name_of_unit}
use Rattle.fort_names.specs.Reached.{is_by, some_by}
use Rattle.fort_names.specs.Sharing.{shared_of}
use Rattle.fort_names.specs.Using.{used_again, uses_twice, scope_twice, contested_names}
use Rattle.fort_names.proofs.FirstOf.{noted_places}
use Rattle.fort_names.proofs.LinesAre.{gives_is}
use Rattle.fort_names.proofs.Members.{any_parts}
use Rattle.fort_names.proofs.Reaching.{same_least}
use Rattle.fort_names.proofs.UsesAre.{uses_are}

-- ---- what scopes declare

decls_are : (ds : List Decl) → names_of_decls ds ≡ map named_decl (map placed_decl ds)
decls_are [] = refl
decls_are (d ∷ ds) = ap (λ l. name_of_decl d ∷ l) (decls_are ds)

within_are : (n : ℕ) (us : List tree_unit.Unit) → names_within n us ≡ map named_unit (filter (λ (u : Unit). same_host u.host (Some n)) (map placed_unit us))
within_are n [] = refl
within_are n (u ∷ us) = go (within_are n us) (same_host u.host (Some n))
  where
    go : names_within n us ≡ map named_unit (filter (λ (v : Unit). same_host v.host (Some n)) (map placed_unit us)) → (t : Bool)
        → (if t then name_of_unit u ∷ names_within n us else names_within n us)
        ≡ map named_unit (cond t (placed_unit u ∷ filter (λ (v : Unit). same_host v.host (Some n)) (map placed_unit us)) (filter (λ (v : Unit). same_host v.host (Some n)) (map placed_unit us)))
    go h true = ap (λ l. name_of_unit u ∷ l) h
    go h false = h

module _ (f : File) where
  -- ---- one scope

  used_are : (names : List Named) (lines : List Use)
      → used_again (shared_of f) names lines
      ≡ flat_map (λ (n : Named). flat_map (λ (line : Use). where_place (is_brought (bare_program (placed f)) line n.name) (later_of n.at (place_of_use line n.name))) lines) names
  used_are names lines =
      λ i. flat_map (λ (n : Named). flat_map (λ (line : Use). where_place (brings (plain_use line) n.name && gives_is f line.name n.name i) (later_of n.at (place_of_use line n.name))) lines) names

  scope_by : (at : Place) (s : Scope) (names : List Named) → names ≡ declared (placed f) s
      → some_by at (scope_twice (shared_of f) (contested_names (shared_of f)) names (uses_of s))
      ≡ (some_by at (two_declarations (placed f) s) || (some_by at (declared_and_used (placed f) (bare_program (placed f)) s) || some_by at (two_uses (placed f) (bare_program (placed f)) (uses_of s))))
  scope_by at s names e =
      any_parts (is_by at) (seconds names) (used_again (shared_of f) names (uses_of s) ++ uses_twice (shared_of f) (contested_names (shared_of f)) (uses_of s))
      ∙ ap (λ t. some_by at (seconds names) || t) (any_parts (is_by at) (used_again (shared_of f) names (uses_of s)) (uses_twice (shared_of f) (contested_names (shared_of f)) (uses_of s)))
      ∙ (λ i. some_by at (seconds (e i)) || (some_by at (used_are names (uses_of s) i) || uses_are f at (uses_of s) i))
      ∙ ap (λ l. some_by at (two_declarations (placed f) s) || (some_by at (flat_map (λ (n : Named). flat_map (λ (line : Use). where_place (is_brought (bare_program (placed f)) line n.name) (later_of n.at (place_of_use line n.name))) (uses_of s)) l)
      || some_by at (two_uses (placed f) (bare_program (placed f)) (uses_of s)))) e

  twice_by : (at : Place) (s : Scope)
      → some_by at (declared_twice_in (placed f) (bare_program (placed f)) s)
      ≡ (some_by at (two_declarations (placed f) s) || (some_by at (two_dummies s) || (some_by at (declared_and_used (placed f) (bare_program (placed f)) s) || some_by at (two_uses (placed f) (bare_program (placed f)) (uses_of s)))))
  twice_by at s =
      any_parts (is_by at) (two_declarations (placed f) s) (two_dummies s ++ (declared_and_used (placed f) (bare_program (placed f)) s ++ two_uses (placed f) (bare_program (placed f)) (uses_of s)))
      ∙ ap (λ t. some_by at (two_declarations (placed f) s) || t)
      (any_parts (is_by at) (two_dummies s) (declared_and_used (placed f) (bare_program (placed f)) s ++ two_uses (placed f) (bare_program (placed f)) (uses_of s))
      ∙ ap (λ t. some_by at (two_dummies s) || t) (any_parts (is_by at) (declared_and_used (placed f) (bare_program (placed f)) s) (two_uses (placed f) (bare_program (placed f)) (uses_of s))))

  dummies_last : (a b c d : Bool) → ((a || (c || d)) || b) ≡ (a || (b || (c || d)))
  dummies_last a b c d = grind (arith, nat_tests)

  module_by : (at : Place) (n : ℕ) (m : tree_module.Module)
      → some_by at (scope_twice (shared_of f) (contested_names (shared_of f)) (names_of_decls m.decls ++ names_within n f.units) m.uses)
      ≡ some_by at (declared_twice_in (placed f) (bare_program (placed f)) (Of_module n (placed_module m)))
  module_by at n m =
      scope_by at (Of_module n (placed_module m)) (names_of_decls m.decls ++ names_within n f.units) (λ i. decls_are m.decls i ++ within_are n f.units i)
      ∙ sym (twice_by at (Of_module n (placed_module m)))

  unit_by : (at : Place) (u : tree_unit.Unit)
      → some_by at (unit_twice (shared_of f) (contested_names (shared_of f)) u) ≡ some_by at (declared_twice_in (placed f) (bare_program (placed f)) (Of_unit (placed_unit u)))
  unit_by at u =
      any_parts (is_by at) (scope_twice (shared_of f) (contested_names (shared_of f)) (names_of_decls u.decls) u.uses) (two_dummies (Of_unit (placed_unit u)))
      ∙ ap (λ t. t || some_by at (two_dummies (Of_unit (placed_unit u)))) (scope_by at (Of_unit (placed_unit u)) (names_of_decls u.decls) (decls_are u.decls))
      ∙ dummies_last (some_by at (two_declarations (placed f) (Of_unit (placed_unit u)))) (some_by at (two_dummies (Of_unit (placed_unit u))))
      (some_by at (declared_and_used (placed f) (bare_program (placed f)) (Of_unit (placed_unit u)))) (some_by at (two_uses (placed f) (bare_program (placed f)) u.uses))
      ∙ sym (twice_by at (Of_unit (placed_unit u)))

  -- ---- all scopes

  units_by : (at : Place) (us : List tree_unit.Unit)
      → some_by at (of_units (unit_twice (shared_of f) (contested_names (shared_of f))) us) ≡ some_by at (flat_map (declared_twice_in (placed f) (bare_program (placed f))) (map Of_unit (map placed_unit us)))
  units_by at [] = refl
  units_by at (u ∷ us) =
      any_parts (is_by at) (unit_twice (shared_of f) (contested_names (shared_of f)) u) (of_units (unit_twice (shared_of f) (contested_names (shared_of f))) us)
      ∙ (λ i. unit_by at u i || units_by at us i)
      ∙ sym (any_parts (is_by at) (declared_twice_in (placed f) (bare_program (placed f)) (Of_unit (placed_unit u))) (flat_map (declared_twice_in (placed f) (bare_program (placed f))) (map Of_unit (map placed_unit us))))

  group : (a b c : Bool) → (a || (b || c)) ≡ ((a || b) || c)
  group a b c = grind (arith, nat_tests)

  modules_by : (at : Place) (n : ℕ) (ms : List tree_module.Module) (rest : List Scope)
      → some_by at (flat_map (declared_twice_in (placed f) (bare_program (placed f))) (map (λ m. Of_module m.0 m.1) (enumerate_from n (map placed_module ms)) ++ rest))
      ≡ (some_by at (modules_twice (shared_of f) (contested_names (shared_of f)) (module_names n ms f.units) ms) || some_by at (flat_map (declared_twice_in (placed f) (bare_program (placed f))) rest))
  modules_by at n [] rest = refl
  modules_by at n (m ∷ ms) rest =
      any_parts (is_by at) (declared_twice_in (placed f) (bare_program (placed f)) (Of_module n (placed_module m)))
      (flat_map (declared_twice_in (placed f) (bare_program (placed f))) (map (λ m. Of_module m.0 m.1) (enumerate_from (n + 1) (map placed_module ms)) ++ rest))
      ∙ (λ i. sym (module_by at n m) i || modules_by at (n + 1) ms rest i)
      ∙ group (some_by at (scope_twice (shared_of f) (contested_names (shared_of f)) (names_of_decls m.decls ++ names_within n f.units) m.uses))
      (some_by at (modules_twice (shared_of f) (contested_names (shared_of f)) (module_names (n + 1) ms f.units) ms)) (some_by at (flat_map (declared_twice_in (placed f) (bare_program (placed f))) rest))
      ∙ ap (λ t. t || some_by at (flat_map (declared_twice_in (placed f) (bare_program (placed f))) rest))
      (sym (any_parts (is_by at) (scope_twice (shared_of f) (contested_names (shared_of f)) (names_of_decls m.decls ++ names_within n f.units) m.uses)
      (modules_twice (shared_of f) (contested_names (shared_of f)) (module_names (n + 1) ms f.units) ms)))

  all_by : (at : Place) → some_by at (all_twice_in f) ≡ some_by at (declared_twice (placed f))
  all_by at =
      let modules = modules_twice (shared_of f) (contested_names (shared_of f)) (module_names 0 f.modules f.units) f.modules in
      let units = of_units (unit_twice (shared_of f) (contested_names (shared_of f))) f.units in
      let headers = two_units_or_modules (placed f) in
      any_parts (is_by at) modules (units ++ headers)
      ∙ ap (λ t. some_by at modules || t) (any_parts (is_by at) units headers ∙ ap (λ t. t || some_by at headers) (units_by at f.units))
      ∙ group (some_by at modules) (some_by at (flat_map (declared_twice_in (placed f) (bare_program (placed f))) (map Of_unit (map placed_unit f.units)))) (some_by at headers)
      ∙ ap (λ t. t || some_by at headers) (sym (modules_by at 0 f.modules (map Of_unit (map placed_unit f.units))))
      ∙ sym (any_parts (is_by at) (flat_map (declared_twice_in (placed f) (bare_program (placed f))) (scopes (placed f))) headers)

  -- what is noted one after the other
  pub all_noted : (code : Code) (s : Shared) (c : List Text) (lists given : List (List Named)) (ms : List tree_module.Module) (us : List tree_unit.Unit) (r a b d : Option Found) → s ≡ shared_of f → c ≡ contested_names s
      → lists ≡ module_names 0 ms us → given ≡ lists → ms ≡ f.modules → us ≡ f.units → a ≡ noted (found code (modules_twice s c given ms)) r → b ≡ noted (found code (of_units (unit_twice s c) us)) a
      → d ≡ noted (found code (two_units_or_modules (placed f))) b → d ≡ noted (found code (declared_twice (placed f))) r
  all_noted code s c lists given ms us r a b d same_shared contested listed as_slice same_modules same_units first second third =
      let names : c ≡ contested_names (shared_of f) = contested ∙ ap contested_names same_shared in
      let all : given ≡ module_names 0 f.modules f.units = as_slice ∙ listed ∙ (λ i. module_names 0 (same_modules i) (same_units i)) in
      let modules = modules_twice (shared_of f) (contested_names (shared_of f)) (module_names 0 f.modules f.units) f.modules in
      let units = of_units (unit_twice (shared_of f) (contested_names (shared_of f))) f.units in
      let headers = two_units_or_modules (placed f) in
      third
      ∙ ap (noted (found code headers)) (second ∙ (λ i. noted (found code (of_units (unit_twice (same_shared i) (names i)) (same_units i))) a))
      ∙ ap (λ x. noted (found code headers) (noted (found code units) x)) (first ∙ (λ i. noted (found code (modules_twice (same_shared i) (names i) (all i) (same_modules i))) r))
      ∙ sym (noted_places code units headers (noted (found code modules) r))
      ∙ sym (noted_places code modules (units ++ headers) r)
      ∙ same_least code (all_twice_in f) (declared_twice (placed f)) all_by r
