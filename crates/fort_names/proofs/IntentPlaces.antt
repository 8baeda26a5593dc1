-- The places of faults of INTENT, by the tree.
use Rattle.std.proofs.Common.{◌≡◌, ℕ, ◌+◌, Bool, true, false, not, ◌&&◌, List, [], ◌∷◌, ◌++◌, map, refl, sym, ap, ◌∙◌, append_assoc}
use Rattle.std.specs.Prelude.{flat_map, is_none, is_some, if◌then◌else◌, cond}
use Rattle.std.specs.List.{filter, enumerate_from}
use Rattle.fort_tree.specs.declared.place.Place.{Place}
use Rattle.fort_tree.specs.declared.unit.Decl.{Decl}
use Rattle.fort_tree.specs.declared.unit.File.{File}
use Rattle.fort_tree.specs.declared.unit.Module as tree_module
use Rattle.fort_tree.specs.declared.unit.Unit as tree_unit
use Rattle.sound_programs.specs.Placed.{Decl as Placed_decl}
use Rattle.sound_programs.specs.Placing.{placed, placed_decl, placed_unit, placed_module}
use Rattle.sound_programs.specs.Scopes.{Scope, Of_unit, Of_module, is_dummy, is_prefix}
use Rattle.sound_programs.specs.DeclarationFaults.{dummy_without_intent, intent_without_dummy, intent_faults}
use Rattle.fort_names.specs.Leasts.{places_at, unit_intents, module_intents, of_units, of_modules}

filtered : (test : Placed_decl → Bool) (ds : List Decl) → map (λ d. d.at) (filter test (map placed_decl ds)) ≡ places_at (λ d. test (placed_decl d)) (λ d. d.at) ds
filtered test [] = refl
filtered test (d ∷ ds) = go (test (placed_decl d)) (filtered test ds)
  where
    go : (b : Bool) → map (λ d. d.at) (filter test (map placed_decl ds)) ≡ places_at (λ d. test (placed_decl d)) (λ d. d.at) ds
        → map (λ d. d.at) (cond b (placed_decl d ∷ filter test (map placed_decl ds)) (filter test (map placed_decl ds)))
        ≡ (if b then d.at ∷ places_at (λ d. test (placed_decl d)) (λ d. d.at) ds else places_at (λ d. test (placed_decl d)) (λ d. d.at) ds)
    go true h = ap (λ l. d.at ∷ l) h
    go false h = h

abbrev faults_in : Scope → List Place
faults_in s = dummy_without_intent s ++ intent_without_dummy s

in_unit : (u : tree_unit.Unit) → faults_in (Of_unit (placed_unit u)) ≡ unit_intents u
in_unit u = λ i. filtered (λ (d : Placed_decl). is_dummy (Of_unit (placed_unit u)) d.name && (is_none d.intent && not (is_prefix (placed_unit u) d))) u.decls i ++ filtered (λ (d : Placed_decl). is_some d.intent && not (is_dummy (Of_unit (placed_unit u)) d.name)) u.decls i

in_module : (n : ℕ) (m : tree_module.Module) → faults_in (Of_module n (placed_module m)) ≡ module_intents m
in_module n m = filtered (λ (d : Placed_decl). is_some d.intent && not (is_dummy (Of_module n (placed_module m)) d.name)) m.decls

in_units : (us : List tree_unit.Unit) → flat_map faults_in (map Of_unit (map placed_unit us)) ≡ of_units unit_intents us
in_units [] = refl
in_units (u ∷ us) = λ i. in_unit u i ++ in_units us i

in_modules : (n : ℕ) (ms : List tree_module.Module) (rest : List Scope)
    → flat_map faults_in (map (λ m. Of_module m.0 m.1) (enumerate_from n (map placed_module ms)) ++ rest) ≡ of_modules module_intents ms ++ flat_map faults_in rest
in_modules n [] rest = refl
in_modules n (m ∷ ms) rest = (λ i. in_module n m i ++ in_modules (n + 1) ms rest i) ∙ sym (append_assoc (module_intents m) (of_modules module_intents ms) (flat_map faults_in rest))

pub intents_are : (f : File) → intent_faults (placed f) ≡ of_modules module_intents f.modules ++ of_units unit_intents f.units
intents_are f = in_modules 0 f.modules (map Of_unit (map placed_unit f.units)) ∙ ap (λ l. of_modules module_intents f.modules ++ l) (in_units f.units)
