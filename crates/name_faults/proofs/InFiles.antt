-- The faults of a program, by the modules and units of its file.
use Rattle.std.proofs.Common.{◌≡◌, ℕ, ◌+◌, ◌<◌, suc, length, get_or, drop, drop-cons, add-one, List, [], ◌∷◌, ◌++◌, Option, map, refl, sym, ap, ◌∙◌, append_assoc}
use Rattle.std.specs.Prelude.{flat_map}
use Rattle.std.specs.List.{enumerate_from}
use Rattle.fort_tree.specs.declared.fault.Code.{Code}
use Rattle.fort_tree.specs.declared.place.Place.{Place}
use Rattle.fort_tree.specs.declared.unit.File.{File}
use Rattle.fort_tree.specs.declared.unit.Module as tree_module
use Rattle.fort_tree.specs.declared.unit.Unit as tree_unit
use Rattle.sound_programs.specs.Faults.{Found, found}
use Rattle.sound_programs.specs.NameFaults.{in_each_step, undeclared_in_scope, undeclared_names, unit_faults, unit_faults_in_step}
use Rattle.sound_programs.specs.Placed.{bare_program}
use Rattle.sound_programs.specs.Placing.{placed, placed_module, placed_unit}
use Rattle.sound_programs.specs.Scopes.{Scope, Of_unit, Of_module, entity_in}
use Rattle.fort_names.specs.Leasts.{noted, of_units}
use Rattle.fort_names.proofs.FirstOf.{noted_places}
use Rattle.name_faults.specs.References.{faults_in_a_unit}
use Rattle.name_faults.specs.Undeclared.{numbered, undeclared_in_a_module, undeclared_in_a_unit}

-- one more module, whose places come before those of the modules behind it
pub next_numbered : (code : Code) (places : ℕ → tree_module.Module → List Place) (items : List tree_module.Module) (i : ℕ) (a : tree_module.Module) → i < length items → a ≡ get_or items i a
    → (old new : Option Found) → new ≡ noted (found code (places i a)) old
    → noted (found code (numbered places (i + 1) (drop (i + 1) items))) new ≡ noted (found code (numbered places i (drop i items))) old
next_numbered code places items i a within is old new e =
    let at : drop i items ≡ a ∷ drop (i + 1) items = rw (add-one, drop-cons items i a) (ap (λ x. x ∷ drop (suc i) items) (sym is)) in
    ap (noted (found code (numbered places (i + 1) (drop (i + 1) items)))) e
    ∙ sym (noted_places code (places i a) (numbered places (i + 1) (drop (i + 1) items)) old)
    ∙ ap (λ l. noted (found code (numbered places i l)) old) (sym at)

in_units : (f : File) (us : List tree_unit.Unit) → flat_map (undeclared_in_scope (bare_program (placed f))) (map Of_unit (map placed_unit us)) ≡ of_units (undeclared_in_a_unit f) us
in_units f [] = refl
in_units f (u ∷ us) = ap (λ l. undeclared_in_a_unit f u ++ l) (in_units f us)

in_modules : (f : File) (n : ℕ) (ms : List tree_module.Module) (rest : List Scope)
    → flat_map (undeclared_in_scope (bare_program (placed f))) (map (λ m. Of_module m.0 m.1) (enumerate_from n (map placed_module ms)) ++ rest)
    ≡ numbered (undeclared_in_a_module f) n ms ++ flat_map (undeclared_in_scope (bare_program (placed f))) rest
in_modules f n [] rest = refl
in_modules f n (m ∷ ms) rest =
    ap (λ l. undeclared_in_a_module f n m ++ l) (in_modules f (n + 1) ms rest)
    ∙ sym (append_assoc (undeclared_in_a_module f n m) (numbered (undeclared_in_a_module f) (n + 1) ms) (flat_map (undeclared_in_scope (bare_program (placed f))) rest))

pub undeclared_are : (f : File) → undeclared_names (placed f) ≡ numbered (undeclared_in_a_module f) 0 f.modules ++ of_units (undeclared_in_a_unit f) f.units
undeclared_are f = in_modules f 0 f.modules (map Of_unit (map placed_unit f.units)) ∙ ap (λ l. numbered (undeclared_in_a_module f) 0 f.modules ++ l) (in_units f f.units)

faults_in_units : (f : File) (us : List tree_unit.Unit)
    → flat_map (λ u. in_each_step (unit_faults_in_step (entity_in (bare_program (placed f)) (Of_unit u))) u) (map placed_unit us) ≡ of_units (faults_in_a_unit f) us
faults_in_units f [] = refl
faults_in_units f (u ∷ us) = ap (λ l. faults_in_a_unit f u ++ l) (faults_in_units f us)

pub unit_faults_are : (f : File) → unit_faults (placed f) ≡ of_units (faults_in_a_unit f) f.units
unit_faults_are f = faults_in_units f f.units
