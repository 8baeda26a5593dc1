-- The faults that are sought in all scopes of a file.
use Rattle.std.proofs.Common.{◌≡◌, ℕ, ◌+◌, ◌<◌, length, get_or, drop, map, List, [], ◌∷◌, ◌++◌, Option, refl, sym, ap, ◌∙◌}
use Rattle.std.specs.Prelude.{flat_map}
use Rattle.std.specs.List.{enumerate_from}
use Rattle.std.proofs.lemmas.Grind.{flat_map-append}
use Rattle.std.proofs.lemmas.List.Folds.{flat_map-map}
use Rattle.fort_tree.specs.declared.choice.Mode.{Mode}
use Rattle.fort_tree.specs.declared.fault.Code.{Code}
use Rattle.fort_tree.specs.declared.place.Place.{Place}
use Rattle.fort_tree.specs.declared.unit.Module as tree_module
use Rattle.fort_tree.specs.declared.unit.Unit as tree_unit
use Rattle.claw_meaning.specs.Syntax.{Text}
use Rattle.claw_meaning.specs.Scope.{Entity}
use Rattle.sound_programs.specs.ArgumentFaults.{count_faults}
use Rattle.sound_programs.specs.Faults.{Found, found}
use Rattle.sound_programs.specs.KindFaults.{kind_faults, kind_faults_in_scope}
use Rattle.sound_programs.specs.Placed.{Module, Program, bare_program}
use Rattle.sound_programs.specs.Placing.{placed_module, placed_unit}
use Rattle.sound_programs.specs.RankFaults.{rank_faults, rank_faults_in_scope}
use Rattle.sound_programs.specs.Scopes.{Scope, Of_unit, Of_module, scopes}
use Rattle.sound_programs.specs.Walks.{Stands}
use Rattle.fort_names.specs.Leasts.{noted}
use Rattle.fort_names.proofs.FirstOf.{noted_places}
use Rattle.kind_faults.specs.declared.sought.Sought.{Sought}
use Rattle.kind_faults.specs.declared.sought.Sought.TheVariants.{Kinds, Ranks, Counts}
use Rattle.kind_faults.specs.InScopes.{faults_of_step, faults_in_scope, all_faults}
use Rattle.fort_kinds.proofs.Subs.{at_index}

-- steps without the DOs around them
pub body_is : (entity : Text → Entity) (sought : Sought) (ss : List Stands) →
    flat_map (faults_of_step entity sought) (map (λ s. s.step) ss) ≡ flat_map (λ s. faults_of_step entity sought s.step) ss
body_is entity sought ss = flat_map-map (faults_of_step entity sought) (λ (s : Stands). s.step) ss

append_nothing : (xs : List Place) → xs ++ [] ≡ xs
append_nothing [] = refl
append_nothing (x ∷ xs) = ap (λ l. x ∷ l) (append_nothing xs)

same_places : {A : Type 0} (f g : A → List Place) → ((a : A) → f a ≡ g a) → (xs : List A) → flat_map f xs ≡ flat_map g xs
same_places f g h [] = refl
same_places f g h (x ∷ xs) = λ t. h x t ++ same_places f g h xs t

kinds_in : (p : Program) (s : Scope) → kind_faults_in_scope (bare_program p) s ≡ faults_in_scope p Kinds s
kinds_in p (Of_unit u) = refl
kinds_in p (Of_module n m) = sym (append_nothing _)

pub kinds_are : (p : Program) → all_faults Kinds p ≡ kind_faults p
kinds_are p = sym (same_places (kind_faults_in_scope (bare_program p)) (faults_in_scope p Kinds) (kinds_in p) (scopes p))

ranks_in : (mode : Mode) (p : Program) (s : Scope) → rank_faults_in_scope mode (bare_program p) s ≡ faults_in_scope p (Ranks mode) s
ranks_in mode p (Of_unit u) = refl
ranks_in mode p (Of_module n m) = sym (append_nothing _)

pub ranks_are : (mode : Mode) (p : Program) → all_faults (Ranks mode) p ≡ rank_faults mode p
ranks_are mode p = sym (same_places (rank_faults_in_scope mode (bare_program p)) (faults_in_scope p (Ranks mode)) (ranks_in mode p) (scopes p))

abbrev numbered : ℕ × Module → Scope
numbered m = Of_module m.0 m.1

none_in_modules : (p : Program) (ms : List (ℕ × Module)) → flat_map (faults_in_scope p Counts) (map numbered ms) ≡ []
none_in_modules p [] = refl
none_in_modules p (m ∷ ms) = none_in_modules p ms

pub counts_are : (p : Program) → all_faults Counts p ≡ count_faults p
counts_are p =
    flat_map-append (faults_in_scope p Counts) (map numbered (enumerate_from 0 p.modules)) (map Of_unit p.units)
    ∙ ap (λ l. l ++ flat_map (faults_in_scope p Counts) (map Of_unit p.units)) (none_in_modules p (enumerate_from 0 p.modules))
    ∙ flat_map-map (faults_in_scope p Counts) Of_unit p.units

-- one more module, and one more unit

pub next_module : (code : Code) (h : Scope → List Place) (items : List tree_module.Module) (i : ℕ) (m : tree_module.Module) → i < length items → m ≡ get_or items i m → (old new : Option Found) →
    new ≡ noted (found code (h (Of_module i (placed_module m)))) old →
    noted (found code (flat_map h (map numbered (enumerate_from (i + 1) (map placed_module (drop (i + 1) items)))))) new
    ≡ noted (found code (flat_map h (map numbered (enumerate_from i (map placed_module (drop i items)))))) old
next_module code h items i m within is old new e =
    ap (noted (found code (flat_map h (map numbered (enumerate_from (i + 1) (map placed_module (drop (i + 1) items))))))) e
    ∙ sym (noted_places code (h (Of_module i (placed_module m))) (flat_map h (map numbered (enumerate_from (i + 1) (map placed_module (drop (i + 1) items))))) old)
    ∙ ap (λ l. noted (found code (flat_map h (map numbered (enumerate_from i (map placed_module l))))) old) (sym (at_index items i m within is))

pub next_unit : (code : Code) (h : Scope → List Place) (items : List tree_unit.Unit) (i : ℕ) (u : tree_unit.Unit) → i < length items → u ≡ get_or items i u → (old new : Option Found) →
    new ≡ noted (found code (h (Of_unit (placed_unit u)))) old →
    noted (found code (flat_map h (map Of_unit (map placed_unit (drop (i + 1) items))))) new ≡ noted (found code (flat_map h (map Of_unit (map placed_unit (drop i items))))) old
next_unit code h items i u within is old new e =
    ap (noted (found code (flat_map h (map Of_unit (map placed_unit (drop (i + 1) items)))))) e
    ∙ sym (noted_places code (h (Of_unit (placed_unit u))) (flat_map h (map Of_unit (map placed_unit (drop (i + 1) items)))) old)
    ∙ ap (λ l. noted (found code (flat_map h (map Of_unit (map placed_unit l)))) old) (sym (at_index items i u within is))
