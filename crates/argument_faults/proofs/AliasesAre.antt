-- The aliases of a unit, step by step.
use Rattle.std.proofs.Common.{◌≡◌, List, [], ◌∷◌, ◌++◌, Option, Some, None, refl, sym, ap, ◌∙◌}
use Rattle.std.specs.Prelude.{flat_map}
use Rattle.std.proofs.lemmas.Grind.{flat_map-append}
use Rattle.claw_meaning.specs.Syntax as plain
use Rattle.sound_programs.specs.ArgumentFaults.{alias_at_site, behind_site, shared_actuals}
use Rattle.sound_programs.specs.Placed.{Program, Unit, bare_program}
use Rattle.sound_programs.specs.Scopes.{Of_unit, entity_in, unit_of}
use Rattle.sound_programs.specs.Walks.{Stands, Site, actuals, sites, steps_of}
use Rattle.argument_faults.specs.InUnits.{alias_in, alias_in_unit, aliases_of, behind_in}

flat_flat : {A B D : Type 0} (g : B → List D) (h : A → List B) (xs : List A) → flat_map (λ x. flat_map g (h x)) xs ≡ flat_map g (flat_map h xs)
flat_flat g h [] = refl
flat_flat g h (x ∷ xs) = ap (λ l. flat_map g (h x) ++ l) (flat_flat g h xs) ∙ sym (flat_map-append g (h x) (flat_map h xs))

behind_same : (p : Program) (u : Unit) (s : Site) (o : Option plain.Unit)
    → behind_in p (entity_in (bare_program p) (Of_unit u)) u.name (actuals (entity_in (bare_program p) (Of_unit u)) s) o ≡ behind_site p (bare_program p) u s o
behind_same p u s None = refl
behind_same p u s (Some v) = refl

at_site : (p : Program) (u : Unit) (s : Site) → alias_in p (entity_in (bare_program p) (Of_unit u)) u.name s ≡ alias_at_site p (bare_program p) u s
at_site p u s =
    let entity = entity_in (bare_program p) (Of_unit u) in
    ap (λ l. shared_actuals entity (actuals entity s) ++ l) (behind_same p u s (unit_of (entity s.name.name)))

pub aliases_are : (p : Program) (u : Unit) → alias_in_unit p (entity_in (bare_program p) (Of_unit u)) u ≡ aliases_of p u
aliases_are p u =
    let entity = entity_in (bare_program p) (Of_unit u) in
    (λ i. flat_map (λ (s : Stands). flat_map (λ (t : Site). at_site p u t i) (sites entity s.step)) (steps_of u))
    ∙ flat_flat (alias_at_site p (bare_program p) u) (λ s. sites entity s.step) (steps_of u)
