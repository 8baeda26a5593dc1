-- The places where module variables are written, by what is written in a step.
use Rattle.std.proofs.Common.{◌≡◌, Bool, true, false, cond, List, [], ◌∷◌, ◌++◌, map, Option, Some, None, refl, sym, ap, ◌∙◌}
use Rattle.std.specs.Prelude.{flat_map, if◌then◌else◌}
use Rattle.std.specs.List.{filter}
use Rattle.std.specs.Option.{option_to_list}
use Rattle.std.proofs.lemmas.Grind.{flat_map-append}
use Rattle.std.proofs.lemmas.List.{map-append}
use Rattle.std.proofs.lemmas.List.Elements.{filter-append}
use Rattle.fort_tree.specs.declared.stmt.Named.{Named}
use Rattle.claw_meaning.specs.Scope.{Entity}
use Rattle.claw_meaning.specs.Syntax.{Text}
use Rattle.sound_programs.specs.ArgumentFaults.{names_written}
use Rattle.sound_programs.specs.NameFaults.{places_where}
use Rattle.sound_programs.specs.Placed.{Expr, Numeral, Boolean, Name, Reference, Signed, Binary, Paren, Unit}
use Rattle.sound_programs.specs.Places.{where_place}
use Rattle.sound_programs.specs.Walks.{Step, Assigns, Calls, Tests, Chooses, Repeats, Stands, Site, Actual, actuals, is_written, left_of, name_in, named, sites, steps_of}
use Rattle.argument_faults.specs.ModuleWrites.{is_of_module, named_among, named_on_left, named_by_actual, named_at, named_in_step, module_writes_in}

places_append : (test : Named → Bool) (xs ys : List Named) → places_where test (xs ++ ys) ≡ places_where test xs ++ places_where test ys
places_append test xs ys = ap (map (λ n. n.at)) (filter-append test xs ys) ∙ map-append (λ n. n.at) (filter test xs) (filter test ys)

module _ (entity : Text → Entity) (unit : Text) where
  abbrev of_module : Named → Bool
  of_module n = is_of_module entity unit n.name

  at_one : (n : Named) → where_place (of_module n) n.at ≡ places_where of_module (n ∷ [])
  at_one n = go (of_module n)
    where
      go : (b : Bool) → where_place b n.at ≡ map (λ m. m.at) (cond b (n ∷ []) [])
      go true = refl
      go false = refl

  in_one : (e : Expr) → named_among entity unit (name_in e) ≡ places_where of_module (flat_map name_in (e ∷ []))
  in_one (Numeral n kind at) = refl
  in_one (Boolean b at) = refl
  in_one (Name x at) = at_one (named x at)
  in_one (Reference x subs at) = at_one (named x at)
  in_one (Signed sign e at) = refl
  in_one (Binary op a b) = refl
  in_one (Paren e at) = refl

  on_left : (step : Step) → named_on_left entity unit (left_of step) ≡ places_where of_module (flat_map name_in (left_of step))
  on_left (Assigns left right) = in_one left
  on_left (Calls name args) = refl
  on_left (Tests e) = refl
  on_left (Chooses e ranges) = refl
  on_left (Repeats head mark) = refl

  in_option : (o : Option Expr) → named_on_left entity unit (option_to_list o) ≡ places_where of_module (flat_map name_in (option_to_list o))
  in_option None = refl
  in_option (Some e) = in_one e

  abbrev names_of : List Actual → List Named
  names_of list = flat_map (λ (a : Actual). flat_map name_in (option_to_list a.expr)) (filter is_written list)

  of_actuals : (list : List Actual) → flat_map (named_by_actual entity unit) list ≡ places_where of_module (names_of list)
  of_actuals [] = refl
  of_actuals (a ∷ list) = go (is_written a) (of_actuals list)
    where
      go : (b : Bool) → flat_map (named_by_actual entity unit) list ≡ places_where of_module (names_of list)
          → (if b then named_on_left entity unit (option_to_list a.expr) else []) ++ flat_map (named_by_actual entity unit) list
          ≡ places_where of_module (flat_map (λ (c : Actual). flat_map name_in (option_to_list c.expr)) (cond b (a ∷ filter is_written list) (filter is_written list)))
      go true h = (λ i. in_option a.expr i ++ h i) ∙ sym (places_append of_module (flat_map name_in (option_to_list a.expr)) (names_of list))
      go false h = h

  names_append : (list others : List Actual) → names_of (list ++ others) ≡ names_of list ++ names_of others
  names_append list others =
      ap (flat_map (λ (a : Actual). flat_map name_in (option_to_list a.expr))) (filter-append is_written list others)
      ∙ flat_map-append (λ (a : Actual). flat_map name_in (option_to_list a.expr)) (filter is_written list) (filter is_written others)

  at_sites : (ss : List Site) → flat_map (named_at entity unit) ss ≡ places_where of_module (names_of (flat_map (actuals entity) ss))
  at_sites [] = refl
  at_sites (s ∷ ss) =
      (λ i. of_actuals (actuals entity s) i ++ at_sites ss i)
      ∙ sym (places_append of_module (names_of (actuals entity s)) (names_of (flat_map (actuals entity) ss)))
      ∙ ap (places_where of_module) (sym (names_append (actuals entity s) (flat_map (actuals entity) ss)))

  in_step : (step : Step) → named_in_step entity unit step ≡ places_where of_module (names_written entity step)
  in_step step =
      (λ i. on_left step i ++ at_sites (sites entity step) i)
      ∙ sym (places_append of_module (flat_map name_in (left_of step)) (names_of (flat_map (actuals entity) (sites entity step))))

  in_steps : (ss : List Stands) → flat_map (named_in_step entity unit) (map (λ s. s.step) ss) ≡ places_where of_module (flat_map (λ s. names_written entity s.step) ss)
  in_steps [] = refl
  in_steps (s ∷ ss) =
      (λ i. in_step s.step i ++ in_steps ss i)
      ∙ sym (places_append of_module (names_written entity s.step) (flat_map (λ t. names_written entity t.step) ss))

-- in a unit
pub in_unit : (entity : Text → Entity) (u : Unit) → flat_map (named_in_step entity u.name) (map (λ s. s.step) (steps_of u)) ≡ module_writes_in entity u
in_unit entity u = in_steps entity u.name (steps_of u)
