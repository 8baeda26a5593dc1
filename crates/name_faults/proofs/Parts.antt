-- The parts of lists of faults.
use Rattle.std.proofs.Common.{◌≡◌, Option, Bool, true, false, not, List, [], ◌∷◌, ◌++◌, map, refl, sym, ap, ◌∙◌}
use Rattle.std.specs.Prelude.{flat_map, cond}
use Rattle.std.specs.List.{filter}
use Rattle.std.specs.Option.{option_to_list}
use Rattle.fort_tree.specs.declared.fault.Code.{Code}
use Rattle.fort_tree.specs.declared.fault.Code.TheVariants.{E30}
use Rattle.fort_tree.specs.declared.unit.Decl as tree_decl
use Rattle.fort_tree.specs.declared.unit.Unit as tree_unit
use Rattle.fort_tree.specs.declared.place.Place.{Place}
use Rattle.fort_tree.specs.declared.stmt.Named.{Named}
use Rattle.claw_meaning.specs.Scope.{Entity}
use Rattle.claw_meaning.specs.Syntax.{Text}
use Rattle.claw_meaning.specs.Units.{is_listed}
use Rattle.sound_programs.specs.Faults.{Found, found}
use Rattle.sound_programs.specs.NameFaults.{in_each_step, is_no_value, places_where, undeclared_dummies, undeclared_in_bounds, undeclared_in_step, undeclared_private}
use Rattle.sound_programs.specs.Placed.{Unit}
use Rattle.sound_programs.specs.Placing.{placed_decl, placed_unit}
use Rattle.sound_programs.specs.Walks.{Stands, Step, bare_name, left_of, loop_variable, name_in, parts_read, steps_of}
use Rattle.fort_names.specs.Leasts.{noted}
use Rattle.fort_names.specs.NameLists.{has}
use Rattle.fort_names.proofs.FirstOf.{noted_places}
use Rattle.name_faults.specs.Undeclared.{undeclared_in_unit, values_in}

-- places of names one behind the other
pub where_both : (test : Named → Bool) (xs ys : List Named) → places_where test (xs ++ ys) ≡ places_where test xs ++ places_where test ys
where_both test [] ys = refl
where_both test (x ∷ xs) ys = go (test x) (where_both test xs ys)
  where
    go : (b : Bool) → places_where test (xs ++ ys) ≡ places_where test xs ++ places_where test ys
        → map (λ n. n.at) (cond b (x ∷ filter test (xs ++ ys)) (filter test (xs ++ ys))) ≡ map (λ n. n.at) (cond b (x ∷ filter test xs) (filter test xs)) ++ places_where test ys
    go true h = ap (λ l. x.at ∷ l) h
    go false h = h

pub values_are : (entity : Text → Entity) (s : Step) → undeclared_in_step entity s ≡ places_where (is_no_value entity) (values_in s)
values_are entity s =
    sym
    (where_both (is_no_value entity) (flat_map bare_name (parts_read s)) (flat_map name_in (left_of s) ++ loop_variable s)
    ∙ ap (λ l. places_where (is_no_value entity) (flat_map bare_name (parts_read s)) ++ l) (where_both (is_no_value entity) (flat_map name_in (left_of s)) (loop_variable s)))

each : (faults : Step → List Place) (list : List Stands) → flat_map (λ s. faults s.step) list ≡ flat_map faults (map (λ s. s.step) list)
each faults [] = refl
each faults (s ∷ list) = ap (λ l. faults s.step ++ l) (each faults list)

-- the faults in each step of a unit
pub each_step : (faults : Step → List Place) (u : Unit) → in_each_step faults u ≡ flat_map faults (map (λ s. s.step) (steps_of u))
each_step faults u = each faults (steps_of u)

-- two parts, noted one after the other
pub then_noted : (code : Code) (xs ys : List Place) (old mid new : Option Found) → mid ≡ noted (found code xs) old → new ≡ noted (found code ys) mid → new ≡ noted (found code (xs ++ ys)) old
then_noted code xs ys old mid new e h = h ∙ ap (noted (found code ys)) e ∙ sym (noted_places code xs ys old)

-- the parts of a unit
pub unit_noted : (entity : Text → Entity) (u : Unit) (list : List Step) → list ≡ map (λ s. s.step) (steps_of u) → (old a b c new : Option Found)
    → a ≡ noted (found E30 (flat_map (undeclared_in_step entity) list)) old → b ≡ noted (found E30 (undeclared_in_bounds entity u.decls)) a
    → c ≡ noted (found E30 (undeclared_dummies u)) b → new ≡ noted (found E30 (flat_map (undeclared_private entity) list)) c
    → new ≡ noted (found E30 (undeclared_in_unit entity u)) old
unit_noted entity u list is old a b c new first second third fourth =
    let privates : flat_map (undeclared_private entity) list ≡ in_each_step (undeclared_private entity) u = ap (flat_map (undeclared_private entity)) is ∙ sym (each_step (undeclared_private entity) u) in
    let steps : flat_map (undeclared_in_step entity) list ≡ in_each_step (undeclared_in_step entity) u = ap (flat_map (undeclared_in_step entity)) is ∙ sym (each_step (undeclared_in_step entity) u) in
    then_noted E30 (in_each_step (undeclared_in_step entity) u) (undeclared_in_bounds entity u.decls ++ (undeclared_dummies u ++ in_each_step (undeclared_private entity) u)) old a new
    (first ∙ ap (λ l. noted (found E30 l) old) steps)
    (then_noted E30 (undeclared_in_bounds entity u.decls) (undeclared_dummies u ++ in_each_step (undeclared_private entity) u) a b new second
    (then_noted E30 (undeclared_dummies u) (in_each_step (undeclared_private entity) u) b c new third (fourth ∙ ap (λ l. noted (found E30 l) c) privates)))

names_of : (ds : List tree_decl.Decl) → map (λ d. d.name) (map placed_decl ds) ≡ map (λ d. d.name) ds
names_of [] = refl
names_of (d ∷ ds) = ap (λ l. d.name ∷ l) (names_of ds)

-- dummies and a result
pub dummies_noted : (declared : List Text) (u : tree_unit.Unit) → ((x : Text) → has declared x ≡ is_listed (map (λ d. d.name) u.decls) x) → (old mid new : Option Found)
    → mid ≡ noted (found E30 (places_where (λ n. not (has declared n.name)) u.dummies)) old
    → new ≡ noted (found E30 (places_where (λ n. not (has declared n.name)) (option_to_list u.result))) mid
    → new ≡ noted (found E30 (undeclared_dummies (placed_unit u))) old
dummies_noted declared u same old mid new e h =
    then_noted E30 (places_where (λ n. not (has declared n.name)) u.dummies) (places_where (λ n. not (has declared n.name)) (option_to_list u.result)) old mid new e h
    ∙ ap (λ l. noted (found E30 l) old) (sym (where_both (λ n. not (has declared n.name)) u.dummies (option_to_list u.result)))
    ∙ (λ i. noted (found E30 (places_where (λ n. not (same n.name i)) (u.dummies ++ option_to_list u.result))) old)
    ∙ (λ i. noted (found E30 (places_where (λ n. not (is_listed (sym (names_of u.decls) i) n.name)) (u.dummies ++ option_to_list u.result))) old)
