-- Where no name is declared twice the units have different names.
use Rattle.std.proofs.Common.{◌≡◌, ℕ, zero, suc, ◌<◌, true, false, List, [], ◌∷◌, ◌++◌, map, flat_map, length, refl, sym, ap, ◌∙◌, subst, arith}
use Rattle.std.specs.Str.{bytes_eq}
use Rattle.std.proofs.lemmas.Bool.{false≢true}
use Rattle.std.proofs.lemmas.Slice.Eq.{bytes_eq-Decides}
use Rattle.fort_tree.specs.declared.fault.Code.{Code}
use Rattle.fort_tree.specs.declared.fault.Code.TheVariants.{E30, E31}
use Rattle.fort_tree.specs.declared.place.Place.{Place}
use Rattle.fort_tree.specs.declared.stmt.Named.{Named}
use Rattle.fort_tree.specs.declared.unit.File.{File}
use Rattle.fort_tree.specs.declared.unit.Unit as tree_unit
use Rattle.claw_meaning.specs.Syntax.{Text}
use Rattle.sound_programs.specs.DeclarationFaults.{declared_twice, declared_twice_in, two_units_or_modules, clashes, seconds}
use Rattle.sound_programs.specs.Faults.{found, faults_of_names}
use Rattle.sound_programs.specs.NameFaults.{undeclared_names}
use Rattle.sound_programs.specs.Placed.{bare_program}
use Rattle.sound_programs.specs.Placing.{placed, placed_unit}
use Rattle.sound_programs.specs.Places.{later_of, where_place}
use Rattle.sound_programs.specs.Scopes.{scopes, named_unit, named_module}
use Rattle.sound_programs.proofs.Empties.{left_empty, right_empty, map_empty, not_placed}
use Rattle.call_graph.specs.Referring.{unit_names, name_at, NamesDiffer}

apart : (n : Named) (rest : List Named) → flat_map (λ b. where_place (bytes_eq n.name b.name) (later_of n.at b.at)) rest ≡ [] → (j : ℕ) → j < length rest → bytes_eq n.name (name_at (map (λ m. m.name) rest) j) ≡ false
apart n [] e j h = absurd (omega (arith, h))
apart n (m ∷ rest) e zero h = not_placed (bytes_eq n.name m.name) (later_of n.at m.at) (left_empty (where_place (bytes_eq n.name m.name) (later_of n.at m.at)) (flat_map (λ b. where_place (bytes_eq n.name b.name) (later_of n.at b.at)) rest) e)
apart n (m ∷ rest) e (suc j) h = apart n rest (right_empty (where_place (bytes_eq n.name m.name) (later_of n.at m.at)) (flat_map (λ b. where_place (bytes_eq n.name b.name) (later_of n.at b.at)) rest) e) j (omega (arith, h))

as_long : (ns : List Named) → length (map (λ n. n.name) ns) ≡ length ns
as_long [] = refl
as_long (n ∷ ns) = omega (arith, as_long ns)

turned : (x y : Text) → bytes_eq x y ≡ true → bytes_eq y x ≡ true
turned x y e = (bytes_eq-Decides y x).1 (sym ((bytes_eq-Decides x y).0 e))

all_differ : (ns : List Named) → seconds ns ≡ [] → (i j : ℕ) → i < length ns → j < length ns → bytes_eq (name_at (map (λ n. n.name) ns) i) (name_at (map (λ n. n.name) ns) j) ≡ true → i ≡ j
all_differ [] e i j h k same = absurd (omega (arith, h))
all_differ (n ∷ ns) e zero zero h k same = refl
all_differ (n ∷ ns) e zero (suc j) h k same =
    absurd (false≢true (sym (apart n ns (left_empty (flat_map (λ b. where_place (bytes_eq n.name b.name) (later_of n.at b.at)) ns) [] (left_empty (clashes (n ∷ []) ns) (seconds ns) e)) j (omega (arith, k))) ∙ same))
all_differ (n ∷ ns) e (suc i) zero h k same =
    absurd (false≢true (sym (apart n ns (left_empty (flat_map (λ b. where_place (bytes_eq n.name b.name) (later_of n.at b.at)) ns) [] (left_empty (clashes (n ∷ []) ns) (seconds ns) e)) i (omega (arith, h))) ∙ turned (name_at (map (λ n. n.name) ns) i) n.name same))
all_differ (n ∷ ns) e (suc i) (suc j) h k same = ap suc (all_differ ns (right_empty (clashes (n ∷ []) ns) (seconds ns) e) i j (omega (arith, h)) (omega (arith, k)) same)

behind_others : (xs ys : List Named) → seconds (xs ++ ys) ≡ [] → seconds ys ≡ []
behind_others [] ys e = e
behind_others (x ∷ xs) ys e = behind_others xs ys (right_empty (clashes (x ∷ []) (xs ++ ys)) (seconds (xs ++ ys)) e)

names_are : (us : List tree_unit.Unit) → map (λ n. n.name) (map named_unit (map placed_unit us)) ≡ map (λ u. u.name) us
names_are [] = refl
names_are (u ∷ us) = ap (λ l. u.name ∷ l) (names_are us)

none_found : (code : Code) (places : List Place) → found code places ≡ [] → places ≡ []
none_found code places e = map_empty (λ (at : Place). record { code = code; at = at }) places e

pub names_differ : (f : File) → faults_of_names (placed f) ≡ [] → NamesDiffer (unit_names f)
names_differ f none =
    let p = placed f in
    let n31 : _ = right_empty (found E30 (undeclared_names p)) _ none in
    let twice : declared_twice p ≡ [] = none_found E31 (declared_twice p) (left_empty (found E31 (declared_twice p)) _ n31) in
    let headers : two_units_or_modules p ≡ [] = right_empty (flat_map (declared_twice_in p (bare_program p)) (scopes p)) (two_units_or_modules p) twice in
    let units : seconds (map named_unit p.units) ≡ [] = behind_others (map named_module p.modules) (map named_unit p.units) headers in
    subst NamesDiffer (names_are f.units)
    (record {
      differ = λ i j h k. all_differ (map named_unit p.units) units i j (omega (arith, h, as_long (map named_unit p.units))) (omega (arith, k, as_long (map named_unit p.units)));
    })
