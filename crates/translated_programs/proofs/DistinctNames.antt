-- The names of the units and modules of a sound program differ, and so do those that a unit or a module declares.
use Rattle.std.proofs.Common.{◌≡◌, ℕ, ◌+◌, List, [], ◌∷◌, ◌++◌, map, Bool, true, false, cond, Some, refl, sym, ap, ◌∙◌, subst, Contains, ◌⊎◌, inl, inr}
use Rattle.std.specs.Prelude.{flat_map, ⊤}
use Rattle.std.specs.List.{find, enumerate_from, IsDistinct}
use Rattle.std.specs.Str.{bytes_eq}
use Rattle.std.proofs.lemmas.Bool.{false≢true}
use Rattle.fort_tree.specs.declared.choice.Mode.{Mode}
use Rattle.fort_tree.specs.declared.stmt.Named.{Named}
use Rattle.fort_tree.specs.declared.unit.Decl as tree_decl
use Rattle.fort_tree.specs.declared.unit.Unit as tree_unit
use Rattle.fort_tree.specs.declared.unit.Module as tree_module
use Rattle.fort_tree.specs.declared.unit.File.{File}
use Rattle.claw_meaning.specs.Syntax.{Text}
use Rattle.claw_meaning.specs.Plain.{plain_decl, plain_unit, plain_module}
use Rattle.column_scalars.specs.Scalars.{Distinct}
use Rattle.column_scalars.specs.Standing.{DeclareOnce}
use Rattle.column_scalars.proofs.MemberCases.{contains_none, contains_cases, same_itself}
use Rattle.sound_programs.specs.DeclarationFaults.{declared_twice, declared_twice_in, two_units_or_modules}
use Rattle.sound_programs.specs.Laws.{Each, DeclaresOnce}
use Rattle.sound_programs.specs.Placed.{Module, bare_program}
use Rattle.sound_programs.specs.Placing.{placed, placed_decl, placed_unit, placed_module}
use Rattle.sound_programs.specs.Scopes.{Of_unit, Of_module, scopes, declared, named_decl, named_unit, named_module, units_within}
use Rattle.sound_programs.specs.Sound.{Sound}
use Rattle.sound_programs.proofs.SoundLaws.{empty_if_nowhere, distinct}
use Rattle.sound_programs.proofs.Empties.{right_empty}
use Rattle.sound_programs.proofs.WithinLists.{each_by, each_two, each_left, each_right, each_before_map}

-- ---- Lists of names

pub distinct_left : (xs ys : List Text) → IsDistinct bytes_eq (xs ++ ys) → IsDistinct bytes_eq xs
unfolding IsDistinct
distinct_left [] ys h = tt
distinct_left (x ∷ xs) ys h = (each_left (λ y. bytes_eq x y ≡ false) xs ys h.0, distinct_left xs ys h.1)

distinct_right : (xs ys : List Text) → IsDistinct bytes_eq (xs ++ ys) → IsDistinct bytes_eq ys
unfolding IsDistinct
distinct_right [] ys h = h
distinct_right (x ∷ xs) ys h = distinct_right xs ys h.1

distinct_apart : (xs ys : List Text) → IsDistinct bytes_eq (xs ++ ys) → Each xs (λ x. Each ys (λ y. bytes_eq x y ≡ false))
unfolding IsDistinct
distinct_apart [] ys h = tt
distinct_apart (x ∷ xs) ys h = (each_right (λ y. bytes_eq x y ≡ false) xs ys h.0, distinct_apart xs ys h.1)

none_contains : (x : Text) (xs : List Text) → Each xs (λ y. bytes_eq x y ≡ false) → Contains xs x → ⊥
none_contains x [] h t = contains_none x t
none_contains x (y ∷ ys) h t = go (contains_cases y ys x t) h.0 (none_contains x ys h.1)
  where
    go : (y ≡ x) ⊎ Contains ys x → bytes_eq x y ≡ false → (Contains ys x → ⊥) → ⊥
    go (inl e) off next = false≢true (sym off ∙ (ap (bytes_eq x) e ∙ same_itself x))
    go (inr r) off next = next r

none_among : (x : Text) (xs : List Text) → Each xs (λ y. bytes_eq y x ≡ false) → Contains xs x → ⊥
none_among x [] h t = contains_none x t
none_among x (y ∷ ys) h t = go (contains_cases y ys x t) h.0 (none_among x ys h.1)
  where
    go : (y ≡ x) ⊎ Contains ys x → bytes_eq y x ≡ false → (Contains ys x → ⊥) → ⊥
    go (inl e) off next = false≢true (sym off ∙ (ap (λ z. bytes_eq z x) e ∙ same_itself x))
    go (inr r) off next = next r

distinct_names : (xs : List Text) → IsDistinct bytes_eq xs → Distinct xs
unfolding IsDistinct
distinct_names [] h = tt
distinct_names (x ∷ xs) h = (none_contains x xs h.0, distinct_names xs h.1)

-- ---- Units and modules

abbrev unit_names : List tree_unit.Unit → List Text
unit_names us = map (λ u. u.name) us

abbrev module_names : List tree_module.Module → List Text
module_names ms = map (λ m. m.name) ms

names_of_units : (us : List tree_unit.Unit) → map (λ n. n.name) (map named_unit (map placed_unit us)) ≡ unit_names us
names_of_units [] = refl
names_of_units (u ∷ us) = ap (λ (l : List Text). u.name ∷ l) (names_of_units us)

names_of_both : (ms : List tree_module.Module) (us : List tree_unit.Unit) →
    map (λ n. n.name) (map named_module (map placed_module ms) ++ map named_unit (map placed_unit us)) ≡ module_names ms ++ unit_names us
names_of_both [] us = names_of_units us
names_of_both (m ∷ ms) us = ap (λ (l : List Text). m.name ∷ l) (names_of_both ms us)

all_distinct : (mode : Mode) (file : File) → Sound mode file → IsDistinct bytes_eq (module_names file.modules ++ unit_names file.units)
all_distinct mode file sound =
    let p = placed file in
    let none : declared_twice p ≡ [] = empty_if_nowhere (declared_twice p) sound.none_is_declared_twice in
    subst (IsDistinct bytes_eq) (names_of_both file.modules file.units)
    (distinct (map named_module p.modules ++ map named_unit p.units)
    (right_empty (flat_map (declared_twice_in p (bare_program p)) (scopes p)) (two_units_or_modules p) none))

pub units_distinct : (mode : Mode) (file : File) → Sound mode file → IsDistinct bytes_eq (unit_names file.units)
units_distinct mode file sound = distinct_right (module_names file.modules) (unit_names file.units) (all_distinct mode file sound)

plain_module_names : (ms : List tree_module.Module) → module_names ms ≡ map (λ m. m.name) (map plain_module ms)
plain_module_names [] = refl
plain_module_names (m ∷ ms) = ap (λ (l : List Text). m.name ∷ l) (plain_module_names ms)

-- the names of a unit and of the modules differ
abbrev pub NamesDiffer : File → tree_unit.Unit → Type 0
NamesDiffer file u = Distinct (u.name ∷ map (λ m. m.name) (map plain_module file.modules))

turned : (xs ys : List Text) → Each xs (λ x. Each ys (λ y. bytes_eq x y ≡ false)) → Each ys (λ y. Each xs (λ x. bytes_eq x y ≡ false))
turned [] ys h = all_tt ys
  where
    all_tt : (ys : List Text) → Each ys (λ y. ⊤)
    all_tt [] = tt
    all_tt (y ∷ ys) = (tt, all_tt ys)
turned (x ∷ xs) ys h = each_two ys (λ y a b. (a, b)) h.0 (turned xs ys h.1)

pub names_differ : (mode : Mode) (file : File) → Sound mode file → Each file.units (NamesDiffer file)
names_differ mode file sound =
    let ms = module_names file.modules in
    let all = all_distinct mode file sound in
    let modules : Distinct ms = distinct_names ms (distinct_left ms (unit_names file.units) all) in
    each_by file.units (λ u off. subst (λ (l : List Text). Distinct (u.name ∷ l)) (plain_module_names file.modules) (none_among u.name ms off, modules))
    (each_before_map (λ (u : tree_unit.Unit). u.name) (λ y. Each ms (λ x. bytes_eq x y ≡ false)) file.units (turned ms (unit_names file.units) (distinct_apart ms (unit_names file.units) all)))

-- a unit is found by its name
both_cond : {A : Type 0} (b : Bool) (x y : A) → b ≡ false → cond b x y ≡ y
both_cond true x y e = absurd (false≢true (sym e))
both_cond false x y e = refl

first_cond : {A : Type 0} (b : Bool) (x y : A) → b ≡ true → cond b x y ≡ x
first_cond true x y e = refl
first_cond false x y e = absurd (false≢true e)

pub found_by_name : (us : List tree_unit.Unit) → IsDistinct bytes_eq (unit_names us) → Each us (λ v. find (λ u. bytes_eq u.name v.name) (map plain_unit us) ≡ Some (plain_unit v))
unfolding IsDistinct
found_by_name [] h = tt
found_by_name (w ∷ us) h = (
  first_cond (bytes_eq w.name w.name) (Some (plain_unit w)) (find (λ u. bytes_eq u.name w.name) (map plain_unit us)) (same_itself w.name),
  each_two us (λ v off is. both_cond (bytes_eq w.name v.name) (Some (plain_unit w)) (find (λ u. bytes_eq u.name v.name) (map plain_unit us)) off ∙ is)
      (each_before_map (λ (u : tree_unit.Unit). u.name) (λ y. bytes_eq w.name y ≡ false) us h.0) (found_by_name us h.1),
)

-- ---- Declarations

names_of_decls : (ds : List tree_decl.Decl) → map (λ n. n.name) (map named_decl (map placed_decl ds)) ≡ map (λ d. d.name) (map plain_decl ds)
names_of_decls [] = refl
names_of_decls (d ∷ ds) = ap (λ (l : List Text). d.name ∷ l) (names_of_decls ds)

pub units_declare_once : (file : File) → DeclaresOnce file → Each file.units (λ u. IsDistinct bytes_eq (map (λ d. d.name) (plain_unit u).decls))
units_declare_once file once =
    let p = placed file in
    each_by file.units (λ u h. subst (IsDistinct bytes_eq) (names_of_decls u.decls) h)
    (each_before_map placed_unit _ file.units
    (each_before_map Of_unit (λ s. IsDistinct bytes_eq (map (λ n. n.name) (declared p s))) p.units
    (each_right (λ s. IsDistinct bytes_eq (map (λ n. n.name) (declared p s))) (map (λ m. Of_module m.0 m.1) (enumerate_from 0 p.modules)) (map Of_unit p.units) once)))

names_of_module : (ds : List tree_decl.Decl) (others : List Named) → map (λ n. n.name) (map named_decl (map placed_decl ds) ++ others) ≡ map (λ d. d.name) (map plain_decl ds) ++ map (λ n. n.name) others
names_of_module [] others = refl
names_of_module (d ∷ ds) others = ap (λ (l : List Text). d.name ∷ l) (names_of_module ds others)

pub modules_declare_once : (file : File) → DeclaresOnce file → DeclareOnce (map plain_module file.modules)
modules_declare_once file once =
    let p = placed file in
    go file 0 file.modules
    (each_before_map (λ (m : ℕ × Module). Of_module m.0 m.1) (λ s. IsDistinct bytes_eq (map (λ n. n.name) (declared p s))) (enumerate_from 0 p.modules)
    (each_left (λ s. IsDistinct bytes_eq (map (λ n. n.name) (declared p s))) (map (λ m. Of_module m.0 m.1) (enumerate_from 0 p.modules)) (map Of_unit p.units) once))
  where
    go : (file : File) (n : ℕ) (ms : List tree_module.Module) → Each (enumerate_from n (map placed_module ms)) (λ m. IsDistinct bytes_eq (map (λ n. n.name) (declared (placed file) (Of_module m.0 m.1)))) → DeclareOnce (map plain_module ms)
    go file n [] h = tt
    go file n (m ∷ ms) h = (
      distinct_names (map (λ d. d.name) (map plain_decl m.decls))
          (distinct_left (map (λ d. d.name) (map plain_decl m.decls)) (map (λ n. n.name) (map named_unit (units_within (placed file) n)))
          (subst (IsDistinct bytes_eq) (names_of_module m.decls (map named_unit (units_within (placed file) n))) h.0)),
      go file (n + 1) ms h.1,
    )
