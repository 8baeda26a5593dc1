-- A unit of which nothing is unbuilt is one of column scalars.
use Rattle.std.proofs.Common.{◌≡◌, ◌<◌, Bool, true, false, List, [], ◌∷◌, ◌++◌, map, length, refl, sym, ap, ◌∙◌, subst}
use Rattle.std.specs.List.{list_all, flat_map}
use Rattle.std.proofs.lemmas.List.Folds.{list_all-map}
use Rattle.fort_tree.specs.declared.place.Place.{Place}
use Rattle.fort_tree.specs.declared.stmt.Directive.{Directive}
use Rattle.fort_tree.specs.declared.unit.Unit as tree
use Rattle.claw_meaning.specs.Plain.{plain_unit, plain_decl, plain_directive, plain_stmt}
use Rattle.column_scalars.specs.Widened.{HasDimension, Dimensioned}
use Rattle.scalar_units.specs.Units.{is_header, is_declaration, is_define, is_parallelize, is_assignment}
use Rattle.scalar_units.specs.Unbuilt.{unless, of_decls, of_body, of_marks, of_unit, place_of}
use Rattle.scalar_units.specs.Scalars.{IsScalarsUnit}
use Rattle.scalar_units.proofs.Scalars.{Passes, scalars_of, passes_are_scalars, passes_are_source, one_name}

-- ---- lists of places without an item

no_item : {A : Type 0} (x : A) (xs : List A) → x ∷ xs ≡ [] → ⊥
no_item x xs e = cc

pub parts_empty : {A : Type 0} (xs ys : List A) → xs ++ ys ≡ [] → (xs ≡ []) × (ys ≡ [])
parts_empty [] ys e = (refl, e)
parts_empty (x ∷ xs) ys e = absurd (no_item x (xs ++ ys) e)

pub map_empty : {A B : Type 0} (f : A → B) (xs : List A) → map f xs ≡ [] → xs ≡ []
map_empty f [] e = refl
map_empty f (x ∷ xs) e = absurd (no_item (f x) (map f xs) e)

pub holds : (b : Bool) (at : Place) → unless b at ≡ [] → b ≡ true
holds true at e = refl
holds false at e = absurd (no_item at [] e)

all_hold : {A : Type 0} (p : A → Bool) (at : A → Place) (xs : List A) → flat_map (λ x. unless (p x) (at x)) xs ≡ [] → list_all p xs ≡ true
all_hold p at [] e = refl
all_hold p at (x ∷ xs) e =
    let parts = parts_empty (unless (p x) (at x)) (flat_map (λ y. unless (p y) (at y)) xs) e in
    rw (holds (p x) (at x) parts.0, all_hold p at xs parts.1) refl

-- ---- a unit

record Two (u : tree.Unit) : Type 0 where
  d : Directive
  p : Directive
  are : u.marks ≡ d ∷ p ∷ []
  define : is_define (plain_unit u) (plain_directive d) ≡ true
  parallelize : is_parallelize (plain_unit u) (plain_directive p) ≡ true

two_marks : (u : tree.Unit) (ms : List Directive) → u.marks ≡ ms → of_marks u ms ≡ [] → Two u
two_marks u [] is e = absurd (no_item u.at [] e)
two_marks u (d ∷ []) is e = absurd (no_item d.at [] e)
two_marks u (d ∷ p ∷ []) is e =
    let parts = parts_empty (unless (is_define (plain_unit u) (plain_directive d)) d.at) (unless (is_parallelize (plain_unit u) (plain_directive p)) p.at) e in
    record { d = d; p = p; are = is; define = holds _ d.at parts.0; parallelize = holds _ p.at parts.1 }
two_marks u (d ∷ p ∷ q ∷ more) is e = absurd (no_item q.at [] e)

pub built_unit : (u : tree.Unit) → of_unit u ≡ [] → IsScalarsUnit u × HasDimension u
built_unit u e =
    let v = plain_unit u in
    let head = parts_empty (unless (is_header v) u.at) (map (λ line. line.at) u.uses ++ (of_decls u u.decls ++ (of_marks u u.marks ++ of_body u u.body))) e in
    let uses = parts_empty (map (λ line. line.at) u.uses) (of_decls u u.decls ++ (of_marks u u.marks ++ of_body u u.body)) head.1 in
    let decls = parts_empty (of_decls u u.decls) (of_marks u u.marks ++ of_body u u.body) uses.1 in
    let marks = parts_empty (of_marks u u.marks) (of_body u u.body) decls.1 in
    let two = two_marks u u.marks refl marks.0 in
    let d = plain_directive two.d in
    let p = plain_directive two.p in
    let passes : Passes v d p (map plain_stmt u.body) = record {
      header = holds (is_header v) u.at head.0;
      uses = ap (map _) (map_empty (λ line. line.at) u.uses uses.0);
      decls = list_all-map (is_declaration v) plain_decl u.decls ∙ all_hold (λ x. is_declaration v (plain_decl x)) (λ x. x.at) u.decls decls.0;
      marks = ap (map plain_directive) two.are;
      define = two.define;
      parallelize = two.parallelize;
      is = refl;
      all = list_all-map (is_assignment v) plain_stmt u.body ∙ all_hold (λ x. is_assignment v (plain_stmt x)) place_of u.body marks.1;
    } in (
      record { scalars = scalars_of v d p (map plain_stmt u.body); is = passes_are_scalars v d p (map plain_stmt u.body) passes; plain = passes_are_source v d p (map plain_stmt u.body) passes },
      dimension u two,
    )
  where
    dimension : (u : tree.Unit) → Two u → HasDimension u
    dimension u two = has two.d (two.p ∷ []) u.marks (sym two.are) (one_name (plain_unit u) (plain_directive two.d) two.define)
      where
        has : (d : Directive) (more ms : List Directive) → d ∷ more ≡ ms → 0 < length d.names → Dimensioned ms
        has d more ms is some = subst Dimensioned is some
