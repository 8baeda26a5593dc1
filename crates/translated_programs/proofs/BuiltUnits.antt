-- What the units are of a program of which nothing is unbuilt.
use Rattle.std.proofs.Common.{◌≡◌, ℕ, List, [], ◌∷◌, ◌++◌, map, Bool, true, false, cond, ◌&&◌, ◌||◌, not, Option, Some, None, refl, sym, ap, ◌∙◌, subst}
use Rattle.std.specs.Prelude.{is_none}
use Rattle.std.specs.List.{filter, find, list_any, list_all}
use Rattle.std.specs.Str.{bytes_eq}
use Rattle.std.proofs.lemmas.Bool.{false≢true, and_parts}
use Rattle.fort_tree.specs.declared.place.Place.{Place}
use Rattle.fort_tree.specs.declared.stmt.Directive.{Directive}
use Rattle.fort_tree.specs.declared.unit.File.{File}
use Rattle.fort_tree.specs.declared.unit.Unit as tree
use Rattle.claw_meaning.specs.Syntax as plain
use Rattle.claw_meaning.specs.Syntax.{Text, Name}
use Rattle.claw_meaning.specs.Scope.{same_host, unit_within}
use Rattle.claw_meaning.specs.Plain.{plain_unit, plain_directive, plain_option, plain_file}
use Rattle.claw_meaning.specs.Units.{is_column_unit}
use Rattle.column_scalars.specs.Scalars.{Scalars, IsScalars, source_unit, define, parallelize}
use Rattle.column_scalars.specs.Widened.{HasDimension}
use Rattle.column_scalars.proofs.MemberCases.{same_itself, names_apart}
use Rattle.scalar_units.specs.Unbuilt.{unless, of_unit}
use Rattle.sound_programs.specs.Laws.{Each}
use Rattle.sound_programs.specs.Placing.{placed_stmts}
use Rattle.sound_programs.proofs.Empties.{no_head, left_empty, right_empty, map_empty, each_empty}
use Rattle.sound_programs.proofs.WithinLists.{each_by}
use Rattle.translated_programs.specs.Directed.{directed_in}
use Rattle.translated_programs.specs.NotBuilt.{is_column, is_external, names_of, names_column_unit, is_global, is_new_bound, are_new, of_names, of_column_unit, of_plain_unit, of_any_unit, unbuilt}
use Rattle.translated_programs.specs.Translated.{HasItsDimension}
use Rattle.translated_programs.specs.UnitLaws.{BuiltLaw}

same_head : {A : Type 0} (x y : A) (xs ys : List A) → x ∷ xs ≡ y ∷ ys → x ≡ y
same_head x y xs ys e = cc

not_true : (b : Bool) → not b ≡ true → b ≡ false
not_true true e = absurd (false≢true e)
not_true false e = refl

holds : (b : Bool) (at : Place) → unless b at ≡ [] → b ≡ true
holds true at e = refl
holds false at e = absurd (no_head at [] e)

or_false : (a b : Bool) → (a || b) ≡ false → (a ≡ false) × (b ≡ false)
or_false true b e = absurd (false≢true (sym e))
or_false false b e = (refl, e)

-- ---- Names

-- a column unit's name is one of theirs
added : (p : Text → Bool) (b : Bool) (v : tree.Unit) (us : List tree.Unit) → list_any p (names_of us) ≡ true → list_any p (names_of (cond b (v ∷ us) us)) ≡ true
added p false v us e = e
added p true v us e = go (p v.name)
  where
    go : (c : Bool) → (c || list_any p (names_of us)) ≡ true
    go true = refl
    go false = e

pub all_named : (us : List tree.Unit) → Each us (λ v. is_column_unit (plain_unit v) ≡ true → list_any (bytes_eq v.name) (names_of (filter is_column us)) ≡ true)
unfolding is_column
all_named [] = tt
all_named (v ∷ us) = (
  λ is. subst (λ b. list_any (bytes_eq v.name) (names_of (cond b (v ∷ filter is_column us) (filter is_column us))) ≡ true) (sym is)
      (ap (λ c. c || list_any (bytes_eq v.name) (names_of (filter is_column us))) (same_itself v.name)),
  each_by us (λ w h is. added (bytes_eq w.name) (is_column v) v (filter is_column us) (h is)) (all_named us),
)

other_way : (x y : Text) → bytes_eq x y ≡ false → bytes_eq y x ≡ false
other_way x y e = names_apart y x (λ same. false≢true (sym e ∙ (ap (bytes_eq x) same ∙ same_itself x)))

-- where no external unit has the name, none is found
one_less : (h : Option ℕ) (v : tree.Unit) (x : Text) (us : List tree.Unit) (u : plain.Unit) (found : Option plain.Unit) → (list_any (bytes_eq x) (names_of us) ≡ false → found ≡ None) →
    list_any (bytes_eq x) (names_of (cond (is_none h) (v ∷ us) us)) ≡ false → cond (same_host h None && bytes_eq v.name x) (Some u) found ≡ None
one_less None v x us u found next e =
    let parts = or_false (bytes_eq x v.name) (list_any (bytes_eq x) (names_of us)) e in
    ap (λ b. cond b (Some u) found) (other_way x v.name parts.0) ∙ next parts.1
one_less (Some n) v x us u found next e = next e

none_found : (us : List tree.Unit) (x : Text) → list_any (bytes_eq x) (names_of (filter is_external us)) ≡ false → find (λ u. same_host u.host None && bytes_eq u.name x) (map plain_unit us) ≡ None
none_found [] x e = refl
none_found (v ∷ us) x e = one_less v.host v x (filter is_external us) (plain_unit v) (find (λ u. same_host u.host None && bytes_eq u.name x) (map plain_unit us)) (none_found us x) e

no_later : (x : Text) (xs ys : List Text) → list_any (bytes_eq x) (xs ++ ys) ≡ false → list_any (bytes_eq x) ys ≡ false
no_later x [] ys e = e
no_later x (y ∷ xs) ys e = no_later x xs ys (or_false (bytes_eq x y) (list_any (bytes_eq x) (xs ++ ys)) e).1

pub not_within : (file : File) (x : Text) → is_global file x ≡ false → unit_within (plain_file file) None x ≡ None
not_within file x e = none_found file.units x (no_later x (map (λ m. m.name) file.modules) (names_of (filter is_external file.units)) e)

-- ---- Units

new_upper : (is_taken : Text → Bool) (s : Scalars) (ms : List Directive) → map plain_directive ms ≡ define s.id s.lower s.upper ∷ parallelize s.listed ∷ [] → of_names is_taken ms ≡ [] → is_taken s.upper ≡ false
new_upper is_taken s [] is e = absurd (no_head _ _ (sym is))
new_upper is_taken s (d ∷ ms) is e =
    let first : plain_directive d ≡ define s.id s.lower s.upper = same_head (plain_directive d) (define s.id s.lower s.upper) (map plain_directive ms) (parallelize s.listed ∷ []) is in
    let new : is_new_bound is_taken (plain_option d.upper) ≡ true = (and_parts (list_all (λ x. not (is_taken x)) d.names) (is_new_bound is_taken (plain_option d.upper)) (holds (are_new is_taken d) d.at e)).1 in
    let upper : plain_option d.upper ≡ Some (Name s.upper) = ap (λ (m : plain.Directive). m.upper) first in
    not_true (is_taken s.upper) (subst (λ b. is_new_bound is_taken b ≡ true) upper new)

-- a column unit is one of column scalars, and no external unit has the name of its upper bound
pub record ColumnUnit (file : File) (u : tree.Unit) : Type 0 where
  pub scalars : Scalars
  pub is : IsScalars scalars
  pub plain : plain_unit u ≡ source_unit scalars
  pub dimension : HasDimension u
  pub upper : unit_within (plain_file file) None scalars.upper ≡ None

-- another unit has no directives, and no CALL of a column unit
pub record PlainUnit (file : File) (u : tree.Unit) : Type 0 where
  pub marks : u.marks ≡ []
  pub undirected : directed_in (names_column_unit file) (placed_stmts u.body) ≡ []

abbrev pub OfAny : File → tree.Unit → Type 0
OfAny file u = of_any_unit (names_column_unit file) (is_global file) u ≡ []

column_part : (file : File) (u : tree.Unit) → is_column_unit (plain_unit u) ≡ true → OfAny file u → of_column_unit (is_global file) u ≡ []
unfolding of_any_unit is_column
column_part file u is e = subst (λ b. cond b (of_column_unit (is_global file) u) (of_plain_unit (names_column_unit file) u) ≡ []) is e

plain_part : (file : File) (u : tree.Unit) → is_column_unit (plain_unit u) ≡ false → OfAny file u → of_plain_unit (names_column_unit file) u ≡ []
unfolding of_any_unit is_column
plain_part file u is e = subst (λ b. cond b (of_column_unit (is_global file) u) (of_plain_unit (names_column_unit file) u) ≡ []) is e

pub column_unit : BuiltLaw → (file : File) (u : tree.Unit) → OfAny file u → is_column_unit (plain_unit u) ≡ true → ColumnUnit file u
column_unit law file u e is =
    let all = column_part file u is e in
    let built = law u (left_empty (of_unit u) _ all) in
    let s = built.0.scalars in record {
      scalars = s;
      is = built.0.is;
      plain = built.0.plain;
      dimension = built.1;
      upper = not_within file s.upper (new_upper (is_global file) s u.marks (ap (λ (v : plain.Unit). v.marks) built.0.plain) (right_empty (of_unit u) (of_names (is_global file) u.marks) all));
    }

pub plain_of : (file : File) (u : tree.Unit) → OfAny file u → is_column_unit (plain_unit u) ≡ false → PlainUnit file u
plain_of file u e is =
    let all = plain_part file u is e in record {
      marks = map_empty (λ (d : Directive). d.at) u.marks (left_empty (map (λ d. d.at) u.marks) _ all);
      undirected = right_empty (map (λ d. d.at) u.marks) (directed_in (names_column_unit file) (placed_stmts u.body)) all;
    }

pub all_built : (file : File) → unbuilt file ≡ [] → Each file.units (OfAny file)
all_built file e = each_empty (of_any_unit (names_column_unit file) (is_global file)) file.units e

pub dimensions : BuiltLaw → (file : File) → unbuilt file ≡ [] → Each file.units HasItsDimension
dimensions law file e = each_by file.units (λ u of is. (column_unit law file u of is).dimension) (all_built file e)
