-- References that are added one after the other are those of the definition.
use Rattle.std.proofs.Common.{◌≡◌, ℕ, zero, suc, ◌+◌, ◌<◌, Bool, true, false, cond, List, [], ◌∷◌, ◌++◌, map, flat_map, length, take, get_or, filter, slice_get, Option, Some, None, refl, sym, ap, ◌∙◌, subst, arith, ◌⊎◌, inl, inr, append_assoc, append-nil, Result, Ok, Err, OnOk}
use Rattle.std.proofs.lemmas.Bool.{false≢true}
use Rattle.std.proofs.lemmas.Grind.{take_at_read}
use Rattle.fort_tree.specs.declared.place.Place.{Place}
use Rattle.fort_tree.specs.declared.stmt.Named.{Named}
use Rattle.fort_tree.specs.declared.unit.File.{File}
use Rattle.fort_tree.specs.declared.unit.Unit as tree_unit
use Rattle.claw_meaning.specs.Plain.{plain_unit}
use Rattle.claw_meaning.specs.Syntax as plain
use Rattle.claw_meaning.specs.Syntax.{Text}
use Rattle.claw_meaning.specs.Scope.{Entity}
use Rattle.numbered_graph.specs.Graphs.{stands, IsGraph}
use Rattle.numbered_graph.proofs.Times.{append_cases, stands_cases}
use Rattle.sound_programs.specs.CallFaults.{Referral, referral}
use Rattle.sound_programs.specs.Placed.{Unit, bare_program}
use Rattle.sound_programs.specs.Placing.{placed, placed_unit}
use Rattle.sound_programs.specs.Scopes.{Of_unit, entity_in, unit_of}
use Rattle.sound_programs.specs.Walks.{Step, Stands, Site, Assigns, Calls, Tests, Chooses, Repeats, call_name, call_site, sites, is_function_site, reference, name_before_parenthesis, parts_read, steps_of}
use Rattle.sound_programs.specs.Placed as tree
use Rattle.unit_steps.specs.Behind.{placed_step, placed_steps}
use Rattle.unit_steps.specs.declared.step.Step.{Step as Held}
use Rattle.fort_names.specs.Scoping.{AllFit}
use Rattle.fort_names.proofs.Fitting.{fits_length}
use Rattle.call_graph.specs.declared.reference.Reference.{Reference}
use Rattle.call_graph.specs.Adding.{to_unit, named_referrals, is_function_name, function_referrals, step_referrals, Adds}
use Rattle.call_graph.specs.Referring.{unit_names, name_at, numbers, as_referral, callees_of, NamesDiffer, AreWithin, AreReferencesIn, AreReferencesOf}
use Rattle.call_graph.proofs.Named.{is_graph}
use Rattle.call_graph.proofs.Lists.{flat_append, map_append, filter_append, names_long}

-- ---- what is added

pub adds_nothing : (f : File) (from : Text) (l : List Reference) → Adds f from l l []
adds_nothing f from l = record { added = []; goes_on = sym (append-nil l); are = refl; within = λ y e. absurd (false≢true e) }

pub adds_more : (f : File) (from : Text) (a b c : List Reference) (xs ys : List Referral) → Adds f from a b xs → Adds f from b c ys → Adds f from a c (xs ++ ys)
adds_more f from a b c xs ys p q = record {
  added = p.added ++ q.added;
  goes_on = q.goes_on ∙ ap (λ l. l ++ q.added) p.goes_on ∙ append_assoc a p.added q.added;
  are = map_append (as_referral (unit_names f) from) p.added q.added ∙ ap (λ l. l ++ map (as_referral (unit_names f) from) q.added) p.are ∙ ap (λ l. xs ++ l) q.are;
  within = λ y e. go y (append_cases y (numbers p.added) (numbers q.added) (sym (ap (stands y) (map_append (λ r. r.unit) p.added q.added)) ∙ e));
}
  where
    go : (y : ℕ) → (stands y (numbers p.added) ≡ true) ⊎ (stands y (numbers q.added) ≡ true) → y < length f.units
    go y (inl e) = p.within y e
    go y (inr e) = q.within y e

name_read : (us : List tree_unit.Unit) (n : ℕ) (u : tree_unit.Unit) → slice_get us n ≡ Some u → name_at (map (λ v. v.name) us) n ≡ u.name
name_read [] n u e = absurd (cc)
name_read (v ∷ us) zero u e = let same : v ≡ u = cc in ap (λ (w : tree_unit.Unit). w.name) same
name_read (v ∷ us) (suc n) u e = name_read us n u e

number_within : (us : List tree_unit.Unit) (n : ℕ) (u : tree_unit.Unit) → slice_get us n ≡ Some u → n < length us
number_within [] n u e = absurd (cc)
number_within (v ∷ us) zero u e = omega arith
number_within (v ∷ us) (suc n) u e = omega (arith, number_within us n u e)

only_one : (x y : ℕ) → stands y (x ∷ []) ≡ true → y ≡ x
only_one x y e = go (stands_cases y x [] e)
  where
    go : (y ≡ x) ⊎ (stands y [] ≡ true) → y ≡ x
    go (inl e) = e
    go (inr e) = absurd (false≢true e)

-- a reference to the unit of this number
pub adds_unit : (f : File) (from : Text) (old : List Reference) (n : ℕ) (u : tree_unit.Unit) (at : Place) → slice_get f.units n ≡ Some u → Adds f from old (old ++ record { unit = n; at = at } ∷ []) (to_unit from at (Some (plain_unit u)))
adds_unit f from old n u at e = record {
  added = record { unit = n; at = at } ∷ [];
  goes_on = refl;
  are = ap (λ (x : Text). record { from = from; to = x; at = at } ∷ []) (name_read f.units n u e);
  within = λ y k. omega (arith, only_one n y k, number_within f.units n u e);
}

-- one more of the names
pub adds_function : (f : File) (entity : Text → Entity) (from : Text) (names : List Named) (i : ℕ) (n : Named) (a b c : List Reference) → i < length names → n ≡ get_or names i n
    → Adds f from a b (function_referrals entity from (take i names)) → Adds f from b c (cond (is_function_name entity n) (named_referrals entity from n) []) → Adds f from a c (function_referrals entity from (take (i + 1) names))
adds_function f entity from names i n a b c within is so_far new =
    subst (Adds f from a c) (sym all) (adds_more f from a b c (function_referrals entity from (take i names)) (cond (is_function_name entity n) (named_referrals entity from n) []) so_far new)
  where
    longer : take (i + 1) names ≡ take i names ++ n ∷ []
    longer = (take_at_read names i n within).1 ∙ ap (λ x. take i names ++ x ∷ []) (sym is)

    one : (t : Bool) → flat_map (named_referrals entity from) (cond t (n ∷ []) []) ≡ cond t (named_referrals entity from n) []
    one true = append-nil (named_referrals entity from n)
    one false = refl

    all : function_referrals entity from (take (i + 1) names) ≡ function_referrals entity from (take i names) ++ cond (is_function_name entity n) (named_referrals entity from n) []
    all =
        ap (λ l. function_referrals entity from l) longer ∙ ap (flat_map (named_referrals entity from)) (filter_append (is_function_name entity) (take i names) (n ∷ []))
        ∙ flat_append (named_referrals entity from) (filter (is_function_name entity) (take i names)) (filter (is_function_name entity) (n ∷ []))
        ∙ ap (λ l. function_referrals entity from (take i names) ++ l) (one (is_function_name entity n))

-- one more of the steps
pub adds_step : (f : File) (entity : Text → Entity) (from : Text) (steps : List Step) (s : Step) (a b c : List Reference) → Adds f from a b (flat_map (step_referrals entity from) steps) → Adds f from b c (step_referrals entity from s)
    → Adds f from a c (flat_map (step_referrals entity from) (steps ++ s ∷ []))
adds_step f entity from steps s a b c so_far new =
    subst (Adds f from a c) (sym (flat_append (step_referrals entity from) steps (s ∷ []) ∙ ap (λ l. flat_map (step_referrals entity from) steps ++ l) (append-nil (step_referrals entity from s))))
    (adds_more f from a b c (flat_map (step_referrals entity from) steps) (step_referrals entity from s) so_far new)

-- ---- the referrals of the definition

module _ (u : Unit) (entity : Text → Entity) where
  one_site : (s : Site) (o : Option plain.Unit) → referral u s o ≡ to_unit u.name s.name.at o
  one_site s None = refl
  one_site s (Some v) = refl

  of_names : (ss : List Site) → flat_map (λ s. referral u s (unit_of (entity s.name.name))) ss ≡ flat_map (named_referrals entity u.name) (map (λ s. s.name) ss)
  of_names [] = refl
  of_names (s ∷ ss) = ap (λ l. l ++ flat_map (λ t. referral u t (unit_of (entity t.name.name))) ss) (one_site s (unit_of (entity s.name.name))) ∙ ap (λ l. to_unit u.name s.name.at (unit_of (entity s.name.name)) ++ l) (of_names ss)

  call_names : (s : Step) → map (λ t. t.name) (call_site s) ≡ call_name s
  call_names (Assigns left right) = refl
  call_names (Calls name args) = refl
  call_names (Tests e) = refl
  call_names (Chooses e ranges) = refl
  call_names (Repeats head mark) = refl

  one_reference : (e : tree.Expr) → map (λ t. t.name) (reference e) ≡ name_before_parenthesis e
  one_reference (tree.Numeral n kind at) = refl
  one_reference (tree.Boolean b at) = refl
  one_reference (tree.Name x at) = refl
  one_reference (tree.Reference x subs at) = refl
  one_reference (tree.Signed sign e at) = refl
  one_reference (tree.Binary op a b) = refl
  one_reference (tree.Paren e at) = refl

  reference_names : (es : List tree.Expr) → map (λ t. t.name) (flat_map reference es) ≡ flat_map name_before_parenthesis es
  reference_names [] = refl
  reference_names (e ∷ es) = map_append (λ t. t.name) (reference e) (flat_map reference es) ∙ ap (λ l. l ++ map (λ t. t.name) (flat_map reference es)) (one_reference e) ∙ ap (λ l. name_before_parenthesis e ++ l) (reference_names es)

  function_names : (ss : List Site) → map (λ t. t.name) (filter (is_function_site entity) ss) ≡ filter (is_function_name entity) (map (λ t. t.name) ss)
  function_names [] = refl
  function_names (s ∷ ss) = go (is_function_site entity s) (function_names ss)
    where
      go : (b : Bool) → map (λ t. t.name) (filter (is_function_site entity) ss) ≡ filter (is_function_name entity) (map (λ t. t.name) ss)
          → map (λ t. t.name) (cond b (s ∷ filter (is_function_site entity) ss) (filter (is_function_site entity) ss)) ≡ cond b (s.name ∷ filter (is_function_name entity) (map (λ t. t.name) ss)) (filter (is_function_name entity) (map (λ t. t.name) ss))
      go true e = ap (λ l. s.name ∷ l) e
      go false e = e

  of_step : (s : Step) → flat_map (λ t. referral u t (unit_of (entity t.name.name))) (sites entity s) ≡ step_referrals entity u.name s
  of_step s =
      of_names (sites entity s)
      ∙ ap (flat_map (named_referrals entity u.name)) (map_append (λ t. t.name) (call_site s) (filter (is_function_site entity) (flat_map reference (parts_read s))) ∙ ap (λ l. l ++ map (λ t. t.name) (filter (is_function_site entity) (flat_map reference (parts_read s)))) (call_names s)
      ∙ ap (λ l. call_name s ++ l) (function_names (flat_map reference (parts_read s)) ∙ ap (filter (is_function_name entity)) (reference_names (parts_read s))))
      ∙ flat_append (named_referrals entity u.name) (call_name s) (filter (is_function_name entity) (flat_map name_before_parenthesis (parts_read s)))

  of_steps : (ss : List Stands) → flat_map (λ t. referral u t (unit_of (entity t.name.name))) (flat_map (λ s. sites entity s.step) ss) ≡ flat_map (step_referrals entity u.name) (map (λ s. s.step) ss)
  of_steps [] = refl
  of_steps (s ∷ ss) =
      flat_append (λ t. referral u t (unit_of (entity t.name.name))) (sites entity s.step) (flat_map (λ s. sites entity s.step) ss)
      ∙ ap (λ l. l ++ flat_map (λ t. referral u t (unit_of (entity t.name.name))) (flat_map (λ s. sites entity s.step) ss)) (of_step s.step)
      ∙ ap (λ l. step_referrals entity u.name s.step ++ l) (of_steps ss)

-- what was added to nothing are the references of the unit
pub all_added : (f : File) (u : tree_unit.Unit) (r : List Reference) (entity : Text → Entity) → entity ≡ entity_in (bare_program (placed f)) (Of_unit (placed_unit u))
    → Adds f u.name [] r (flat_map (step_referrals entity u.name) (map (λ s. s.step) (steps_of (placed_unit u)))) → AreReferencesIn f u r
all_added f u r entity is adds = record {
  referrals =
      ap (map (as_referral (unit_names f) u.name)) adds.goes_on ∙ adds.are ∙ sym (of_steps (placed_unit u) entity (steps_of (placed_unit u)))
      ∙ ap (λ (e : Text → Entity). flat_map (λ t. referral (placed_unit u) t (unit_of (e t.name.name))) (flat_map (λ s. sites e s.step) (steps_of (placed_unit u)))) is;
  within = λ y e. adds.within y (sym (ap (λ l. stands y (numbers l)) adds.goes_on) ∙ e);
}

-- the references of all units
pub fits_within : (f : File) (n i y : ℕ) (us : List tree_unit.Unit) (rs : List (List Reference)) → AllFit (λ n. AreReferencesIn f) n us rs → stands y (numbers (get_or rs i [])) ≡ true → y < length f.units
fits_within f n i y [] [] fit e = absurd (false≢true e)
fits_within f n i y [] (r ∷ rs) fit e = absurd fit
fits_within f n i y (u ∷ us) [] fit e = absurd fit
fits_within f n zero y (u ∷ us) (r ∷ rs) fit e = fit.0.within y e
fits_within f n (suc i) y (u ∷ us) (r ∷ rs) fit e = fits_within f (n + 1) i y us rs fit.1 e

pub all_fit : (f : File) (rs : List (List Reference)) → AllFit (λ n. AreReferencesIn f) 0 f.units rs → AreReferencesOf f rs
all_fit f rs fit = record {
  are_within = record { same_length = fits_length (λ n. AreReferencesIn f) 0 f.units rs fit; within = λ i y. fits_within f 0 i y f.units rs fit };
  each = fit;
}

pub placed_more : (ss : List Held) (s : Held) → placed_steps (ss ++ s ∷ []) ≡ placed_steps ss ++ placed_step s ∷ []
placed_more ss s = map_append placed_step ss (s ∷ [])

pub on_ok_by : {A E : Type 0} {P Q : Type 0} (r : Result A E) → (P → Q) → OnOk r P → OnOk r Q
on_ok_by (Ok x) f p = f p
on_ok_by (Err e) f p = tt

pub read_at : {A : Type 0} (xs : List A) (i : ℕ) (x : A) → i < length xs → x ≡ get_or xs i x → slice_get xs i ≡ Some x
read_at [] i x h e = absurd (omega (arith, h))
read_at (y ∷ ys) zero x h e = ap Some (sym e)
read_at (y ∷ ys) (suc i) x h e = read_at ys i x (omega (arith, h)) e

pub graph_of : (f : File) (rows : List (List Reference)) → NamesDiffer (unit_names f) → AreReferencesOf f rows → IsGraph (callees_of rows)
graph_of f rows differ are = is_graph (unit_names f) rows differ (subst (λ n. AreWithin n rows) (sym (names_long f.units)) are.are_within)
