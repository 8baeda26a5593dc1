-- Names that are put into a list once each.
use Rattle.std.proofs.Common.{◌≡◌, ℕ, suc, ◌+◌, ◌<◌, length, drop, drop-cons, add-one, get_or, Bool, true, false, ◌||◌, List, [], ◌∷◌, ◌++◌, map, refl, sym, ap, ◌∙◌, subst}
use Rattle.std.specs.Prelude.{flat_map, if◌then◌else◌}
use Rattle.std.specs.List.{list_any}
use Rattle.std.specs.Option.{option_to_list}
use Rattle.std.specs.Str.{bytes_eq}
use Rattle.std.proofs.lemmas.Bool.{false≢true}
use Rattle.std.proofs.lemmas.List.{map-append}
use Rattle.std.proofs.lemmas.Slice.Eq.{bytes_eq-Decides}
use Rattle.fort_tree.specs.declared.stmt.Named.{Named}
use Rattle.claw_meaning.specs.Scope.{Entity}
use Rattle.claw_meaning.specs.Syntax.{Text}
use Rattle.sound_programs.specs.ArgumentFaults.{module_variables, names_of_step, same_pair}
use Rattle.sound_programs.specs.Scopes.{module_variable}
use Rattle.sound_programs.specs.Walks.{Step, Stands}
use Rattle.fort_names.specs.NameLists.{has, with_name}
use Rattle.fort_names.specs.Sharing.{inserted}
use Rattle.fort_names.proofs.Places.{any_append}
use Rattle.unit_steps.specs.declared.step.Step as unit_step
use Rattle.unit_steps.specs.Behind.{placed_step, placed_steps}
use Rattle.argument_faults.specs.ModuleNames.{variables_among, HasSame}

inserted_append : (names xs ys : List Text) → inserted names (xs ++ ys) ≡ inserted (inserted names xs) ys
inserted_append names [] ys = refl
inserted_append names (x ∷ xs) ys = inserted_append (with_name names x) xs ys

abbrev texts : List Named → List Text
texts ns = map (λ n. n.name) ns

pub inserted_names : (names : List Text) (xs ys : List Named) → inserted names (texts (xs ++ ys)) ≡ inserted (inserted names (texts xs)) (texts ys)
inserted_names names xs ys = ap (inserted names) (map-append (λ n. n.name) xs ys) ∙ inserted_append names (texts xs) (texts ys)

-- one more step
pub next_inserted : (steps : List unit_step.Step) (i : ℕ) (s : unit_step.Step) → i < length steps → s ≡ get_or steps i s → (old new : List Text) → new ≡ inserted old (texts (names_of_step (placed_step s)))
    → inserted new (texts (flat_map names_of_step (placed_steps (drop (i + 1) steps)))) ≡ inserted old (texts (flat_map names_of_step (placed_steps (drop i steps))))
next_inserted steps i s within is old new e =
    let at : drop i steps ≡ s ∷ drop (i + 1) steps = rw (add-one, drop-cons steps i s) (ap (λ x. x ∷ drop (suc i) steps) (sym is)) in
    let rest = flat_map names_of_step (placed_steps (drop (i + 1) steps)) in
    ap (λ l. inserted l (texts rest)) e
    ∙ sym (inserted_names old (names_of_step (placed_step s)) rest)
    ∙ ap (λ l. inserted old (texts (flat_map names_of_step (placed_steps l)))) (sym at)

module _ (test : Text → Bool) where
  or_true : (b : Bool) → (b || true) ≡ true
  or_true true = refl
  or_true false = refl

  or_false : (b : Bool) → (b || false) ≡ b
  or_false true = refl
  or_false false = refl

  or_group : (a b c : Bool) → ((a || b) || c) ≡ (a || (b || c))
  or_group true b c = refl
  or_group false b c = refl

  has_any : (names : List Text) (x : Text) → has names x ≡ true → test x ≡ true → list_any test names ≡ true
  has_any [] x h e = absurd (false≢true h)
  has_any (y ∷ ys) x h e = go (bytes_eq x y) refl h (λ k. has_any ys x k e)
    where
      go : (b : Bool) → bytes_eq x y ≡ b → (b || has ys x) ≡ true → (has ys x ≡ true → list_any test ys ≡ true) → (test y || list_any test ys) ≡ true
      go true same k rest = ap (λ z. test z || list_any test ys) (sym ((bytes_eq-Decides x y).0 same)) ∙ ap (λ b. b || list_any test ys) e
      go false same k rest = ap (λ b. test y || b) (rest k) ∙ or_true (test y)

  pub any_with : (names : List Text) (x : Text) → list_any test (with_name names x) ≡ (list_any test names || test x)
  any_with names x = go (has names x) refl (test x) refl
    where
      go : (b : Bool) → has names x ≡ b → (t : Bool) → test x ≡ t → list_any test (if b then names else names ++ x ∷ []) ≡ (list_any test names || t)
      go true h true e = has_any names x h e ∙ sym (or_true (list_any test names))
      go true h false e = sym (or_false (list_any test names))
      go false h t e = any_append test names (x ∷ []) ∙ ap (λ b. list_any test names || b) (or_false (test x) ∙ e)

  any_inserted : (names xs : List Text) → list_any test (inserted names xs) ≡ (list_any test names || list_any test xs)
  any_inserted names [] = sym (or_false (list_any test names))
  any_inserted names (x ∷ xs) =
      any_inserted (with_name names x) xs ∙ ap (λ b. b || list_any test xs) (any_with names x) ∙ or_group (list_any test names) (test x) (list_any test xs)

pub any_flat : {A B : Type 0} (test : B → Bool) (f : A → List B) (xs : List A) → list_any test (flat_map f xs) ≡ list_any (λ x. list_any test (f x)) xs
any_flat test f [] = refl
any_flat test f (x ∷ xs) = any_append test (f x) (flat_map f xs) ∙ ap (λ b. list_any test (f x) || b) (any_flat test f xs)

any_texts : (test : Text → Bool) (ns : List Named) → list_any test (texts ns) ≡ list_any (λ n. test n.name) ns
any_texts test [] = refl
any_texts test (n ∷ ns) = ap (λ b. test n.name || b) (any_texts test ns)

-- the names once each are the same variables
same_once : (entity : Text → Entity) (unit : Text) (ns : List Named) → HasSame (variables_among entity unit (inserted [] (texts ns))) (module_variables entity unit ns)
same_once entity unit ns = record {
  same = λ v. any_flat (same_pair v) (λ x. option_to_list (module_variable unit x (entity x))) (inserted [] (texts ns))
      ∙ any_inserted (λ x. list_any (same_pair v) (option_to_list (module_variable unit x (entity x)))) [] (texts ns)
      ∙ any_texts (λ x. list_any (same_pair v) (option_to_list (module_variable unit x (entity x)))) ns
      ∙ sym (any_flat (same_pair v) (λ (n : Named). option_to_list (module_variable unit n.name (entity n.name))) ns);
}

steps_alone : (ss : List Stands) → flat_map names_of_step (map (λ s. s.step) ss) ≡ flat_map (λ s. names_of_step s.step) ss
steps_alone [] = refl
steps_alone (s ∷ ss) = ap (λ l. names_of_step s.step ++ l) (steps_alone ss)

pub named_once : (entity : Text → Entity) (unit : Text) (ss : List Stands) (steps : List Step) (names : List Text) (list : List (Text × Text))
    → steps ≡ map (λ s. s.step) ss → names ≡ inserted [] (texts (flat_map names_of_step steps)) → list ≡ variables_among entity unit names
    → HasSame list (module_variables entity unit (flat_map (λ s. names_of_step s.step) ss))
named_once entity unit ss steps names list e h k =
    subst (λ l. HasSame l (module_variables entity unit (flat_map (λ s. names_of_step s.step) ss)))
    (sym (k ∙ ap (variables_among entity unit) (h ∙ ap (λ l. inserted [] (texts (flat_map names_of_step l))) e ∙ ap (λ l. inserted [] (texts l)) (steps_alone ss))))
    (same_once entity unit (flat_map (λ s. names_of_step s.step) ss))
