-- Lists that are empty, and what holds of each of a list where a list of faults that is made from it is empty.
use Rattle.std.proofs.Common.{◌≡◌, List, [], ◌∷◌, ◌++◌, map, Bool, true, false, ◌&&◌, not, cond, Option, None, Some, refl, sym, subst, ◌∙◌}
use Rattle.std.proofs.lemmas.Bool.{false≢true, not-false}
use Rattle.std.specs.Prelude.{flat_map, is_some, is_none}
use Rattle.std.specs.List.{filter}
use Rattle.fort_tree.specs.declared.place.Place.{Place}
use Rattle.fort_tree.specs.declared.stmt.Named.{Named}
use Rattle.sound_programs.specs.Laws.{Each}
use Rattle.sound_programs.specs.NameFaults.{places_where}
use Rattle.sound_programs.specs.Places.{where_place, the_first, earlier_of, first_of}
use Rattle.sound_programs.proofs.WithinLists.{each_by}

pub no_head : {A : Type 0} (x : A) (xs : List A) → x ∷ xs ≡ [] → ⊥
no_head x xs e = cc

pub left_empty : {A : Type 0} (xs ys : List A) → xs ++ ys ≡ [] → xs ≡ []
left_empty [] ys e = refl
left_empty (x ∷ xs) ys e = absurd (no_head x (xs ++ ys) e)

pub right_empty : {A : Type 0} (xs ys : List A) → xs ++ ys ≡ [] → ys ≡ []
right_empty [] ys e = e
right_empty (x ∷ xs) ys e = absurd (no_head x (xs ++ ys) e)

pub map_empty : {A B : Type 0} (f : A → B) (xs : List A) → map f xs ≡ [] → xs ≡ []
map_empty f [] e = refl
map_empty f (x ∷ xs) e = absurd (no_head (f x) (map f xs) e)

pub each_empty : {A B : Type 0} (f : A → List B) (xs : List A) → flat_map f xs ≡ [] → Each xs (λ x. f x ≡ [])
each_empty f [] e = tt
each_empty f (x ∷ xs) e = (left_empty (f x) (flat_map f xs) e, each_empty f xs (right_empty (f x) (flat_map f xs) e))

-- from a list of faults of each to what holds of each
pub each_from : {A B : Type 0} {Q : A → Type 0} (f : A → List B) (xs : List A) → ((x : A) → f x ≡ [] → Q x) → flat_map f xs ≡ [] → Each xs Q
each_from f xs by e = each_by xs by (each_empty f xs e)

pub none_kept : {A : Type 0} (test : A → Bool) (xs : List A) → filter test xs ≡ [] → Each xs (λ x. test x ≡ false)
none_kept test [] e = tt
none_kept test (x ∷ xs) e = go (none_kept test xs) (test x) refl
  where
    go : (filter test xs ≡ [] → Each xs (λ x. test x ≡ false)) → (b : Bool) → test x ≡ b → Each (x ∷ xs) (λ x. test x ≡ false)
    go rest true h = absurd (no_head x (filter test xs) (subst (λ b. cond b (x ∷ filter test xs) (filter test xs) ≡ []) h e))
    go rest false h = (h, rest (subst (λ b. cond b (x ∷ filter test xs) (filter test xs) ≡ []) h e))

pub first_empty : (places : List Place) → the_first places ≡ [] → places ≡ []
first_empty [] e = refl
first_empty (a ∷ rest) e = absurd (no_head (earlier_of a (first_of rest)) [] e)

pub none_where : (test : Named → Bool) (names : List Named) → places_where test names ≡ [] → Each names (λ n. test n ≡ false)
none_where test names e = none_kept test names (map_empty (λ (n : Named). n.at) (filter test names) e)

-- of what is kept
pub each_if_kept : {A : Type 0} (Q : A → Type 0) (test : A → Bool) (xs : List A) → Each (filter test xs) Q → Each xs (λ x. test x ≡ true → Q x)
each_if_kept Q test [] all = tt
each_if_kept Q test (x ∷ xs) all = go (each_if_kept Q test xs) (test x) refl
  where
    go : (Each (filter test xs) Q → Each xs (λ x. test x ≡ true → Q x)) → (b : Bool) → test x ≡ b → Each (x ∷ xs) (λ x. test x ≡ true → Q x)
    go rest true h =
        let both : Each (x ∷ filter test xs) Q = subst (λ b. Each (cond b (x ∷ filter test xs) (filter test xs)) Q) h all in
        ((λ k. both.0), rest both.1)
    go rest false h =
        ((λ k. absurd (false≢true (sym h ∙ k))), rest (subst (λ b. Each (cond b (x ∷ filter test xs) (filter test xs)) Q) h all))

pub not_placed : (b : Bool) (place : Place) → where_place b place ≡ [] → b ≡ false
not_placed true place e = absurd (no_head place [] e)
not_placed false place e = refl

pub other_false : (b c : Bool) → b && c ≡ false → b ≡ true → c ≡ false
other_false true c e h = e
other_false false c e h = absurd (false≢true h)

pub then_true : (b c : Bool) → b && not c ≡ false → b ≡ true → c ≡ true
then_true b c e h = not-false c (other_false b (not c) e h)

-- what is chosen is empty
pub chosen_empty : {A : Type 0} (b : Bool) (xs : List A) → cond b xs [] ≡ [] → b ≡ true → xs ≡ []
chosen_empty true xs e h = e
chosen_empty false xs e h = absurd (false≢true h)

pub other_empty : {A : Type 0} (b : Bool) (xs : List A) → cond b [] xs ≡ [] → b ≡ false → xs ≡ []
other_empty true xs e h = absurd (false≢true (sym h))
other_empty false xs e h = e

pub not_some : {A : Type 0} (o : Option A) → is_some o ≡ false → o ≡ None
not_some None e = refl
not_some (Some x) e = absurd (false≢true (sym e))

pub not_none : {A : Type 0} (o : Option A) → is_none o ≡ false → is_some o ≡ true
not_none None e = sym e
not_none (Some x) e = refl
