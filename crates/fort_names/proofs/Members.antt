-- Members of lists, and tests of them.
use Rattle.std.proofs.Common.{◌≡◌, Bool, true, false, ◌||◌, List, [], ◌∷◌, ◌++◌, map, refl, sym, ap, subst, ◌∙◌}
use Rattle.std.specs.Prelude.{flat_map}
use Rattle.std.specs.List.{list_any}
use Rattle.std.proofs.lemmas.Bool.{false≢true}

pub data Member {A : Type 0} : List A → A → Type 0 where
  first : {a : A} {l : List A} → Member (a ∷ l) a
  later : {a b : A} {l : List A} → Member l a → Member (b ∷ l) a

pub any_member : {A : Type 0} (test : A → Bool) (l : List A) → list_any test l ≡ true → (a : A) × Member l a × (test a ≡ true)
any_member test [] h = absurd (false≢true h)
any_member {A} test (b ∷ l) h = go (any_member test l) (test b) refl
  where
    go : (list_any test l ≡ true → (a : A) × Member l a × (test a ≡ true)) → (t : Bool) → test b ≡ t → (a : A) × Member (b ∷ l) a × (test a ≡ true)
    go others true e = (b, first, e)
    go others false e =
        let r : (a : A) × Member l a × (test a ≡ true) = others (subst (λ t. (t || list_any test l) ≡ true) e h) in
        (r.0, later r.1, r.2)

pub member_any : {A : Type 0} (test : A → Bool) {l : List A} {a : A} → Member l a → test a ≡ true → list_any test l ≡ true
member_any test (first {a} {l}) e = ap (λ t. t || list_any test l) e
member_any test (later {a} {b} {l} m) e = go (test b) (member_any test m e)
  where
    go : (t : Bool) → list_any test l ≡ true → (t || list_any test l) ≡ true
    go true h = refl
    go false h = h

pub in_front : {A : Type 0} {a : A} {xs : List A} (ys : List A) → Member xs a → Member (xs ++ ys) a
in_front ys first = first
in_front ys (later m) = later (in_front ys m)

pub behind : {A : Type 0} {a : A} (xs : List A) {ys : List A} → Member ys a → Member (xs ++ ys) a
behind [] m = m
behind (x ∷ xs) m = later (behind xs m)

pub of_map : {A B : Type 0} (f : A → B) {l : List A} {a : A} → Member l a → Member (map f l) (f a)
of_map f first = first
of_map f (later m) = later (of_map f m)

-- two tests that pass alike are one
pub same_test : (s t : Bool) → (s ≡ true → t ≡ true) → (t ≡ true → s ≡ true) → s ≡ t
same_test true t there back = sym (there refl)
same_test false true there back = back refl
same_test false false there back = refl

pub any_same : {A : Type 0} (s t : A → Bool) (l : List A) → ((a : A) → s a ≡ t a) → list_any s l ≡ list_any t l
any_same s t [] h = refl
any_same s t (a ∷ l) h = λ i. h a i || any_same s t l h i

pub any_parts : {A : Type 0} (test : A → Bool) (xs ys : List A) → list_any test (xs ++ ys) ≡ (list_any test xs || list_any test ys)
any_parts test [] ys = refl
any_parts test (x ∷ xs) ys = go (test x) (any_parts test xs ys)
  where
    go : (t : Bool) → list_any test (xs ++ ys) ≡ (list_any test xs || list_any test ys) → (t || list_any test (xs ++ ys)) ≡ ((t || list_any test xs) || list_any test ys)
    go true h = refl
    go false h = h

pub any_flat : {A B : Type 0} (test : B → Bool) (f : A → List B) (l : List A) → list_any test (flat_map f l) ≡ list_any (λ a. list_any test (f a)) l
any_flat test f [] = refl
any_flat test f (a ∷ l) = any_parts test (f a) (flat_map f l) ∙ ap (λ t. list_any test (f a) || t) (any_flat test f l)

pub any_push : {A : Type 0} (test : A → Bool) (xs : List A) (y : A) → list_any test (xs ++ y ∷ []) ≡ (list_any test xs || test y)
any_push test xs y = any_parts test xs (y ∷ []) ∙ ap (λ t. list_any test xs || t) (alone (test y))
  where
    alone : (t : Bool) → (t || false) ≡ t
    alone true = refl
    alone false = refl

pub any_map : {A B : Type 0} (test : B → Bool) (f : A → B) (l : List A) → list_any test (map f l) ≡ list_any (λ a. test (f a)) l
any_map test f [] = refl
any_map test f (a ∷ l) = ap (λ t. test (f a) || t) (any_map test f l)
