-- What is in a list, and names that are equal or differ.
use Rattle.std.proofs.Common.{◌≡◌, ℕ, zero, suc, ◌<◌, refl, sym, ◌∙◌, List, [], ◌∷◌, ◌⊎◌, inl, inr, Contains, slice_index_or, length, Bool, true, false, arith}
use Rattle.std.specs.Str.{bytes_eq}
use Rattle.std.specs.List.{list_any}
use Rattle.std.proofs.lemmas.Bool.{false≢true}
use Rattle.std.proofs.lemmas.Slice.Eq.{bytes_eq-Decides}

pub contains_here : {X : Type 0} (x : X) (xs : List X) → Contains (x ∷ xs) x
contains_here x xs = (0, omega arith, refl)

pub contains_first : {X : Type 0} (y x : X) (ys : List X) → y ≡ x → Contains (y ∷ ys) x
contains_first y x ys e = (0, omega arith, e)

pub contains_later : {X : Type 0} (y : X) (xs : List X) (x : X) → Contains xs x → Contains (y ∷ xs) x
contains_later y xs x t = (suc t.0, omega (arith, t.1), t.2)

pub contains_none : {X : Type 0} (x : X) → Contains [] x → ⊥
contains_none x t = let h : t.0 < 0 = t.1 in omega arith

pub contains_cases : {X : Type 0} (y : X) (ys : List X) (x : X) → Contains (y ∷ ys) x → (y ≡ x) ⊎ Contains ys x
contains_cases {X} y ys x t = go t.0 t.1 t.2
  where
    go : (k : ℕ) → k < length (y ∷ ys) → slice_index_or (y ∷ ys) k x ≡ x → (y ≡ x) ⊎ Contains ys x
    go zero h e = inl e
    go (suc k) h e = inr (k, omega arith, e)

pub same_itself : (x : List ℕ) → bytes_eq x x ≡ true
same_itself x = (bytes_eq-Decides x x).1 refl

pub names_equal : (x y : List ℕ) → bytes_eq x y ≡ true → x ≡ y
names_equal x y = (bytes_eq-Decides x y).0

pub names_apart : (x y : List ℕ) → (x ≡ y → ⊥) → bytes_eq x y ≡ false
names_apart x y n = go (bytes_eq x y) refl
  where
    go : (b : Bool) → bytes_eq x y ≡ b → bytes_eq x y ≡ false
    go true h = absurd (n (names_equal x y h))
    go false h = h

-- a list has each of its names by the test too
pub listed_here : (ys : List (List ℕ)) (x : List ℕ) → Contains ys x → list_any (λ y. bytes_eq y x) ys ≡ true
listed_here [] x t = absurd (contains_none x t)
listed_here (y ∷ ys) x t = go (contains_cases y ys x t) (bytes_eq y x) refl (listed_here ys x)
  where
    go : (y ≡ x) ⊎ Contains ys x → (b : Bool) → bytes_eq y x ≡ b → (Contains ys x → list_any (λ z. bytes_eq z x) ys ≡ true) → list_any (λ z. bytes_eq z x) (y ∷ ys) ≡ true
    go c true h ih = rw h refl
    go (inl e) false h ih = absurd (false≢true (sym h ∙ (bytes_eq-Decides y x).1 e))
    go (inr r) false h ih = rw h (ih r)

pub not_listed : (ys : List (List ℕ)) (x : List ℕ) → (Contains ys x → ⊥) → list_any (λ y. bytes_eq y x) ys ≡ false
not_listed [] x n = refl
not_listed (y ∷ ys) x n = rw (names_apart y x (λ e. n (contains_first y x ys e))) (not_listed ys x (λ t. n (contains_later y ys x t)))
