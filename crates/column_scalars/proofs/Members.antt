-- The members of lists, and the tests on names.
use Rattle.std.proofs.Common.{◌≡◌, ◌⊎◌, inl, inr, ℕ, zero, suc, ◌<◌, refl, sym, List, [], ◌∷◌, length, Bool, true, false, arith, Contains, slice_index_or, bytes_eq, true≢false}
use Rattle.std.specs.Bool.{Decides}
use Rattle.std.proofs.lemmas.Slice.Eq.{bytes_eq-Decides}

pub first_is : {A : Type 0} (x : A) (xs : List A) → Contains (x ∷ xs) x
first_is x xs = (0, omega arith, refl)

pub later_is : {A : Type 0} (y : A) (xs : List A) (x : A) → Contains xs x → Contains (y ∷ xs) x
later_is y xs x h = let l = h.1 in (suc h.0, omega arith, h.2)

pub none_is : {A : Type 0} (x : A) → Contains [] x → ⊥
none_is x h = let l = h.1 in omega arith

pub member_cases : {A : Type 0} (y : A) (xs : List A) (x : A) → Contains (y ∷ xs) x → (y ≡ x) ⊎ Contains xs x
member_cases y xs x h = go h.0 h.1 h.2
  where
    go : (k : ℕ) → k < length (y ∷ xs) → slice_index_or (y ∷ xs) k x ≡ x → (y ≡ x) ⊎ Contains xs x
    go zero l e = inl e
    go (suc k) l e = inr (k, omega arith, e)

pub same_text : (x : List ℕ) → bytes_eq x x ≡ true
same_text x = (bytes_eq-Decides x x).1 refl

pub other_text : (x y : List ℕ) → (x ≡ y → ⊥) → bytes_eq x y ≡ false
other_text x y h = go (bytes_eq x y) (bytes_eq-Decides x y)
  where
    go : (b : Bool) → Decides b (x ≡ y) → b ≡ false
    go true d = absurd (h (d.0 refl))
    go false d = refl

-- two names are one or not
pub by_text : {P : Type 0} (x y : List ℕ) → (x ≡ y → P) → ((x ≡ y → ⊥) → P) → P
by_text {P} x y same other = go (bytes_eq x y) (bytes_eq-Decides x y)
  where
    go : (b : Bool) → Decides b (x ≡ y) → P
    go true d = same (d.0 refl)
    go false d = other (λ e. true≢false (sym (d.1 e)))
