-- How often a point stands in a list, and how many of a list stand in another.
use Rattle.std.proofs.Common.{◌≡◌, ℕ, zero, suc, ◌+◌, ◌<◌, ◌≤◌, Bool, true, false, ◌&&◌, ◌||◌, cond, nat_eq, List, [], ◌∷◌, ◌++◌, length, refl, sym, ap, ◌∙◌, arith, eqb-true, eq-eqb, ◌⊎◌, inl, inr}
use Rattle.std.specs.List.{list_all, IsDistinct, AllByRecursion}
use Rattle.std.proofs.lemmas.Bool.{false≢true}
use Rattle.std.proofs.lemmas.Bool.Decides.{nat_tests}
use Rattle.std.proofs.lemmas.Map.Steps.{length-le_from_distinct_below}
use Rattle.numbered_graph.specs.Graphs.{stands, times}
use Rattle.numbered_graph.specs.Peeling.{missing}

pub same_number : (x y : ℕ) → nat_eq x y ≡ true → x ≡ y
same_number x y e = eqb-true x y e

pub itself : (x : ℕ) → nat_eq x x ≡ true
itself x = eq-eqb x x refl

pub turned_test : (x y : ℕ) → nat_eq x y ≡ nat_eq y x
turned_test x y = grind (arith, nat_tests)

pub counted : {a b : Bool} → a ≡ b → cond {A = ℕ} a 1 0 ≡ cond b 1 0
counted e = ap (λ c. cond {A = ℕ} c 1 0) e

-- ---- one list

pub times_append : (x : ℕ) (xs ys : List ℕ) → times x (xs ++ ys) ≡ times x xs + times x ys
times_append x [] ys = omega arith
times_append x (y ∷ xs) ys = omega (arith, times_append x xs ys)

pub times_last : (x y : ℕ) (xs : List ℕ) → times x (xs ++ y ∷ []) ≡ times x xs + cond (nat_eq x y) 1 0
times_last x y xs = omega (arith, times_append x xs (y ∷ []))

pub none_stands : (x : ℕ) (xs : List ℕ) → times x xs ≡ 0 → stands x xs ≡ false
none_stands x [] e = refl
none_stands x (y ∷ ys) e = go (nat_eq x y) (none_stands x ys) e
  where
    go : (b : Bool) → (times x ys ≡ 0 → stands x ys ≡ false) → cond b 1 0 + times x ys ≡ 0 → (b || stands x ys) ≡ false
    go true rest e = absurd (omega (arith, e))
    go false rest e = rest (omega (arith, e))

pub no_times : (x : ℕ) (xs : List ℕ) → stands x xs ≡ false → times x xs ≡ 0
no_times x [] e = refl
no_times x (y ∷ ys) e = go (nat_eq x y) (no_times x ys) e
  where
    go : (b : Bool) → (stands x ys ≡ false → times x ys ≡ 0) → (b || stands x ys) ≡ false → cond b 1 0 + times x ys ≡ 0
    go true rest e = absurd (false≢true (sym e))
    go false rest e = omega (arith, rest e)

pub stands_if : (x : ℕ) (xs : List ℕ) → 0 < times x xs → stands x xs ≡ true
stands_if x xs h = go (stands x xs) refl
  where
    go : (b : Bool) → stands x xs ≡ b → stands x xs ≡ true
    go true e = e
    go false e = absurd (omega (arith, h, no_times x xs e))

pub times_if : (x : ℕ) (xs : List ℕ) → stands x xs ≡ true → 0 < times x xs
times_if x xs h = go (times x xs) refl
  where
    go : (n : ℕ) → times x xs ≡ n → 0 < times x xs
    go zero e = absurd (false≢true (sym (none_stands x xs e) ∙ h))
    go (suc n) e = omega (arith, e)

pub stands_append : (x : ℕ) (xs ys : List ℕ) → stands x xs ≡ true → stands x (xs ++ ys) ≡ true
stands_append x xs ys h = stands_if x (xs ++ ys) (omega (arith, times_append x xs ys, times_if x xs h))

pub stands_last : (y : ℕ) (xs : List ℕ) → stands y (xs ++ y ∷ []) ≡ true
stands_last y xs = stands_if y (xs ++ y ∷ []) (omega (arith, times_last y y xs, counted (itself y)))

-- the first of a list stands in it, and what stands behind it does
pub first_stands : (x : ℕ) (xs : List ℕ) → stands x (x ∷ xs) ≡ true
first_stands x xs = ap (λ b. b || stands x xs) (itself x)

pub later_stands : (y x : ℕ) (xs : List ℕ) → stands y xs ≡ true → stands y (x ∷ xs) ≡ true
later_stands y x xs e = stands_if y (x ∷ xs) (omega (arith, times_if y xs e))

-- the first of a list, or one behind it
pub stands_cases : (x y : ℕ) (ys : List ℕ) → stands x (y ∷ ys) ≡ true → (x ≡ y) ⊎ (stands x ys ≡ true)
stands_cases x y ys h = go (nat_eq x y) refl h
  where
    go : (b : Bool) → nat_eq x y ≡ b → (b || stands x ys) ≡ true → (x ≡ y) ⊎ (stands x ys ≡ true)
    go true e h = inl (same_number x y e)
    go false e h = inr h

pub append_cases : (x : ℕ) (xs ys : List ℕ) → stands x (xs ++ ys) ≡ true → (stands x xs ≡ true) ⊎ (stands x ys ≡ true)
append_cases x xs ys h = go (stands x xs) refl
  where
    go : (b : Bool) → stands x xs ≡ b → (stands x xs ≡ true) ⊎ (stands x ys ≡ true)
    go true e = inl e
    go false e = inr (stands_if x ys (omega (arith, times_append x xs ys, no_times x xs e, times_if x (xs ++ ys) h)))

-- what stands once at most in all is at most as much as there can be
apart_from : (y z : ℕ) (zs : List ℕ) (b : Bool) → nat_eq y z ≡ b → (stands y zs ≡ false → AllByRecursion (λ z. nat_eq y z ≡ false) zs) → (b || stands y zs) ≡ false → AllByRecursion (λ z. nat_eq y z ≡ false) (z ∷ zs)
apart_from y z zs true h rest e = absurd (false≢true (sym e))
apart_from y z zs false h rest e = (h, rest e)

apart : (y : ℕ) (zs : List ℕ) → stands y zs ≡ false → AllByRecursion (λ z. nat_eq y z ≡ false) zs
apart y [] e = search
apart y (z ∷ zs) e = apart_from y z zs (nat_eq y z) refl (apart y zs) e

once_distinct : (xs : List ℕ) → ((x : ℕ) → times x xs ≤ 1) → IsDistinct nat_eq xs
unfolding IsDistinct
once_distinct [] h = search
once_distinct (y ∷ ys) h = (apart y ys (none_stands y ys (omega (arith, h y, counted (itself y)))), once_distinct ys (λ x. omega (arith, h x)))

pub at_most : (n : ℕ) (xs : List ℕ) → ((x : ℕ) → times x xs ≤ 1) → ((x : ℕ) → stands x xs ≡ true → x < n) → length xs ≤ n
at_most n xs once below = length-le_from_distinct_below xs n (once_distinct xs once) below

-- ---- one list against another

pub nothing_missing : (done xs : List ℕ) → missing done xs ≡ 0 → list_all (λ x. stands x done) xs ≡ true
nothing_missing done [] e = refl
nothing_missing done (x ∷ xs) e = go (stands x done) (nothing_missing done xs) e
  where
    go : (b : Bool) → (missing done xs ≡ 0 → list_all (λ x. stands x done) xs ≡ true) → cond b 0 1 + missing done xs ≡ 0 → (b && list_all (λ x. stands x done) xs) ≡ true
    go true rest e = rest (omega (arith, e))
    go false rest e = absurd (omega (arith, e))

-- one of them is missing
pub some_missing : (done xs : List ℕ) → 0 < missing done xs → (x : ℕ) × (stands x xs ≡ true) × (stands x done ≡ false)
some_missing done [] h = absurd (omega (arith, h))
some_missing done (y ∷ ys) h = go (stands y done) refl (some_missing done ys) h
  where
    go : (b : Bool) → stands y done ≡ b → (0 < missing done ys → (x : ℕ) × (stands x ys ≡ true) × (stands x done ≡ false)) → 0 < cond b 0 1 + missing done ys → (x : ℕ) × (stands x (y ∷ ys) ≡ true) × (stands x done ≡ false)
    go false e rest h = (y, ap (λ b. b || stands y ys) (itself y), e)
    go true e rest h =
        let r : (x : ℕ) × (stands x ys ≡ true) × (stands x done ≡ false) = rest (omega (arith, h)) in
        (r.0, stands_if r.0 (y ∷ ys) (omega (arith, times_if r.0 ys r.1)), r.2)

pub all_missing : (xs : List ℕ) → missing [] xs ≡ length xs
all_missing [] = refl
all_missing (x ∷ xs) = omega (arith, all_missing xs)

-- one more is done that wasn't
pub one_more_done : (done : List ℕ) (y : ℕ) (xs : List ℕ) → stands y done ≡ false → missing done xs ≡ missing (done ++ y ∷ []) xs + times y xs
one_more_done done y [] h = refl
one_more_done done y (x ∷ xs) h = omega (arith, one_more_done done y xs h, one)
  where
    one : cond (stands x done) 0 1 ≡ cond (stands x (done ++ y ∷ [])) 0 1 + cond (nat_eq y x) 1 0
    one = go (nat_eq y x) refl (stands x done) refl
      where
        go : (b : Bool) → nat_eq y x ≡ b → (c : Bool) → stands x done ≡ c → cond c 0 1 ≡ cond (stands x (done ++ y ∷ [])) 0 1 + cond b 1 0
        go true e true k = absurd (false≢true (sym h ∙ ap (λ z. stands z done) (same_number y x e) ∙ k))
        go true e false k = ap (λ b. cond b 0 1 + 1) (sym (ap (λ z. stands x (done ++ z ∷ [])) (same_number y x e) ∙ stands_last x done))
        go false e true k = ap (λ b. cond b 0 1 + 0) (sym (stands_append x done (y ∷ []) k))
        go false e false k = ap (λ b. cond b 0 1 + 0) (sym (none_stands x (done ++ y ∷ []) (omega (arith, times_last x y done, no_times x done k, counted (turned_test x y ∙ e)))))
