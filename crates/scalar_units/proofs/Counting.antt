-- Names that stand once among others.
use Rattle.std.proofs.Common.{◌≡◌, ℕ, ◌+◌, ◌≤◌, Bool, true, false, cond, ◌||◌, not, List, [], ◌∷◌, ◌⊎◌, inl, inr, Option, None, Some, map, refl, sym, ap, ◌∙◌, subst, Contains, arith}
use Rattle.std.specs.Prelude.{count_by, ◌==◌, is_none}
use Rattle.std.specs.List.{list_all, list_any}
use Rattle.std.specs.Str.{bytes_eq}
use Rattle.std.proofs.lemmas.Bool.{and_parts, false≢true, not-true, eqb-true}
use Rattle.std.proofs.lemmas.List.Sums.{sum_by-cons}
use Rattle.fort_tree.specs.Intrinsic.{intrinsic_named}
use Rattle.claw_meaning.specs.Interface.{is_fresh}
use Rattle.column_scalars.specs.Scalars.{Distinct, NoIntrinsics}
use Rattle.column_scalars.proofs.MemberCases.{contains_here, contains_first, contains_later, contains_none, contains_cases, same_itself, names_equal}
use Rattle.scalar_units.specs.Units.{is_among, stands_once, is_ordinary}

-- ---- tests of lists that are mapped

any_map : {X Y : Type 0} (p : Y → Bool) (g : X → Y) (xs : List X) → list_any p (map g xs) ≡ list_any (λ x. p (g x)) xs
any_map p g [] = refl
any_map p g (x ∷ xs) = ap (λ b. p (g x) || b) (any_map p g xs)

count_map : {X Y : Type 0} (p : Y → Bool) (g : X → Y) (xs : List X) → count_by p (map g xs) ≡ count_by (λ x. p (g x)) xs
count_map p g [] = refl
count_map p g (x ∷ xs) =
    sum_by-cons (λ y. cond (p y) 1 0) (g x) (map g xs) ∙ ap (λ n. cond (p (g x)) 1 0 + n) (count_map p g xs) ∙ sym (sum_by-cons (λ y. cond (p (g y)) 1 0) x xs)

pub found : {X Y : Type 0} (p : Y → Bool) (g : X → Y) (xs : List X) (b : Bool) → b ≡ list_any (λ x. p (g x)) xs → b ≡ list_any p (map g xs)
found p g xs b e = e ∙ sym (any_map p g xs)

pub counted : {X Y : Type 0} (p : Y → Bool) (g : X → Y) (xs : List X) (n : ℕ) → n ≡ count_by (λ x. p (g x)) xs → (n == 1) ≡ (count_by p (map g xs) == 1)
counted p g xs n e = ap (λ (k : ℕ). k == 1) (e ∙ sym (count_map p g xs))

-- ---- a name among others

pub among : (names : List (List ℕ)) (x : List ℕ) → is_among names x ≡ true → Contains names x
among [] x h = absurd (false≢true h)
among (n ∷ ns) x h = go (bytes_eq n x) refl (among ns x)
  where
    go : (b : Bool) → bytes_eq n x ≡ b → (is_among ns x ≡ true → Contains ns x) → Contains (n ∷ ns) x
    go true e next = contains_first n x ns (names_equal n x e)
    go false e next = contains_later n ns x (next (subst (λ b. (b || is_among ns x) ≡ true) e h))

pub is_there : (names : List (List ℕ)) (x : List ℕ) → Contains names x → is_among names x ≡ true
is_there [] x t = absurd (contains_none x t)
is_there (n ∷ ns) x t = go (contains_cases n ns x t) (bytes_eq n x) refl (is_there ns x)
  where
    go : (n ≡ x) ⊎ Contains ns x → (b : Bool) → bytes_eq n x ≡ b → (Contains ns x → is_among ns x ≡ true) → is_among (n ∷ ns) x ≡ true
    go c true e next = rw e refl
    go (inl is) false e next = absurd (false≢true (sym e ∙ rw is (same_itself x)))
    go (inr later) false e next = rw e (next later)

pub not_among : (names : List (List ℕ)) (x : List ℕ) → not (is_among names x) ≡ true → Contains names x → ⊥
not_among names x h t = false≢true (sym (not-true (is_among names x) h) ∙ is_there names x t)

-- ---- names that stand once

abbrev count : List ℕ → List (List ℕ) → ℕ
count x texts = count_by (λ y. bytes_eq y x) texts

count_more : (x y : List ℕ) (texts : List (List ℕ)) → count x (y ∷ texts) ≡ cond (bytes_eq y x) 1 0 + count x texts
count_more x y texts = sum_by-cons (λ text. cond (bytes_eq text x) 1 0) y texts

stands : (texts : List (List ℕ)) (x : List ℕ) → Contains texts x → 1 ≤ count x texts
stands [] x t = absurd (contains_none x t)
stands (y ∷ texts) x t = subst (λ n. 1 ≤ n) (sym (count_more x y texts)) (go (contains_cases y texts x t) (bytes_eq y x) refl (stands texts x))
  where
    go : (y ≡ x) ⊎ Contains texts x → (b : Bool) → bytes_eq y x ≡ b → (Contains texts x → 1 ≤ count x texts) → 1 ≤ cond (bytes_eq y x) 1 0 + count x texts
    go c true e next = rw e (omega arith)
    go (inl is) false e next = absurd (false≢true (sym e ∙ rw is (same_itself x)))
    go (inr later) false e next = let h = next later in rw e (omega (arith, h))

there : (texts : List (List ℕ)) (x : List ℕ) → 1 ≤ count x texts → Contains texts x
there [] x h = absurd (none h)
  where
    none : 1 ≤ 0 → ⊥
    none h = omega (arith, h)
there (y ∷ texts) x h = go (bytes_eq y x) refl (subst (λ n. 1 ≤ n) (count_more x y texts) h) (there texts x)
  where
    go : (b : Bool) → bytes_eq y x ≡ b → 1 ≤ cond (bytes_eq y x) 1 0 + count x texts → (1 ≤ count x texts → Contains texts x) → Contains (y ∷ texts) x
    go true e k next = contains_first y x texts (names_equal y x e)
    go false e k next = let l : 1 ≤ cond false 1 0 + count x texts = subst (λ b. 1 ≤ cond b 1 0 + count x texts) e k in contains_later y texts x (next (omega (arith, l)))

distinct : (texts : List (List ℕ)) → ((x : List ℕ) → Contains texts x → count x texts ≤ 1) → Distinct texts
distinct [] h = tt
distinct (y ∷ texts) h = (first, distinct texts rest)
  where
    first : Contains texts y → ⊥
    first t =
        let most : cond (bytes_eq y y) 1 0 + count y texts ≤ 1 = subst (λ n. n ≤ 1) (count_more y y texts) (h y (contains_first y y texts refl)) in
        let more : cond true 1 0 + count y texts ≤ 1 = subst (λ b. cond b 1 0 + count y texts ≤ 1) (same_itself y) most in
        let least = stands texts y t in
        omega (arith, more, least)

    rest : (x : List ℕ) → Contains texts x → count x texts ≤ 1
    rest x t = let most : cond (bytes_eq y x) 1 0 + count x texts ≤ 1 = subst (λ n. n ≤ 1) (count_more x y texts) (h x (contains_later y texts x t)) in omega (arith, most)

-- each of the names stands once among the texts, and no other text does
pub record Once (names texts : List (List ℕ)) : Type 0 where
  pub distinct : Distinct texts
  pub all : (x : List ℕ) → Contains names x → Contains texts x
  pub only : (x : List ℕ) → Contains texts x → Contains names x

each_once : (names texts : List (List ℕ)) → list_all (stands_once texts) names ≡ true → (x : List ℕ) → Contains names x → count x texts ≡ 1
each_once [] texts h x t = absurd (contains_none x t)
each_once (n ∷ ns) texts h x t =
    let parts = and_parts (stands_once texts n) (list_all (stands_once texts) ns) h in
    go (contains_cases n ns x t) (eqb-true (count n texts) 1 parts.0) (each_once ns texts parts.1 x)
  where
    go : (n ≡ x) ⊎ Contains ns x → count n texts ≡ 1 → (Contains ns x → count x texts ≡ 1) → count x texts ≡ 1
    go (inl is) here next = subst (λ y. count y texts ≡ 1) is here
    go (inr later) here next = next later

each_in : (names texts : List (List ℕ)) → list_all (is_among names) texts ≡ true → (x : List ℕ) → Contains texts x → Contains names x
each_in names [] h x t = absurd (contains_none x t)
each_in names (y ∷ texts) h x t =
    let parts = and_parts (is_among names y) (list_all (is_among names) texts) h in
    go (contains_cases y texts x t) (among names y parts.0) (each_in names texts parts.1 x)
  where
    go : (y ≡ x) ⊎ Contains texts x → Contains names y → (Contains texts x → Contains names x) → Contains names x
    go (inl is) here next = subst (Contains names) is here
    go (inr later) here next = next later

pub once : (names texts : List (List ℕ)) → list_all (stands_once texts) names ≡ true → ((x : List ℕ) → Contains texts x → Contains names x) → Once names texts
once names texts h only =
    let counts = each_once names texts h in
    record {
      distinct = distinct texts (λ x t. let e = counts x (only x t) in omega (arith, e));
      all = λ x t. let e = counts x t in there texts x (omega (arith, e));
      only = only;
    }

pub once_of : (names texts : List (List ℕ)) → list_all (stands_once texts) names ≡ true → list_all (is_among names) texts ≡ true → Once names texts
once_of names texts h all = once names texts h (each_in names texts all)

all_there : (names texts : List (List ℕ)) → ((x : List ℕ) → Contains texts x → Contains names x) → list_all (is_among names) texts ≡ true
all_there names [] all = refl
all_there names (y ∷ texts) all =
    rw (is_there names y (all y (contains_here y texts)), all_there names texts (λ x t. all x (contains_later y texts x t))) refl

pub all_among : (names : List (List ℕ)) → list_all (is_among names) names ≡ true
all_among names = all_there names names (λ x t. t)

-- ---- ordinary names

pub no_intrinsics : (names : List (List ℕ)) → list_all is_ordinary names ≡ true → NoIntrinsics names
no_intrinsics [] h = tt
no_intrinsics (n ∷ ns) h =
    let parts = and_parts (is_ordinary n) (list_all is_ordinary ns) h in
    (none (and_parts (is_none (intrinsic_named n)) (not (is_fresh n)) parts.0).0, no_intrinsics ns parts.1)
  where
    none : is_none (intrinsic_named n) ≡ true → intrinsic_named n ≡ None
    none h = go (intrinsic_named n) h
      where
        go : {A : Type 0} (o : Option A) → is_none o ≡ true → o ≡ None
        go None h = refl
        go (Some x) h = absurd (false≢true h)

pub none_fresh : (names : List (List ℕ)) → list_all is_ordinary names ≡ true → (x : List ℕ) → Contains names x → is_fresh x ≡ false
none_fresh [] h x t = absurd (contains_none x t)
none_fresh (n ∷ ns) h x t =
    let parts = and_parts (is_ordinary n) (list_all is_ordinary ns) h in
    let free = and_parts (is_none (intrinsic_named n)) (not (is_fresh n)) parts.0 in
    go (contains_cases n ns x t) (not-true (is_fresh n) free.1) (none_fresh ns parts.1 x)
  where
    go : (n ≡ x) ⊎ Contains ns x → is_fresh n ≡ false → (Contains ns x → is_fresh x ≡ false) → is_fresh x ≡ false
    go (inl is) here next = subst (λ y. is_fresh y ≡ false) is here
    go (inr later) here next = next later
