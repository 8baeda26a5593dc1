-- The first place at which a test passes, by recursion, and tests of lists.
use Rattle.std.proofs.Common.{◌≡◌, ℕ, zero, suc, ◌+◌, Bool, true, false, cond, ◌&&◌, ◌||◌, List, [], ◌∷◌, ◌++◌, map, length, Option, None, Some, is_some, refl, sym, ap, ◌∙◌, subst, arith}
use Rattle.std.specs.List.{position, position_from, find, filter, list_any, slice_get}
use Rattle.std.specs.Option.{option_map}
use Rattle.std.proofs.lemmas.Iterator.Adapters.{position_from-zero}

-- the first place, by recursion
abbrev pub place : {X : Type 0} → (X → Bool) → List X → Option ℕ
place p [] = None
place p (x ∷ xs) = cond (p x) (Some 0) (option_map suc (place p xs))

from_place : {X : Type 0} (p : X → Bool) (i : ℕ) (xs : List X) → position_from p i xs ≡ option_map (λ k. i + k) (place p xs)
from_place p i [] = refl
from_place {X} p i (x ∷ xs) = go (p x) (place p xs) (from_place p (i + 1) xs)
  where
    go : (b : Bool) (o : Option ℕ) → position_from p (i + 1) xs ≡ option_map (λ k. i + 1 + k) o
        → cond b (Some i) (position_from p (i + 1) xs) ≡ option_map (λ k. i + k) (cond b (Some 0) (option_map suc o))
    go true o h = let e : i ≡ i + 0 = omega arith in ap Some e
    go false None h = h
    go false (Some k) h = let e : i + 1 + k ≡ i + suc k = omega arith in h ∙ ap Some e

same_place : (o : Option ℕ) → option_map (λ k. 0 + k) o ≡ o
same_place None = refl
same_place (Some k) = let e : 0 + k ≡ k = omega arith in ap Some e

pub place_is : {X : Type 0} (p : X → Bool) (xs : List X) → position p xs ≡ place p xs
place_is p xs = position_from-zero p xs ∙ from_place p 0 xs ∙ same_place (place p xs)

place_map : {X Y : Type 0} (p : Y → Bool) (g : X → Y) (xs : List X) → place p (map g xs) ≡ place (λ x. p (g x)) xs
place_map p g [] = refl
place_map p g (x ∷ xs) = ap (λ o. cond (p (g x)) (Some 0) (option_map suc o)) (place_map p g xs)

pub position_map : {X Y : Type 0} (p : Y → Bool) (g : X → Y) (xs : List X) → position p (map g xs) ≡ position (λ x. p (g x)) xs
position_map p g xs = place_is p (map g xs) ∙ place_map p g xs ∙ sym (place_is (λ x. p (g x)) xs)

pub position_by : {X : Type 0} (p q : X → Bool) (xs : List X) → ((x : X) → p x ≡ q x) → position p xs ≡ position q xs
position_by p q xs h = ap (λ r. position r xs) (λ i x. h x i)

-- what stands at the first place
pub record Passing {X : Type 0} (p : X → Bool) (xs : List X) (n : ℕ) : Type 0 where
  pub item : X
  pub is : slice_get xs n ≡ Some item
  pub passes : p item ≡ true

place_at : {X : Type 0} (p : X → Bool) (xs : List X) (n : ℕ) → place p xs ≡ Some n → Passing p xs n
place_at p [] n e = absurd (cc)
place_at {X} p (x ∷ xs) n e = go (p x) refl (place p xs) refl (place_at p xs) e
  where
    go : (b : Bool) → p x ≡ b → (o : Option ℕ) → place p xs ≡ o → ((k : ℕ) → place p xs ≡ Some k → Passing p xs k) → cond b (Some 0) (option_map suc o) ≡ Some n → Passing p (x ∷ xs) n
    go true h o ho ih e = let at : 0 ≡ n = cc in subst (Passing p (x ∷ xs)) at (record { item = x; is = refl; passes = h })
    go false h None ho ih e = absurd (cc)
    go false h (Some k) ho ih e =
        let at : suc k ≡ n = cc in
        let later = ih k ho in
        subst (Passing p (x ∷ xs)) at (record { item = later.item; is = later.is; passes = later.passes })

pub passing : {X : Type 0} (p : X → Bool) (xs : List X) (n : ℕ) → position p xs ≡ Some n → Passing p xs n
passing p xs n e = place_at p xs n (sym (place_is p xs) ∙ e)

some_map : {A B : Type 0} (f : A → B) (o : Option A) → is_some (option_map f o) ≡ is_some o
some_map f None = refl
some_map f (Some a) = refl

some_place : {X : Type 0} (p : X → Bool) (xs : List X) → is_some (place p xs) ≡ list_any p xs
some_place p [] = refl
some_place p (x ∷ xs) = go (p x) (some_place p xs)
  where
    go : (b : Bool) → is_some (place p xs) ≡ list_any p xs → is_some (cond b (Some 0) (option_map suc (place p xs))) ≡ (b || list_any p xs)
    go true ih = refl
    go false ih = some_map suc (place p xs) ∙ ih

pub some_position : {X : Type 0} (p : X → Bool) (xs : List X) → is_some (position p xs) ≡ list_any p xs
some_position p xs = ap is_some (place_is p xs) ∙ some_place p xs

pub some_find : {X : Type 0} (p : X → Bool) (xs : List X) → is_some (find p xs) ≡ list_any p xs
some_find p [] = refl
some_find {X} p (x ∷ xs) = go (p x) (some_find p xs)
  where
    go : (b : Bool) → is_some (find p xs) ≡ list_any p xs → is_some (cond b (Some x) (find p xs)) ≡ (b || list_any p xs)
    go true ih = refl
    go false ih = ih

pub any_map : {X Y : Type 0} (p : Y → Bool) (g : X → Y) (xs : List X) → list_any p (map g xs) ≡ list_any (λ x. p (g x)) xs
any_map p g [] = refl
any_map p g (x ∷ xs) = ap (λ b. p (g x) || b) (any_map p g xs)

or_group : (a b c : Bool) → (a || (b || c)) ≡ ((a || b) || c)
or_group true b c = refl
or_group false b c = refl

pub any_append : {X : Type 0} (p : X → Bool) (xs ys : List X) → list_any p (xs ++ ys) ≡ (list_any p xs || list_any p ys)
any_append p [] ys = refl
any_append p (x ∷ xs) ys = ap (λ b. p x || b) (any_append p xs ys) ∙ or_group (p x) (list_any p xs) (list_any p ys)

pub any_filter : {X : Type 0} (p t : X → Bool) (xs : List X) → list_any p (filter t xs) ≡ list_any (λ x. t x && p x) xs
any_filter p t [] = refl
any_filter {X} p t (x ∷ xs) = go (t x) (any_filter p t xs)
  where
    go : (b : Bool) → list_any p (filter t xs) ≡ list_any (λ y. t y && p y) xs
        → list_any p (cond b (x ∷ filter t xs) (filter t xs)) ≡ ((b && p x) || list_any (λ y. t y && p y) xs)
    go true ih = ap (λ b. p x || b) ih
    go false ih = ih

pub any_by : {X : Type 0} (p q : X → Bool) (xs : List X) → ((x : X) → p x ≡ q x) → list_any p xs ≡ list_any q xs
any_by p q xs h = ap (λ r. list_any r xs) (λ i x. h x i)

pub get_map : {X Y : Type 0} (g : X → Y) (xs : List X) (n : ℕ) → slice_get (map g xs) n ≡ option_map g (slice_get xs n)
get_map g [] n = refl
get_map g (x ∷ xs) zero = refl
get_map g (x ∷ xs) (suc n) = get_map g xs n

pub length_map : {X Y : Type 0} (g : X → Y) (xs : List X) → length (map g xs) ≡ length xs
length_map g [] = refl
length_map g (x ∷ xs) = ap suc (length_map g xs)
