-- What holds of each element of some lists holds of each element of the lists made from them, and of those they are made from.
use Rattle.std.proofs.Common.{◌≡◌, ℕ, zero, suc, ◌+◌, List, [], ◌∷◌, ◌++◌, map, Bool, true, false, cond, Option, None, Some, subst}
use Rattle.std.specs.Prelude.{flat_map, slice_get}
use Rattle.std.specs.List.{filter, enumerate_from}
use Rattle.std.specs.Option.{option_to_list}
use Rattle.sound_programs.specs.Laws.{Each}
use Rattle.sound_programs.specs.Within.{InOption}

pub each_append : {A : Type 0} (Q : A → Type 0) (xs ys : List A) → Each xs Q → Each ys Q → Each (xs ++ ys) Q
each_append Q [] ys all all' = all'
each_append Q (x ∷ xs) ys all all' = (all.0, each_append Q xs ys all.1 all')

pub each_of_each : {A B : Type 0} (R : A → Type 0) (Q : B → Type 0) (f : A → List B) (xs : List A) → ((x : A) → R x → Each (f x) Q) → Each xs R → Each (flat_map f xs) Q
each_of_each R Q f [] by all = tt
each_of_each R Q f (x ∷ xs) by all = each_append Q (f x) (flat_map f xs) (by x all.0) (each_of_each R Q f xs by all.1)

-- whatever holds of the first list
pub each_of_any : {A B : Type 0} (Q : B → Type 0) (f : A → List B) (xs : List A) → ((x : A) → Each (f x) Q) → Each (flat_map f xs) Q
each_of_any Q f [] by = tt
each_of_any Q f (x ∷ xs) by = each_append Q (f x) (flat_map f xs) (by x) (each_of_any Q f xs by)

pub each_image : {A B : Type 0} (R : A → Type 0) (Q : B → Type 0) (f : A → B) (xs : List A) → ((x : A) → R x → Q (f x)) → Each xs R → Each (map f xs) Q
each_image R Q f [] by all = tt
each_image R Q f (x ∷ xs) by all = (by x all.0, each_image R Q f xs by all.1)

pub each_of_map : {A B : Type 0} (f : A → B) (P : B → Type 0) (xs : List A) → Each xs (λ x. P (f x)) → Each (map f xs) P
each_of_map f P xs = each_image (λ x. P (f x)) P f xs (λ x h. h)

pub each_chosen : {A : Type 0} (Q : A → Type 0) (b : Bool) (xs ys : List A) → Each xs Q → Each ys Q → Each (cond b xs ys) Q
each_chosen Q true xs ys all all' = all
each_chosen Q false xs ys all all' = all'

pub each_kept : {A : Type 0} (Q : A → Type 0) (test : A → Bool) (xs : List A) → Each xs Q → Each (filter test xs) Q
each_kept Q test [] all = tt
each_kept Q test (x ∷ xs) all =
    let rest : Each (filter test xs) Q = each_kept Q test xs all.1 in
    each_chosen Q (test x) (x ∷ filter test xs) (filter test xs) (all.0, rest) rest

pub each_in_option : {A : Type 0} (Q : A → Type 0) (o : Option A) → InOption Q o → Each (option_to_list o) Q
each_in_option Q None h = tt
each_in_option Q (Some x) h = (h, tt)

pub one_of_each : {A : Type 0} (Q : A → Type 0) (xs : List A) (i : ℕ) → Each xs Q → InOption Q (slice_get xs i)
one_of_each Q [] i all = tt
one_of_each Q (x ∷ xs) zero all = all.0
one_of_each Q (x ∷ xs) (suc i) all = one_of_each Q xs i all.1

pub each_numbered : {A : Type 0} (Q : A → Type 0) (n : ℕ) (xs : List A) → Each xs Q → Each (enumerate_from n xs) (λ m. Q m.1)
each_numbered Q n [] all = tt
each_numbered Q n (x ∷ xs) all = (all.0, each_numbered Q (n + 1) xs all.1)

-- ---- One list

pub each_by : {A : Type 0} {P Q : A → Type 0} (xs : List A) → ((x : A) → P x → Q x) → Each xs P → Each xs Q
each_by [] by all = tt
each_by (x ∷ xs) by all = (by x all.0, each_by xs by all.1)

pub each_two : {A : Type 0} {P Q R : A → Type 0} (xs : List A) → ((x : A) → P x → Q x → R x) → Each xs P → Each xs Q → Each xs R
each_two [] by all others = tt
each_two (x ∷ xs) by all others = (by x all.0 others.0, each_two xs by all.1 others.1)

pub both_of : {A : Type 0} (P Q : A → Type 0) (xs : List A) → Each xs P → Each xs Q → Each xs (λ x. P x × Q x)
both_of P Q xs = each_two xs (λ x h k. (h, k))

none_some : {A : Type 0} (a : A) → None ≡ Some a → ⊥
none_some a e = cc

some_is : {A : Type 0} (a b : A) → Some a ≡ Some b → a ≡ b
some_is a b e = cc

-- what holds of each holds of the one of any number
pub each_at : {A : Type 0} (P : A → Type 0) (xs : List A) (i : ℕ) (x : A) → Each xs P → slice_get xs i ≡ Some x → P x
each_at P [] i x all e = absurd (none_some x e)
each_at P (y ∷ xs) zero x all e = subst P (some_is y x e) all.0
each_at P (y ∷ xs) (suc i) x all e = each_at P xs i x all.1 e

-- ---- From the list made back to those it is made from

pub each_left : {A : Type 0} (P : A → Type 0) (xs ys : List A) → Each (xs ++ ys) P → Each xs P
each_left P [] ys all = tt
each_left P (x ∷ xs) ys all = (all.0, each_left P xs ys all.1)

pub each_right : {A : Type 0} (P : A → Type 0) (xs ys : List A) → Each (xs ++ ys) P → Each ys P
each_right P [] ys all = all
each_right P (x ∷ xs) ys all = each_right P xs ys all.1

pub each_before_map : {A B : Type 0} (f : A → B) (P : B → Type 0) (xs : List A) → Each (map f xs) P → Each xs (λ x. P (f x))
each_before_map f P [] all = tt
each_before_map f P (x ∷ xs) all = (all.0, each_before_map f P xs all.1)

pub each_flat : {A B : Type 0} (f : A → List B) (P : B → Type 0) (xs : List A) → Each (flat_map f xs) P → Each xs (λ x. Each (f x) P)
each_flat f P [] all = tt
each_flat f P (x ∷ xs) all = (each_left P (f x) (flat_map f xs) all, each_flat f P xs (each_right P (f x) (flat_map f xs) all))
