-- Equal lists, and what holds of each element.
use Rattle.std.proofs.Common.{◌≡◌, List, [], ◌∷◌, ◌++◌, map, refl}
use Rattle.std.specs.List.{AllByRecursion}

pub one_item : {A : Type 0} {x y : A} {xs ys : List A} → x ∷ xs ≡ y ∷ ys → x ≡ y
one_item e = cc

pub more_items : {A : Type 0} {x y : A} {xs ys : List A} → x ∷ xs ≡ y ∷ ys → xs ≡ ys
more_items e = cc

pub first_none : {A : Type 0} (k l : List A) → k ++ l ≡ [] → k ≡ []
first_none [] l e = refl
first_none (x ∷ k) l e = absurd cc

pub second_none : {A : Type 0} (k l : List A) → k ++ l ≡ [] → l ≡ []
second_none [] l e = e
second_none (x ∷ k) l e = absurd cc

pub some_none : {A : Type 0} {x : A} {l : List A} → x ∷ l ≡ [] → ⊥
some_none e = cc

pub each_append : {A : Type 0} (P : A → Type 0) (xs ys : List A) → AllByRecursion P xs → AllByRecursion P ys → AllByRecursion P (xs ++ ys)
each_append P [] ys h k = k
each_append P (x ∷ xs) ys h k = (h.0, each_append P xs ys h.1 k)

pub each_mapped : {A B : Type 0} (P : A → Type 0) (Q : B → Type 0) (g : A → B) (xs : List A) → ((x : A) → P x → Q (g x)) → AllByRecursion P xs → AllByRecursion Q (map g xs)
each_mapped P Q g [] h k = tt
each_mapped P Q g (x ∷ xs) h k = (h x k.0, each_mapped P Q g xs h k.1)
