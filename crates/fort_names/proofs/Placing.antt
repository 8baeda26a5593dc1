-- The first place of a key in a list that grows.
use Rattle.std.proofs.Common.{◌≡◌, ℕ, ◌+◌, Bool, true, false, cond, List, [], ◌∷◌, ◌++◌, length, position, Option, None, Some, is_some, refl, sym, ap, ◌∙◌, subst, arith, get_or, take, ◌<◌}
use Rattle.std.specs.Cmp.{IsEquivalence}
use Rattle.std.specs.List.{position_from}
use Rattle.std.proofs.lemmas.Bool.{false≢true}
use Rattle.std.proofs.lemmas.List.{take_more}
use Rattle.std.proofs.lemmas.Iterator.Adapters.{position_from-zero}
use Rattle.indexmap.specs.IndexMap.{IndexMap, get, Updates}
use Rattle.fort_names.specs.NameLists.{IsFirstOfEach}

abbrev Pushed : Option ℕ → Bool → ℕ → Option ℕ
Pushed before passes n = cond (is_some before) before (cond passes (Some n) None)

from_pushed : {X : Type 0} (p : X → Bool) (i : ℕ) (xs : List X) (y : X) → position_from p i (xs ++ y ∷ []) ≡ Pushed (position_from p i xs) (p y) (i + length xs)
from_pushed p i [] y = let e : i ≡ i + 0 = omega arith in ap (λ n. cond (p y) (Some n) None) e
from_pushed {X} p i (x ∷ xs) y = go (p x) (from_pushed p (i + 1) xs y)
  where
    go : (b : Bool) → position_from p (i + 1) (xs ++ y ∷ []) ≡ Pushed (position_from p (i + 1) xs) (p y) (i + 1 + length xs)
        → cond b (Some i) (position_from p (i + 1) (xs ++ y ∷ [])) ≡ Pushed (cond b (Some i) (position_from p (i + 1) xs)) (p y) (i + length (x ∷ xs))
    go true h = refl
    go false h = let e : i + 1 + length xs ≡ i + length (x ∷ xs) = omega arith in h ∙ ap (Pushed (position_from p (i + 1) xs) (p y)) e

pushed : {X : Type 0} (p : X → Bool) (xs : List X) (y : X) → position p (xs ++ y ∷ []) ≡ Pushed (position p xs) (p y) (length xs)
pushed p xs y =
    let e : 0 + length xs ≡ length xs = omega arith in
    position_from-zero p (xs ++ y ∷ []) ∙ from_pushed p 0 xs y ∙ ap (λ o. Pushed o (p y) (0 + length xs)) (sym (position_from-zero p xs)) ∙ ap (Pushed (position p xs) (p y)) e

-- keys that are equal have one first place
same_place : {K : Type 0} (eq : K → K → Bool) (laws : IsEquivalence eq) (xs : List K) (y q : K) → eq y q ≡ true → position (eq q) xs ≡ position (eq y) xs
same_place eq laws xs y q e = ap (λ p. position p xs) (λ i z. sym (laws.congr y q z e) i)

module _ {K S : Type 0} (eq : K → K → Bool) (laws : IsEquivalence eq) (xs : List K) (y : K) where
  -- a new key comes last
  pub new_key : (m n : IndexMap K ℕ S) → IsFirstOfEach eq xs m → is_some (get eq m y) ≡ false → Updates eq m n y (Some (length xs)) → IsFirstOfEach eq (xs ++ y ∷ []) n
  new_key m n h none up = record { place = λ q. up.0 q ∙ ap (cond (eq y q) (Some (length xs))) (h.place q) ∙ go q (eq y q) refl ∙ sym (pushed (eq q) xs y) }
    where
      absent : is_some (position (eq y) xs) ≡ false
      absent = ap is_some (sym (h.place y)) ∙ none

      go : (q : K) (b : Bool) → eq y q ≡ b → cond b (Some (length xs)) (position (eq q) xs) ≡ Pushed (position (eq q) xs) (eq q y) (length xs)
      go q true e =
          sym (ap (λ o. Pushed o (eq q y) (length xs)) (same_place eq laws xs y q e) ∙ by (position (eq y) xs) absent (eq q y) (laws.symm q y ∙ e))
        where
          by : (o : Option ℕ) → is_some o ≡ false → (b : Bool) → b ≡ true → Pushed o b (length xs) ≡ Some (length xs)
          by None a b e = ap (λ c. cond c (Some (length xs)) None) e
          by (Some k) a b e = absurd (false≢true (sym a))
      go q false e = sym (by (position (eq q) xs) (eq q y) (laws.symm q y ∙ e))
        where
          by : (o : Option ℕ) (b : Bool) → b ≡ false → Pushed o b (length xs) ≡ o
          by None b e = ap (λ c. cond c (Some (length xs)) None) e
          by (Some k) b e = refl

  -- a key that is there keeps its first place
  pub old_key : (m : IndexMap K ℕ S) → IsFirstOfEach eq xs m → is_some (get eq m y) ≡ true → IsFirstOfEach eq (xs ++ y ∷ []) m
  old_key m h some = record { place = λ q. h.place q ∙ sym (pushed (eq q) xs y ∙ go q (eq y q) refl) }
    where
      there : is_some (position (eq y) xs) ≡ true
      there = ap is_some (sym (h.place y)) ∙ some

      by : (o : Option ℕ) (b : Bool) → is_some o ≡ true → Pushed o b (length xs) ≡ o
      by None b e = absurd (false≢true e)
      by (Some k) b e = refl

      apart : (o : Option ℕ) (b : Bool) → b ≡ false → Pushed o b (length xs) ≡ o
      apart None b e = ap (λ c. cond c (Some (length xs)) None) e
      apart (Some k) b e = refl

      go : (q : K) (b : Bool) → eq y q ≡ b → Pushed (position (eq q) xs) (eq q y) (length xs) ≡ position (eq q) xs
      go q true e = by (position (eq q) xs) (eq q y) (ap is_some (same_place eq laws xs y q e) ∙ there)
      go q false e = apart (position (eq q) xs) (eq q y) (laws.symm q y ∙ e)

-- the list up to the next place
pub up_to_next : {K S : Type 0} (eq : K → K → Bool) (keys : List K) (i : ℕ) (item : K) (m : IndexMap K ℕ S) → i < length keys → item ≡ get_or keys i item
    → IsFirstOfEach eq (take i keys ++ item ∷ []) m → IsFirstOfEach eq (take (i + 1) keys) m
up_to_next eq keys i item m h e f =
    let more : take (i + 1) keys ≡ take i keys ++ item ∷ [] = take_more keys i item h ∙ ap (λ x. take i keys ++ x ∷ []) (sym e) in
    subst (λ l. IsFirstOfEach eq l m) (sym more) f
