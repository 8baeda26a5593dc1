-- Every plan gives each marked loop each of its iterations once.
use mathlib.Core.Path.{ap₂}
use Rattle.std.proofs.Common.{eq-eqb, ◌≡◌, ℕ, zero, suc, ◌<◌, refl, ap, sym, ◌∙◌, List, [], ◌∷◌, Bool, true, false, not, ◌&&◌, ◌||◌, eqb, arith}
use Rattle.std.specs.Prelude.{if◌then◌else◌}
use Rattle.std.proofs.lemmas.Bool.{eqb-true, false≢true}
use Rattle.courses.specs.Ranges.{up_from}
use Rattle.courses.specs.Steps.{member, Distinct, SameSteps}
use Rattle.courses.specs.Weaving.{IsFair, rising}
use Rattle.courses.specs.Plans.{planned, from_one, Plan, distinct, all_in, is_permutation, orders_of}
use Rattle.courses.proofs.Stores.{and_both}

not_true : (b : Bool) → not b ≡ true → b ≡ false
not_true true h = absurd (false≢true h)
not_true false h = refl

distinct_so : (is : List ℕ) → distinct is ≡ true → Distinct is
distinct_so [] h = tt
distinct_so (i ∷ is) h = let t = and_both (not (member i is)) (distinct is) h in (not_true (member i is) t.0, distinct_so is t.1)

in_so : (is ys : List ℕ) → all_in is ys ≡ true → (k : ℕ) → member k is ≡ true → member k ys ≡ true
in_so [] ys h k m = absurd (false≢true m)
in_so (i ∷ is) ys h k m = go (eqb i k) refl (in_so is ys (and_both (member i ys) (all_in is ys) h).1 k)
  where
    go : (b : Bool) → eqb i k ≡ b → (member k is ≡ true → member k ys ≡ true) → member k ys ≡ true
    go true q ih = ap (λ x. member x ys) (sym (eqb-true i k q)) ∙ (and_both (member i ys) (all_in is ys) h).0
    go false q ih = ih (rw q at m)

both_in : (xs ys : List ℕ) → all_in xs ys ≡ true → all_in ys xs ≡ true → (k : ℕ) → member k xs ≡ member k ys
both_in xs ys h g k = go (member k xs) (member k ys) refl refl
  where
    go : (a b : Bool) → member k xs ≡ a → member k ys ≡ b → member k xs ≡ member k ys
    go true b p q = p ∙ sym (in_so xs ys h k p)
    go false true p q = absurd (false≢true (sym p ∙ in_so ys xs g k q))
    go false false p q = p ∙ sym q

-- below the first there is none
pub not_below : (k i n : ℕ) → k < i → member k (up_from i n) ≡ false
not_below k i zero h = refl
not_below k i (suc n) h = go (eqb i k) refl (not_below k (suc i) n (omega arith))
  where
    go : (b : Bool) → eqb i k ≡ b → member k (up_from (suc i) n) ≡ false → eqb i k || member k (up_from (suc i) n) ≡ false
    go true q r = let e : i ≡ k = eqb-true i k q in absurd (omega arith)
    go false q r = rw q r

pub up_distinct : (i n : ℕ) → Distinct (up_from i n)
up_distinct i zero = tt
up_distinct i (suc n) = (not_below i (suc i) n (omega arith), up_distinct (suc i) n)

pub rising_fair : IsFair rising
rising_fair j n = record { once = up_distinct 0 n; once' = up_distinct 0 n; members = λ k. refl }

same_next : (i k : ℕ) (b : Bool) → eqb i k ≡ b → eqb (suc i) (suc k) ≡ b
same_next i k true h = eq-eqb (suc i) (suc k) (ap suc (eqb-true i k h))
same_next i k false h = go (eqb (suc i) (suc k)) refl
  where
    go : (b : Bool) → eqb (suc i) (suc k) ≡ b → eqb (suc i) (suc k) ≡ false
    go true q = let e : suc i ≡ suc k = eqb-true (suc i) (suc k) q in let f : i ≡ k = omega arith in absurd (false≢true (sym h ∙ eq-eqb i k f))
    go false q = q

up_next : (k i n : ℕ) → member k (up_from i n) ≡ member (suc k) (up_from (suc i) n)
up_next k i zero = refl
up_next k i (suc n) = ap₂ ◌||◌ (sym (same_next i k (eqb i k) refl)) (up_next k (suc i) n)

-- the iterations that a list names from 1
pub in_from_one : (k : ℕ) (is : List ℕ) → member k (from_one is) ≡ member (suc k) is
in_from_one k [] = refl
in_from_one k (zero ∷ is) = in_from_one k is ∙ sym (ap (λ b. b || member (suc k) is) (go (eqb 0 (suc k)) refl))
  where
    go : (b : Bool) → eqb 0 (suc k) ≡ b → eqb 0 (suc k) ≡ false
    go true q = let e : 0 ≡ suc k = eqb-true 0 (suc k) q in absurd (omega arith)
    go false q = q
in_from_one k (suc i ∷ is) = ap₂ ◌||◌ (sym (same_next i k (eqb i k) refl)) (in_from_one k is)

once_from_one : (is : List ℕ) → Distinct is → Distinct (from_one is)
once_from_one [] h = tt
once_from_one (zero ∷ is) h = once_from_one is h.1
once_from_one (suc i ∷ is) h = (in_from_one i is ∙ h.0, once_from_one is h.1)

pub fair_plan : (plan : Plan) → IsFair (orders_of plan)
fair_plan plan j n = go (is_permutation (planned plan j n) n) refl
  where
    go : (b : Bool) → is_permutation (planned plan j n) n ≡ b → SameSteps (up_from 0 n) (if is_permutation (planned plan j n) n then from_one (planned plan j n) else up_from 0 n)
    go true q =
        let t = and_both (distinct (planned plan j n)) (all_in (planned plan j n) (up_from 1 n) && all_in (up_from 1 n) (planned plan j n)) q in
        let u = and_both (all_in (planned plan j n) (up_from 1 n)) (all_in (up_from 1 n) (planned plan j n)) t.1 in
        rw q
        (record {
          once = up_distinct 0 n;
          once' = once_from_one (planned plan j n) (distinct_so (planned plan j n) t.0);
          members = λ k. up_next k 0 n ∙ both_in (up_from 1 n) (planned plan j n) u.1 u.0 (suc k) ∙ sym (in_from_one k (planned plan j n));
        })
    go false q = rw q (record { once = up_distinct 0 n; once' = up_distinct 0 n; members = λ k. refl })
