-- The turns of the loop over the columns.
use Rattle.std.proofs.Common.{◌≡◌, ℕ, zero, suc, ◌+◌, ◌-◌, ℤ, pos, negsuc, ◌+ℤ◌, ◌-ℤ◌, ◌≤ℤ◌, int_div, refl, ap, sym, ◌∙◌, List, [], ◌∷◌, map, Option, Some, None, arith}
use Rattle.std.proofs.lemmas.Int.{ints}
use borrow.Author.Differences.{up, down}
use lib.Signed.{≤ℤ_refl}
use Rattle.std.specs.Int.{int_gap}
use Rattle.std.specs.Option.{option_and_then, option_map}
use Rattle.courses.specs.Element.{Undefined, Whole, Element, Store, put}
use Rattle.courses.specs.Interaction.{Orders}
use Rattle.courses.specs.Course.{Way, Normal, Course, Give, Put, and_then}
use Rattle.courses.specs.Ranges.{up_from, wholes_from, wholes, extent}
use Rattle.courses.proofs.Stores.{put-same}
use Rattle.claw_meaning.specs.Syntax.{Text, Expr}
use Rattle.claw_meaning.specs.Statements.{turns, after_turn, counted, trips, not_below_zero}
use Rattle.column_scalars.specs.Model.{scalar_of, cell_of, ran, ran_each}
use Rattle.column_scalars.proofs.Ends.{ending, ending_then, ended}

-- n whole numbers from low on, one after another
abbrev pub upward : ℤ → ℕ → List ℤ
upward low zero = []
upward low (suc n) = low ∷ upward (low +ℤ pos 1) n

one_more : (low : ℤ) (i : ℕ) → low +ℤ pos (suc i) ≡ (low +ℤ pos i) +ℤ pos 1
one_more low i = omega (arith, ints)

no_more : (low : ℤ) → low +ℤ pos 0 ≡ low
no_more low = omega (arith, ints)

moved_upward : (low : ℤ) (i n : ℕ) → map (λ k. low +ℤ pos k) (up_from i n) ≡ upward (low +ℤ pos i) n
moved_upward low i zero = refl
moved_upward low i (suc n) = ap (λ ks. (low +ℤ pos i) ∷ ks) (moved_upward low (suc i) n ∙ ap (λ k. upward k n) (one_more low i))

pub wholes_upward : (low : ℤ) (n : ℕ) → wholes_from low n ≡ upward low n
wholes_upward low n = moved_upward low 0 n ∙ ap (λ k. upward k n) (no_more low)

by_one : (z : ℤ) → int_div z (pos 1) ≡ z
by_one z = omega (arith, ints)

not_below : (z : ℤ) → not_below_zero z ≡ up z - down z
not_below (pos n) = omega arith
not_below (negsuc n) = omega arith

gap_parts : (low high : ℤ) → int_gap low high ≡ (up high + down low) - (up low + down high)
gap_parts (pos a) (pos b) = omega arith
gap_parts (pos a) (negsuc b) = omega arith
gap_parts (negsuc a) (pos b) = omega arith
gap_parts (negsuc a) (negsuc b) = omega arith

gap_is : (low high : ℤ) → not_below_zero (high -ℤ low) ≡ int_gap low high
gap_is low high = let a = not_below (high -ℤ low) in let b = gap_parts low high in omega (arith, ints)

start_within : (low high : ℤ) → low ≤ℤ high → (low +ℤ pos (extent low high)) ≤ℤ (high +ℤ pos 1)
start_within low high h = let b = gap_parts low (high +ℤ pos 1) in omega (arith, ints)

pub trips_extent : (low high : ℤ) → trips low high (pos 1) ≡ extent low high
trips_extent low high = ap not_below_zero (by_one ((high -ℤ low) +ℤ pos 1) ∙ swap) ∙ gap_is low (high +ℤ pos 1)
  where
    swap : (high -ℤ low) +ℤ pos 1 ≡ (high +ℤ pos 1) -ℤ low
    swap = omega (arith, ints)

here : (at high : ℤ) (n : ℕ) → (at +ℤ pos (suc n)) ≤ℤ (high +ℤ pos 1) → at ≤ℤ high
here at high n h = omega (arith, ints)

onward : (low at : ℤ) → low ≤ℤ at → low ≤ℤ (at +ℤ pos 1)
onward low at h = omega (arith, ints)

beyond : (at high : ℤ) (n : ℕ) → (at +ℤ pos (suc n)) ≤ℤ (high +ℤ pos 1) → ((at +ℤ pos 1) +ℤ pos n) ≤ℤ (high +ℤ pos 1)
beyond at high n h = omega (arith, ints)

module _ (home id : Text) (assigned : List (Text × Expr)) (r : Course Way) (low high : ℤ)
    (body : (c : ℤ) → low ≤ℤ c → c ≤ℤ high → (o : Orders) (s : Store) (j : ℕ) → s (scalar_of home id) ≡ Whole c → ending r o s j ≡ ended Normal j (ran (cell_of home c) assigned s)) where
  later_turns : (at : ℤ) (n : ℕ) (o : Orders) (j : ℕ) (result : Option Store) → ((t : Store) → ending (turns (scalar_of home id) n (at +ℤ pos 1) (pos 1) r) o t j ≡ ended Normal j (ran_each home id assigned (upward (at +ℤ pos 1) n) t))
      → option_and_then (λ y. ending (after_turn y.answer (turns (scalar_of home id) n (at +ℤ pos 1) (pos 1) r)) o y.store y.next) (ended Normal j result) ≡ ended Normal j (option_and_then (ran_each home id assigned (upward (at +ℤ pos 1) n)) result)
  later_turns at n o j None h = refl
  later_turns at n o j (Some t) h = h t

  pub turns_run : (n : ℕ) (at : ℤ) → low ≤ℤ at → (at +ℤ pos n) ≤ℤ (high +ℤ pos 1) → (o : Orders) (s : Store) (j : ℕ) → ending (turns (scalar_of home id) n at (pos 1) r) o s j ≡ ended Normal j (ran_each home id assigned (upward at n) s)
  turns_run zero at l h o s j = refl
  turns_run (suc n) at l h o s j =
      let e : Element = scalar_of home id in
      let t : Store = put s e (Whole at) in
      ending_then r (λ g. after_turn g (turns e n (at +ℤ pos 1) (pos 1) r)) o t j
      ∙ ap (option_and_then (λ y. ending (after_turn y.answer (turns e n (at +ℤ pos 1) (pos 1) r)) o y.store y.next)) (body at l (here at high n h) o t j (put-same s e (Whole at)))
      ∙ later_turns at n o j (ran (cell_of home at) assigned t) (λ u. turns_run n (at +ℤ pos 1) (onward low at l) (beyond at high n h) o u j)

  undefined_behind : (o : Orders) (j : ℕ) (result : Option Store) → option_and_then (λ y. ending (Put (scalar_of home id) Undefined (Give {k = Way} y.answer)) o y.store y.next) (ended Normal j result) ≡ ended Normal j (option_map (λ t. put t (scalar_of home id) Undefined) result)
  undefined_behind o j None = refl
  undefined_behind o j (Some t) = refl

  pub all_turns : low ≤ℤ high → (o : Orders) (s : Store) (j : ℕ) → ending (counted (scalar_of home id) low high (pos 1) r) o s j ≡ ended Normal j (option_map (λ t. put t (scalar_of home id) Undefined) (ran_each home id assigned (wholes low high) s))
  all_turns h o s j =
      let e : Element = scalar_of home id in
      let n : ℕ = extent low high in
      ap (λ k. ending (and_then (turns e k low (pos 1) r) (λ g. Put e Undefined (Give {k = Way} g))) o s j) (trips_extent low high)
      ∙ ending_then (turns e n low (pos 1) r) (λ g. Put e Undefined (Give {k = Way} g)) o s j
      ∙ ap (option_and_then (λ y. ending (Put e Undefined (Give {k = Way} y.answer)) o y.store y.next)) (turns_run n low (≤ℤ_refl low) (start_within low high h) o s j)
      ∙ undefined_behind o j (ran_each home id assigned (upward low n) s)
      ∙ ap (λ cs. ended Normal j (option_map (λ t. put t e Undefined) (ran_each home id assigned cs s))) (sym (wholes_upward low n))
