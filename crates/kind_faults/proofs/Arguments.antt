-- Items of a list, and the arguments of SIZE and INT.
use Rattle.std.proofs.Common.{◌≡◌, ℕ, suc, ◌+◌, ◌<◌, ◌≤◌, length, get_or, drop, true, arith, List, [], ◌∷◌, Some, refl, sym, ◌∙◌}
use Rattle.std.specs.Prelude.{not, nat_le}
use Rattle.std.proofs.lemmas.Bool.Decides.{nat_tests}
use Rattle.std.proofs.lemmas.Option.{slice_get-get_or}
use Rattle.fort_tree.specs.declared.expr.Sub as tree_sub
use Rattle.claw_meaning.specs.Syntax.{Text}
use Rattle.claw_meaning.specs.Scope.{Entity}
use Rattle.sound_programs.specs.KindFaults.{second_of_int}
use Rattle.sound_programs.specs.Placed.{Subscripts, No_more, One, Section}
use Rattle.sound_programs.specs.Placing.{placed_sub, placed_subs}
use Rattle.sound_programs.specs.RankFaults.{is_size}
use Rattle.sound_programs.specs.Walks.{count_of}
use Rattle.fort_kinds.proofs.Subs.{of_sub, at_index}
use Rattle.kind_faults.specs.Cases.{nobody}

same_item : {A : Type 0} (items : List A) (i : ℕ) (d e : A) → i < length items → get_or items i d ≡ get_or items i e
same_item items i d e within =
    let p : Some (get_or items i d) ≡ Some (get_or items i e) = sym (slice_get-get_or items i d within) ∙ slice_get-get_or items i e within in
    cc

-- an item and those behind it, whatever is taken past the end
pub at_any : {A : Type 0} (items : List A) (i : ℕ) (d : A) → i < length items → drop i items ≡ get_or items i d ∷ drop (i + 1) items
at_any items i d within = at_index items i (get_or items i d) within (same_item items i d (get_or items i d) within)

at_least_two : (n : ℕ) → not (nat_le (suc (suc n)) 1) ≡ true
at_least_two n = grind (arith, nat_tests)

-- SIZE of three arguments or more is no matter of rank
size_of_many : (entity : Text → Entity) (s t u : tree_sub.Sub) (rest : List tree_sub.Sub) → is_size entity (placed_subs (s ∷ (t ∷ (u ∷ rest)))) ≡ true
size_of_many entity s t u rest =
    of_sub (λ b. is_size entity (b (placed_sub t (placed_sub u (placed_subs rest)))) ≡ true)
    (λ e. of_sub (λ c. is_size entity (One e (c (placed_sub u (placed_subs rest)))) ≡ true)
    (λ f. of_sub (λ d. is_size entity (One e (One f (d (placed_subs rest)))) ≡ true) (λ g. refl) (λ lower upper at. refl) u)
    (λ l p a. of_sub (λ d. is_size entity (One e (Section l p a (d (placed_subs rest)))) ≡ true) (λ g. refl) (λ lower upper at. refl) u) t)
    (λ l p a. of_sub (λ c. not (nat_le (count_of (c (placed_sub u (placed_subs rest)))) 1) ≡ true) (λ f. sections u) (λ lower upper at. sections u) t) s
  where
    sections : (v : tree_sub.Sub) → not (nat_le (suc (count_of (placed_sub v (placed_subs rest)))) 1) ≡ true
    sections v =
        of_sub (λ d. not (nat_le (suc (count_of (d (placed_subs rest)))) 1) ≡ true) (λ g. at_least_two (count_of (placed_subs rest)))
        (λ lower upper at. at_least_two (count_of (placed_subs rest))) v

pub size_of_more : (entity : Text → Entity) (args : List tree_sub.Sub) → 3 ≤ length args → true ≡ is_size entity (placed_subs args)
size_of_more entity [] h = absurd (omega arith)
size_of_more entity (s ∷ []) h = absurd (omega arith)
size_of_more entity (s ∷ (t ∷ [])) h = absurd (omega arith)
size_of_more entity (s ∷ (t ∷ (u ∷ rest))) h = sym (size_of_many entity s t u rest)

-- the second argument of INT is judged by itself
pub second_same : (entity : Text → Entity) (args : Subscripts) → second_of_int nobody args ≡ second_of_int entity args
second_same entity No_more = refl
second_same entity (One e rest) = refl
second_same entity (Section lower upper at rest) = refl
