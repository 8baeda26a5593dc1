-- What stands before anything has been gone through: the points without links.
use Rattle.std.proofs.Common.{◌≡◌, ℕ, zero, suc, ◌+◌, ◌<◌, ◌≤◌, Bool, true, false, ◌||◌, cond, nat_eq, List, [], ◌∷◌, ◌++◌, length, map, slice_index, refl, sym, ap, ◌∙◌, arith, ◌⊎◌, inl, inr}
use Rattle.std.specs.List.{list_all}
use Rattle.std.proofs.lemmas.Bool.{false≢true, and_from}
use Rattle.std.proofs.lemmas.Bool.Decides.{nat_tests}
use Rattle.numbered_graph.specs.Graphs.{Rows, row, stands, times, is_behind}
use Rattle.numbered_graph.specs.Peeling.{leaves, unpeeled, Peels}
use Rattle.numbered_graph.proofs.Times.{same_number, itself, counted, no_times, stands_if, times_if, stands_cases, all_missing}

record Between (n x m : ℕ) : Type 0 where
  low : n ≤ x
  high : x < n + m

leaf_between : (n x : ℕ) (rows : Rows) → stands x (leaves n rows) ≡ true → Between n x (length rows)
leaf_between n x [] e = absurd (false≢true e)
leaf_between n x (r ∷ rs) e = go (nat_eq (length r) 0) (leaf_between (n + 1) x rs) e
  where
    wider : Between (n + 1) x (length rs) → Between n x (length (r ∷ rs))
    wider b = record { low = omega (arith, b.low); high = omega (arith, b.high) }

    either : (stands x (leaves (n + 1) rs) ≡ true → Between (n + 1) x (length rs)) → (x ≡ n) ⊎ (stands x (leaves (n + 1) rs) ≡ true) → Between n x (length (r ∷ rs))
    either rest (inl e) = record { low = omega (arith, e); high = omega (arith, e) }
    either rest (inr e) = wider (rest e)

    go : (b : Bool) → (stands x (leaves (n + 1) rs) ≡ true → Between (n + 1) x (length rs)) → stands x (cond b (n ∷ leaves (n + 1) rs) (leaves (n + 1) rs)) ≡ true → Between n x (length (r ∷ rs))
    go true rest e = either rest (stands_cases x n (leaves (n + 1) rs) e)
    go false rest e = wider (rest e)

not_later : (n : ℕ) (rows : Rows) → times n (leaves (n + 1) rows) ≡ 0
not_later n rows = go (stands n (leaves (n + 1) rows)) refl
  where
    go : (b : Bool) → stands n (leaves (n + 1) rows) ≡ b → times n (leaves (n + 1) rows) ≡ 0
    go false e = no_times n (leaves (n + 1) rows) e
    go true e = let b : Between (n + 1) n (length rows) = leaf_between (n + 1) n rows e in absurd (omega (arith, b.low))

leaf_times : (n i : ℕ) (rows : Rows) → i < length rows → times (n + i) (leaves n rows) ≡ cond (nat_eq (length (row rows i)) 0) 1 0
leaf_times n i [] h = absurd (omega (arith, h))
leaf_times n zero (r ∷ rs) h = ap (λ x. times x (leaves n (r ∷ rs))) at ∙ go (nat_eq (length r) 0)
  where
    at : n + 0 ≡ n
    at = omega arith

    go : (b : Bool) → times n (cond b (n ∷ leaves (n + 1) rs) (leaves (n + 1) rs)) ≡ cond {A = ℕ} b 1 0
    go true = omega (arith, not_later n rs, counted (itself n))
    go false = not_later n rs
leaf_times n (suc i) (r ∷ rs) h =
    ap (λ x. times x (leaves n (r ∷ rs))) at ∙ go (nat_eq (length r) 0) ∙ leaf_times (n + 1) i rs (omega (arith, h))
  where
    at : n + suc i ≡ (n + 1) + i
    at = omega arith

    apart : nat_eq ((n + 1) + i) n ≡ false
    apart = grind (arith, nat_tests)

    go : (b : Bool) → times ((n + 1) + i) (cond b (n ∷ leaves (n + 1) rs) (leaves (n + 1) rs)) ≡ times ((n + 1) + i) (leaves (n + 1) rs)
    go true = omega (arith, counted apart)
    go false = refl

none_in : (l xs : List ℕ) → length xs ≡ 0 → list_all (λ y. stands y l) xs ≡ true
none_in l [] e = refl
none_in l (x ∷ xs) e = absurd (omega (arith, e))

leaves_behind : (rows : Rows) (before xs : List ℕ) → ((x : ℕ) → stands x xs ≡ true → length (row rows x) ≡ 0) → is_behind rows before xs ≡ true
leaves_behind rows before [] h = refl
leaves_behind rows before (x ∷ xs) h =
    and_from (list_all (λ y. stands y before) (row rows x)) (is_behind rows (before ++ x ∷ []) xs)
    (none_in before (row rows x) (h x (ap (λ b. b || stands x xs) (itself x))))
    (leaves_behind rows (before ++ x ∷ []) xs (λ y e. h y (stands_if y (x ∷ xs) (omega (arith, times_if y xs e)))))

length_at : (rows : Rows) (x : ℕ) → slice_index (map length rows) x ≡ length (row rows x)
length_at [] x = refl
length_at (r ∷ rs) zero = refl
length_at (r ∷ rs) (suc x) = length_at rs x

same_length : (rows : Rows) → length (map length rows) ≡ length rows
same_length [] = refl
same_length (r ∷ rs) = omega (arith, same_length rs)

pub starts : (rows : Rows) → Peels rows [] [] (unpeeled rows)
starts rows = record {
  same_length = same_length rows;
  within = λ x e. let b : Between 0 x (length rows) = leaf_between 0 x rows e in omega (arith, b.high);
  waiting = λ x h. omega (arith, length_at rows x, all_missing (row rows x));
  ready = ready;
  behind = leaves_behind rows [] (leaves 0 rows) is_empty;
  rest = leaves 0 rows;
  goes_on = refl;
}
  where
    at : (x : ℕ) → x < length rows → times x (leaves 0 rows) ≡ cond (nat_eq (length (row rows x)) 0) 1 0
    at x h = let e : 0 + x ≡ x = omega arith in sym (ap (λ y. times y (leaves 0 rows)) e) ∙ leaf_times 0 x rows h

    ready : (x : ℕ) → x < length rows → times x (leaves 0 rows) ≡ cond (nat_eq (slice_index (map length rows) x) 0) 1 0
    ready x h = at x h ∙ ap (λ n. cond {A = ℕ} (nat_eq n 0) 1 0) (sym (length_at rows x))

    tested : (x : ℕ) (b : Bool) → nat_eq (length (row rows x)) 0 ≡ b → 0 < cond {A = ℕ} b 1 0 → length (row rows x) ≡ 0
    tested x true e h = same_number (length (row rows x)) 0 e
    tested x false e h = absurd (omega (arith, h))

    is_empty : (x : ℕ) → stands x (leaves 0 rows) ≡ true → length (row rows x) ≡ 0
    is_empty x e =
        let b : Between 0 x (length rows) = leaf_between 0 x rows e in
        tested x (nat_eq (length (row rows x)) 0) refl (omega (arith, times_if x (leaves 0 rows) e, at x (omega (arith, b.high))))
