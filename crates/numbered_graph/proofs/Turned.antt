-- What each row has once links are turned.
use Rattle.std.proofs.Common.{◌≡◌, ℕ, zero, suc, ◌+◌, ◌-◌, ◌<◌, ◌≤◌, ◌≢◌, Bool, true, false, ◌||◌, cond, nat_eq, nat_le, List, [], ◌∷◌, ◌++◌, length, get_or, replicate, refl, sym, ap, ◌∙◌, subst, arith, eq-eqb, get_or-set_other, get_or-set_same, length-set}
use Rattle.std.proofs.lemmas.Bool.{false≢true}
use Rattle.std.proofs.lemmas.Bool.Decides.{nat_tests}
use Rattle.numbered_graph.specs.Graphs.{Rows, row, stands, times, IsGraph, IsReverse}
use Rattle.numbered_graph.specs.Turning.{with_link, with_links, all_links}
use Rattle.numbered_graph.proofs.Times.{later_stands, same_number, itself, times_last, stands_if, times_if}

-- one of a list stands in it
pub stands_at : (xs : List ℕ) (i d : ℕ) → i < length xs → stands (get_or xs i d) xs ≡ true
stands_at [] i d h = absurd (omega (arith, h))
stands_at (x ∷ xs) zero d h = ap (λ b. b || stands x xs) (itself x)
stands_at (x ∷ xs) (suc i) d h = stands_if (get_or xs i d) (x ∷ xs) (omega (arith, times_if (get_or xs i d) xs (stands_at xs i d (omega (arith, h)))))

-- ---- one link

module _ (from : ℕ) (back : Rows) (to : ℕ) (within : to < length back) where
  same_row : row (with_link from back to) to ≡ row back to ++ from ∷ []
  same_row = get_or-set_same back to (row back to ++ from ∷ []) [] within

  other_row : (y : ℕ) → y ≢ to → row (with_link from back to) y ≡ row back y
  other_row y apart = get_or-set_other back to y (row back to ++ from ∷ []) [] apart

  same_point : (x : ℕ) (b : Bool) → nat_eq x from ≡ b → times x (row (with_link from back to) to) ≡ times x (row back to) + cond {A = ℕ} b 1 0
  same_point x b e = ap (times x) same_row ∙ times_last x from (row back to) ∙ ap (λ c. times x (row back to) + cond {A = ℕ} c 1 0) e

  one_link : (x y : ℕ) (b c : Bool) → nat_eq x from ≡ b → nat_eq y to ≡ c → times x (row (with_link from back to) y) ≡ times x (row back y) + cond {A = ℕ} b (cond c 1 0) 0
  one_link x y true true e h = let at : y ≡ to = same_number y to h in subst (λ z. times x (row (with_link from back to) z) ≡ times x (row back z) + 1) (sym at) (same_point x true e)
  one_link x y false true e h = let at : y ≡ to = same_number y to h in subst (λ z. times x (row (with_link from back to) z) ≡ times x (row back z) + 0) (sym at) (same_point x false e)
  one_link x y true false e h = let apart : y ≢ to = λ at. absurd (false≢true (sym h ∙ eq-eqb y to at)) in omega (arith, ap (times x) (other_row y apart))
  one_link x y false false e h = let apart : y ≢ to = λ at. absurd (false≢true (sym h ∙ eq-eqb y to at)) in omega (arith, ap (times x) (other_row y apart))

-- ---- the links of a point

pub links_length : (from : ℕ) (back : Rows) (xs : List ℕ) → length (with_links from back xs) ≡ length back
links_length from back [] = refl
links_length from back (to ∷ xs) = links_length from (with_link from back to) xs ∙ length-set back to (row back to ++ from ∷ [])

links_times : (from : ℕ) (back : Rows) (xs : List ℕ) → ((y : ℕ) → stands y xs ≡ true → y < length back) → (x y : ℕ) (b : Bool) → nat_eq x from ≡ b
    → times x (row (with_links from back xs) y) ≡ times x (row back y) + cond {A = ℕ} b (times y xs) 0
links_times from back [] below x y b e = go b
  where
    go : (b : Bool) → times x (row back y) ≡ times x (row back y) + cond {A = ℕ} b 0 0
    go true = omega arith
    go false = omega arith
links_times from back (to ∷ xs) below x y b e =
    let within : to < length back = below to (ap (λ b. b || stands to xs) (itself to)) in
    links_times from (with_link from back to) xs (λ z h. omega (arith, below z (later_stands z to xs h), length-set back to (row back to ++ from ∷ []))) x y b e
    ∙ ap (λ n. n + cond {A = ℕ} b (times y xs) 0) (one_link from back to within x y b (nat_eq y to) e refl)
    ∙ regroup b (times x (row back y)) (cond (nat_eq y to) 1 0) (times y xs)
  where
    regroup : (b : Bool) (p q r : ℕ) → p + cond {A = ℕ} b q 0 + cond {A = ℕ} b r 0 ≡ p + cond {A = ℕ} b (q + r) 0
    regroup true p q r = omega arith
    regroup false p q r = omega arith

-- ---- the links of all points

all_length : (from : ℕ) (back rs : Rows) → length (all_links from back rs) ≡ length back
all_length from back [] = refl
all_length from back (r ∷ rs) = all_length (from + 1) (with_links from back r) rs ∙ links_length from back r

-- the rows of points from a number on
given : ℕ → Rows → ℕ → List ℕ
given from rs x = cond (nat_le from x) (row rs (x - from)) []

given_none : (from x y : ℕ) → times y (given from [] x) ≡ 0
unfolding given
given_none from x y = go (nat_le from x)
  where
    go : (b : Bool) → times y (cond b (row [] (x - from)) []) ≡ 0
    go true = refl
    go false = refl

given_more : (from x y : ℕ) (r : List ℕ) (rs : Rows) (b : Bool) → nat_eq x from ≡ b → cond {A = ℕ} b (times y r) 0 + times y (given (from + 1) rs x) ≡ times y (given from (r ∷ rs) x)
unfolding given
given_more from x y r rs true e =
    let at : x ≡ from = same_number x from e in
    let not_yet : nat_le (from + 1) x ≡ false = grind (arith, nat_tests) in
    let now : nat_le from x ≡ true = grind (arith, nat_tests) in
    let first : x - from ≡ 0 = omega (arith, at) in
    plus_none (times y r) (times y (cond (nat_le (from + 1) x) (row rs (x - (from + 1))) [])) (ap (λ c. times y (cond c (row rs (x - (from + 1))) [])) not_yet)
    ∙ sym (ap (λ c. times y (cond c (row (r ∷ rs) (x - from)) [])) now ∙ ap (λ i. times y (row (r ∷ rs) i)) first)
  where
    plus_none : (p q : ℕ) → q ≡ 0 → p + q ≡ p
    plus_none p q e = omega (arith, e)
given_more from x y r rs false e = go (nat_le (from + 1) x) refl
  where
    zero_plus : (n : ℕ) → 0 + n ≡ n
    zero_plus n = omega arith

    go : (c : Bool) → nat_le (from + 1) x ≡ c → 0 + times y (cond (nat_le (from + 1) x) (row rs (x - (from + 1))) []) ≡ times y (cond (nat_le from x) (row (r ∷ rs) (x - from)) [])
    go true h =
        let now : nat_le from x ≡ true = grind (arith, nat_tests) in
        let low : from + 1 ≤ x = grind (arith, nat_tests) in
        let next : x - from ≡ suc (x - (from + 1)) = omega (arith, low) in
        zero_plus (times y (cond (nat_le (from + 1) x) (row rs (x - (from + 1))) []))
        ∙ ap (λ c. times y (cond c (row rs (x - (from + 1))) [])) h
        ∙ sym (ap (λ c. times y (cond c (row (r ∷ rs) (x - from)) [])) now ∙ ap (λ i. times y (row (r ∷ rs) i)) next)
    go false h =
        let not_now : nat_le from x ≡ false = grind (arith, nat_tests) in
        zero_plus (times y (cond (nat_le (from + 1) x) (row rs (x - (from + 1))) []))
        ∙ ap (λ c. times y (cond c (row rs (x - (from + 1))) [])) h
        ∙ sym (ap (λ c. times y (cond c (row (r ∷ rs) (x - from)) [])) not_now)

all_times : (from : ℕ) (back rs : Rows) → ((i y : ℕ) → stands y (row rs i) ≡ true → y < length back) → (x y : ℕ) → times x (row (all_links from back rs) y) ≡ times x (row back y) + times y (given from rs x)
all_times from back [] below x y = omega (arith, given_none from x y)
all_times from back (r ∷ rs) below x y =
    omega (
      arith,
      all_times (from + 1) (with_links from back r) rs (λ i z h. omega (arith, below (suc i) z h, links_length from back r)) x y,
      links_times from back r (below 0) x y (nat_eq x from) refl,
      given_more from x y r rs (nat_eq x from) refl,
    )

nothing_in : (n y x : ℕ) → times x (row (replicate n []) y) ≡ 0
nothing_in zero y x = refl
nothing_in (suc n) zero x = refl
nothing_in (suc n) (suc y) x = nothing_in n y x

many : (n : ℕ) → length (replicate {A = List ℕ} n []) ≡ n
many zero = refl
many (suc n) = omega (arith, many n)

pub all_turned : (rows : Rows) → IsGraph rows → IsReverse rows (all_links 0 (replicate (length rows) []) rows)
unfolding given
all_turned rows graph = record {
  same_length = all_length 0 (replicate (length rows) []) rows ∙ many (length rows);
  turned = λ x y.
      let at : x - 0 ≡ x = omega arith in
      let now : nat_le 0 x ≡ true = grind (arith, nat_tests) in
      let is : given 0 rows x ≡ row rows x = ap (λ c. cond c (row rows (x - 0)) []) now ∙ ap (row rows) at in
      omega (arith, all_times 0 (replicate (length rows) []) rows (λ i z h. omega (arith, graph.within i z h, many (length rows))) x y, nothing_in (length rows) y x, ap (times y) is);
}
