-- Peeling a graph gives an order of the points that lead to no cycle.
use Rattle.std.proofs.Common.{◌≡◌, ℕ, zero, suc, ◌+◌, ◌-◌, ◌<◌, ◌≤◌, ◌≢◌, Bool, true, false, ◌&&◌, ◌||◌, cond, nat_eq, nat_lt, List, [], ◌∷◌, ◌++◌, length, take, drop, get_or, slice_index, refl, sym, ap, ◌∙◌, subst, arith, ◌⊎◌, inl, inr, append_assoc, get_or-set_other, get_or-set_same, length-set, length-append, length-take-le, take_all, slice_get, Some, None, lt-ltb, eq-eqb}
use Rattle.std.specs.List.{list_all}
use Rattle.std.proofs.lemmas.Bool.{false≢true, and_parts, and_from}
use Rattle.std.proofs.lemmas.Bool.Decides.{nat_tests}
use Rattle.std.proofs.Math.Seq.{take-append_seam}
use Rattle.numbered_graph.specs.Graphs.{Rows, row, stands, times, IsGraph, IsReverse, is_behind, IsOrder}
use Rattle.numbered_graph.specs.Peeling.{Peeled, released_one, released, can_release, missing, Peels}
use Rattle.numbered_graph.proofs.Times.{later_stands, same_number, itself, counted, no_times, none_stands, stands_if, times_if, times_append, times_last, stands_append, stands_cases, append_cases, nothing_missing, some_missing, one_more_done, at_most}
use Rattle.numbered_graph.proofs.Ways.{none_behind, always_onwards}

-- one more point stands behind all to which it has links
behind_last : (rows : Rows) (before xs : List ℕ) (x : ℕ) → is_behind rows before xs ≡ true → list_all (λ y. stands y (before ++ xs)) (row rows x) ≡ true → is_behind rows before (xs ++ x ∷ []) ≡ true
behind_last rows before [] x h e = and_from (list_all (λ y. stands y before) (row rows x)) true (subst (λ l. list_all (λ y. stands y l) (row rows x) ≡ true) (append_nothing before) e) refl
  where
    append_nothing : (l : List ℕ) → l ++ [] ≡ l
    append_nothing [] = refl
    append_nothing (y ∷ l) = ap (λ k. y ∷ k) (append_nothing l)
behind_last rows before (z ∷ xs) x h e =
    let parts : (list_all (λ y. stands y before) (row rows z) ≡ true) × (is_behind rows (before ++ z ∷ []) xs ≡ true) = and_parts (list_all (λ y. stands y before) (row rows z)) (is_behind rows (before ++ z ∷ []) xs) h in
    and_from (list_all (λ y. stands y before) (row rows z)) (is_behind rows (before ++ z ∷ []) (xs ++ x ∷ [])) parts.0
    (behind_last rows (before ++ z ∷ []) xs x parts.1 (subst (λ l. list_all (λ y. stands y l) (row rows x) ≡ true) (sym (append_assoc before (z ∷ []) xs)) e))

-- all stand in what goes on
stand_further : (xs done rest : List ℕ) → list_all (λ y. stands y done) xs ≡ true → list_all (λ y. stands y (done ++ rest)) xs ≡ true
stand_further [] done rest e = refl
stand_further (x ∷ xs) done rest e =
    let parts : (stands x done ≡ true) × (list_all (λ y. stands y done) xs ≡ true) = and_parts (stands x done) (list_all (λ y. stands y done) xs) e in
    and_from (stands x (done ++ rest)) (list_all (λ y. stands y (done ++ rest)) xs) (stands_append x done rest parts.0) (stand_further xs done rest parts.1)

-- ---- one link less

module _ (rows : Rows) (done : List ℕ) (x : ℕ) (xs : List ℕ) (p : Peeled) (peels : Peels rows done (x ∷ xs) p) (within : x < length rows) where
  at_least : 0 < slice_index p.waits x
  at_least = omega (arith, peels.waiting x within, counted (itself x))

  left : slice_index p.waits x - 1 ≡ missing done (row rows x) + times x xs
  left = omega (arith, peels.waiting x within, counted (itself x))

  same_wait : slice_index (released_one p x).waits x ≡ slice_index p.waits x - 1
  same_wait = get_or-set_same p.waits x (slice_index p.waits x - 1) 0 (omega (arith, peels.same_length, within))

  other_wait : (y : ℕ) → y ≢ x → slice_index (released_one p x).waits y ≡ slice_index p.waits y
  other_wait y apart = get_or-set_other p.waits x y (slice_index p.waits x - 1) 0 apart

  waits_so : (y : ℕ) → y < length rows → (b : Bool) → nat_eq y x ≡ b → slice_index (released_one p x).waits y ≡ missing done (row rows y) + times y xs
  waits_so y h true e = let at : y ≡ x = same_number y x e in ap (slice_index (released_one p x).waits) at ∙ same_wait ∙ left ∙ ap (λ z. missing done (row rows z) + times z xs) (sym at)
  waits_so y h false e =
      let apart : y ≢ x = λ at. absurd (false≢true (sym e ∙ eq-eqb y x at)) in
      omega (arith, other_wait y apart, peels.waiting y h, counted e)

  -- the order has the point as its last where it waits no longer
  times_other : (y : ℕ) (b : Bool) → nat_eq y x ≡ false → times y (cond b (p.order ++ x ∷ []) p.order) ≡ times y p.order
  times_other y true e = omega (arith, times_last y x p.order, counted e)
  times_other y false e = refl

  times_same : (b : Bool) → times x (cond b (p.order ++ x ∷ []) p.order) ≡ times x p.order + cond b 1 0
  times_same true = omega (arith, times_last x x p.order, counted (itself x))
  times_same false = omega arith

  not_yet : times x p.order ≡ 0
  not_yet = peels.ready x within ∙ zero_wait (slice_index p.waits x) at_least
    where
      zero_wait : (n : ℕ) → 0 < n → cond {A = ℕ} (nat_eq n 0) 1 0 ≡ 0
      zero_wait n h = grind (arith, nat_tests)

  ready_so : (y : ℕ) → y < length rows → (b : Bool) → nat_eq y x ≡ b → times y (released_one p x).order ≡ cond (nat_eq (slice_index (released_one p x).waits y) 0) 1 0
  ready_so y h true e =
      let at : y ≡ x = same_number y x e in
      subst (λ z. times z (released_one p x).order ≡ cond (nat_eq (slice_index (released_one p x).waits z) 0) 1 0) (sym at)
      (times_same (nat_eq (slice_index p.waits x - 1) 0) ∙ ap (λ n. n + cond {A = ℕ} (nat_eq (slice_index p.waits x - 1) 0) 1 0) not_yet
      ∙ zero_plus (cond {A = ℕ} (nat_eq (slice_index p.waits x - 1) 0) 1 0) ∙ ap (λ w. cond {A = ℕ} (nat_eq w 0) 1 0) (sym same_wait))
    where
      zero_plus : (n : ℕ) → 0 + n ≡ n
      zero_plus n = omega arith
  ready_so y h false e =
      let apart : y ≢ x = λ at. absurd (false≢true (sym e ∙ eq-eqb y x at)) in
      times_other y (nat_eq (slice_index p.waits x - 1) 0) e ∙ peels.ready y h ∙ ap (λ w. cond {A = ℕ} (nat_eq w 0) 1 0) (sym (other_wait y apart))

  behind_so : (b : Bool) → nat_eq (slice_index p.waits x - 1) 0 ≡ b → is_behind rows [] (cond b (p.order ++ x ∷ []) p.order) ≡ true
  behind_so false e = peels.behind
  behind_so true e =
      let none : missing done (row rows x) ≡ 0 = omega (arith, left, same_number (slice_index p.waits x - 1) 0 e) in
      behind_last rows [] p.order x peels.behind
      (subst (λ l. list_all (λ y. stands y l) (row rows x) ≡ true) (sym peels.goes_on) (stand_further (row rows x) done peels.rest (nothing_missing done (row rows x) none)))

  within_so : (y : ℕ) (b : Bool) → stands y (cond b (p.order ++ x ∷ []) p.order) ≡ true → y < length rows
  within_so y false e = peels.within y e
  within_so y true e = go (append_cases y p.order (x ∷ []) e)
    where
      last : (y ≡ x) ⊎ (stands y [] ≡ true) → y < length rows
      last (inl e) = omega (arith, e, within)
      last (inr e) = absurd (false≢true e)

      go : (stands y p.order ≡ true) ⊎ (stands y (x ∷ []) ≡ true) → y < length rows
      go (inl e) = peels.within y e
      go (inr e) = last (stands_cases y x [] e)

  rest_so : (b : Bool) → (rest : List ℕ) × (cond b (p.order ++ x ∷ []) p.order ≡ done ++ rest)
  rest_so true = (peels.rest ++ x ∷ [], ap (λ l. l ++ x ∷ []) peels.goes_on ∙ append_assoc done peels.rest (x ∷ []))
  rest_so false = (peels.rest, peels.goes_on)

  one_released : Peels rows done xs (released_one p x)
  one_released = record {
    same_length = length-set p.waits x (slice_index p.waits x - 1) ∙ peels.same_length;
    within = λ y e. within_so y (nat_eq (slice_index p.waits x - 1) 0) e;
    waiting = λ y h. waits_so y h (nat_eq y x) refl;
    ready = λ y h. ready_so y h (nat_eq y x) refl;
    behind = behind_so (nat_eq (slice_index p.waits x - 1) 0) refl;
    rest = (rest_so (nat_eq (slice_index p.waits x - 1) 0)).0;
    goes_on = (rest_so (nat_eq (slice_index p.waits x - 1) 0)).1;
  }

  can_one : (nat_lt x (length p.waits) && nat_lt 0 (slice_index p.waits x)) ≡ true
  can_one = and_from (nat_lt x (length p.waits)) (nat_lt 0 (slice_index p.waits x)) (lt-ltb x (length p.waits) (omega (arith, peels.same_length, within))) (lt-ltb 0 (slice_index p.waits x) at_least)

-- all of them
pub can_all : (rows : Rows) (done xs : List ℕ) (p : Peeled) → ((x : ℕ) → stands x xs ≡ true → x < length rows) → Peels rows done xs p → can_release p xs ≡ true
can_all rows done [] p below peels = refl
can_all rows done (x ∷ xs) p below peels =
    let first : x < length rows = below x (ap (λ b. b || stands x xs) (itself x)) in
    and_from (nat_lt x (length p.waits) && nat_lt 0 (slice_index p.waits x)) (can_release (released_one p x) xs) (can_one rows done x xs p peels first)
    (can_all rows done xs (released_one p x) (λ y e. below y (later_stands y x xs e)) (one_released rows done x xs p peels first))

pub all_released : (rows : Rows) (done xs : List ℕ) (p : Peeled) → ((x : ℕ) → stands x xs ≡ true → x < length rows) → Peels rows done xs p → Peels rows done [] (released p xs)
all_released rows done [] p below peels = peels
all_released rows done (x ∷ xs) p below peels =
    all_released rows done xs (released_one p x) (λ y e. below y (later_stands y x xs e)) (one_released rows done x xs p peels (below x (ap (λ b. b || stands x xs) (itself x))))

-- ---- the next point

once_in_order : (rows : Rows) (done xs : List ℕ) (p : Peeled) → Peels rows done xs p → (x : ℕ) → times x p.order ≤ 1
once_in_order rows done xs p peels x = go (stands x p.order) refl
  where
    bit : (b : Bool) → cond {A = ℕ} b 1 0 ≤ 1
    bit true = omega arith
    bit false = omega arith

    go : (b : Bool) → stands x p.order ≡ b → times x p.order ≤ 1
    go true e = subst (λ n. n ≤ 1) (sym (peels.ready x (peels.within x e))) (bit (nat_eq (slice_index p.waits x) 0))
    go false e = omega (arith, no_times x p.order e)

pub no_more_than : (rows : Rows) (done xs : List ℕ) (p : Peeled) → Peels rows done xs p → length p.order ≤ length rows
no_more_than rows done xs p peels = at_most (length rows) p.order (once_in_order rows done xs p peels) peels.within

-- the callers of a point are points
pub callers_within : (rows back : Rows) → IsReverse rows back → (y x : ℕ) → stands x (row back y) ≡ true → x < length rows
callers_within rows back reverse y x e = go (nat_lt x (length rows)) refl
  where
    go : (b : Bool) → nat_lt x (length rows) ≡ b → x < length rows
    go true h = grind (arith, nat_tests)
    go false h =
        let beyond : length rows ≤ x = grind (arith, nat_tests) in
        absurd (omega (arith, times_if x (row back y) e, reverse.turned x y, ap (times y) (nothing_beyond rows x beyond)))
      where
        nothing_beyond : (rs : Rows) (i : ℕ) → length rs ≤ i → row rs i ≡ []
        nothing_beyond [] i h = refl
        nothing_beyond (r ∷ rs) zero h = absurd (omega (arith, h))
        nothing_beyond (r ∷ rs) (suc i) h = nothing_beyond rs i (omega (arith, h))

pub next_point : (rows back : Rows) (done : List ℕ) (y : ℕ) (rest : List ℕ) (p : Peeled) → IsReverse rows back → Peels rows done [] p → p.order ≡ done ++ (y ∷ rest) → Peels rows (done ++ y ∷ []) (row back y) p
next_point rows back done y rest p reverse peels at =
    let new : stands y done ≡ false = none_stands y done (omega (arith, once_in_order rows done [] p peels y, ap (times y) at, times_append y done (y ∷ rest), counted (itself y))) in
    record {
      same_length = peels.same_length;
      within = peels.within;
      waiting = λ x h. omega (arith, peels.waiting x h, one_more_done done y (row rows x) new, reverse.turned x y);
      ready = peels.ready;
      behind = peels.behind;
      rest = rest;
      goes_on = at ∙ sym (append_assoc done (y ∷ []) rest);
    }

abbrev Left : Rows → Peeled → ℕ → Type 0
Left rows p x = (x < length rows) × (stands x p.order ≡ false)

-- all points have been gone through
pub gone_through : (rows : Rows) (p : Peeled) → IsGraph rows → Peels rows p.order [] p → IsOrder rows p.order
gone_through rows p graph peels = record {
  once = once_in_order rows p.order [] p peels;
  within = peels.within;
  behind = peels.behind;
  left_over = λ x h e. always_onwards rows (length rows) (Left rows p) (λ y l. l.0) (λ y l. onwards_from y l.0 l.1) x (h, e);
  none_on_cycle = none_behind rows p.order peels.behind;
}
  where
    waits_on : (n : ℕ) → cond {A = ℕ} (nat_eq n 0) 1 0 ≡ 0 → 0 < n
    waits_on n e = grind (arith, nat_tests)

    onwards_from : (x : ℕ) → x < length rows → stands x p.order ≡ false → (y : ℕ) × (stands y (row rows x) ≡ true) × ((y < length rows) × (stands y p.order ≡ false))
    onwards_from x h e =
        let waits : 0 < slice_index p.waits x = waits_on (slice_index p.waits x) (sym (peels.ready x h) ∙ no_times x p.order e) in
        let r : (y : ℕ) × (stands y (row rows x) ≡ true) × (stands y p.order ≡ false) = some_missing p.order (row rows x) (omega (arith, waits, peels.waiting x h)) in
        (r.0, r.1, (graph.within x r.0 r.1, r.2))

-- ---- a step

pub cut_at : (xs : List ℕ) (i x : ℕ) → slice_get xs i ≡ Some x → xs ≡ take i xs ++ (x ∷ drop (i + 1) xs)
cut_at [] i x e = cc
cut_at (y ∷ ys) zero x e = let at : y ≡ x = cc in ap (λ z. z ∷ ys) at
cut_at (y ∷ ys) (suc i) x e =
    let next : suc (i + 1) ≡ suc i + 1 = omega arith in
    ap (λ l. y ∷ l) (cut_at ys i x e) ∙ ap (λ k. take (suc i) (y ∷ ys) ++ (x ∷ drop k (y ∷ ys))) next

pub cut_within : (xs : List ℕ) (i x : ℕ) → slice_get xs i ≡ Some x → i < length xs
cut_within [] i x e = cc
cut_within (y ∷ ys) zero x e = omega arith
cut_within (y ∷ ys) (suc i) x e = omega (arith, cut_within ys i x e)

pub cut_stands : (xs : List ℕ) (i x : ℕ) → slice_get xs i ≡ Some x → stands x xs ≡ true
cut_stands xs i x e = stands_if x xs (omega (arith, ap (times x) (cut_at xs i x e), times_append x (take i xs) (x ∷ drop (i + 1) xs), counted (itself x)))

pub no_cut : (xs : List ℕ) (i : ℕ) → slice_get xs i ≡ None → length xs ≤ i
no_cut [] i e = omega arith
no_cut (y ∷ ys) zero e = cc
no_cut (y ∷ ys) (suc i) e = omega (arith, no_cut ys i e)

-- the point at n is the next
pub record Next (rows back : Rows) (p : Peeled) (n point : ℕ) : Type 0 where
  pub reverse : IsReverse rows back
  pub so_far : Peels rows (take n p.order) [] p
  pub at : slice_get p.order n ≡ Some point

module _ (rows back : Rows) (p : Peeled) (n point : ℕ) (next : Next rows back p n point) where
  on_point : Peels rows (take n p.order ++ point ∷ []) (row back point) p
  on_point = next_point rows back (take n p.order) point (drop (n + 1) p.order) p next.reverse next.so_far (cut_at p.order n point next.at)

  pub point_within : point < length rows
  point_within = next.so_far.within point (cut_stands p.order n point next.at)

  pub next_within : n < length rows
  next_within = omega (arith, cut_within p.order n point next.at, no_more_than rows (take n p.order) [] p next.so_far)

  pub can_next : can_release p (row back point) ≡ true
  can_next = can_all rows (take n p.order ++ point ∷ []) (row back point) p (callers_within rows back next.reverse point) on_point

  after : Peels rows (take n p.order ++ point ∷ []) [] (released p (row back point))
  after = all_released rows (take n p.order ++ point ∷ []) (row back point) p (callers_within rows back next.reverse point) on_point

  pub after_next : Peels rows (take (n + 1) (released p (row back point)).order) [] (released p (row back point))
  after_next = subst (λ l. Peels rows l [] (released p (row back point))) (sym first) after
    where
      long : length (take n p.order ++ point ∷ []) ≡ n + 1
      long = omega (arith, length-append (take n p.order) (point ∷ []), length-take-le n p.order (omega (arith, cut_within p.order n point next.at)))

      first : take (n + 1) (released p (row back point)).order ≡ take n p.order ++ point ∷ []
      first = ap (take (n + 1)) after.goes_on ∙ ap (λ k. take k ((take n p.order ++ point ∷ []) ++ after.rest)) (sym long) ∙ take-append_seam (take n p.order ++ point ∷ []) after.rest

-- nothing is left
pub all_through : (rows : Rows) (p : Peeled) (n : ℕ) → IsGraph rows → Peels rows (take n p.order) [] p → slice_get p.order n ≡ None → IsOrder rows p.order
all_through rows p n graph peels e =
    gone_through rows p graph (subst (λ l. Peels rows l [] p) (take_all n p.order (no_cut p.order n e)) peels)

-- what is read at an index doesn't depend on what would be read past the end
pub row_read : (rows : Rows) (i : ℕ) (r : List ℕ) → i < length rows → r ≡ get_or rows i r → r ≡ row rows i
row_read [] i r h e = absurd (omega (arith, h))
row_read (q ∷ rows) zero r h e = e
row_read (q ∷ rows) (suc i) r h e = row_read rows i r (omega (arith, h)) e
