-- What a search finds can be reached, and at its end that is all.
use Rattle.std.proofs.Common.{◌≡◌, ℕ, zero, suc, ◌+◌, ◌<◌, ◌≤◌, ◌≢◌, ◌↔◌, Bool, true, false, cond, nat_eq, List, [], ◌∷◌, ◌++◌, length, take, drop, get_or, set, replicate, slice_get, Some, None, IsTrue, refl, sym, ap, ◌∙◌, subst, arith, ◌⊎◌, inl, inr, append_assoc, append-nil, eq-eqb, get_or-set_other, get_or-set_same, length-set, length-append, length-take-le, take_all}
use Rattle.std.proofs.lemmas.Bool.{false≢true}
use Rattle.std.proofs.Math.Seq.{take-append_seam}
use Rattle.numbered_graph.specs.Graphs.{Rows, row, stands, times, IsGraph, Way, here, onwards}
use Rattle.numbered_graph.specs.Searching.{Searched, is_seen, found_one, found_all, IsSearch, Searches}
use Rattle.numbered_graph.proofs.Times.{first_stands, later_stands, same_number, counted, no_times, times_last, stands_append, stands_last, stands_cases, append_cases, at_most}
use Rattle.numbered_graph.proofs.Ways.{joined}
use Rattle.numbered_graph.proofs.Deeper.{stands_other}
use Rattle.numbered_graph.proofs.Peeling.{cut_at, cut_within, cut_stands, no_cut}

-- from one search to a later one that found these too
record Finds (n : ℕ) (s : Searched) (xs : List ℕ) (t : Searched) : Type 0 where
  is_search : IsSearch n t
  more : List ℕ
  goes_on : t.found ≡ s.found ++ more
  all : (y : ℕ) → stands y xs ≡ true → stands y t.found ≡ true
  only : (y : ℕ) → stands y t.found ≡ true → (stands y s.found ≡ true) ⊎ (stands y xs ≡ true)

only_one : (x y : ℕ) → stands y (x ∷ []) ≡ true → y ≡ x
only_one x y e = go (stands_cases y x [] e)
  where
    go : (y ≡ x) ⊎ (stands y [] ≡ true) → y ≡ x
    go (inl e) = e
    go (inr e) = absurd (false≢true e)

new_search : (n : ℕ) (s : Searched) (x : ℕ) → IsSearch n s → x < n → is_seen s x ≡ false → IsSearch n (record { found = s.found ++ x ∷ []; seen = set s.seen x true })
new_search n s x i h e = record {
  same_length = length-set s.seen x true ∙ i.same_length;
  within = λ y k. within y (append_cases y s.found (x ∷ []) k);
  once = λ y. once y (nat_eq y x) refl;
  seen_is = λ y. seen y (nat_eq y x) refl;
}
  where
    new : stands x s.found ≡ false
    new = sym (i.seen_is x) ∙ e

    within : (y : ℕ) → (stands y s.found ≡ true) ⊎ (stands y (x ∷ []) ≡ true) → y < n
    within y (inl k) = i.within y k
    within y (inr k) = omega (arith, only_one x y k, h)

    once : (y : ℕ) (b : Bool) → nat_eq y x ≡ b → times y (s.found ++ x ∷ []) ≤ 1
    once y true k = omega (arith, times_last y x s.found, counted k, ap (λ z. times z s.found) (same_number y x k), no_times x s.found new)
    once y false k = omega (arith, times_last y x s.found, counted k, i.once y)

    seen : (y : ℕ) (b : Bool) → nat_eq y x ≡ b → get_or (set s.seen x true) y false ≡ stands y (s.found ++ x ∷ [])
    seen y true k =
        let same : y ≡ x = same_number y x k in
        subst (λ z. get_or (set s.seen x true) z false ≡ stands z (s.found ++ x ∷ [])) (sym same)
        (get_or-set_same s.seen x true false (omega (arith, i.same_length, h)) ∙ sym (stands_last x s.found))
    seen y false k =
        let apart : y ≢ x = λ same. absurd (false≢true (sym k ∙ eq-eqb y x same)) in
        get_or-set_other s.seen x y true false apart ∙ i.seen_is y ∙ sym (stands_other y x s.found k)

finds_one : (n : ℕ) (s : Searched) (x : ℕ) → IsSearch n s → x < n → (b : Bool) → is_seen s x ≡ b → Finds n s (x ∷ []) (found_one s x)
finds_one n s x i h true e =
    subst (Finds n s (x ∷ [])) (sym (ap (λ b. cond b s (record { found = s.found ++ x ∷ []; seen = set s.seen x true })) e))
    (record {
      is_search = i;
      more = [];
      goes_on = sym (append-nil s.found);
      all = λ y k. ap (λ z. stands z s.found) (only_one x y k) ∙ sym (i.seen_is x) ∙ e;
      only = λ y k. inl k;
    })
finds_one n s x i h false e =
    subst (Finds n s (x ∷ [])) (sym (ap (λ b. cond b s (record { found = s.found ++ x ∷ []; seen = set s.seen x true })) e))
    (record {
      is_search = new_search n s x i h e;
      more = x ∷ [];
      goes_on = refl;
      all = λ y k. ap (λ z. stands z (s.found ++ x ∷ [])) (only_one x y k) ∙ stands_last x s.found;
      only = λ y k. append_cases y s.found (x ∷ []) k;
    })

finds_all : (n : ℕ) (s : Searched) (xs : List ℕ) → IsSearch n s → ((x : ℕ) → stands x xs ≡ true → x < n) → Finds n s xs (found_all s xs)
finds_all n s [] i below = record { is_search = i; more = []; goes_on = sym (append-nil s.found); all = λ y k. absurd (false≢true k); only = λ y k. inl k }
finds_all n s (x ∷ xs) i below =
    let one : Finds n s (x ∷ []) (found_one s x) = finds_one n s x i (below x (first_stands x xs)) (is_seen s x) refl in
    let rest : Finds n (found_one s x) xs (found_all (found_one s x) xs) = finds_all n (found_one s x) xs one.is_search (λ y k. below y (later_stands y x xs k)) in
    record {
      is_search = rest.is_search;
      more = one.more ++ rest.more;
      goes_on = rest.goes_on ∙ ap (λ l. l ++ rest.more) one.goes_on ∙ append_assoc s.found one.more rest.more;
      all = λ y k. all one rest y (stands_cases y x xs k);
      only = λ y k. only one y (rest.only y k);
    }
  where
    all : Finds n s (x ∷ []) (found_one s x) → Finds n (found_one s x) xs (found_all (found_one s x) xs) → (y : ℕ) → (y ≡ x) ⊎ (stands y xs ≡ true) → stands y (found_all (found_one s x) xs).found ≡ true
    all one rest y (inl k) = ap (stands y) rest.goes_on ∙ stands_append y (found_one s x).found rest.more (one.all y (ap (λ z. stands z (x ∷ [])) k ∙ first_stands x []))
    all one rest y (inr k) = rest.all y k

    first : (y : ℕ) → (stands y s.found ≡ true) ⊎ (stands y (x ∷ []) ≡ true) → (stands y s.found ≡ true) ⊎ (stands y (x ∷ xs) ≡ true)
    first y (inl k) = inl k
    first y (inr k) = inr (ap (λ z. stands z (x ∷ xs)) (only_one x y k) ∙ first_stands x xs)

    only : Finds n s (x ∷ []) (found_one s x) → (y : ℕ) → (stands y (found_one s x).found ≡ true) ⊎ (stands y xs ≡ true) → (stands y s.found ≡ true) ⊎ (stands y (x ∷ xs) ≡ true)
    only one y (inl k) = first y (one.only y k)
    only one y (inr k) = inr (later_stands y x xs k)

-- ---- the start

nothing_found : (n : ℕ) → IsSearch n (record { found = []; seen = replicate n false })
nothing_found n = record {
  same_length = many n;
  within = λ x e. absurd (false≢true e);
  once = λ x. omega arith;
  seen_is = λ x. unseen n x;
}
  where
    many : (n : ℕ) → length (replicate {A = Bool} n false) ≡ n
    many zero = refl
    many (suc n) = omega (arith, many n)

    unseen : (n x : ℕ) → get_or (replicate n false) x false ≡ false
    unseen zero x = refl
    unseen (suc n) zero = refl
    unseen (suc n) (suc x) = unseen n x

pub starts_search : (rows : Rows) (from : ℕ) (s : Searched) → from < length rows → s ≡ found_one (record { found = []; seen = replicate (length rows) false }) from → Searches rows from [] s
starts_search rows from s h e = subst (Searches rows from []) (sym e) (go (finds_one (length rows) (record { found = []; seen = replicate (length rows) false }) from (nothing_found (length rows)) h (is_seen (record { found = []; seen = replicate (length rows) false }) from) refl))
  where
    led_to : (x : ℕ) → (stands x [] ≡ true) ⊎ (stands x (from ∷ []) ≡ true) → Way rows from x
    led_to x (inl k) = absurd (false≢true k)
    led_to x (inr k) = subst (Way rows from) (sym (only_one from x k)) here

    go : Finds (length rows) (record { found = []; seen = replicate (length rows) false }) (from ∷ []) (found_one (record { found = []; seen = replicate (length rows) false }) from) → Searches rows from [] (found_one (record { found = []; seen = replicate (length rows) false }) from)
    go f = record {
      is_search = f.is_search;
      starts = f.all from (first_stands from []);
      led = λ x k. led_to x (f.only x k);
      closed = λ x y k link. absurd (false≢true k);
      rest = (found_one (record { found = []; seen = replicate (length rows) false }) from).found;
      goes_on = refl;
    }

-- ---- a step

pub record SearchAt (rows : Rows) (from : ℕ) (s : Searched) (n point : ℕ) : Type 0 where
  pub graph : IsGraph rows
  pub so_far : Searches rows from (take n s.found) s
  pub at : slice_get s.found n ≡ Some point

module _ (rows : Rows) (from : ℕ) (s : Searched) (n point : ℕ) (here_at : SearchAt rows from s n point) where
  pub search_within : point < length rows
  search_within = here_at.so_far.is_search.within point (cut_stands s.found n point here_at.at)

  pub search_goes_on : n < length rows
  search_goes_on = omega (arith, cut_within s.found n point here_at.at, at_most (length rows) s.found here_at.so_far.is_search.once here_at.so_far.is_search.within)

  found : Finds (length rows) s (row rows point) (found_all s (row rows point))
  found = finds_all (length rows) s (row rows point) here_at.so_far.is_search (here_at.graph.within point)

  further : (y : ℕ) → stands y s.found ≡ true → stands y (found_all s (row rows point)).found ≡ true
  further y e = ap (stands y) found.goes_on ∙ stands_append y s.found found.more e

  led_by : (y : ℕ) → (stands y s.found ≡ true) ⊎ (stands y (row rows point) ≡ true) → Way rows from y
  led_by y (inl e) = here_at.so_far.led y e
  led_by y (inr e) = joined rows (here_at.so_far.led point (cut_stands s.found n point here_at.at)) (onwards e here)

  closed_by : (x y : ℕ) → (stands x (take n s.found) ≡ true) ⊎ (stands x (point ∷ []) ≡ true) → stands y (row rows x) ≡ true → stands y (found_all s (row rows point)).found ≡ true
  closed_by x y (inl e) link = further y (here_at.so_far.closed x y e link)
  closed_by x y (inr e) link = found.all y (ap (λ z. stands y (row rows z)) (sym (only_one point x e)) ∙ link)

  all_of_it : (found_all s (row rows point)).found ≡ (take n s.found ++ point ∷ []) ++ (drop (n + 1) s.found ++ found.more)
  all_of_it =
      found.goes_on ∙ ap (λ l. l ++ found.more) (cut_at s.found n point here_at.at) ∙ append_assoc (take n s.found) (point ∷ drop (n + 1) s.found) found.more
      ∙ sym (append_assoc (take n s.found) (point ∷ []) (drop (n + 1) s.found ++ found.more))

  first_ones : take (n + 1) (found_all s (row rows point)).found ≡ take n s.found ++ point ∷ []
  first_ones =
      let long : length (take n s.found ++ point ∷ []) ≡ n + 1 = omega (arith, length-append (take n s.found) (point ∷ []), length-take-le n s.found (omega (arith, cut_within s.found n point here_at.at))) in
      ap (take (n + 1)) all_of_it ∙ ap (λ k. take k ((take n s.found ++ point ∷ []) ++ (drop (n + 1) s.found ++ found.more))) (sym long) ∙ take-append_seam (take n s.found ++ point ∷ []) (drop (n + 1) s.found ++ found.more)

  pub search_next : Searches rows from (take (n + 1) (found_all s (row rows point)).found) (found_all s (row rows point))
  search_next = subst (λ l. Searches rows from l (found_all s (row rows point))) (sym first_ones)
      (record {
        is_search = found.is_search;
        starts = further from here_at.so_far.starts;
        led = λ y e. led_by y (found.only y e);
        closed = λ x y e link. closed_by x y (append_cases x (take n s.found) (point ∷ []) e) link;
        rest = drop (n + 1) s.found ++ found.more;
        goes_on = all_of_it;
      })

-- ---- the end

pub search_ends : (rows : Rows) (from to : ℕ) (s : Searched) (n : ℕ) → Searches rows from (take n s.found) s → slice_get s.found n ≡ None → IsTrue (is_seen s to) ↔ Way rows from to
search_ends rows from to s n so_far e = (λ seen. so_far.led to (sym (so_far.is_search.seen_is to) ∙ seen), λ way. so_far.is_search.seen_is to ∙ reached from way so_far.starts)
  where
    all : take n s.found ≡ s.found
    all = take_all n s.found (no_cut s.found n e)

    reached : (x : ℕ) → Way rows x to → stands x s.found ≡ true → stands to s.found ≡ true
    reached x here k = k
    reached x (onwards {y = y} link way) k = reached y way (so_far.closed x y (ap (stands x) all ∙ k) link)
