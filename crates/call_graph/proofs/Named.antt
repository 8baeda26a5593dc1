-- The graph of numbers and the links of names are one.
use Rattle.std.proofs.Common.{◌≡◌, ℕ, zero, suc, ◌<◌, Bool, true, false, ◌&&◌, ◌||◌, cond, nat_eq, List, [], ◌∷◌, ◌++◌, map, length, get_or, refl, sym, ap, ◌∙◌, subst, arith, ◌⊎◌, inl, inr, IsTrue}
use Rattle.std.specs.List.{list_any}
use Rattle.std.specs.Str.{bytes_eq}
use Rattle.std.proofs.lemmas.Bool.{false≢true, and_parts, and_from}
use Rattle.std.proofs.lemmas.Slice.Eq.{bytes_eq-Decides}
use Rattle.claw_meaning.specs.Syntax.{Text}
use Rattle.numbered_graph.specs.Graphs.{row, stands, with_number, firsts_after, each_once, Way, here, onwards, LeadsToCycle, has_chain, IsGraph}
use Rattle.numbered_graph.proofs.Times.{itself, stands_cases, stands_append, stands_last, append_cases}
use Rattle.sound_programs.specs.CallFaults.{link_of}
use Rattle.sound_programs.specs.Links.{leads_within, leads, is_on_cycle, begins_chain, leads_to_cycle, Reaches}
use Rattle.sound_programs.proofs.Chains.{reached_within}
use Rattle.call_graph.specs.declared.reference.Reference.{Reference}
use Rattle.call_graph.specs.Referring.{name_at, numbers, as_referral, listed, callees_of, NamesDiffer, AreWithin}
use Rattle.call_graph.proofs.Lists.{map_append}

pub same_bool : (a b : Bool) → (a ≡ true → b ≡ true) → (b ≡ true → a ≡ true) → a ≡ b
same_bool true b f g = sym (f refl)
same_bool false true f g = g refl
same_bool false false f g = refl

or_cases : (a b : Bool) → (a || b) ≡ true → (a ≡ true) ⊎ (b ≡ true)
or_cases true b e = inl refl
or_cases false b e = inr e

or_left : (a b : Bool) → a ≡ true → (a || b) ≡ true
or_left true b e = refl
or_left false b e = absurd (false≢true e)

or_right : (a b : Bool) → b ≡ true → (a || b) ≡ true
or_right true b e = refl
or_right false b e = e

any_cases : {A : Type 0} (test : A → Bool) (xs ys : List A) → list_any test (xs ++ ys) ≡ true → (list_any test xs ≡ true) ⊎ (list_any test ys ≡ true)
any_cases test [] ys e = inr e
any_cases test (x ∷ xs) ys e = first (or_cases (test x) (list_any test (xs ++ ys)) e) (any_cases test xs ys)
  where
    later : (list_any test xs ≡ true) ⊎ (list_any test ys ≡ true) → (list_any test (x ∷ xs) ≡ true) ⊎ (list_any test ys ≡ true)
    later (inl e) = inl (or_right (test x) (list_any test xs) e)
    later (inr e) = inr e

    first : (test x ≡ true) ⊎ (list_any test (xs ++ ys) ≡ true) → (list_any test (xs ++ ys) ≡ true → (list_any test xs ≡ true) ⊎ (list_any test ys ≡ true)) → (list_any test (x ∷ xs) ≡ true) ⊎ (list_any test ys ≡ true)
    first (inl e) rest = inl (or_left (test x) (list_any test xs) e)
    first (inr e) rest = later (rest e)

any_front : {A : Type 0} (test : A → Bool) (xs ys : List A) → list_any test xs ≡ true → list_any test (xs ++ ys) ≡ true
any_front test [] ys e = absurd (false≢true e)
any_front test (x ∷ xs) ys e = first (or_cases (test x) (list_any test xs) e) (any_front test xs ys)
  where
    first : (test x ≡ true) ⊎ (list_any test xs ≡ true) → (list_any test xs ≡ true → list_any test (xs ++ ys) ≡ true) → list_any test (x ∷ (xs ++ ys)) ≡ true
    first (inl e) rest = or_left (test x) (list_any test (xs ++ ys)) e
    first (inr e) rest = or_right (test x) (list_any test (xs ++ ys)) (rest e)

any_back : {A : Type 0} (test : A → Bool) (xs ys : List A) → list_any test ys ≡ true → list_any test (xs ++ ys) ≡ true
any_back test [] ys e = e
any_back test (x ∷ xs) ys e = or_right (test x) (list_any test (xs ++ ys)) (any_back test xs ys e)

-- one that passes
record Passing (test : ℕ → Bool) (xs : List ℕ) : Type 0 where
  one : ℕ
  there : stands one xs ≡ true
  passes : test one ≡ true

passing : (test : ℕ → Bool) (xs : List ℕ) → list_any test xs ≡ true → Passing test xs
passing test [] e = absurd (false≢true e)
passing test (x ∷ xs) e = go (or_cases (test x) (list_any test xs) e) (passing test xs)
  where
    later : Passing test xs → Passing test (x ∷ xs)
    later p = record { one = p.one; there = or_right (nat_eq p.one x) (stands p.one xs) p.there; passes = p.passes }

    go : (test x ≡ true) ⊎ (list_any test xs ≡ true) → (list_any test xs ≡ true → Passing test xs) → Passing test (x ∷ xs)
    go (inl e) rest = record { one = x; there = or_left (nat_eq x x) (stands x xs) (itself x); passes = e }
    go (inr e) rest = later (rest e)

passed : (test : ℕ → Bool) (xs : List ℕ) (x : ℕ) → stands x xs ≡ true → test x ≡ true → list_any test xs ≡ true
passed test [] x there e = absurd (false≢true there)
passed test (y ∷ ys) x there e = go (stands_cases x y ys there) (λ k. passed test ys x k e)
  where
    go : (x ≡ y) ⊎ (stands x ys ≡ true) → (stands x ys ≡ true → list_any test ys ≡ true) → list_any test (y ∷ ys) ≡ true
    go (inl same) rest = or_left (test y) (list_any test ys) (ap test (sym same) ∙ e)
    go (inr k) rest = or_right (test y) (list_any test ys) (rest k)

-- ---- each number once

kept_before : (x : ℕ) (before xs : List ℕ) → stands x before ≡ true → stands x (firsts_after before xs) ≡ true
kept_before x before [] e = e
kept_before x before (y ∷ ys) e = kept_before x (with_number before y) ys (go (stands y before))
  where
    go : (b : Bool) → stands x (cond b before (before ++ y ∷ [])) ≡ true
    go true = e
    go false = stands_append x before (y ∷ []) e

now_there : (y : ℕ) (before : List ℕ) (b : Bool) → stands y before ≡ b → stands y (cond b before (before ++ y ∷ [])) ≡ true
now_there y before true e = e
now_there y before false e = stands_last y before

kept_after : (x : ℕ) (before xs : List ℕ) → stands x xs ≡ true → stands x (firsts_after before xs) ≡ true
kept_after x before [] e = absurd (false≢true e)
kept_after x before (y ∷ ys) e = go (stands_cases x y ys e) (kept_after x (with_number before y) ys)
  where
    go : (x ≡ y) ⊎ (stands x ys ≡ true) → (stands x ys ≡ true → stands x (firsts_after (with_number before y) ys) ≡ true) → stands x (firsts_after (with_number before y) ys) ≡ true
    go (inl same) rest = kept_before x (with_number before y) ys (ap (λ z. stands z (with_number before y)) same ∙ now_there y before (stands y before) refl)
    go (inr k) rest = rest k

only_these : (x : ℕ) (before xs : List ℕ) → stands x (firsts_after before xs) ≡ true → (stands x before ≡ true) ⊎ (stands x xs ≡ true)
only_these x before [] e = inl e
only_these x before (y ∷ ys) e = go (only_these x (with_number before y) ys e)
  where
    last : (x ≡ y) ⊎ (stands x [] ≡ true) → stands x (y ∷ ys) ≡ true
    last (inl same) = or_left (nat_eq x y) (stands x ys) (ap (λ z. nat_eq z y) same ∙ itself y)
    last (inr k) = absurd (false≢true k)

    new : (stands x before ≡ true) ⊎ (stands x (y ∷ []) ≡ true) → (stands x before ≡ true) ⊎ (stands x (y ∷ ys) ≡ true)
    new (inl k) = inl k
    new (inr k) = inr (last (stands_cases x y [] k))

    first : (b : Bool) → stands x (cond b before (before ++ y ∷ [])) ≡ true → (stands x before ≡ true) ⊎ (stands x (y ∷ ys) ≡ true)
    first true k = inl k
    first false k = new (append_cases x before (y ∷ []) k)

    go : (stands x (with_number before y) ≡ true) ⊎ (stands x ys ≡ true) → (stands x before ≡ true) ⊎ (stands x (y ∷ ys) ≡ true)
    go (inl k) = first (stands y before) k
    go (inr k) = inr (or_right (nat_eq x y) (stands x ys) k)

pub once_stands : (x : ℕ) (xs : List ℕ) → stands x (each_once xs) ≡ stands x xs
once_stands x xs = same_bool (stands x (each_once xs)) (stands x xs) (λ e. go (only_these x [] xs e)) (kept_after x [] xs)
  where
    go : (stands x [] ≡ true) ⊎ (stands x xs ≡ true) → stands x xs ≡ true
    go (inl e) = absurd (false≢true e)
    go (inr e) = e

pub row_of : (rows : List (List Reference)) (i : ℕ) → row (callees_of rows) i ≡ each_once (numbers (get_or rows i []))
row_of [] i = refl
row_of (r ∷ rs) zero = refl
row_of (r ∷ rs) (suc i) = row_of rs i

-- ---- the links

module _ (names : List Text) where
  -- of one unit
  from_one : (test : Text × Text → Bool) (from : Text) (refs : List Reference) → list_any test (map link_of (map (as_referral names from) refs)) ≡ list_any (λ j. test (from, name_at names j)) (numbers refs)
  from_one test from [] = refl
  from_one test from (r ∷ rs) = ap (λ b. test (from, name_at names r.unit) || b) (from_one test from rs)

  -- a link that passes a test
  record Found_link (test : Text × Text → Bool) (ns : List Text) (rows : List (List Reference)) : Type 0 where
    from : ℕ
    to : ℕ
    within : from < length ns
    there : stands to (numbers (get_or rows from [])) ≡ true
    passes : test (name_at ns from, name_at names to) ≡ true

  found_link : (test : Text × Text → Bool) (ns : List Text) (rows : List (List Reference)) → list_any test (map link_of (listed names ns rows)) ≡ true → Found_link test ns rows
  found_link test [] rows e = absurd (false≢true e)
  found_link test (n ∷ ns) [] e = absurd (false≢true e)
  found_link test (n ∷ ns) (r ∷ rs) e =
      go (any_cases test (map link_of (map (as_referral names n) r)) (map link_of (listed names ns rs)) (ap (list_any test) (sym (map_append link_of (map (as_referral names n) r) (listed names ns rs))) ∙ e)) (found_link test ns rs)
    where
      first : Passing (λ j. test (n, name_at names j)) (numbers r) → Found_link test (n ∷ ns) (r ∷ rs)
      first p = record { from = 0; to = p.one; within = omega arith; there = p.there; passes = p.passes }

      later : Found_link test ns rs → Found_link test (n ∷ ns) (r ∷ rs)
      later f = record { from = suc f.from; to = f.to; within = omega (arith, f.within); there = f.there; passes = f.passes }

      go : (list_any test (map link_of (map (as_referral names n) r)) ≡ true) ⊎ (list_any test (map link_of (listed names ns rs)) ≡ true) → (list_any test (map link_of (listed names ns rs)) ≡ true → Found_link test ns rs) → Found_link test (n ∷ ns) (r ∷ rs)
      go (inl k) rest = first (passing (λ j. test (n, name_at names j)) (numbers r) (sym (from_one test n r) ∙ k))
      go (inr k) rest = later (rest k)

  pub link_passes : (test : Text × Text → Bool) (ns : List Text) (rows : List (List Reference)) (i j : ℕ) → i < length ns → stands j (numbers (get_or rows i [])) ≡ true → test (name_at ns i, name_at names j) ≡ true
      → list_any test (map link_of (listed names ns rows)) ≡ true
  link_passes test [] rows i j h there e = absurd (omega (arith, h))
  link_passes test (n ∷ ns) [] i j h there e = absurd (false≢true there)
  link_passes test (n ∷ ns) (r ∷ rs) zero j h there e =
      ap (list_any test) (map_append link_of (map (as_referral names n) r) (listed names ns rs))
      ∙ any_front test (map link_of (map (as_referral names n) r)) (map link_of (listed names ns rs)) (from_one test n r ∙ passed (λ k. test (n, name_at names k)) (numbers r) j there e)
  link_passes test (n ∷ ns) (r ∷ rs) (suc i) j h there e =
      ap (list_any test) (map_append link_of (map (as_referral names n) r) (listed names ns rs))
      ∙ any_back test (map link_of (map (as_referral names n) r)) (map link_of (listed names ns rs)) (link_passes test ns rs i j (omega (arith, h)) there e)

-- ---- ways, cycles and chains

module _ (names : List Text) (rows : List (List Reference)) (differ : NamesDiffer names) (are_within : AreWithin (length names) rows) where
  itself_named : (x : Text) → bytes_eq x x ≡ true
  itself_named x = (bytes_eq-Decides x x).1 refl

  -- a link of the graph
  pub linked : (i j : ℕ) → stands j (row (callees_of rows) i) ≡ stands j (numbers (get_or rows i []))
  linked i j = ap (stands j) (row_of rows i) ∙ once_stands j (numbers (get_or rows i []))

  pub is_graph : IsGraph (callees_of rows)
  is_graph = record { within = λ x y e. subst (λ n. y < n) (sym long) (are_within.within x y (sym (linked x y) ∙ e)) }
    where
      length_map : (rs : List (List Reference)) → length (callees_of rs) ≡ length rs
      length_map [] = refl
      length_map (r ∷ rs) = omega (arith, length_map rs)

      long : length (callees_of rows) ≡ length names
      long = length_map rows ∙ are_within.same_length

  pub in_names : (i j : ℕ) → stands j (row (callees_of rows) i) ≡ true → j < length names
  in_names i j e = are_within.within i j (sym (linked i j) ∙ e)

  -- a link from the name of a unit is one of its links
  record From (i : ℕ) (test : ℕ → Bool) : Type 0 where
    to : ℕ
    link : stands to (row (callees_of rows) i) ≡ true
    passes : test to ≡ true

  from_name : (i : ℕ) → i < length names → (test : Text → Bool) → list_any (λ link. bytes_eq link.0 (name_at names i) && test link.1) (map link_of (listed names names rows)) ≡ true → From i (λ j. test (name_at names j))
  from_name i h test e =
      let f = found_link names (λ link. bytes_eq link.0 (name_at names i) && test link.1) names rows e in
      let parts : (bytes_eq (name_at names f.from) (name_at names i) ≡ true) × (test (name_at names f.to) ≡ true) = and_parts (bytes_eq (name_at names f.from) (name_at names i)) (test (name_at names f.to)) f.passes in
      let same : f.from ≡ i = differ.differ f.from i f.within h parts.0 in
      record { to = f.to; link = linked i f.to ∙ ap (λ k. stands f.to (numbers (get_or rows k []))) (sym same) ∙ f.there; passes = parts.1 }

  to_name : (i j : ℕ) → i < length names → (test : Text → Bool) → stands j (row (callees_of rows) i) ≡ true → test (name_at names j) ≡ true
      → list_any (λ link. bytes_eq link.0 (name_at names i) && test link.1) (map link_of (listed names names rows)) ≡ true
  to_name i j h test there e =
      link_passes names (λ link. bytes_eq link.0 (name_at names i) && test link.1) names rows i j h (sym (linked i j) ∙ there)
      (and_from (bytes_eq (name_at names i) (name_at names i)) (test (name_at names j)) (itself_named (name_at names i)) e)

  -- chains
  pub chains_agree : (n i : ℕ) → i < length names → begins_chain (map link_of (listed names names rows)) n (name_at names i) ≡ has_chain (callees_of rows) n i
  chains_agree zero i h = refl
  chains_agree (suc n) i h =
      same_bool (begins_chain (map link_of (listed names names rows)) (suc n) (name_at names i)) (has_chain (callees_of rows) (suc n) i) (there (chains_agree n)) (back (chains_agree n))
    where
      through : ((x : ℕ) → x < length names → begins_chain (map link_of (listed names names rows)) n (name_at names x) ≡ has_chain (callees_of rows) n x) → From i (λ j. begins_chain (map link_of (listed names names rows)) n (name_at names j)) → has_chain (callees_of rows) (suc n) i ≡ true
      through agree f = passed (has_chain (callees_of rows) n) (row (callees_of rows) i) f.to f.link (sym (agree f.to (in_names i f.to f.link)) ∙ f.passes)

      there : ((x : ℕ) → x < length names → begins_chain (map link_of (listed names names rows)) n (name_at names x) ≡ has_chain (callees_of rows) n x) → begins_chain (map link_of (listed names names rows)) (suc n) (name_at names i) ≡ true → has_chain (callees_of rows) (suc n) i ≡ true
      there agree e = through agree (from_name i h (begins_chain (map link_of (listed names names rows)) n) e)

      onto : ((x : ℕ) → x < length names → begins_chain (map link_of (listed names names rows)) n (name_at names x) ≡ has_chain (callees_of rows) n x) → Passing (has_chain (callees_of rows) n) (row (callees_of rows) i) → begins_chain (map link_of (listed names names rows)) (suc n) (name_at names i) ≡ true
      onto agree p = to_name i p.one h (begins_chain (map link_of (listed names names rows)) n) p.there (agree p.one (in_names i p.one p.there) ∙ p.passes)

      back : ((x : ℕ) → x < length names → begins_chain (map link_of (listed names names rows)) n (name_at names x) ≡ has_chain (callees_of rows) n x) → has_chain (callees_of rows) (suc n) i ≡ true → begins_chain (map link_of (listed names names rows)) (suc n) (name_at names i) ≡ true
      back agree e = onto agree (passing (has_chain (callees_of rows) n) (row (callees_of rows) i) e)

  -- ways
  way_within : (n i j : ℕ) → i < length names → j < length names → leads_within (map link_of (listed names names rows)) n (name_at names i) (name_at names j) ≡ true → Way (callees_of rows) i j
  way_within zero i j h k e = subst (λ x. Way (callees_of rows) i x) (differ.differ i j h k e) here
  way_within (suc n) i j h k e = go (or_cases (bytes_eq (name_at names i) (name_at names j)) _ e) (λ x there. way_within n x j there k)
    where
      through : ((x : ℕ) → x < length names → leads_within (map link_of (listed names names rows)) n (name_at names x) (name_at names j) ≡ true → Way (callees_of rows) x j)
          → From i (λ x. leads_within (map link_of (listed names names rows)) n (name_at names x) (name_at names j)) → Way (callees_of rows) i j
      through rest f = onwards f.link (rest f.to (in_names i f.to f.link) f.passes)

      go : (bytes_eq (name_at names i) (name_at names j) ≡ true) ⊎ (list_any (λ link. bytes_eq link.0 (name_at names i) && leads_within (map link_of (listed names names rows)) n link.1 (name_at names j)) (map link_of (listed names names rows)) ≡ true)
          → ((x : ℕ) → x < length names → leads_within (map link_of (listed names names rows)) n (name_at names x) (name_at names j) ≡ true → Way (callees_of rows) x j) → Way (callees_of rows) i j
      go (inl same) rest = subst (λ x. Way (callees_of rows) i x) (differ.differ i j h k same) here
      go (inr e) rest = through rest (from_name i h (λ x. leads_within (map link_of (listed names names rows)) n x (name_at names j)) e)

  reaches : (i j : ℕ) → i < length names → Way (callees_of rows) i j → Reaches (map link_of (listed names names rows)) (name_at names i) (name_at names j)
  reaches i j h here = (0, itself_named (name_at names i))
  reaches i j h (onwards {y = y} link way) =
      let r : (n : ℕ) × IsTrue (leads_within (map link_of (listed names names rows)) n (name_at names y) (name_at names j)) = reaches y j (in_names i y link) way in
      (suc r.0, or_right (bytes_eq (name_at names i) (name_at names j)) _ (to_name i y h (λ x. leads_within (map link_of (listed names names rows)) r.0 x (name_at names j)) link r.1))

  pub way_if_led : (i j : ℕ) → i < length names → j < length names → leads (map link_of (listed names names rows)) (name_at names i) (name_at names j) ≡ true → Way (callees_of rows) i j
  way_if_led i j h k e = way_within (length (map link_of (listed names names rows))) i j h k e

  pub led_if_way : (i j : ℕ) → i < length names → Way (callees_of rows) i j → leads (map link_of (listed names names rows)) (name_at names i) (name_at names j) ≡ true
  led_if_way i j h way = reached_within (map link_of (listed names names rows)) (name_at names i) (name_at names j) (reaches i j h way)

  -- cycles
  pub cycle_if_led : (i : ℕ) → i < length names → leads_to_cycle (map link_of (listed names names rows)) (name_at names i) ≡ true → LeadsToCycle (callees_of rows) i
  cycle_if_led i h e =
      let f = found_link names (λ link. leads (map link_of (listed names names rows)) (name_at names i) link.0 && is_on_cycle (map link_of (listed names names rows)) link) names rows e in
      let link : stands f.to (row (callees_of rows) f.from) ≡ true = linked f.from f.to ∙ f.there in
      let parts : (leads (map link_of (listed names names rows)) (name_at names i) (name_at names f.from) ≡ true) × (leads (map link_of (listed names names rows)) (name_at names f.to) (name_at names f.from) ≡ true) =
      and_parts (leads (map link_of (listed names names rows)) (name_at names i) (name_at names f.from)) (leads (map link_of (listed names names rows)) (name_at names f.to) (name_at names f.from)) f.passes in
      record { from = f.from; to = f.to; way = way_if_led i f.from h f.within parts.0; link = link; back = way_if_led f.to f.from (in_names f.from f.to link) f.within parts.1 }

  pub way_in : (i j : ℕ) → i < length names → Way (callees_of rows) i j → j < length names
  way_in i j h here = h
  way_in i j h (onwards {y = y} link way) = way_in y j (in_names i y link) way

  pub led_if_cycle : (i : ℕ) → i < length names → LeadsToCycle (callees_of rows) i → leads_to_cycle (map link_of (listed names names rows)) (name_at names i) ≡ true
  led_if_cycle i h c =
      let from_in : c.from < length names = way_in i c.from h c.way in
      link_passes names (λ link. leads (map link_of (listed names names rows)) (name_at names i) link.0 && is_on_cycle (map link_of (listed names names rows)) link) names rows c.from c.to from_in (sym (linked c.from c.to) ∙ c.link)
      (and_from (leads (map link_of (listed names names rows)) (name_at names i) (name_at names c.from)) (leads (map link_of (listed names names rows)) (name_at names c.to) (name_at names c.from))
      (led_if_way i c.from h c.way) (led_if_way c.to c.from (in_names c.from c.to c.link) c.back))
