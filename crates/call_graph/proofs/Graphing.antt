-- The call graph of a file without faults of calls.
use Rattle.std.proofs.Common.{◌≡◌, ℕ, zero, suc, ◌+◌, ◌<◌, Bool, true, false, ◌||◌, cond, nat_eq, nat_lt, List, [], ◌∷◌, ◌++◌, map, filter, length, get_or, slice_get, Some, refl, sym, ap, ◌∙◌, subst, arith, ◌⊎◌, inl, inr, if◌then◌else◌, lt-ltb}
use Rattle.std.specs.List.{list_any}
use Rattle.std.specs.Str.{bytes_eq}
use Rattle.std.proofs.lemmas.Bool.{false≢true}
use Rattle.std.proofs.lemmas.Bool.Decides.{nat_tests}
use Rattle.std.proofs.lemmas.Slice.Eq.{bytes_eq-Decides}
use Rattle.fort_tree.specs.declared.fault.Code.TheVariants.{E36, E71}
use Rattle.fort_tree.specs.declared.place.Place.{Place}
use Rattle.fort_tree.specs.declared.unit.File.{File}
use Rattle.fort_tree.specs.declared.unit.Unit as tree_unit
use Rattle.claw_meaning.specs.Syntax.{Text}
use Rattle.fort_names.specs.NameLists.{has}
use Rattle.fort_names.specs.Scoping.{AllFit}
use Rattle.numbered_graph.specs.Graphs.{row, stands, times, with_number, firsts_after, is_behind, LeadsToCycle, IsGraph}
use Rattle.numbered_graph.proofs.Times.{same_number, itself, no_times, times_if, stands_cases, append_cases}
use Rattle.sound_programs.specs.CallFaults.{Referral, link_of, referrals, referrals_of, calls, recursions, size_faults}
use Rattle.sound_programs.specs.Faults.{found, faults_of_calls}
use Rattle.sound_programs.specs.Links.{Links, is_on_cycle}
use Rattle.sound_programs.specs.Placed.{bare_program}
use Rattle.sound_programs.specs.Placing.{placed, placed_unit}
use Rattle.sound_programs.proofs.Empties.{no_head, first_empty, left_empty, map_empty}
use Rattle.call_graph.specs.declared.calls.Calls.{Calls}
use Rattle.call_graph.specs.declared.reference.Reference.{Reference}
use Rattle.call_graph.specs.Calling.{AreCalls, links_of}
use Rattle.call_graph.specs.CallGraphs.{CallGraph, names_after, distinct_names, IsCallGraph}
use Rattle.call_graph.specs.Referring.{unit_names, name_at, numbers, as_referral, listed, NamesDiffer, AreReferencesIn}
use Rattle.call_graph.proofs.Cycles.{as_many, graph, many_callees, cycle_passes}
use Rattle.call_graph.proofs.Named.{same_bool, row_of}
use Rattle.call_graph.proofs.Noting.{referrals_are, calls_are}
use Rattle.call_graph.proofs.Lists.{map_append}

-- ---- each unit stands in the order

none_passes : (test : Referral → Bool) (rs : List Referral) → filter test rs ≡ [] → list_any test rs ≡ false
none_passes test [] e = refl
none_passes test (r ∷ rs) e = go (test r) (none_passes test rs) e
  where
    go : (b : Bool) → (filter test rs ≡ [] → list_any test rs ≡ false) → cond b (r ∷ filter test rs) (filter test rs) ≡ [] → (b || list_any test rs) ≡ false
    go true rest e = absurd (no_head r (filter test rs) e)
    go false rest e = rest e

any_link : (links : Links) (rs : List Referral) → list_any (is_on_cycle links) (map link_of rs) ≡ list_any (λ r. is_on_cycle links (link_of r)) rs
any_link links [] = refl
any_link links (r ∷ rs) = ap (λ b. is_on_cycle links (link_of r) || b) (any_link links rs)

module _ (c : Calls) (are : AreCalls c) (sound : faults_of_calls (placed c.file.now) ≡ []) where
  no_recursion : list_any (is_on_cycle (calls (placed c.file.now))) (map link_of (referrals (placed c.file.now))) ≡ false
  no_recursion =
      let p = placed c.file.now in
      let none : recursions p ≡ [] = map_empty (λ (at : Place). record { code = E36; at = at }) (recursions p) (left_empty (found E36 (recursions p)) (found E71 (size_faults p)) sound) in
      any_link (calls p) (referrals p) ∙ none_passes (λ r. is_on_cycle (calls p) (link_of r)) (referrals p) (map_empty (λ (r : Referral). r.at) (filter (λ r. is_on_cycle (calls p) (link_of r)) (referrals p)) (first_empty (map (λ r. r.at) (filter (λ r. is_on_cycle (calls p) (link_of r)) (referrals p))) none))

  no_link : list_any (is_on_cycle (links_of c)) (map link_of (listed (unit_names c.file.now) (unit_names c.file.now) c.references.items)) ≡ false
  no_link = ap (λ rs. list_any (is_on_cycle (links_of c)) (map link_of rs)) (sym (referrals_are c are)) ∙ ap (λ links. list_any (is_on_cycle links) (map link_of (referrals (placed c.file.now)))) (sym (calls_are c are)) ∙ no_recursion

  acyclic : (x : ℕ) → x < length c.file.now.units → LeadsToCycle c.callees.items x → ⊥
  acyclic x h l = false≢true (sym no_link ∙ cycle_passes c are x h l)

  all_stand : (x : ℕ) → x < length c.file.now.units → (b : Bool) → stands x c.order.items ≡ b → stands x c.order.items ≡ true
  all_stand x h true e = e
  all_stand x h false e = absurd (acyclic x h (are.order.left_over x (omega (arith, h, many_callees c are)) e))

  once : (x : ℕ) (b : Bool) → nat_lt x (length c.file.now.units) ≡ b → times x c.order.items ≡ cond b 1 0
  once x true e =
      let h : x < length c.file.now.units = grind (arith, nat_tests) in
      omega (arith, are.order.once x, times_if x c.order.items (all_stand x h (stands x c.order.items) refl))
  once x false e = go (stands x c.order.items) refl
    where
      go : (b : Bool) → stands x c.order.items ≡ b → times x c.order.items ≡ 0
      go false k = no_times x c.order.items k
      go true k =
          let h : x < length c.file.now.units = omega (arith, are.order.within x k, many_callees c are) in
          absurd (false≢true (sym e ∙ lt-ltb x (length c.file.now.units) h))

-- ---- the callees by their names

has_name : (names : List Text) (n x : ℕ) (before : List ℕ) → NamesDiffer names → n ≡ length names → x < n → ((y : ℕ) → stands y before ≡ true → y < n) → has (map (name_at names) before) (name_at names x) ≡ stands x before
has_name names n x [] differ e h below = refl
has_name names n x (y ∷ before) differ e h below =
    ap (λ b. b || has (map (name_at names) before) (name_at names x)) same ∙ ap (λ b. nat_eq x y || b) (has_name names n x before differ e h (λ z k. below z (later z k)))
  where
    later : (z : ℕ) → stands z before ≡ true → stands z (y ∷ before) ≡ true
    later z k = go (nat_eq z y)
      where
        go : (b : Bool) → (b || stands z before) ≡ true
        go true = refl
        go false = k

    same : bytes_eq (name_at names x) (name_at names y) ≡ nat_eq x y
    same = same_bool (bytes_eq (name_at names x) (name_at names y)) (nat_eq x y)
        (λ k. ap (λ z. nat_eq x z) (sym (differ.differ x y (omega (arith, h, e)) (omega (arith, below y (ap (λ b. b || stands y before) (itself y)), e)) k)) ∙ itself x)
        (λ k. (bytes_eq-Decides (name_at names x) (name_at names y)).1 (ap (name_at names) (same_number x y k)))

names_once : (names : List Text) (n : ℕ) (before xs : List ℕ) → NamesDiffer names → n ≡ length names → ((y : ℕ) → stands y before ≡ true → y < n) → ((y : ℕ) → stands y xs ≡ true → y < n)
    → map (name_at names) (firsts_after before xs) ≡ names_after (map (name_at names) before) (map (name_at names) xs)
names_once names n before [] differ e below all = refl
names_once names n before (x ∷ xs) differ e below all =
    let h : x < n = all x (ap (λ b. b || stands x xs) (itself x)) in
    names_once names n (with_number before x) xs differ e (λ y k. more (stands x before) h y k) (λ y k. all y (later y k))
    ∙ ap (λ l. names_after l (map (name_at names) xs)) (one (stands x before) ∙ ap (λ b. if b then map (name_at names) before else map (name_at names) before ++ name_at names x ∷ []) (sym (has_name names n x before differ e h below)))
  where
    later : (z : ℕ) → stands z xs ≡ true → stands z (x ∷ xs) ≡ true
    later z k = go (nat_eq z x)
      where
        go : (b : Bool) → (b || stands z xs) ≡ true
        go true = refl
        go false = k

    last : (y : ℕ) → x < n → (y ≡ x) ⊎ (stands y [] ≡ true) → y < n
    last y h (inl k) = omega (arith, h, k)
    last y h (inr k) = absurd (false≢true k)

    either : (y : ℕ) → x < n → (stands y before ≡ true) ⊎ (stands y (x ∷ []) ≡ true) → y < n
    either y h (inl k) = below y k
    either y h (inr k) = last y h (stands_cases y x [] k)

    more : (b : Bool) → x < n → (y : ℕ) → stands y (cond b before (before ++ x ∷ [])) ≡ true → y < n
    more true h y k = below y k
    more false h y k = either y h (append_cases y before (x ∷ []) k)

    one : (b : Bool) → map (name_at names) (cond b before (before ++ x ∷ [])) ≡ (if b then map (name_at names) before else map (name_at names) before ++ name_at names x ∷ [])
    one true = refl
    one false = map_append (name_at names) before (x ∷ [])

to_names : (names : List Text) (from : Text) (refs : List Reference) → map (λ r. r.to) (map (as_referral names from) refs) ≡ map (name_at names) (numbers refs)
to_names names from [] = refl
to_names names from (r ∷ refs) = ap (λ l. name_at names r.unit ∷ l) (to_names names from refs)

fit_at : (f : File) (n i : ℕ) (u : tree_unit.Unit) (us : List tree_unit.Unit) (rs : List (List Reference)) → AllFit (λ n. AreReferencesIn f) n us rs → slice_get us i ≡ Some u → AreReferencesIn f u (get_or rs i [])
fit_at f n i u [] [] fit e = absurd (cc)
fit_at f n i u [] (r ∷ rs) fit e = absurd fit
fit_at f n i u (v ∷ us) [] fit e = absurd fit
fit_at f n zero u (v ∷ us) (r ∷ rs) fit e = let same : v ≡ u = cc in subst (λ w. AreReferencesIn f w r) same fit.0
fit_at f n (suc i) u (v ∷ us) (r ∷ rs) fit e = fit_at f (n + 1) i u us rs fit.1 e

pub is_graph_of : (c : Calls) → AreCalls c → faults_of_calls (placed c.file.now) ≡ [] → (g : CallGraph) → g.order ≡ c.order.items → g.callees ≡ c.callees.items → IsCallGraph c.file.now g
is_graph_of c are sound g order callees = record {
  same_length = ap length callees ∙ many_callees c are;
  within = subst IsGraph (sym callees) (graph c are);
  callees = λ i u e. named i u (fit_at c.file.now 0 i u c.file.now.units c.references.items are.references.each e);
  each_once = λ x. ap (times x) order ∙ once c are sound x (nat_lt x (length c.file.now.units)) refl;
  behind = ap (λ rows. is_behind rows [] g.order) callees ∙ ap (is_behind c.callees.items []) order ∙ are.order.behind;
}
  where
    named : (i : ℕ) (u : tree_unit.Unit) → AreReferencesIn c.file.now u (get_or c.references.items i []) → map (name_at (unit_names c.file.now)) (row g.callees i) ≡ distinct_names (map (λ r. r.to) (referrals_of (bare_program (placed c.file.now)) (placed_unit u)))
    named i u a =
        let names = unit_names c.file.now in
        let refs = get_or c.references.items i [] in
        ap (λ rows. map (name_at names) (row rows i)) (callees ∙ are.callees) ∙ ap (map (name_at names)) (row_of c.references.items i)
        ∙ names_once names (length c.file.now.units) [] (numbers refs) are.differ (sym (as_many c are)) (λ y k. absurd (false≢true k)) a.within
        ∙ ap distinct_names (sym (to_names names u.name refs) ∙ ap (map (λ r. r.to)) a.referrals)
