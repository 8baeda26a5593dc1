-- Roots and numbers of points tell whether links lead from one to another.
use Rattle.std.proofs.Common.{◌≡◌, ℕ, zero, suc, ◌+◌, ◌<◌, ◌≤◌, ◌≢◌, Bool, true, false, not, cond, nat_eq, List, [], ◌∷◌, length, set, replicate, Option, Some, None, refl, sym, ap, ◌∙◌, subst, arith, ◌⊎◌, inl, inr, eq-eqb, get_or-set_other, get_or-set_same}
use Rattle.std.specs.Prelude.{nat_lt}
use Rattle.std.specs.List.{list_all}
use Rattle.std.proofs.lemmas.Bool.{false≢true, and_parts, ltb-true, ltb-false}
use Rattle.numbered_graph.specs.Graphs.{Rows, row, stands, Way, here, onwards, IsReverse}
use Rattle.numbered_graph.specs.Deepness.{depth_at}
use Rattle.numbered_graph.proofs.Times.{first_stands, later_stands, same_number, stands_cases, stands_if, times_if}
use Rattle.numbered_graph.proofs.Ways.{joined}
use Rattle.call_graph.specs.Grouping.{or_zero, number_at, are_alike, is_free, rooted, rooted_all, AreReached, rises_from, Grouped, AreGroups, is_apart, are_one, is_joined}

-- ---- roots

none_reached : (n x r : ℕ) → depth_at (replicate n None) x ≡ Some r → ⊥
none_reached zero x r e = absurd (cc)
none_reached (suc n) zero r e = absurd (cc)
none_reached (suc n) (suc x) r e = none_reached n x r e

pub at_first : (rows : Rows) (n : ℕ) → AreReached rows (replicate n None)
at_first rows n = record { way = λ x r e. absurd (none_reached n x r e) }

set_reached : (rows : Rows) (roots : List (Option ℕ)) (x root : ℕ) → AreReached rows roots → Way rows root x → x < length roots → (y r : ℕ) (b : Bool) → nat_eq y x ≡ b → depth_at (set roots x (Some root)) y ≡ Some r → Way rows r y
set_reached rows roots x root so_far way within y r true k e =
    let same : y ≡ x = same_number y x k in
    let at : root ≡ r = ap or_zero (sym (get_or-set_same roots x (Some root) None within) ∙ ap (depth_at (set roots x (Some root))) (sym same) ∙ e) in
    subst (λ z. Way rows r z) (sym same) (subst (λ z. Way rows z x) at way)
set_reached rows roots x root so_far way within y r false k e =
    let apart : y ≢ x = λ same. absurd (false≢true (sym k ∙ eq-eqb y x same)) in
    so_far.way y r (sym (get_or-set_other roots x y (Some root) None apart) ∙ e)

pub one_reached : (rows : Rows) (root : ℕ) (roots : List (Option ℕ)) (x : ℕ) → AreReached rows roots → Way rows root x → AreReached rows (rooted root roots x)
one_reached rows root roots x so_far way = go (is_free roots x) refl
  where
    go : (b : Bool) → is_free roots x ≡ b → AreReached rows (cond b (set roots x (Some root)) roots)
    go true e = record { way = λ y r h. set_reached rows roots x root so_far way (ltb-true x (length roots) (and_parts (nat_lt x (length roots)) _ e).0) y r (nat_eq y x) refl h }
    go false e = so_far

all_reached : (rows : Rows) (groups : List (Option ℕ)) (from root : ℕ) (xs : List ℕ) (roots : List (Option ℕ)) → AreReached rows roots → ((x : ℕ) → stands x xs ≡ true → Way rows root x) → AreReached rows (rooted_all groups from root roots xs)
all_reached rows groups from root [] roots so_far ways = so_far
all_reached rows groups from root (x ∷ xs) roots so_far ways =
    all_reached rows groups from root xs (cond (are_alike groups from x) (rooted root roots x) roots) (one (are_alike groups from x)) (λ y e. ways y (later_stands y x xs e))
  where
    one : (b : Bool) → AreReached rows (cond b (rooted root roots x) roots)
    one true = one_reached rows root roots x so_far (ways x (first_stands x xs))
    one false = so_far

-- the root of a point is passed on along its links
pub passed_on : (rows : Rows) (groups : List (Option ℕ)) (x root : ℕ) (roots : List (Option ℕ)) → AreReached rows roots → depth_at roots x ≡ Some root → AreReached rows (rooted_all groups x root roots (row rows x))
passed_on rows groups x root roots so_far e = all_reached rows groups x root (row rows x) roots so_far (λ y link. joined rows (so_far.way x root e) (onwards link here))

-- ---- numbers

one_of_all : (test : ℕ → Bool) (xs : List ℕ) (y : ℕ) → list_all test xs ≡ true → stands y xs ≡ true → test y ≡ true
one_of_all test [] y h e = absurd (false≢true e)
one_of_all test (x ∷ xs) y h e =
    let parts : (test x ≡ true) × (list_all test xs ≡ true) = and_parts (test x) (list_all test xs) h in
    go (stands_cases y x xs e) parts.0 (one_of_all test xs y parts.1)
  where
    go : (y ≡ x) ⊎ (stands y xs ≡ true) → test x ≡ true → (stands y xs ≡ true → test y ≡ true) → test y ≡ true
    go (inl k) first rest = ap test k ∙ first
    go (inr k) first rest = rest k

not_less : (a b : ℕ) → not (nat_lt b a) ≡ true → a ≤ b
not_less a b e = go (nat_lt b a) refl e
  where
    go : (t : Bool) → nat_lt b a ≡ t → not t ≡ true → a ≤ b
    go true k h = absurd (false≢true h)
    go false k h = ltb-false b a k

rises_along : (numbers : List (Option ℕ)) (n : ℕ) (rows : Rows) → rises_from numbers n rows ≡ true → (x y m : ℕ) → m ≡ n + x → stands y (row rows x) ≡ true → number_at numbers m ≤ number_at numbers y
rises_along numbers n [] h x y m k e = absurd (false≢true e)
rises_along numbers n (r ∷ rows) h zero y m k e =
    let parts : (list_all (λ z. not (nat_lt (number_at numbers z) (number_at numbers n))) r ≡ true) × (rises_from numbers (n + 1) rows ≡ true) = and_parts _ _ h in
    let at : m ≡ n = omega (arith, k) in
    subst (λ q. number_at numbers q ≤ number_at numbers y) (sym at) (not_less (number_at numbers n) (number_at numbers y) (one_of_all (λ z. not (nat_lt (number_at numbers z) (number_at numbers n))) r y parts.0 e))
rises_along numbers n (r ∷ rows) h (suc x) y m k e =
    let parts : (list_all (λ z. not (nat_lt (number_at numbers z) (number_at numbers n))) r ≡ true) × (rises_from numbers (n + 1) rows ≡ true) = and_parts _ _ h in
    rises_along numbers (n + 1) rows parts.1 x y m (omega (arith, k)) e

-- ---- groups

turned_way : (rows back : Rows) → IsReverse rows back → {x y : ℕ} → Way back x y → Way rows y x
turned_way rows back reverse here = here
turned_way rows back reverse (onwards {x = x} {y = y} link way) =
    joined rows (turned_way rows back reverse way) (onwards (stands_if x (row rows y) (omega (arith, times_if y (row back x) link, reverse.turned y x))) here)

pub are_groups : (rows back : Rows) (g : Grouped) → IsReverse rows back → (g.rise ≡ rises_from g.numbers 0 rows) → AreReached back g.behind → AreReached rows g.before → AreGroups rows g
are_groups rows back g reverse rise behind before = record {
  rises = λ e x y link. rises_along g.numbers 0 rows (sym rise ∙ e) x y x (omega arith) link;
  onwards = λ x r e. turned_way rows back reverse (behind.way x r e);
  back = λ x r e. before.way x r e;
}

risen : (rows : Rows) (g : Grouped) → AreGroups rows g → g.rise ≡ true → {x y : ℕ} → Way rows x y → number_at g.numbers x ≤ number_at g.numbers y
risen rows g are e here = omega arith
risen rows g are e (onwards {x} {y} link way) = omega (arith, are.rises e x y link, risen rows g are e way)

pub none_leads : (rows : Rows) (g : Grouped) (from to : ℕ) → AreGroups rows g → is_apart g from to ≡ true → Way rows from to → ⊥
none_leads rows g from to are e way =
    let parts : (g.rise ≡ true) × (nat_lt (number_at g.numbers to) (number_at g.numbers from) ≡ true) = and_parts _ _ e in
    omega (arith, risen rows g are parts.0 way, ltb-true (number_at g.numbers to) (number_at g.numbers from) parts.1)

pub one_leads : (rows : Rows) (g : Grouped) (from to : ℕ) → AreGroups rows g → is_joined g from to ≡ true → Way rows from to
one_leads rows g from to are e = go (depth_at g.behind from) (depth_at g.before to) refl refl e
  where
    go : (a b : Option ℕ) → depth_at g.behind from ≡ a → depth_at g.before to ≡ b → are_one a b ≡ true → Way rows from to
    go None b h k same = absurd (false≢true same)
    go (Some a) None h k same = absurd (false≢true same)
    go (Some a) (Some b) h k same = joined rows (are.onwards from a h) (subst (λ z. Way rows z to) (sym (same_number a b same)) (are.back to b k))
