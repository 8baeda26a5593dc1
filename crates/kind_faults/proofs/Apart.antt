-- Ranges of which, in some order, each is above those before it: no two overlap.
use Rattle.std.proofs.Common.{◌≡◌, ℕ, ◌+◌, Bool, true, false, not, ◌&&◌, ◌||◌, List, [], ◌∷◌, ◌++◌, Option, None, Some, if◌then◌else◌, refl, sym, ap, ◌∙◌, arith}
use Rattle.std.specs.Prelude.{ℤ, int_le, nat_lt, flat_map, IsPermutation}
use Rattle.std.specs.List.{sum_by, list_any}
use Rattle.std.proofs.lemmas.Bool.{false≢true}
use Rattle.std.proofs.lemmas.Bool.Decides.{nat_tests}
use Rattle.std.proofs.lemmas.Int.{ints}
use Rattle.std.proofs.lemmas.List.Sorted.{list_any-IsPermutation, sum_by-IsPermutation}
use Rattle.std.proofs.lemmas.List.Sums.{sum_by-cons}
use Rattle.sound_programs.specs.KindFaults.{is_below, overlap}
use Rattle.fort_tree.specs.declared.place.Place.{Place}
use Rattle.sound_programs.specs.Places.{option_places}
use Rattle.kind_faults.specs.declared.cases.Choice.{Choice}
use Rattle.kind_faults.specs.Cases.{nobody, overlaps_by, overlapping_choices}
use Rattle.kind_faults.specs.Spans.{span_before, spans_of, ascends}

abbrev Span : Type 0
Span = Option ℤ × Option ℤ

-- it holds no number
abbrev is_void : Span → Bool
is_void a = not (is_below nobody a.0 a.1)

abbrev one_if : Bool → ℕ
one_if b = if b then 1 else 0

abbrev met : Span → Span → ℕ
met a b = one_if (overlap nobody a b)

-- one of these overlaps two or more of those
abbrev crowded : List Span → List Span → Bool
crowded l m = list_any (λ a. nat_lt 1 (sum_by (met a) m)) l

-- ---- tests

test_false : (b : Bool) → (b ≡ true → ⊥) → b ≡ false
test_false true h = absurd (h refl)
test_false false h = refl

or_left : (a b : Bool) → (a || b) ≡ false → a ≡ false
or_left true b h = h
or_left false b h = refl

or_right : (a b : Bool) → (a || b) ≡ false → b ≡ false
or_right true b h = absurd (false≢true (sym h))
or_right false b h = h

neither : (a b : Bool) → a ≡ false → b ≡ false → (a || b) ≡ false
neither true b e h = absurd (false≢true (sym e))
neither false b e h = h

and_left : (a b : Bool) → (a && b) ≡ true → a ≡ true
and_left true b h = refl
and_left false b h = absurd (false≢true h)

and_right : (a b : Bool) → (a && b) ≡ true → b ≡ true
and_right true b h = h
and_right false b h = absurd (false≢true h)

not_false : (b : Bool) → not b ≡ false → b ≡ true
not_false true h = refl
not_false false h = absurd (false≢true (sym h))

not_true : (b : Bool) → not b ≡ true → b ≡ false
not_true true h = absurd (false≢true h)
not_true false h = refl

-- ---- numbers

int_chain : (y z w x : ℤ) → int_le y x ≡ false → int_le y z ≡ true → int_le w z ≡ false → int_le w x ≡ false
int_chain y z w x e h k = test_false (int_le w x) (λ g. omega (arith, ints))

-- what begins above a range that begins above r begins above r
beyond_chain : (first last next r : Option ℤ) → is_below nobody first r ≡ false → is_below nobody first last ≡ true → is_below nobody next last ≡ false → is_below nobody next r ≡ false
beyond_chain None last next r e h k = absurd (false≢true (sym e))
beyond_chain (Some y) last next None e h k = absurd (false≢true (sym e))
beyond_chain (Some y) last None (Some x) e h k = absurd (false≢true (sym k))
beyond_chain (Some y) None (Some w) (Some x) e h k = absurd (false≢true (sym k))
beyond_chain (Some y) (Some z) (Some w) (Some x) e h k = int_chain y z w x e h k

-- ---- in order

later_beyond : (u v : Option ℤ) (ys : List Span) → ((first : Option ℤ) → is_below nobody first v ≡ false → is_below nobody first u ≡ false) → list_any is_void ys ≡ false → ascends (Some v) ys ≡ true →
    list_any (λ b. is_below nobody b.0 u) ys ≡ false
later_beyond u v [] over good h = refl
later_beyond u v (y ∷ ys) over good h =
    let beyond : is_below nobody y.0 u ≡ false = over y.0 (not_true (is_below nobody y.0 v) (and_left (not (is_below nobody y.0 v)) (ascends (Some y.1) ys) h)) in
    neither (is_below nobody y.0 u) (list_any (λ b. is_below nobody b.0 u) ys) beyond
    (later_beyond u y.1 ys (λ first k. beyond_chain y.0 y.1 first u beyond (not_false (is_below nobody y.0 y.1) (or_left (is_void y) (list_any is_void ys) good)) k)
    (or_right (is_void y) (list_any is_void ys) good) (and_right (not (is_below nobody y.0 v)) (ascends (Some y.1) ys) h))

-- one that begins above the other doesn't overlap it
below_apart : (p q r s : Bool) → s ≡ false → one_if ((p && q) && (r && s)) ≡ 0
below_apart p q r true h = absurd (false≢true (sym h))
below_apart true true true false h = refl
below_apart true true false false h = refl
below_apart true false r false h = refl
below_apart false q r false h = refl

above_apart : (p q r s : Bool) → r ≡ false → one_if ((p && q) && (r && s)) ≡ 0
above_apart p q true s h = absurd (false≢true (sym h))
above_apart true true false s h = refl
above_apart true false false s h = refl
above_apart false q false s h = refl

met_above : (a b : Span) → is_below nobody b.0 a.1 ≡ false → met a b ≡ 0
met_above a b h = below_apart (is_below nobody a.0 a.1) (is_below nobody b.0 b.1) (is_below nobody a.0 b.1) (is_below nobody b.0 a.1) h

met_below : (a b : Span) → is_below nobody a.0 b.1 ≡ false → met a b ≡ 0
met_below a b h = above_apart (is_below nobody a.0 a.1) (is_below nobody b.0 b.1) (is_below nobody a.0 b.1) (is_below nobody b.0 a.1) h

none_met : (y : Span) (l : List Span) → list_any (λ b. is_below nobody b.0 y.1) l ≡ false → sum_by (met y) l ≡ 0
none_met y [] h = refl
none_met y (b ∷ l) h =
    sum_by-cons (met y) b l
    ∙ (λ t. met_above y b (or_left (is_below nobody b.0 y.1) (list_any (λ b. is_below nobody b.0 y.1) l) h) t + none_met y l (or_right (is_below nobody b.0 y.1) (list_any (λ b. is_below nobody b.0 y.1) l) h) t)

at_most_one : (b : Bool) (n : ℕ) → n ≡ 0 → nat_lt 1 (one_if b + n) ≡ false
at_most_one true n h = grind (arith, nat_tests)
at_most_one false n h = grind (arith, nat_tests)

one_more_apart : (y : Span) (m l : List Span) → list_any (λ b. is_below nobody b.0 y.1) l ≡ false → crowded l (y ∷ m) ≡ crowded l m
one_more_apart y m [] h = refl
one_more_apart y m (a ∷ l) h =
    λ t. nat_lt 1 (same t) || one_more_apart y m l (or_right (is_below nobody a.0 y.1) (list_any (λ b. is_below nobody b.0 y.1) l) h) t
  where
    below : met a y ≡ 0
    below = met_below a y (or_left (is_below nobody a.0 y.1) (list_any (λ b. is_below nobody b.0 y.1) l) h)

    same : sum_by (met a) (y ∷ m) ≡ sum_by (met a) m
    same = sum_by-cons (met a) y m ∙ ap (λ n. n + sum_by (met a) m) below ∙ omega arith

not_crowded : (r : Option (Option ℤ)) (ys : List Span) → list_any is_void ys ≡ false → ascends r ys ≡ true → crowded ys ys ≡ false
not_crowded r [] good h = refl
not_crowded r (y ∷ ys) good h =
    let rest : list_any is_void ys ≡ false = or_right (is_void y) (list_any is_void ys) good in
    let up : ascends (Some y.1) ys ≡ true = and_right _ (ascends (Some y.1) ys) h in
    let apart : list_any (λ b. is_below nobody b.0 y.1) ys ≡ false = later_beyond y.1 y.1 ys (λ first k. k) rest up in
    neither (nat_lt 1 (sum_by (met y) (y ∷ ys))) (crowded ys (y ∷ ys))
    (ap (nat_lt 1) (sum_by-cons (met y) y ys) ∙ at_most_one (overlap nobody y y) (sum_by (met y) ys) (none_met y ys apart))
    (one_more_apart y ys ys apart ∙ not_crowded (Some y.1) ys rest up)

-- ---- in the order that they are written

fewer : (x : Span) (m l : List Span) → crowded l (x ∷ m) ≡ false → crowded l m ≡ false
fewer x m [] h = refl
fewer x m (a ∷ l) h =
    neither (nat_lt 1 (sum_by (met a) m)) (crowded l m)
    (less (met a x) (sum_by (met a) m) (ap (nat_lt 1) (sym (sum_by-cons (met a) x m)) ∙ or_left (nat_lt 1 (sum_by (met a) (x ∷ m))) (crowded l (x ∷ m)) h))
    (fewer x m l (or_right (nat_lt 1 (sum_by (met a) (x ∷ m))) (crowded l (x ∷ m)) h))
  where
    less : (p q : ℕ) → nat_lt 1 (p + q) ≡ false → nat_lt 1 q ≡ false
    less p q = grind (arith, nat_tests)

both_zero : (b : Bool) (n : ℕ) → one_if b + n ≡ 0 → (b ≡ false) × (n ≡ 0)
both_zero true n h = absurd (omega arith)
both_zero false n h = (refl, omega arith)

void_first : (p q r s : Bool) → p ≡ false → ((p && q) && (r && s)) ≡ false
void_first true q r s h = absurd (false≢true (sym h))
void_first false q r s h = refl

void_second : (p q r s : Bool) → q ≡ false → ((p && q) && (r && s)) ≡ false
void_second p true r s h = absurd (false≢true (sym h))
void_second true false r s h = refl
void_second false false r s h = refl

no_place : (a x : Span) (at : Option Place) → overlap nobody a x ≡ false → overlaps_by (Some a) (Some x) at ≡ []
no_place a x at h = ap (λ b. if b then option_places at else []) h

-- the places behind a range
abbrev behind : Option Span → List Choice → List Place
behind n rest = flat_map (λ b. overlaps_by n b.numbers b.at) rest

-- a range that overlaps none of those that hold numbers overlaps none
none_behind : (a : Span) (rest : List Choice) → sum_by (met a) (spans_of rest) ≡ 0 → behind (Some a) rest ≡ []
none_behind a [] h = refl
none_behind a (b ∷ rest) h = go b.numbers (λ k. none_behind a rest k) h
  where
    at_span : (x : Span) (w : Bool) → is_below nobody x.0 x.1 ≡ w → (sum_by (met a) (spans_of rest) ≡ 0 → behind (Some a) rest ≡ []) → sum_by (met a) (if w then x ∷ spans_of rest else spans_of rest) ≡ 0 →
        overlaps_by (Some a) (Some x) b.at ++ behind (Some a) rest ≡ []
    at_span x true e further k =
        let zero_each : (overlap nobody a x ≡ false) × (sum_by (met a) (spans_of rest) ≡ 0) =
        both_zero (overlap nobody a x) (sum_by (met a) (spans_of rest)) (sym (sum_by-cons (met a) x (spans_of rest)) ∙ k) in
        λ t. no_place a x b.at zero_each.0 t ++ further zero_each.1 t
    at_span x false e further k =
        λ t. no_place a x b.at (void_second (is_below nobody a.0 a.1) (is_below nobody x.0 x.1) (is_below nobody a.0 x.1) (is_below nobody x.0 a.1) e) t ++ further k t

    go : (n : Option Span) → (sum_by (met a) (spans_of rest) ≡ 0 → behind (Some a) rest ≡ []) → sum_by (met a) (span_before n (spans_of rest)) ≡ 0 → overlaps_by (Some a) n b.at ++ behind (Some a) rest ≡ []
    go None further k = further k
    go (Some x) further k = at_span x (is_below nobody x.0 x.1) refl further k

void_behind : (a : Span) (rest : List Choice) → is_below nobody a.0 a.1 ≡ false → behind (Some a) rest ≡ []
void_behind a [] h = refl
void_behind a (b ∷ rest) h = go b.numbers (void_behind a rest h)
  where
    go : (n : Option Span) → behind (Some a) rest ≡ [] → overlaps_by (Some a) n b.at ++ behind (Some a) rest ≡ []
    go None further = further
    go (Some x) further =
        λ t. no_place a x b.at (void_first (is_below nobody a.0 a.1) (is_below nobody x.0 x.1) (is_below nobody a.0 x.1) (is_below nobody x.0 a.1) h) t ++ further t

unknown_behind : (rest : List Choice) → behind None rest ≡ []
unknown_behind [] = refl
unknown_behind (b ∷ rest) = unknown_behind rest

-- one that overlaps itself alone
alone : (a : Span) (n : ℕ) → is_below nobody a.0 a.1 ≡ true → nat_lt 1 (met a a + n) ≡ false → n ≡ 0
alone a n good h = less (is_below nobody a.0 a.1) n good h
  where
    none : (k : ℕ) → nat_lt 1 (1 + k) ≡ false → k ≡ 0
    none k = grind (arith, nat_tests)

    less : (v : Bool) (k : ℕ) → v ≡ true → nat_lt 1 (one_if ((v && v) && (v && v)) + k) ≡ false → k ≡ 0
    less true k e g = none k g
    less false k e g = absurd (false≢true e)

no_two : (cs : List Choice) → crowded (spans_of cs) (spans_of cs) ≡ false → overlapping_choices cs ≡ []
no_two [] h = refl
no_two (c ∷ rest) h = go c.numbers (λ k. no_two rest k) h
  where
    at_span : (a : Span) (v : Bool) → is_below nobody a.0 a.1 ≡ v → (crowded (spans_of rest) (spans_of rest) ≡ false → overlapping_choices rest ≡ []) →
        crowded (if v then a ∷ spans_of rest else spans_of rest) (if v then a ∷ spans_of rest else spans_of rest) ≡ false → behind (Some a) rest ++ overlapping_choices rest ≡ []
    at_span a true e further k =
        let first : nat_lt 1 (sum_by (met a) (a ∷ spans_of rest)) ≡ false = or_left (nat_lt 1 (sum_by (met a) (a ∷ spans_of rest))) (crowded (spans_of rest) (a ∷ spans_of rest)) k in
        let others : crowded (spans_of rest) (a ∷ spans_of rest) ≡ false = or_right (nat_lt 1 (sum_by (met a) (a ∷ spans_of rest))) (crowded (spans_of rest) (a ∷ spans_of rest)) k in
        let zero_behind : sum_by (met a) (spans_of rest) ≡ 0 = alone a (sum_by (met a) (spans_of rest)) e (ap (nat_lt 1) (sym (sum_by-cons (met a) a (spans_of rest))) ∙ first) in
        λ t. none_behind a rest zero_behind t ++ further (fewer a (spans_of rest) (spans_of rest) others) t
    at_span a false e further k = λ t. void_behind a rest e t ++ further k t

    go : (n : Option Span) → (crowded (spans_of rest) (spans_of rest) ≡ false → overlapping_choices rest ≡ []) → crowded (span_before n (spans_of rest)) (span_before n (spans_of rest)) ≡ false →
        behind n rest ++ overlapping_choices rest ≡ []
    go None further k = λ t. unknown_behind rest t ++ further k t
    go (Some a) further k = at_span a (is_below nobody a.0 a.1) refl further k

none_void : (cs : List Choice) → list_any is_void (spans_of cs) ≡ false
none_void [] = refl
none_void (c ∷ rest) = go c.numbers (none_void rest)
  where
    at_span : (a : Span) (v : Bool) → is_below nobody a.0 a.1 ≡ v → list_any is_void (spans_of rest) ≡ false → list_any is_void (if v then a ∷ spans_of rest else spans_of rest) ≡ false
    at_span a true e further = neither (is_void a) (list_any is_void (spans_of rest)) (ap not e) further
    at_span a false e further = further

    go : (n : Option Span) → list_any is_void (spans_of rest) ≡ false → list_any is_void (span_before n (spans_of rest)) ≡ false
    go None further = further
    go (Some a) further = at_span a (is_below nobody a.0 a.1) refl further

crowded_same : (xs ys : List Span) → IsPermutation xs ys → crowded xs xs ≡ crowded ys ys
crowded_same xs ys h =
    list_any-IsPermutation (λ a. nat_lt 1 (sum_by (met a) xs)) xs ys h
    ∙ (λ t. list_any (λ a. nat_lt 1 (sym (sum_by-IsPermutation (met a) xs ys h) t)) ys)

-- where those that hold numbers ascend in some order, no two overlap
pub apart : (cs : List Choice) (xs ys : List Span) → xs ≡ spans_of cs → IsPermutation xs ys → ascends None ys ≡ true → overlapping_choices cs ≡ []
apart cs xs ys is moved up =
    no_two cs
    (ap (λ l. crowded l l) (sym is) ∙ crowded_same xs ys moved
    ∙ not_crowded None ys (sym (list_any-IsPermutation is_void xs ys moved) ∙ ap (list_any is_void) is ∙ none_void cs) up)
