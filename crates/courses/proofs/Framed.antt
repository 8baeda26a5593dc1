-- Frames and the stores that they show: what is filled is looked up again, and a frame is filled by what it shows.
use Rattle.std.proofs.Common.{◌≡◌, ℕ, suc, ℤ, pos, ◌+ℤ◌, refl, ap, sym, ◌∙◌, List, [], ◌∷◌, ◌++◌, map, length, flat_map, Bool, true, false, ◌&&◌, ◌||◌, arith}
use Rattle.std.specs.Prelude.{if◌then◌else◌}
use Rattle.std.specs.Ordering.{int_eq}
use Rattle.std.proofs.lemmas.Int.{ints}
use Rattle.std.proofs.lemmas.Bool.{false≢true}
use mathlib.Core.Path.{ap₂}
use Rattle.courses.specs.Element.{Value, Element, same_name, same_index, Store}
use Rattle.courses.specs.Ranges.{up_from, wholes, extent}
use Rattle.courses.specs.Steps.{member, Distinct}
use Rattle.courses.specs.Columns.{is_column}
use Rattle.courses.specs.Frames.{Entry, places, found, is_place, is_named, look, inside, filled, has_name, IsFrame}
use Rattle.courses.proofs.Stores.{and_both, same_name-decides, same_index-decides}
use Rattle.courses.proofs.Alike.{or_left, or_right}
use Rattle.courses.proofs.Column_loops.{of_column}
use Rattle.courses.proofs.Planned.{up_distinct}

same_index-itself : (is : List ℤ) → same_index is is ≡ true
same_index-itself is = (same_index-decides is is).1 refl

same_index-equal : (is js : List ℤ) → same_index is js ≡ true → is ≡ js
same_index-equal is js = (same_index-decides is js).0

named-itself : (f : Entry) → is_named f f.home f.name ≡ true
named-itself f = rw ((same_name-decides f.home f.home).1 refl, (same_name-decides f.name f.name).1 refl) refl

named-equal : (f : Entry) (home name : List ℕ) → is_named f home name ≡ true → (f.home ≡ home) × (f.name ≡ name)
named-equal f home name h =
    let t = and_both (same_name f.home home) (same_name f.name name) h in ((same_name-decides f.home home).0 t.0, (same_name-decides f.name name).0 t.1)

-- The places of an array are different from one another.

abbrev pub DistinctPlaces : List (List ℤ) → Type 0
DistinctPlaces [] = Unit {0}
DistinctPlaces (p ∷ ps) = (is_place ps p ≡ false) × DistinctPlaces ps

place_appended : (xs ys : List (List ℤ)) (q : List ℤ) → is_place (xs ++ ys) q ≡ is_place xs q || is_place ys q
place_appended [] ys q = refl
place_appended (x ∷ xs) ys q = ap (λ b. same_index x q || b) (place_appended xs ys q) ∙ sym (nested (same_index x q) (is_place xs q) (is_place ys q))
  where
    nested : (a b c : Bool) → (a || b) || c ≡ a || (b || c)
    nested true b c = refl
    nested false b c = refl

place_in_row : (is rest : List ℤ) (j : ℤ) (q : List ℤ) → is_place (map (λ i. i ∷ rest) is) (j ∷ q) ≡ is_column j is && same_index rest q
place_in_row [] rest j q = refl
place_in_row (i ∷ is) rest j q = go (int_eq i j) (same_index rest q) refl refl (place_in_row is rest j q)
  where
    go : (a b : Bool) → int_eq i j ≡ a → same_index rest q ≡ b → is_place (map (λ i. i ∷ rest) is) (j ∷ q) ≡ is_column j is && same_index rest q → (int_eq i j && same_index rest q) || is_place (map (λ i. i ∷ rest) is) (j ∷ q) ≡ (int_eq i j || is_column j is) && same_index rest q
    go true true h g ih = rw (h, g) refl
    go true false h g ih = rw (h, g) (ih ∙ rw g (none (is_column j is)))
      where
        none : (b : Bool) → b && false ≡ false
        none true = refl
        none false = refl
    go false b h g ih = rw h ih

empty_in_row : (is rest : List ℤ) → is_place (map (λ i. i ∷ rest) is) [] ≡ false
empty_in_row [] rest = refl
empty_in_row (i ∷ is) rest = empty_in_row is rest

rows_has : (is : List ℤ) (ps : List (List ℤ)) (j : ℤ) (q : List ℤ) → is_place (flat_map (λ rest. map (λ i. i ∷ rest) is) ps) (j ∷ q) ≡ is_column j is && is_place ps q
rows_has is [] j q = sym (none (is_column j is))
  where
    none : (b : Bool) → b && false ≡ false
    none true = refl
    none false = refl
rows_has is (p ∷ ps) j q =
    place_appended (map (λ i. i ∷ p) is) (flat_map (λ rest. map (λ i. i ∷ rest) is) ps) (j ∷ q)
    ∙ ap₂ ◌||◌ (place_in_row is p j q) (rows_has is ps j q)
    ∙ both (is_column j is) (same_index p q) (is_place ps q)
  where
    both : (a b c : Bool) → (a && b) || (a && c) ≡ a && (b || c)
    both true b c = refl
    both false b c = refl

rows_empty : (is : List ℤ) (ps : List (List ℤ)) → is_place (flat_map (λ rest. map (λ i. i ∷ rest) is) ps) [] ≡ false
rows_empty is [] = refl
rows_empty is (p ∷ ps) = place_appended (map (λ i. i ∷ p) is) (flat_map (λ rest. map (λ i. i ∷ rest) is) ps) [] ∙ ap₂ ◌||◌ (empty_in_row is p) (rows_empty is ps)

-- an element's subscripts are a place where each is within its bounds
pub places_has : (b : ℤ × ℤ) (bs : List (ℤ × ℤ)) (j : ℤ) (q : List ℤ) → is_place (places (b ∷ bs)) (j ∷ q) ≡ is_column j (wholes b.0 b.1) && is_place (places bs) q
places_has b bs j q = rows_has (wholes b.0 b.1) (places bs) j q

pub no_place : (b : ℤ × ℤ) (bs : List (ℤ × ℤ)) → is_place (places (b ∷ bs)) [] ≡ false
no_place b bs = rows_empty (wholes b.0 b.1) (places bs)

distinct_appended : (xs ys : List (List ℤ)) → DistinctPlaces xs → DistinctPlaces ys → ((q : List ℤ) → is_place xs q ≡ true → is_place ys q ≡ false) → DistinctPlaces (xs ++ ys)
distinct_appended [] ys d e h = e
distinct_appended (x ∷ xs) ys d e h =
    (place_appended xs ys x ∙ rw (d.0, h x (or_left (same_index x x) _ (same_index-itself x))) refl, distinct_appended xs ys d.1 e (λ q m. h q (or_right (same_index x q) _ m)))

abbrev DistinctWholes : List ℤ → Type 0
DistinctWholes [] = Unit {0}
DistinctWholes (i ∷ is) = (is_column i is ≡ false) × DistinctWholes is

wholes_distinct : (low : ℤ) (ks : List ℕ) → Distinct ks → DistinctWholes (map (λ k. low +ℤ pos k) ks)
wholes_distinct low [] d = tt
wholes_distinct low (k ∷ ks) d = (go (is_column (low +ℤ pos k) (map (λ i. low +ℤ pos i) ks)) refl, wholes_distinct low ks d.1)
  where
    go : (b : Bool) → is_column (low +ℤ pos k) (map (λ i. low +ℤ pos i) ks) ≡ b → is_column (low +ℤ pos k) (map (λ i. low +ℤ pos i) ks) ≡ false
    go true h =
        let t = of_column low (low +ℤ pos k) ks h in
        let i : ℕ = t.0 in
        let e : low +ℤ pos i ≡ low +ℤ pos k = t.2 in
        let q : i ≡ k = omega (arith, ints) in
        absurd (false≢true (sym d.0 ∙ ap (λ x. member x ks) (sym q) ∙ t.1))
    go false h = h

row_distinct : (is rest : List ℤ) → DistinctWholes is → DistinctPlaces (map (λ i. i ∷ rest) is)
row_distinct [] rest d = tt
row_distinct (i ∷ is) rest d = (place_in_row is rest i rest ∙ rw d.0 refl, row_distinct is rest d.1)

rows_distinct : (is : List ℤ) → DistinctWholes is → (ps : List (List ℤ)) → DistinctPlaces ps → DistinctPlaces (flat_map (λ rest. map (λ i. i ∷ rest) is) ps)
rows_distinct is d [] e = tt
rows_distinct is d (p ∷ ps) e = distinct_appended (map (λ i. i ∷ p) is) (flat_map (λ rest. map (λ i. i ∷ rest) is) ps) (row_distinct is p d) (rows_distinct is d ps e.1) other
  where
    other : (q : List ℤ) → is_place (map (λ i. i ∷ p) is) q ≡ true → is_place (flat_map (λ rest. map (λ i. i ∷ rest) is) ps) q ≡ false
    other [] h = rows_empty is ps
    other (j ∷ q) h =
        let t = and_both (is_column j is) (same_index p q) (sym (place_in_row is p j q) ∙ h) in
        rows_has is ps j q ∙ rw t.0 (ap (is_place ps) (sym (same_index-equal p q t.1)) ∙ e.0)

pub places_distinct : (bs : List (ℤ × ℤ)) → DistinctPlaces (places bs)
places_distinct [] = (refl, tt)
places_distinct (b ∷ bs) = rows_distinct (wholes b.0 b.1) (wholes_distinct b.0 (up_from 0 (extent b.0 b.1)) (up_distinct 0 (extent b.0 b.1))) (places bs) (places_distinct bs)

found_map : (ps : List (List ℤ)) (g : List ℤ → Value) (is : List ℤ) → is_place ps is ≡ true → found ps (map g ps) is ≡ g is
found_map [] g is h = absurd (false≢true h)
found_map (p ∷ ps) g is h = go (same_index p is) refl h (found_map ps g is)
  where
    go : (b : Bool) → same_index p is ≡ b → same_index p is || is_place ps is ≡ true → (is_place ps is ≡ true → found ps (map g ps) is ≡ g is) → (if same_index p is then g p else found ps (map g ps) is) ≡ g is
    go true q h ih = rw q (ap g (same_index-equal p is q))
    go false q h ih = rw q (ih (rw q at h))

pub look_filled : (f : List Entry) (s : Store) (e : Element) → inside f e ≡ true → look (filled f s) e ≡ s e
look_filled [] s e h = absurd (false≢true h)
look_filled (f ∷ fs) s e h = go (is_named f e.home e.name) refl h (look_filled fs s e)
  where
    go : (b : Bool) → is_named f e.home e.name ≡ b → (if is_named f e.home e.name then is_place (places f.bounds) e.index else inside fs e) ≡ true → (inside fs e ≡ true → look (filled fs s) e ≡ s e) → look (filled (f ∷ fs) s) e ≡ s e
    go true q h ih =
        let n = named-equal f e.home e.name q in
        rw q (found_map (places f.bounds) (λ is. s (record { home = f.home; name = f.name; index = is })) e.index (rw q at h) ∙ ap₂ (λ a b. s (record { home = a; name = b; index = e.index })) n.0 n.1)
    go false q h ih = rw q (ih (rw q at h))

place_apart : (ps : List (List ℤ)) (p q : List ℤ) → is_place ps p ≡ false → is_place ps q ≡ true → same_index p q ≡ false
place_apart ps p q h m = go (same_index p q) refl
  where
    go : (b : Bool) → same_index p q ≡ b → same_index p q ≡ false
    go true t = absurd (false≢true (sym h ∙ ap (is_place ps) (same_index-equal p q t) ∙ m))
    go false t = t

-- each place has its own value
map_found : (qs : List (List ℤ)) (vs : List Value) (g : List ℤ → Value) → ((q : List ℤ) → is_place qs q ≡ true → g q ≡ found qs vs q) → DistinctPlaces qs → length vs ≡ length qs → map g qs ≡ vs
map_found [] [] g h d n = refl
map_found [] (v ∷ vs) g h d n = absurd (omega arith)
map_found (q ∷ qs) [] g h d n = absurd (omega arith)
map_found (q ∷ qs) (v ∷ vs) g h d n =
    let here : g q ≡ v = h q (or_left _ _ (same_index-itself q)) ∙ first in
    let m : length vs ≡ length qs = omega arith in
    ap₂ (λ a l. a ∷ l) here (map_found qs vs g (λ p t. h p (or_right (same_index q p) _ t) ∙ other p t) d.1 m)
  where
    first : (if same_index q q then v else found qs vs q) ≡ v
    first = rw (same_index-itself q)

    other : (p : List ℤ) → is_place qs p ≡ true → (if same_index q p then v else found qs vs p) ≡ found qs vs p
    other p t = rw (place_apart qs q p d.0 t)

inside_named : (fs : List Entry) (e : Element) → inside fs e ≡ true → has_name fs e.home e.name ≡ true
inside_named [] e h = absurd (false≢true h)
inside_named (f ∷ fs) e h = go (is_named f e.home e.name) refl h (inside_named fs e)
  where
    go : (b : Bool) → is_named f e.home e.name ≡ b → (if is_named f e.home e.name then is_place (places f.bounds) e.index else inside fs e) ≡ true → (inside fs e ≡ true → has_name fs e.home e.name ≡ true) → is_named f e.home e.name || has_name fs e.home e.name ≡ true
    go true q h ih = rw q refl
    go false q h ih = rw q (ih (rw q at h))

name_apart : (f : Entry) (fs : List Entry) (e : Element) → has_name fs f.home f.name ≡ false → inside fs e ≡ true → is_named f e.home e.name ≡ false
name_apart f fs e h m = go (is_named f e.home e.name) refl
  where
    go : (b : Bool) → is_named f e.home e.name ≡ b → is_named f e.home e.name ≡ false
    go true q = let n = named-equal f e.home e.name q in absurd (false≢true (sym h ∙ ap₂ (has_name fs) n.0 n.1 ∙ inside_named fs e m))
    go false q = q

-- two stores that agree inside fill the frame alike
pub filled_same : (f : List Entry) (s s' : Store) → IsFrame f → ((e : Element) → inside f e ≡ true → s e ≡ s' e) → filled f s ≡ filled f s'
filled_same [] s s' i h = refl
filled_same (f ∷ fs) s s' i h =
    ap₂ (λ a l. a ∷ l)
    (ap (λ vs. record { home = f.home; name = f.name; bounds = f.bounds; items = vs }) (map_same (places f.bounds) (λ is. s (record { home = f.home; name = f.name; index = is })) (λ is. s' (record { home = f.home; name = f.name; index = is })) (λ p t. h (record { home = f.home; name = f.name; index = p }) (rw (named-itself f) t))))
    (filled_same fs s s' i.2 (λ e t. h e (rw (name_apart f fs e i.0 t) t)))
  where
    map_same : (ps : List (List ℤ)) (g g' : List ℤ → Value) → ((p : List ℤ) → is_place ps p ≡ true → g p ≡ g' p) → map g ps ≡ map g' ps
    map_same [] g g' h = refl
    map_same (p ∷ ps) g g' h = ap₂ (λ a l. a ∷ l) (h p (or_left _ _ (same_index-itself p))) (map_same ps g g' (λ q t. h q (or_right (same_index p q) _ t)))

-- a frame is filled by what it shows
pub filled_look : (f : List Entry) → IsFrame f → filled f (look f) ≡ f
filled_look [] i = refl
filled_look (f ∷ fs) i =
    let own : map (λ is. look (f ∷ fs) (record { home = f.home; name = f.name; index = is })) (places f.bounds) ≡ f.items =
    map_found (places f.bounds) f.items (λ is. look (f ∷ fs) (record { home = f.home; name = f.name; index = is })) (λ p t. rw (named-itself f) refl) (places_distinct f.bounds) i.1 in
    let rest : filled fs (look (f ∷ fs)) ≡ filled fs (look fs) = filled_same fs (look (f ∷ fs)) (look fs) i.2 (λ e t. rw (name_apart f fs e i.0 t) refl) in
    ap₂ (λ a l. a ∷ l) (ap (λ vs. record { home = f.home; name = f.name; bounds = f.bounds; items = vs }) own) (rest ∙ filled_look fs i.2)

-- and what is filled is a frame
pub filled_frame : (f : List Entry) (s : Store) → IsFrame f → IsFrame (filled f s)
filled_frame [] s i = tt
filled_frame (f ∷ fs) s i = (name_stays fs f.home f.name ∙ i.0, map_length (places f.bounds), filled_frame fs s i.2)
  where
    name_stays : (fs : List Entry) (home name : List ℕ) → has_name (filled fs s) home name ≡ has_name fs home name
    name_stays [] home name = refl
    name_stays (g ∷ gs) home name = ap (λ b. is_named g home name || b) (name_stays gs home name)

    map_length : (ps : List (List ℤ)) → length (map (λ is. s (record { home = f.home; name = f.name; index = is })) ps) ≡ length ps
    map_length [] = refl
    map_length (p ∷ ps) = ap suc (map_length ps)
