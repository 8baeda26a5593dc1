-- One column of an input of that shape, and what stores and joined columns show of it.
use Rattle.std.proofs.Common.{◌≡◌, ℤ, refl, ap, sym, subst, ◌∙◌, List, [], ◌∷◌, append-nil, ◌⊎◌, inl, inr, Contains, Some, Bool, true, false, not, map, filter}
use Rattle.std.specs.Str.{bytes_eq}
use Rattle.std.specs.Ordering.{int_eq}
use Rattle.std.proofs.lemmas.Bool.{false≢true}
use mathlib.Core.Path.{ap₂}
use Rattle.courses.specs.Element.{Value, Whole, Element, Store}
use Rattle.courses.specs.Ranges.{wholes}
use Rattle.courses.specs.Frames.{places, found, look}
use Rattle.claw_meaning.specs.Syntax.{Text, Program}
use Rattle.claw_meaning.specs.Frames.{Frame, entries, with_store, cells_of, whole_held}
use Rattle.claw_meaning.specs.Columns.{is_added, place_of_key, column_of_held, picked, slice, joined, joined_held, held_at, subscript_at, without}
use Rattle.column_scalars.specs.Scalars.{Scalars, IsScalars, source_unit}
use Rattle.column_scalars.specs.Standing.{StandsIn}
use Rattle.column_scalars.specs.Model.{scalar_of, cell_of}
use Rattle.column_scalars.proofs.MemberCases.{contains_first, contains_here, contains_later, contains_none, contains_cases, same_itself, names_equal, names_apart}
use Rattle.column_scalars.proofs.Naming.{column_name, upper_name, added_is}
use Rattle.column_scalars.proofs.WideFrames.{held, frame_of, named_by}
use Rattle.column_scalars.proofs.ModuleVariables.{OfModules, look_past, sliced_modules, joined_modules}

-- one value of each dummy, and variables of modules
abbrev pub slice_of : ℤ × ℤ → ℤ → List (Text × List Value) → Frame → Frame
slice_of b c [] modules = modules
slice_of b c (d ∷ ds) modules = held d.0 [] (picked 0 c (places (b ∷ [])) d.1) ∷ slice_of b c ds modules

-- a row of places
row_places : (b : ℤ × ℤ) → places (b ∷ []) ≡ map (λ i. i ∷ []) (wholes b.0 b.1)
row_places b = append-nil (map (λ i. i ∷ []) (wholes b.0 b.1))

picked_found : (is : List ℤ) (c : ℤ) (vs : List Value) → found ([] ∷ []) (picked 0 c (map (λ i. i ∷ []) is) vs) [] ≡ found (map (λ i. i ∷ []) is) vs (c ∷ [])
picked_found [] c vs = refl
picked_found (i ∷ is) c [] = refl
picked_found (i ∷ is) c (v ∷ vs) = go (int_eq i c) refl (picked_found is c vs)
  where
    go : (b : Bool) → int_eq i c ≡ b → found ([] ∷ []) (picked 0 c (map (λ i. i ∷ []) is) vs) [] ≡ found (map (λ i. i ∷ []) is) vs (c ∷ []) → found ([] ∷ []) (picked 0 c (map (λ i. i ∷ []) (i ∷ is)) (v ∷ vs)) [] ≡ found (map (λ i. i ∷ []) (i ∷ is)) (v ∷ vs) (c ∷ [])
    go true h ih = rw h refl
    go false h ih = rw h ih

-- a column's one value is the wide one's there
column_found : (b : ℤ × ℤ) (c : ℤ) (vs : List Value) → found ([] ∷ []) (picked 0 c (places (b ∷ [])) vs) [] ≡ found (places (b ∷ [])) vs (c ∷ [])
column_found b c vs = subst (λ ps. found ([] ∷ []) (picked 0 c ps vs) [] ≡ found ps vs (c ∷ [])) (sym (row_places b)) (picked_found (wholes b.0 b.1) c vs)

row_same : (is : List ℤ) (f g : List ℤ → Value) → ((c : ℤ) → Contains is c → f (c ∷ []) ≡ g (c ∷ [])) → map f (map (λ i. i ∷ []) is) ≡ map g (map (λ i. i ∷ []) is)
row_same [] f g h = refl
row_same (i ∷ is) f g h = ap₂ (λ k l. k ∷ l) (h i (contains_here i is)) (row_same is f g (λ c t. h c (contains_later i is c t)))

places_same : (b : ℤ × ℤ) (f g : List ℤ → Value) → ((c : ℤ) → Contains (wholes b.0 b.1) c → f (c ∷ []) ≡ g (c ∷ [])) → map f (places (b ∷ [])) ≡ map g (places (b ∷ []))
places_same b f g h = subst (λ ps. map f ps ≡ map g ps) (sym (row_places b)) (row_same (wholes b.0 b.1) f g h)

-- the upper bound is found behind the dummies
pub upper_held : (b : ℤ × ℤ) (ds : List (Text × List Value)) (upper : Text) (n : ℤ) (modules : Frame) → (Contains (named_by ds) upper → ⊥) → whole_held (cells_of (frame_of b ds upper n modules) upper) ≡ Some n
upper_held b [] upper n modules a = rw (same_itself upper) refl
upper_held b (d ∷ ds) upper n modules a = rw (names_apart d.0 upper (λ e. a (contains_first d.0 upper (named_by ds) e))) (upper_held b ds upper n modules (λ t. a (contains_later d.0 (named_by ds) upper t)))

pub look_upper : (home : Text) (b : ℤ × ℤ) (ds : List (Text × List Value)) (upper : Text) (n : ℤ) (modules : Frame) → (Contains (named_by ds) upper → ⊥) → look (entries home (frame_of b ds upper n modules)) (scalar_of home upper) ≡ Whole n
look_upper home b [] upper n modules a = rw (same_itself home, same_itself upper) refl
look_upper home b (d ∷ ds) upper n modules a = rw (same_itself home, names_apart d.0 upper (λ e. a (contains_first d.0 upper (named_by ds) e))) (look_upper home b ds upper n modules (λ t. a (contains_later d.0 (named_by ds) upper t)))

-- a dummy's value in a column
pub look_column : (home : Text) (b : ℤ × ℤ) (c : ℤ) (ds : List (Text × List Value)) (upper : Text) (n : ℤ) (modules : Frame) → OfModules home modules → (x : Text) → (upper ≡ x → ⊥) → look (entries home (slice_of b c ds modules)) (scalar_of home x) ≡ look (entries home (frame_of b ds upper n modules)) (cell_of home c x)
look_column home b c [] upper n modules q x a = rw (same_itself home, names_apart upper x a) (look_past home modules q x [] ∙ sym (look_past home modules q x (c ∷ [])))
look_column home b c (d ∷ ds) upper n modules q x a = go (bytes_eq d.0 x) refl (look_column home b c ds upper n modules q x a)
  where
    go : (t : Bool) → bytes_eq d.0 x ≡ t → look (entries home (slice_of b c ds modules)) (scalar_of home x) ≡ look (entries home (frame_of b ds upper n modules)) (cell_of home c x) → look (entries home (slice_of b c (d ∷ ds) modules)) (scalar_of home x) ≡ look (entries home (frame_of b (d ∷ ds) upper n modules)) (cell_of home c x)
    go true h ih = rw (same_itself home, h) (column_found b c d.1)
    go false h ih = rw (same_itself home, h) ih

-- a module's element is looked up behind the dummies
pub look_behind : (home : Text) (b : ℤ × ℤ) (ds : List (Text × List Value)) (upper : Text) (n : ℤ) (modules : Frame) (e : Element) → (e.home ≡ home → ⊥) → look (entries home (frame_of b ds upper n modules)) e ≡ look (entries home modules) e
look_behind home b [] upper n modules e a = rw (names_apart home e.home (λ h. a (sym h))) refl
look_behind home b (d ∷ ds) upper n modules e a = rw (names_apart home e.home (λ h. a (sym h))) (look_behind home b ds upper n modules e a)

-- what a column's run leaves
pub look_left : (home : Text) (b : ℤ × ℤ) (c : ℤ) (ds : List (Text × List Value)) (modules : Frame) (t : Store) (x : Text) → Contains (named_by ds) x → look (entries home (with_store home (slice_of b c ds modules) t)) (scalar_of home x) ≡ t (scalar_of home x)
look_left home b c [] modules t x m = absurd (contains_none x m)
look_left home b c (d ∷ ds) modules t x m = go (contains_cases d.0 (named_by ds) x m) (bytes_eq d.0 x) refl (look_left home b c ds modules t x)
  where
    go : (d.0 ≡ x) ⊎ Contains (named_by ds) x → (r : Bool) → bytes_eq d.0 x ≡ r → (Contains (named_by ds) x → look (entries home (with_store home (slice_of b c ds modules) t)) (scalar_of home x) ≡ t (scalar_of home x)) → look (entries home (with_store home (slice_of b c (d ∷ ds) modules) t)) (scalar_of home x) ≡ t (scalar_of home x)
    go k true h ih = rw (same_itself home, h) (ap (λ y. t (scalar_of home y)) (names_equal d.0 x h))
    go (inl e) false h ih = absurd (false≢true (sym h ∙ rw e (same_itself x)))
    go (inr k) false h ih = rw (same_itself home, h) (ih k)

module _ (p : Program) (u : Scalars) (w : IsScalars u) (stands : StandsIn p u) (b : ℤ × ℤ) (n : ℤ) (modules : Frame) (of : OfModules u.name modules) where
  sliced : (c : ℤ) (ds : List (Text × List Value)) → ((x : Text) → Contains (named_by ds) x → Contains u.dummies x) → map (λ h. column_of_held (place_of_key (source_unit u) h.key) c h) (filter (λ h. not (is_added (Some u.upper) h.key)) (frame_of b ds u.upper n modules)) ≡ slice_of b c ds modules
  sliced c [] m = rw (same_itself u.upper) (sliced_modules (source_unit u) u.name u.upper c modules of)
  sliced c (d ∷ ds) m =
      let t = column_name u w d.0 (m d.0 (contains_here d.0 (named_by ds))) in
      rw t.apart (ap₂ (λ k l. k ∷ l) (ap (λ k. column_of_held k c (held d.0 (b ∷ []) d.1)) t.place) (sliced c ds (λ x q. m x (contains_later d.0 (named_by ds) x q))))

  pub slice_is : (c : ℤ) (ds : List (Text × List Value)) → ((x : Text) → Contains (named_by ds) x → Contains u.dummies x) → slice p (source_unit u) (frame_of b ds u.upper n modules) c ≡ slice_of b c ds modules
  slice_is c ds m =
      ap (λ a. map (λ h. column_of_held (place_of_key (source_unit u) h.key) c h) (filter (λ h. not (is_added a h.key)) (frame_of b ds u.upper n modules))) (added_is p u stands.upper)
      ∙ sliced c ds m

  -- a store shows what the columns leave
  pub joined_is : (ds : List (Text × List Value)) (t : Store) (each : ℤ → Frame) → ((x : Text) → Contains (named_by ds) x → Contains u.dummies x) → t (scalar_of u.name u.upper) ≡ Whole n → with_store u.name modules t ≡ modules → ((c : ℤ) → Contains (wholes b.0 b.1) c → (x : Text) → Contains (named_by ds) x → t (cell_of u.name c x) ≡ held_at (source_unit u) (each c) x []) → with_store u.name (frame_of b ds u.upper n modules) t ≡ joined (source_unit u) (frame_of b ds u.upper n modules) each
  joined_is [] t each m g k h =
      ap₂ (λ a l. a ∷ l)
      (ap (λ v. held u.upper [] (v ∷ [])) g ∙ ap (λ k. joined_held (source_unit u) k each (held u.upper [] (Whole n ∷ []))) (sym (upper_name u w).place))
      (k ∙ sym (joined_modules (source_unit u) u.name each modules of))
  joined_is (d ∷ ds) t each m g k h =
      let q = column_name u w d.0 (m d.0 (contains_here d.0 (named_by ds))) in
      let row = places_same b (λ is. t (record { home = u.name; name = d.0; index = is })) (λ is. held_at (source_unit u) (each (subscript_at 0 is)) d.0 (without 0 is)) (λ c k. h c k d.0 (contains_here d.0 (named_by ds))) in
      ap₂ (λ k l. k ∷ l)
      (ap (λ vs. held d.0 (b ∷ []) vs) row ∙ ap (λ k. joined_held (source_unit u) k each (held d.0 (b ∷ []) d.1)) (sym q.place))
      (joined_is ds t each (λ x p. m x (contains_later d.0 (named_by ds) x p)) g k (λ c k x p. h c k x (contains_later d.0 (named_by ds) x p)))
