-- Marks of variables, one after the other, and marks that are merged.
use Rattle.std.proofs.Common.{◌≡◌, ◌≢◌, ℕ, zero, suc, ◌+◌, ◌<◌, Bool, true, false, ◌&&◌, ◌||◌, List, [], ◌∷◌, ◌++◌, length, take, get_or, set, replicate, Option, Some, None, is_some, refl, sym, ap, ◌∙◌, subst, arith, get_or-set_other, get_or-set_same, length-set}
use Rattle.std.specs.Prelude.{position, slice_get, if◌then◌else◌}
use Rattle.std.specs.List.{list_any}
use Rattle.std.specs.Str.{bytes_eq}
use Rattle.std.proofs.lemmas.Bool.{false≢true, and_parts}
use Rattle.std.proofs.lemmas.List.{map-append, take_more}
use Rattle.std.proofs.lemmas.Slice.Eq.{bytes_eq-Decides}
use Rattle.claw_meaning.specs.Syntax.{Text}
use Rattle.sound_programs.specs.ArgumentFaults.{same_pair}
use Rattle.fort_names.proofs.Places.{passing, some_position, any_append, any_map}
use Rattle.argument_faults.specs.Marking.{mark_at, is_marked, with_mark, AreMarks, HasAll, HasAllRows, AreMerged, IsMarkedFrom}
use Rattle.argument_faults.specs.declared.module_names.ModuleVariable.{ModuleVariable}
use Rattle.argument_faults.specs.ModuleNames.{pair_of, pairs, rows_of, with_variable, with_variables, with_rows}

-- ---- equal variables

pub equal_pairs : (v w : Text × Text) → same_pair v w ≡ true → v ≡ w
equal_pairs v w e =
    let parts = and_parts (bytes_eq v.0 w.0) (bytes_eq v.1 w.1) e in
    λ i. ((bytes_eq-Decides v.0 w.0).0 parts.0 i, (bytes_eq-Decides v.1 w.1).0 parts.1 i)

pub itself : (v : Text × Text) → same_pair v v ≡ true
itself v = (λ i. (bytes_eq-Decides v.0 v.0).1 refl i && bytes_eq v.1 v.1) ∙ (bytes_eq-Decides v.1 v.1).1 refl

or_true : (b : Bool) → (b || true) ≡ true
or_true true = refl
or_true false = refl

or_false : (b : Bool) → (b || false) ≡ b
or_false true = refl
or_false false = refl

-- ---- places

-- a place of a list
record Placed_at (vs : List (Text × Text)) (v : Text × Text) (n : ℕ) : Type 0 where
  within : n < length vs
  is : slice_get vs n ≡ Some v

get_within : {X : Type 0} (xs : List X) (n : ℕ) (x : X) → slice_get xs n ≡ Some x → n < length xs
get_within [] n x e = absurd (cc)
get_within (y ∷ xs) zero x e = omega arith
get_within (y ∷ xs) (suc n) x e = omega (arith, get_within xs n x e)

placed_at : (vs : List (Text × Text)) (v : Text × Text) (n : ℕ) → position (same_pair v) vs ≡ Some n → Placed_at vs v n
placed_at vs v n e =
    let p = passing (same_pair v) vs n e in
    record { within = get_within vs n p.item p.is; is = p.is ∙ ap Some (sym (equal_pairs v p.item p.passes)) }

one_item : (v w : Text × Text) → Some v ≡ Some w → v ≡ w
one_item v w e = cc

-- ---- no marks, and one mark more

no_mark : (n : ℕ) (o : Option ℕ) → mark_at (replicate n false) o ≡ false
no_mark n None = refl
no_mark n (Some k) = none n k
  where
    none : (n k : ℕ) → get_or (replicate n false) k false ≡ false
    none zero k = refl
    none (suc n) zero = refl
    none (suc n) (suc k) = none n k

replicated : (n : ℕ) → length (replicate n false) ≡ n
replicated zero = refl
replicated (suc n) = omega (arith, replicated n)

pub nothing_marked : (vs : List (Text × Text)) → AreMarks vs [] (replicate (length vs) false)
nothing_marked vs = record { same_length = replicated (length vs); marked = λ v. no_mark (length vs) (position (same_pair v) vs) }

module _ (vs list : List (Text × Text)) (marks : List Bool) (w : Text × Text) (are : AreMarks vs list marks) (there : list_any (same_pair w) vs ≡ true) where
  marked_more : (k : ℕ) → position (same_pair w) vs ≡ Some k → (v : Text × Text) → is_marked vs (set marks k true) v ≡ (is_marked vs marks v || same_pair v w)
  marked_more k at v = go (same_pair v w) refl
    where
      of_w : Placed_at vs w k
      of_w = placed_at vs w k at

      here : get_or (set marks k true) k false ≡ true
      here = get_or-set_same marks k true false (omega (arith, of_w.within, are.same_length))

      elsewhere : same_pair v w ≡ false → (o : Option ℕ) → position (same_pair v) vs ≡ o → mark_at (set marks k true) o ≡ mark_at marks o
      elsewhere e None h = refl
      elsewhere e (Some n) h =
          let of_v = placed_at vs v n h in
          let apart : n ≢ k = λ same. absurd (false≢true (sym e ∙ ap (same_pair v) (sym (one_item v w (sym of_v.is ∙ ap (slice_get vs) same ∙ of_w.is))) ∙ itself v)) in
          get_or-set_other marks k n true false apart

      go : (b : Bool) → same_pair v w ≡ b → is_marked vs (set marks k true) v ≡ (is_marked vs marks v || b)
      go true e =
          let at_k : position (same_pair v) vs ≡ Some k = ap (λ x. position (same_pair x) vs) (equal_pairs v w e) ∙ at in
          ap (mark_at (set marks k true)) at_k ∙ here ∙ sym (or_true (is_marked vs marks v))
      go false e = elsewhere e (position (same_pair v) vs) refl ∙ sym (or_false (is_marked vs marks v))

  one_marked : (o : Option ℕ) → position (same_pair w) vs ≡ o → AreMarks vs (list ++ w ∷ []) (with_mark marks o)
  one_marked None at = absurd (false≢true (ap is_some (sym at) ∙ some_position (same_pair w) vs ∙ there))
  one_marked (Some k) at = record {
    same_length = length-set marks k true ∙ are.same_length;
    marked = λ v. marked_more k at v ∙ ap (λ b. b || same_pair v w) (are.marked v) ∙ sym (any_append (same_pair v) list (w ∷ []) ∙ ap (λ b. list_any (same_pair v) list || b) (or_false (same_pair v w)));
  }

  pub marked_with : AreMarks vs (list ++ w ∷ []) (with_mark marks (position (same_pair w) vs))
  marked_with = one_marked (position (same_pair w) vs) refl

  -- the place is one of the marks
  pub place_within : (n : ℕ) → position (same_pair w) vs ≡ Some n → n < length marks
  place_within n e = let p = placed_at vs w n e in omega (arith, p.within, are.same_length)

-- ---- merged marks

none_any : (xs : List ℕ) → list_any (λ (k : ℕ). false) xs ≡ false
none_any [] = refl
none_any (x ∷ xs) = none_any xs

pub merged_marks : (vs list : List (Text × Text)) (own : List Bool) (rows : List (List Bool)) (numbers : List ℕ) (marks : List Bool) → AreMarks vs list own → AreMerged own rows numbers marks → IsMarkedFrom vs list rows numbers marks
merged_marks vs list own rows numbers marks are h = record { same_length = h.same_length ∙ are.same_length; marked = λ v. go v (position (same_pair v) vs) refl ∙ ap (λ b. b || list_any (λ k. is_marked vs (get_or rows k []) v) numbers) (are.marked v) }
  where
    go : (v : Text × Text) (o : Option ℕ) → position (same_pair v) vs ≡ o → mark_at marks (position (same_pair v) vs) ≡ (mark_at own (position (same_pair v) vs) || list_any (λ k. mark_at (get_or rows k []) (position (same_pair v) vs)) numbers)
    go v None e = subst (λ o. mark_at marks o ≡ (mark_at own o || list_any (λ k. mark_at (get_or rows k []) o) numbers)) (sym e) (sym (none_any numbers))
    go v (Some n) e =
        let p = placed_at vs v n e in
        subst (λ o. mark_at marks o ≡ (mark_at own o || list_any (λ k. mark_at (get_or rows k []) o) numbers)) (sym e) (h.merged n (omega (arith, p.within, are.same_length)))

-- ---- all variables of some lists

any_with : (v : Text × Text) (vs : List (Text × Text)) (w : Text × Text) → list_any (same_pair v) vs ≡ true → list_any (same_pair v) (with_variable vs w) ≡ true
any_with v vs w e = go (list_any (same_pair w) vs)
  where
    go : (b : Bool) → list_any (same_pair v) (if b then vs else vs ++ w ∷ []) ≡ true
    go true = e
    go false = any_append (same_pair v) vs (w ∷ []) ∙ ap (λ b. b || list_any (same_pair v) (w ∷ [])) e

this_with : (vs : List (Text × Text)) (w : Text × Text) → list_any (same_pair w) (with_variable vs w) ≡ true
this_with vs w = go (list_any (same_pair w) vs) refl
  where
    go : (b : Bool) → list_any (same_pair w) vs ≡ b → list_any (same_pair w) (if b then vs else vs ++ w ∷ []) ≡ true
    go true e = e
    go false e = any_append (same_pair w) vs (w ∷ []) ∙ ap (λ b. b || (same_pair w w || false)) e ∙ ap (λ b. b || false) (itself w)

still_there : (v : Text × Text) (vs ws : List (Text × Text)) → list_any (same_pair v) vs ≡ true → list_any (same_pair v) (with_variables vs ws) ≡ true
still_there v vs [] e = e
still_there v vs (w ∷ ws) e = still_there v (with_variable vs w) ws (any_with v vs w e)

all_there : (v : Text × Text) (vs ws : List (Text × Text)) → list_any (same_pair v) ws ≡ true → list_any (same_pair v) (with_variables vs ws) ≡ true
all_there v vs [] e = absurd (false≢true e)
all_there v vs (w ∷ ws) e = go (same_pair v w) refl e (all_there v (with_variable vs w) ws)
  where
    go : (b : Bool) → same_pair v w ≡ b → (b || list_any (same_pair v) ws) ≡ true → (list_any (same_pair v) ws ≡ true → list_any (same_pair v) (with_variables (with_variable vs w) ws) ≡ true)
        → list_any (same_pair v) (with_variables (with_variable vs w) ws) ≡ true
    go true h k rest = still_there v (with_variable vs w) ws (ap (λ x. list_any (same_pair x) (with_variable vs w)) (equal_pairs v w h) ∙ this_with vs w)
    go false h k rest = rest k

still_there_after : (v : Text × Text) (vs : List (Text × Text)) (rows : List (List (Text × Text))) → list_any (same_pair v) vs ≡ true → list_any (same_pair v) (with_rows vs rows) ≡ true
still_there_after v vs [] e = e
still_there_after v vs (row ∷ rows) e = still_there_after v (with_variables vs row) rows (still_there v vs row e)

pub row_there : (vs : List (Text × Text)) (rows : List (List (Text × Text))) (n : ℕ) → HasAll (with_rows vs rows) (get_or rows n [])
row_there vs rows n = record { there = λ v e. go vs rows n v e }
  where
    go : (vs : List (Text × Text)) (rows : List (List (Text × Text))) (n : ℕ) (v : Text × Text) → list_any (same_pair v) (get_or rows n []) ≡ true → list_any (same_pair v) (with_rows vs rows) ≡ true
    go vs [] n v e = absurd (false≢true e)
    go vs (row ∷ rows) zero v e = still_there_after v (with_variables vs row) rows (all_there v vs row e)
    go vs (row ∷ rows) (suc n) v e = go (with_variables vs row) rows n v e

pub pairs_with : (list : List ModuleVariable) (v : ModuleVariable) → pairs (if list_any (λ w. same_pair (pair_of v) (pair_of w)) list then list else list ++ v ∷ []) ≡ with_variable (pairs list) (pair_of v)
pairs_with list v = go (list_any (λ w. same_pair (pair_of v) (pair_of w)) list) ∙ ap (λ b. if b then pairs list else pairs list ++ pair_of v ∷ []) (sym (any_map (same_pair (pair_of v)) pair_of list))
  where
    go : (b : Bool) → pairs (if b then list else list ++ v ∷ []) ≡ (if b then pairs list else pairs list ++ pair_of v ∷ [])
    go true = refl
    go false = map-append pair_of list (v ∷ [])

-- one more variable of a list
pub next_mark : (vs : List (Text × Text)) (items : List ModuleVariable) (i : ℕ) (w : ModuleVariable) → i < length items → w ≡ get_or items i w → HasAll vs (pairs items) → (old new : List Bool) → AreMarks vs (pairs (take i items)) old
    → new ≡ with_mark old (position (same_pair (pair_of w)) vs) → AreMarks vs (pairs (take (i + 1) items)) new
next_mark vs items i w within is all old new are e =
    let longer : pairs (take (i + 1) items) ≡ pairs (take i items) ++ pair_of w ∷ [] =
    ap pairs (take_more items i w within ∙ ap (λ x. take i items ++ x ∷ []) (sym is)) ∙ map-append pair_of (take i items) (w ∷ []) in
    subst (λ l. AreMarks vs l new) (sym longer) (subst (AreMarks vs (pairs (take i items) ++ pair_of w ∷ [])) (sym e) (marked_with vs (pairs (take i items)) old (pair_of w) are (all.there (pair_of w) (among items i w within is))))
  where
    among : (items : List ModuleVariable) (i : ℕ) (w : ModuleVariable) → i < length items → w ≡ get_or items i w → list_any (same_pair (pair_of w)) (pairs items) ≡ true
    among [] i w h e = absurd (omega (arith, h))
    among (x ∷ items) zero w h e = ap (λ y. same_pair (pair_of w) (pair_of y) || list_any (same_pair (pair_of w)) (pairs items)) (sym e) ∙ ap (λ b. b || list_any (same_pair (pair_of w)) (pairs items)) (itself (pair_of w))
    among (x ∷ items) (suc i) w h e = ap (λ b. same_pair (pair_of w) (pair_of x) || b) (among items i w (omega (arith, h)) e) ∙ or_true (same_pair (pair_of w) (pair_of x))

-- the row of a unit
pub row_at : (rows : List (List ModuleVariable)) (n : ℕ) (row : List ModuleVariable) → n < length rows → row ≡ get_or rows n row → get_or (rows_of rows) n [] ≡ pairs row
row_at [] n row h e = absurd (omega (arith, h))
row_at (r ∷ rows) zero row h e = ap pairs (sym e)
row_at (r ∷ rows) (suc n) row h e = row_at rows n row (omega (arith, h)) e

pub rows_there : (vs : List (Text × Text)) (rows : List (List (Text × Text))) → HasAllRows (with_rows vs rows) rows
rows_there vs rows = record { each = row_there vs rows }
