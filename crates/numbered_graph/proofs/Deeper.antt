-- The depths of points, one after the other in their order.
use Rattle.std.proofs.Common.{◌≡◌, ℕ, zero, suc, ◌+◌, ◌<◌, ◌≤◌, ◌≢◌, Bool, true, false, ◌||◌, nat_eq, nat_le, List, [], ◌∷◌, ◌++◌, length, take, get_or, set, replicate, Option, Some, None, is_some, refl, sym, ap, ◌∙◌, subst, arith, append_assoc, append-nil, eq-eqb, get_or-set_other, get_or-set_same, length-set}
use Rattle.std.specs.List.{list_any, list_all}
use Rattle.std.proofs.lemmas.Bool.{false≢true, and_parts}
use Rattle.std.proofs.lemmas.Bool.Decides.{nat_tests}
use Rattle.std.proofs.lemmas.Grind.{take_at_read}
use Rattle.numbered_graph.specs.Graphs.{Rows, row, stands, has_chain, is_behind, IsOrder}
use Rattle.numbered_graph.specs.Deepness.{greater, one_deeper, depth_at, deeper_by, depth_over, AreDepths}
use Rattle.numbered_graph.proofs.Times.{same_number, itself, counted, no_times, none_stands, stands_if, times_if, times_last, stands_append, stands_last}
use Rattle.numbered_graph.proofs.Ways.{all_stand}

-- ---- the greatest depth of some points

step_le : (limit k a d : ℕ) → suc k ≤ limit → nat_le (suc k) (greater a (one_deeper limit d)) ≡ (nat_le (suc k) a || nat_le k d)
step_le limit k a d h = grind (arith, nat_tests)

record HasDepth (rows : Rows) (depths : List (Option ℕ)) (k x : ℕ) : Type 0 where
  depth : ℕ
  is : depth_at depths x ≡ Some depth
  tells : has_chain rows k x ≡ nat_le k depth

or_assoc : (a b c : Bool) → ((a || b) || c) ≡ (a || (b || c))
or_assoc true b c = refl
or_assoc false b c = refl

or_none : (a : Bool) → (a || false) ≡ a
or_none true = refl
or_none false = refl

depth_tells : (rows : Rows) (limit k : ℕ) (depths : List (Option ℕ)) (so_far : ℕ) (xs : List ℕ) → suc k ≤ limit → ((x : ℕ) → stands x xs ≡ true → HasDepth rows depths k x)
    → nat_le (suc k) (depth_over limit depths so_far xs) ≡ (nat_le (suc k) so_far || list_any (has_chain rows k) xs)
depth_tells rows limit k depths so_far [] h has = sym (or_none (nat_le (suc k) so_far))
depth_tells rows limit k depths so_far (x ∷ xs) h has =
    let first : HasDepth rows depths k x = has x (ap (λ b. b || stands x xs) (itself x)) in
    depth_tells rows limit k depths (deeper_by limit so_far (depth_at depths x)) xs h (λ y e. has y (stands_if y (x ∷ xs) (omega (arith, times_if y xs e))))
    ∙ ap (λ o. nat_le (suc k) (deeper_by limit so_far o) || list_any (has_chain rows k) xs) first.is
    ∙ ap (λ b. b || list_any (has_chain rows k) xs) (step_le limit k so_far first.depth h)
    ∙ or_assoc (nat_le (suc k) so_far) (nat_le k first.depth) (list_any (has_chain rows k) xs)
    ∙ ap (λ b. nat_le (suc k) so_far || (b || list_any (has_chain rows k) xs)) (sym first.tells)

-- ---- the points before one in the order

behind_at : (rows : Rows) (before xs : List ℕ) (i : ℕ) → is_behind rows before xs ≡ true → i < length xs → list_all (λ y. stands y (before ++ take i xs)) (row rows (get_or xs i 0)) ≡ true
behind_at rows before [] i h within = absurd (omega (arith, within))
behind_at rows before (x ∷ xs) zero h within =
    let parts : (list_all (λ y. stands y before) (row rows x) ≡ true) × (is_behind rows (before ++ x ∷ []) xs ≡ true) = and_parts (list_all (λ y. stands y before) (row rows x)) (is_behind rows (before ++ x ∷ []) xs) h in
    subst (λ l. list_all (λ y. stands y l) (row rows x) ≡ true) (sym (append-nil before)) parts.0
behind_at rows before (x ∷ xs) (suc i) h within =
    let parts : (list_all (λ y. stands y before) (row rows x) ≡ true) × (is_behind rows (before ++ x ∷ []) xs ≡ true) = and_parts (list_all (λ y. stands y before) (row rows x)) (is_behind rows (before ++ x ∷ []) xs) h in
    subst (λ l. list_all (λ y. stands y l) (row rows (get_or xs i 0)) ≡ true) (append_assoc before (x ∷ []) (take i xs))
    (behind_at rows (before ++ x ∷ []) xs i parts.1 (omega (arith, within)))

pub stands_other : (x y : ℕ) (xs : List ℕ) → nat_eq x y ≡ false → stands x (xs ++ y ∷ []) ≡ stands x xs
stands_other x y xs e = go (stands x xs) refl
  where
    go : (b : Bool) → stands x xs ≡ b → stands x (xs ++ y ∷ []) ≡ stands x xs
    go true h = stands_append x xs (y ∷ []) h ∙ sym h
    go false h = none_stands x (xs ++ y ∷ []) (omega (arith, times_last x y xs, no_times x xs h, counted e)) ∙ sym h

some_of : {A : Type 0} (o : Option A) → is_some o ≡ true → (a : A) × (o ≡ Some a)
some_of None e = absurd (false≢true e)
some_of (Some a) e = (a, refl)

-- ---- one more point

module _ (rows : Rows) (order : List ℕ) (limit : ℕ) (depths : List (Option ℕ)) (i point : ℕ) (is_order : IsOrder rows order) (within : i < length order) (at : point ≡ get_or order i 0)
    (so_far : AreDepths rows (take i order) limit depths) where
  pub point_in : point < length rows
  point_in = is_order.within point (subst (λ x. stands x order ≡ true) (sym at) (there order i within))
    where
      there : (xs : List ℕ) (j : ℕ) → j < length xs → stands (get_or xs j 0) xs ≡ true
      there [] j h = absurd (omega (arith, h))
      there (x ∷ xs) zero h = ap (λ b. b || stands x xs) (itself x)
      there (x ∷ xs) (suc j) h = stands_if (get_or xs j 0) (x ∷ xs) (omega (arith, times_if (get_or xs j 0) xs (there xs j (omega (arith, h)))))

  -- all to which the point has links stand before it
  before : (y : ℕ) → stands y (row rows point) ≡ true → stands y (take i order) ≡ true
  before y e = all_stand (row rows point) (take i order) y (subst (λ x. list_all (λ z. stands z (take i order)) (row rows x) ≡ true) (sym at) (behind_at rows [] order i is_order.behind within)) e

  has_depth : (k : ℕ) → k ≤ limit → (y : ℕ) → stands y (row rows point) ≡ true → HasDepth rows depths k y
  has_depth k h y e =
      let d : (a : ℕ) × (depth_at depths y ≡ Some a) = some_of (depth_at depths y) (so_far.ordered y ∙ before y e) in
      record { depth = d.0; is = d.1; tells = so_far.depth y d.0 k d.1 h }

  tells_new : (k : ℕ) → k ≤ limit → has_chain rows k point ≡ nat_le k (depth_over limit depths 0 (row rows point))
  tells_new zero h = none_less (depth_over limit depths 0 (row rows point))
    where
      none_less : (n : ℕ) → true ≡ nat_le 0 n
      none_less n = grind (arith, nat_tests)
  tells_new (suc k) h = sym (depth_tells rows limit k depths 0 (row rows point) h (has_depth k (omega (arith, h))) ∙ ap (λ b. b || list_any (has_chain rows k) (row rows point)) (nothing k))
    where
      nothing : (k : ℕ) → nat_le (suc k) 0 ≡ false
      nothing k = grind (arith, nat_tests)

  same_at : depth_at (set depths point (Some (depth_over limit depths 0 (row rows point)))) point ≡ Some (depth_over limit depths 0 (row rows point))
  same_at = get_or-set_same depths point (Some (depth_over limit depths 0 (row rows point))) None (omega (arith, point_in, so_far.same_length))

  other_at : (x : ℕ) → nat_eq x point ≡ false → depth_at (set depths point (Some (depth_over limit depths 0 (row rows point)))) x ≡ depth_at depths x
  other_at x e =
      let apart : x ≢ point = λ same. absurd (false≢true (sym e ∙ eq-eqb x point same)) in
      get_or-set_other depths point x (Some (depth_over limit depths 0 (row rows point))) None apart

  longer : take (i + 1) order ≡ take i order ++ point ∷ []
  longer = (take_at_read order i 0 within).1 ∙ ap (λ x. take i order ++ x ∷ []) (sym at)

  ordered_so : (x : ℕ) (b : Bool) → nat_eq x point ≡ b → is_some (depth_at (set depths point (Some (depth_over limit depths 0 (row rows point)))) x) ≡ stands x (take (i + 1) order)
  ordered_so x true e =
      let same : x ≡ point = same_number x point e in
      subst (λ y. is_some (depth_at (set depths point (Some (depth_over limit depths 0 (row rows point)))) y) ≡ stands y (take (i + 1) order)) (sym same)
      (ap is_some same_at ∙ sym (stands_last point (take i order)) ∙ ap (stands point) (sym longer))
  ordered_so x false e = ap is_some (other_at x e) ∙ so_far.ordered x ∙ sym (stands_other x point (take i order) e) ∙ ap (stands x) (sym longer)

  depth_so : (x d k : ℕ) (b : Bool) → nat_eq x point ≡ b → depth_at (set depths point (Some (depth_over limit depths 0 (row rows point)))) x ≡ Some d → k ≤ limit → has_chain rows k x ≡ nat_le k d
  depth_so x d k true e is h =
      let same : x ≡ point = same_number x point e in
      let this : depth_over limit depths 0 (row rows point) ≡ d = cc (same_at, is, same) in
      ap (has_chain rows k) same ∙ tells_new k h ∙ ap (nat_le k) this
  depth_so x d k false e is h = so_far.depth x d k (sym (other_at x e) ∙ is) h

  pub one_more_depth : AreDepths rows (take (i + 1) order) limit (set depths point (Some (depth_over limit depths 0 (row rows point))))
  one_more_depth = record {
    same_length = length-set depths point (Some (depth_over limit depths 0 (row rows point))) ∙ so_far.same_length;
    ordered = λ x. ordered_so x (nat_eq x point) refl;
    depth = λ x d k. depth_so x d k (nat_eq x point) refl;
  }

-- no point has a depth yet
pub no_depths : (rows : Rows) (limit : ℕ) → AreDepths rows [] limit (replicate (length rows) None)
no_depths rows limit = record {
  same_length = many (length rows);
  ordered = λ x. ap is_some (none (length rows) x);
  depth = λ x d k e h. absurd (false≢true (sym (ap is_some (none (length rows) x)) ∙ ap is_some e));
}
  where
    many : (n : ℕ) → length (replicate {A = Option ℕ} n None) ≡ n
    many zero = refl
    many (suc n) = omega (arith, many n)

    none : (n x : ℕ) → depth_at (replicate n None) x ≡ None
    none zero x = refl
    none (suc n) zero = refl
    none (suc n) (suc x) = none n x
