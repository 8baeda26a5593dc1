-- In the order of calls: what is known of each unit that stands behind all to which it refers is known of all units.
use Rattle.std.proofs.Common.{◌≡◌, ◌≢◌, ℕ, zero, suc, ◌+◌, ◌<◌, Bool, true, false, ◌||◌, cond, nat_eq, nat_lt, List, [], ◌∷◌, ◌++◌, map, length, take, get_or, set, replicate, Option, Some, None, refl, sym, ap, ◌∙◌, subst, arith, append_assoc, append-nil, eq-eqb, get_or-set_other, get_or-set_same, length-set}
use Rattle.std.specs.Prelude.{slice_get}
use Rattle.std.specs.List.{list_any, list_all}
use Rattle.std.specs.Option.{option_map}
use Rattle.std.specs.Str.{bytes_eq}
use Rattle.std.proofs.lemmas.Bool.{false≢true, and_parts}
use Rattle.std.proofs.lemmas.Bool.Decides.{nat_tests}
use Rattle.std.proofs.lemmas.Grind.{take_at_read}
use Rattle.fort_tree.specs.declared.unit.File.{File}
use Rattle.fort_tree.specs.declared.unit.Unit as tree_unit
use Rattle.claw_meaning.specs.Syntax.{Text}
use Rattle.numbered_graph.specs.Graphs.{Rows, row, stands, times, is_behind}
use Rattle.numbered_graph.proofs.Deeper.{stands_other}
use Rattle.numbered_graph.proofs.Times.{same_number, itself, stands_if, times_if}
use Rattle.numbered_graph.proofs.Turned.{stands_at}
use Rattle.numbered_graph.proofs.Ways.{all_stand}
use Rattle.sound_programs.specs.ArgumentFaults.{reached_from}
use Rattle.sound_programs.specs.CallFaults.{referrals_of}
use Rattle.sound_programs.specs.Placed.{Unit, bare_program}
use Rattle.sound_programs.specs.Placing.{placed, placed_unit}
use Rattle.fort_names.specs.NameLists.{with_name}
use Rattle.fort_names.proofs.Places.{any_map, get_map}
use Rattle.call_graph.specs.CallGraphs.{CallGraph, names_after, IsCallGraph}
use Rattle.call_graph.specs.Referring.{unit_names, name_at, NamesDiffer}
use Rattle.argument_faults.proofs.Inserting.{any_with}
use Rattle.argument_faults.proofs.Onwards.{IsAlone, reached_onwards}

-- ---- the points before one in an order

behind_at : (rows : Rows) (before xs : List ℕ) (i : ℕ) → is_behind rows before xs ≡ true → i < length xs → list_all (λ y. stands y (before ++ take i xs)) (row rows (get_or xs i 0)) ≡ true
behind_at rows before [] i h within = absurd (omega (arith, within))
behind_at rows before (x ∷ xs) zero h within =
    let parts : (list_all (λ y. stands y before) (row rows x) ≡ true) × (is_behind rows (before ++ x ∷ []) xs ≡ true) = and_parts (list_all (λ y. stands y before) (row rows x)) (is_behind rows (before ++ x ∷ []) xs) h in
    subst (λ l. list_all (λ y. stands y l) (row rows x) ≡ true) (sym (append-nil before)) parts.0
behind_at rows before (x ∷ xs) (suc i) h within =
    let parts : (list_all (λ y. stands y before) (row rows x) ≡ true) × (is_behind rows (before ++ x ∷ []) xs ≡ true) = and_parts (list_all (λ y. stands y before) (row rows x)) (is_behind rows (before ++ x ∷ []) xs) h in
    subst (λ l. list_all (λ y. stands y l) (row rows (get_or xs i 0)) ≡ true) (append_assoc before (x ∷ []) (take i xs))
    (behind_at rows (before ++ x ∷ []) xs i parts.1 (omega (arith, within)))

pub any_standing : (p q : ℕ → Bool) (xs : List ℕ) → ((k : ℕ) → stands k xs ≡ true → p k ≡ q k) → list_any p xs ≡ list_any q xs
any_standing p q [] h = refl
any_standing p q (x ∷ xs) h = (λ i. h x (ap (λ b. b || stands x xs) (itself x)) i || any_standing p q xs (λ k e. h k (later k e)) i)
  where
    later : (k : ℕ) → stands k xs ≡ true → stands k (x ∷ xs) ≡ true
    later k e = go (nat_eq k x)
      where
        go : (b : Bool) → (b || stands k xs) ≡ true
        go true = refl
        go false = e

any_names_after : (test : Text → Bool) (before xs : List Text) → list_any test (names_after before xs) ≡ (list_any test before || list_any test xs)
any_names_after test before [] = last (list_any test before)
  where
    last : (b : Bool) → b ≡ (b || false)
    last true = refl
    last false = refl
any_names_after test before (x ∷ xs) =
    any_names_after test (with_name before x) xs ∙ ap (λ b. b || list_any test xs) (any_with test before x) ∙ group (list_any test before) (test x) (list_any test xs)
  where
    group : (a b c : Bool) → ((a || b) || c) ≡ (a || (b || c))
    group true b c = refl
    group false b c = refl

-- a unit, by its number
pub record Numbered (f : File) (k : ℕ) : Type 0 where
  pub unit : tree_unit.Unit
  pub there : slice_get f.units k ≡ Some unit
  pub name : name_at (unit_names f) k ≡ unit.name

unit_at : (us : List tree_unit.Unit) (k : ℕ) → k < length us → (u : tree_unit.Unit) × (slice_get us k ≡ Some u) × (name_at (map (λ u. u.name) us) k ≡ u.name)
unit_at [] k h = absurd (omega (arith, h))
unit_at (u ∷ us) zero h = (u, refl, refl)
unit_at (u ∷ us) (suc k) h = unit_at us k (omega (arith, h))

name_of : (us : List tree_unit.Unit) (k : ℕ) (u : tree_unit.Unit) → slice_get us k ≡ Some u → (k < length us) × (name_at (map (λ u. u.name) us) k ≡ u.name)
name_of [] k u e = absurd (cc)
name_of (v ∷ us) zero u e = let same : v ≡ u = cc in (omega arith, ap (λ w. w.name) same)
name_of (v ∷ us) (suc k) u e = let rest = name_of us k u e in (omega (arith, rest.0), rest.1)

names_long : (us : List tree_unit.Unit) → length (map (λ u. u.name) us) ≡ length us
names_long [] = refl
names_long (u ∷ us) = omega (arith, names_long us)

module _ (f : File) (g : CallGraph) (is : IsCallGraph f g) (differ : NamesDiffer (unit_names f)) where
  pub number_within : (k : ℕ) → stands k g.order ≡ true → k < length f.units
  number_within k e = go (nat_lt k (length f.units)) refl (is.each_once k)
    where
      go : (b : Bool) → nat_lt k (length f.units) ≡ b → times k g.order ≡ cond b 1 0 → k < length f.units
      go true h t = grind (arith, nat_tests)
      go false h t = absurd (omega (arith, t, times_if k g.order e))

  pub in_order : (k : ℕ) → k < length f.units → stands k g.order ≡ true
  in_order k h =
      let t : nat_lt k (length f.units) ≡ true = grind (arith, nat_tests) in
      let one : times k g.order ≡ cond true 1 0 = is.each_once k ∙ ap (λ b. cond b 1 0) t in
      stands_if k g.order (omega (arith, one))

  pub at_within : (i : ℕ) → i < length g.order → get_or g.order i 0 < length f.units
  at_within i h = number_within (get_or g.order i 0) (stands_at g.order i 0 h)

  pub callee_within : (x k : ℕ) → stands k (row g.callees x) ≡ true → k < length f.units
  callee_within x k e = omega (arith, is.within.within x k e, is.same_length)

  pub callee_before : (i k : ℕ) → i < length g.order → stands k (row g.callees (get_or g.order i 0)) ≡ true → stands k (take i g.order) ≡ true
  callee_before i k h e = all_stand (row g.callees (get_or g.order i 0)) (take i g.order) k (behind_at g.callees [] g.order i is.behind h) e

  pub numbered : (k : ℕ) → k < length f.units → Numbered f k
  numbered k h = let u = unit_at f.units k h in record { unit = u.0; there = u.1; name = u.2 }

  module _ (x : ℕ) (u : tree_unit.Unit) (there : slice_get f.units x ≡ Some u) where
    alone : IsAlone (placed f).units x (placed_unit u)
    alone = record { there = get_map placed_unit f.units x ∙ ap (option_map placed_unit) there; alone = λ m v e same. other m v (slice_get f.units m) refl (sym (get_map placed_unit f.units m) ∙ e) same }
      where
        other : (m : ℕ) (v : Unit) (o : Option tree_unit.Unit) → slice_get f.units m ≡ o → option_map placed_unit o ≡ Some v → bytes_eq v.name u.name ≡ true → m ≡ x
        other m v None at e same = absurd (cc)
        other m v (Some w) at e same =
            let is_v : placed_unit w ≡ v = cc in
            let of_m = name_of f.units m w at in
            let of_x = name_of f.units x u there in
            differ.differ m x (omega (arith, of_m.0, names_long f.units)) (omega (arith, of_x.0, names_long f.units))
            (ap (λ y. bytes_eq y (name_at (unit_names f) x)) (of_m.1 ∙ ap (λ y. y.name) is_v) ∙ ap (bytes_eq v.name) of_x.1 ∙ same)

    callees_named : (test : Text → Bool) → list_any test (map (λ r. r.to) (referrals_of (bare_program (placed f)) (placed_unit u))) ≡ list_any (λ k. test (name_at (unit_names f) k)) (row g.callees x)
    callees_named test =
        sym (any_names_after test [] (map (λ r. r.to) (referrals_of (bare_program (placed f)) (placed_unit u))))
        ∙ ap (list_any test) (sym (is.callees x u there))
        ∙ any_map test (name_at (unit_names f)) (row g.callees x)

    -- a unit reaches itself, and what those reach, to which it refers
    pub reached_at : (P : Unit → Bool)
        → list_any P (reached_from (placed f) u.name) ≡ (P (placed_unit u) || list_any (λ k. list_any P (reached_from (placed f) (name_at (unit_names f) k))) (row g.callees x))
    reached_at P =
        reached_onwards (placed f) x (placed_unit u) alone P
        ∙ ap (λ b. P (placed_unit u) || b) (callees_named (λ y. list_any P (reached_from (placed f) y)))

-- ---- what is known of units, one after the other

pub record SoFar {A : Type 0} (Fits : tree_unit.Unit → A → Type 0) (d : A) (f : File) (done : List ℕ) (rows : List A) : Type 0 where
  pub same_length : length rows ≡ length f.units
  pub fits : (x : ℕ) (u : tree_unit.Unit) → stands x done ≡ true → slice_get f.units x ≡ Some u → Fits u (get_or rows x d)

module _ {A : Type 0} (Fits : tree_unit.Unit → A → Type 0) (d : A) (f : File) where
  pub none_so_far : SoFar Fits d f [] (replicate (length f.units) d)
  none_so_far = record { same_length = many (length f.units); fits = λ x u e there. absurd (false≢true e) }
    where
      many : (n : ℕ) → length (replicate n d) ≡ n
      many zero = refl
      many (suc n) = omega (arith, many n)

  pub one_more : (order : List ℕ) (i : ℕ) (rows : List A) (a : A) → i < length order → get_or order i 0 < length f.units → SoFar Fits d f (take i order) rows
      → ((u : tree_unit.Unit) → slice_get f.units (get_or order i 0) ≡ Some u → Fits u a) → SoFar Fits d f (take (i + 1) order) (set rows (get_or order i 0) a)
  one_more order i rows a within inside so_far new = record {
    same_length = length-set rows (get_or order i 0) a ∙ so_far.same_length;
    fits = λ x u e there. go x u e there (nat_eq x (get_or order i 0)) refl;
  }
    where
      longer : take (i + 1) order ≡ take i order ++ get_or order i 0 ∷ []
      longer = (take_at_read order i 0 within).1

      go : (x : ℕ) (u : tree_unit.Unit) → stands x (take (i + 1) order) ≡ true → slice_get f.units x ≡ Some u → (b : Bool) → nat_eq x (get_or order i 0) ≡ b → Fits u (get_or (set rows (get_or order i 0) a) x d)
      go x u e there true h =
          let same : x ≡ get_or order i 0 = same_number x (get_or order i 0) h in
          let this : get_or (set rows (get_or order i 0) a) x d ≡ a = ap (λ y. get_or (set rows (get_or order i 0) a) y d) same ∙ get_or-set_same rows (get_or order i 0) a d (omega (arith, inside, so_far.same_length)) in
          subst (Fits u) (sym this) (new u (ap (slice_get f.units) (sym same) ∙ there))
      go x u e there false h =
          let apart : x ≢ get_or order i 0 = λ same. absurd (false≢true (sym h ∙ eq-eqb x (get_or order i 0) same)) in
          let this : get_or (set rows (get_or order i 0) a) x d ≡ get_or rows x d = get_or-set_other rows (get_or order i 0) x a d apart in
          subst (Fits u) (sym this) (so_far.fits x u (sym (stands_other x (get_or order i 0) (take i order) h) ∙ ap (stands x) (sym longer) ∙ e) there)
