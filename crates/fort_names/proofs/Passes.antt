-- One pass over the modules in an order in which each stands behind all that it uses: each then has what it has after so many rounds or more.
use Rattle.std.proofs.Common.{◌≡◌, ℕ, zero, suc, ◌+◌, ◌<◌, ◌≤◌, ◌≢◌, Bool, true, false, cond, nat_eq, List, [], ◌∷◌, ◌++◌, length, get_or, set, take, drop, Option, None, Some, refl, sym, ap, ◌∙◌, subst, arith, eq-eqb, drop-cons, get_or-set_other, get_or-set_same, length-set, ◌⊎◌, inl, inr, if◌then◌else◌}
use Rattle.std.specs.Prelude.{is_some}
use Rattle.std.specs.List.{list_all, position, slice_get, cons_option}
use Rattle.std.specs.Option.{option_and_then}
use Rattle.std.specs.Str.{bytes_eq}
use Rattle.std.proofs.lemmas.Bool.{false≢true, and_parts}
use Rattle.std.proofs.lemmas.Grind.{take_at_read}
use Rattle.std.proofs.lemmas.List.{length-map, take_all, drop_all}
use Rattle.std.proofs.lemmas.List.Quantifiers.{position-Some}
use Rattle.fort_tree.specs.declared.unit.Module.{Module}
use Rattle.fort_tree.specs.declared.unit.Use.{Use}
use Rattle.claw_meaning.specs.Plain.{plain_use}
use Rattle.claw_meaning.specs.Scope.{brings}
use Rattle.claw_meaning.specs.Syntax.{Text}
use Rattle.sound_programs.specs.Scopes.{or_other}
use Rattle.numbered_graph.specs.Graphs.{row, stands, times, is_behind, IsGraph, IsOrder}
use Rattle.numbered_graph.proofs.Times.{same_number, no_times, stands_cases, append_cases, first_stands, later_stands, at_most}
use Rattle.numbered_graph.proofs.Ways.{all_stand}
use Rattle.fort_names.specs.declared.homes.Declared.{Declared}
use Rattle.fort_names.specs.Tables.{declared_in, at_number, lines_origin, module_origin, next_row, rounds, origins}
use Rattle.fort_names.specs.Links.{named_by, links_among}
use Rattle.fort_names.proofs.Given.{row_at}
use Rattle.fort_names.proofs.Places.{passing}

-- ---- rows

number_is : (row : List (Option ℕ)) (i : ℕ) → at_number row i ≡ get_or row i None
number_is [] i = refl
number_is (o ∷ row) zero = refl
number_is (o ∷ row) (suc i) = number_is row i

set_there : (row : List (Option ℕ)) (i : ℕ) (o : Option ℕ) → i < length row → at_number (set row i o) i ≡ o
set_there row i o h = number_is (set row i o) i ∙ get_or-set_same row i o None h

set_elsewhere : (row : List (Option ℕ)) (i j : ℕ) (o : Option ℕ) → nat_eq j i ≡ false → at_number (set row i o) j ≡ at_number row j
set_elsewhere row i j o e =
    let apart : j ≢ i = λ same. absurd (false≢true (sym e ∙ eq-eqb j i same)) in
    number_is (set row i o) j ∙ get_or-set_other row i j o None apart ∙ sym (number_is row j)

-- rows of one length that say the same of each module
one_row : (a b : List (Option ℕ)) → length a ≡ length b → ((i : ℕ) → i < length a → at_number a i ≡ at_number b i) → a ≡ b
one_row [] [] e h = refl
one_row [] (y ∷ b) e h = absurd (omega (arith, e))
one_row (x ∷ a) [] e h = absurd (omega (arith, e))
one_row (x ∷ a) (y ∷ b) e h = λ j. h 0 (omega arith) j ∷ one_row a b (omega (arith, e)) (λ i lt. h (suc i) (omega (arith, lt))) j

long_next : (d : Declared) (n : ℕ) (ms : List Module) (row : List (Option ℕ)) (x : Text) → length (next_row d n ms row x) ≡ length ms
long_next d n [] row x = refl
long_next d n (m ∷ ms) row x = omega (arith, long_next d (n + 1) ms row x)

long_rounds : (d : Declared) (ms : List Module) (k : ℕ) (x : Text) → length (rounds d ms k x) ≡ length ms
long_rounds d ms zero x = length-map ms _
long_rounds d ms (suc k) x = long_next d 0 ms (rounds d ms k x) x

-- ---- what a module gives depends on those alone that its lines name

same_by_lines : (names : List Text) (a b : List (Option ℕ)) (x : Text) (us : List Use) → ((i : ℕ) → stands i (named_by names us) ≡ true → at_number a i ≡ at_number b i) → lines_origin names a us x ≡ lines_origin names b us x
same_by_lines names a b x [] h = refl
same_by_lines names a b x (u ∷ us) h = go (position (bytes_eq u.name) names) (same_by_lines names a b x us) h
  where
    go : (o : Option ℕ) → (((i : ℕ) → stands i (named_by names us) ≡ true → at_number a i ≡ at_number b i) → lines_origin names a us x ≡ lines_origin names b us x)
        → ((i : ℕ) → stands i (cons_option o (named_by names us)) ≡ true → at_number a i ≡ at_number b i)
        → or_other (if brings (plain_use u) x then option_and_then (at_number a) o else None) (lines_origin names a us x)
        ≡ or_other (if brings (plain_use u) x then option_and_then (at_number b) o else None) (lines_origin names b us x)
    go None rest h = ap (or_other (if brings (plain_use u) x then None else None)) (rest h)
    go (Some n) rest h = λ j. or_other (if brings (plain_use u) x then h n (first_stands n (named_by names us)) j else None) (rest (λ i e. h i (later_stands i n (named_by names us) e)) j)

same_module : (d : Declared) (a b : List (Option ℕ)) (x : Text) (n : ℕ) (m : Module) → ((i : ℕ) → stands i (named_by d.names m.uses) ≡ true → at_number a i ≡ at_number b i) → module_origin d a x n m ≡ module_origin d b x n m
same_module d a b x n m h = ap (λ o. if is_some (declared_in d n x) then Some n else o) (same_by_lines d.names a b x m.uses h)

links_at : (names : List Text) (ms : List Module) (n : ℕ) (m : Module) → slice_get ms n ≡ Some m → row (links_among names ms) n ≡ named_by names m.uses
links_at names [] n m e = absurd (cc)
links_at names (a ∷ ms) zero m e = let same : a ≡ m = cc in ap (λ a. named_by names a.uses) same
links_at names (a ∷ ms) (suc n) m e = links_at names ms n m e

below_by_lines : (names : List Text) (us : List Use) (y : ℕ) → stands y (named_by names us) ≡ true → y < length names
below_by_lines names [] y s = absurd (false≢true s)
below_by_lines names (u ∷ us) y s = go (position (bytes_eq u.name) names) refl (below_by_lines names us y) s
  where
    either : (n : ℕ) → n < length names → (stands y (named_by names us) ≡ true → y < length names) → (y ≡ n) ⊎ (stands y (named_by names us) ≡ true) → y < length names
    either n h rest (inl e) = omega (arith, h, e)
    either n h rest (inr s) = rest s

    go : (o : Option ℕ) → position (bytes_eq u.name) names ≡ o → (stands y (named_by names us) ≡ true → y < length names) → stands y (cons_option o (named_by names us)) ≡ true → y < length names
    go None e rest s = rest s
    go (Some n) e rest s = either n (position-Some (bytes_eq u.name) names n [] e).0 rest (stands_cases y n (named_by names us) s)

below_all : (names : List Text) (ms : List Module) (i y : ℕ) → stands y (row (links_among names ms) i) ≡ true → y < length names
below_all names [] i y s = absurd (false≢true s)
below_all names (m ∷ ms) zero y s = below_by_lines names m.uses y s
below_all names (m ∷ ms) (suc i) y s = below_all names ms i y s

pub graph_of : (names : List Text) (ms : List Module) → length names ≡ length ms → IsGraph (links_among names ms)
graph_of names ms long = record { within = λ i y s. omega (arith, below_all names ms i y s, long, length-map ms (λ m. named_by names m.uses)) }

-- ---- the pass

-- what the row of the pass has, where these modules are done and those are still to come
pub record Passing (d : Declared) (ms : List Module) (x : Text) (done rest : List ℕ) (now : List (Option ℕ)) : Type 0 where
  pub same_length : length now ≡ length ms
  pub within : (i : ℕ) → stands i rest ≡ true → i < length ms
  pub behind : is_behind (links_among d.names ms) done rest ≡ true
  pub right : (i k : ℕ) → stands i done ≡ true → length done ≤ k → at_number now i ≡ at_number (rounds d ms k x) i

module _ (d : Declared) (ms : List Module) (x : Text) where
  module _ (done rest : List ℕ) (p : ℕ) (now : List (Option ℕ)) (before : Passing d ms x done (p ∷ rest) now) where
    abbrev value : Option ℕ
    value = option_and_then (module_origin d now x p) (slice_get ms p)

    parts : (list_all (λ y. stands y done) (row (links_among d.names ms) p) ≡ true) × (is_behind (links_among d.names ms) (done ++ p ∷ []) rest ≡ true)
    parts = and_parts (list_all (λ y. stands y done) (row (links_among d.names ms) p)) (is_behind (links_among d.names ms) (done ++ p ∷ []) rest) before.behind

    long : length (done ++ p ∷ []) ≡ length done + 1
    long = length_last done
      where
        length_last : (xs : List ℕ) → length (xs ++ p ∷ []) ≡ length xs + 1
        length_last [] = refl
        length_last (y ∷ xs) = omega (arith, length_last xs)

    here : (k : ℕ) → length done ≤ k → value ≡ at_number (rounds d ms (suc k) x) p
    here k h = go (slice_get ms p) refl ∙ sym (row_at d ms (rounds d ms k x) x p)
      where
        go : (o : Option Module) → slice_get ms p ≡ o → option_and_then (module_origin d now x p) o ≡ option_and_then (module_origin d (rounds d ms k x) x p) o
        go None e = refl
        go (Some m) e =
            same_module d now (rounds d ms k x) x p m
            (λ i s. before.right i k (all_stand (row (links_among d.names ms) p) done i parts.0 (ap (stands i) (links_at d.names ms p m e) ∙ s)) h)

    old_one : (i : ℕ) → nat_eq i p ≡ false → stands i (done ++ p ∷ []) ≡ true → stands i done ≡ true
    old_one i e s = either (append_cases i done (p ∷ []) s)
      where
        last : (i ≡ p) ⊎ (stands i [] ≡ true) → stands i done ≡ true
        last (inl same) = absurd (false≢true (sym e ∙ eq-eqb i p same))
        last (inr none) = absurd (false≢true none)

        either : (stands i done ≡ true) ⊎ (stands i (p ∷ []) ≡ true) → stands i done ≡ true
        either (inl s) = s
        either (inr s) = last (stands_cases i p [] s)

    pub inside : p < length now
    inside = omega (arith, before.within p (first_stands p rest), before.same_length)

    right_so : (i k : ℕ) (b : Bool) → nat_eq i p ≡ b → stands i (done ++ p ∷ []) ≡ true → length done + 1 ≤ k → at_number (set now p value) i ≡ at_number (rounds d ms k x) i
    right_so i zero b e s h = absurd (omega (arith, h))
    right_so i (suc k) true e s h =
        subst (λ j. at_number (set now p value) j ≡ at_number (rounds d ms (suc k) x) j) (sym (same_number i p e))
        (set_there now p value inside ∙ here k (omega (arith, h)))
    right_so i (suc k) false e s h = set_elsewhere now p i value e ∙ before.right i (suc k) (old_one i e s) (omega (arith, h))

    pub one_more : Passing d ms x (done ++ p ∷ []) rest (set now p value)
    one_more = record {
      same_length = length-set now p value ∙ before.same_length;
      within = λ i e. before.within i (later_stands i p rest e);
      behind = parts.1;
      right = λ i k s h. right_so i k (nat_eq i p) refl s (omega (arith, h, long));
    }

  -- all modules stand in the order
  all_there : (order : List ℕ) → ((i : ℕ) → times i order ≤ 1) → ((i : ℕ) → stands i order ≡ true → i < length ms) → length order ≡ length ms → (i : ℕ) → i < length ms → stands i order ≡ true
  all_there order once below long i inside = go (stands i order) refl
    where
      once_with : stands i order ≡ false → (j : ℕ) (b : Bool) → nat_eq j i ≡ b → cond b 1 0 + times j order ≤ 1
      once_with none j true e = omega (arith, no_times i order none, ap (λ z. times z order) (same_number j i e))
      once_with none j false e = omega (arith, once j)

      below_with : (j : ℕ) → (j ≡ i) ⊎ (stands j order ≡ true) → j < length ms
      below_with j (inl e) = omega (arith, e, inside)
      below_with j (inr e) = below j e

      go : (b : Bool) → stands i order ≡ b → stands i order ≡ true
      go true e = e
      go false e = absurd (omega (arith, long, at_most (length ms) (i ∷ order) (λ j. once_with e j (nat_eq j i) refl) (λ j s. below_with j (stands_cases j i order s))))

  pub whole_pass : (order : List ℕ) (now : List (Option ℕ)) → IsOrder (links_among d.names ms) order → length order ≡ length ms → Passing d ms x order [] now → now ≡ origins d ms x
  whole_pass order now is_order long passed =
      one_row now (origins d ms x) (passed.same_length ∙ sym (long_rounds d ms (suc (length ms)) x))
      (λ i h. passed.right i (suc (length ms)) (all_there order is_order.once (λ j s. omega (arith, is_order.within j s, length-map ms (λ m. named_by d.names m.uses))) long i (omega (arith, h, passed.same_length))) (omega (arith, long)))

-- one module further in the order
pub further : (d : Declared) (ms : List Module) (x : Text) (order : List ℕ) (i p : ℕ) (now : List (Option ℕ)) → i < length order → p ≡ get_or order i 0 → Passing d ms x (take i order) (drop i order) now
    → (p < length now) × Passing d ms x (take (i + 1) order) (drop (i + 1) order) (set now p (option_and_then (module_origin d now x p) (slice_get ms p)))
further d ms x order i p now h e before =
    let rest : drop i order ≡ p ∷ drop (i + 1) order = rest_is in
    let done : take (i + 1) order ≡ take i order ++ p ∷ [] = (take_at_read order i 0 h).1 ∙ ap (λ q. take i order ++ q ∷ []) (sym e) in
    let here : Passing d ms x (take i order) (p ∷ drop (i + 1) order) now = subst (λ l. Passing d ms x (take i order) l now) rest before in (
      inside d ms x (take i order) (drop (i + 1) order) p now here,
      subst (λ l. Passing d ms x l (drop (i + 1) order) (set now p (option_and_then (module_origin d now x p) (slice_get ms p)))) (sym done) (one_more d ms x (take i order) (drop (i + 1) order) p now here),
    )
  where
    rest_is : drop i order ≡ p ∷ drop (i + 1) order
    rest_is = let step : suc i ≡ i + 1 = omega arith in drop-cons order i 0 h ∙ (λ j. sym e j ∷ drop (step j) order)

-- at the end of the order
pub at_end : (d : Declared) (ms : List Module) (x : Text) (order : List ℕ) (i : ℕ) (now : List (Option ℕ)) → i ≡ length order → IsOrder (links_among d.names ms) order → length order ≡ length ms → Passing d ms x (take i order) (drop i order) now
    → now ≡ origins d ms x
at_end d ms x order i now e is_order long passing = whole_pass d ms x order now is_order long (subst (λ l. Passing d ms x l [] now) all (subst (λ l. Passing d ms x (take i order) l now) none passing))
  where
    all : take i order ≡ order
    all = take_all i order (omega (arith, e))

    none : drop i order ≡ []
    none = drop_all i order (omega (arith, e))
