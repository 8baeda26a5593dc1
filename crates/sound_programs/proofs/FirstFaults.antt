-- Where there are faults there is a least, and so a program into which forms nest is sound exactly where it has no first fault.
use Rattle.std.proofs.Common.{◌≡◌, ℕ, ◌<◌, List, [], ◌∷◌, Bool, true, false, ◌&&◌, ◌||◌, not, refl, sym, subst, ◌∙◌, inl, inr, arith}
use Rattle.std.specs.Prelude.{◌⊎◌, nat_eq, nat_lt}
use Rattle.std.specs.List.{list_all}
use Rattle.std.proofs.lemmas.Bool.{and_parts, and_from, false≢true, eqb-true, eq-eqb, ltb-true, ltb-false, lt-ltb, or_left, or_right, or_cases, false_from_ne_true, not_from_false}
use Rattle.fort_tree.specs.Code.{code_number}
use Rattle.fort_tree.specs.declared.choice.Mode.{Mode}
use Rattle.fort_tree.specs.declared.fault.Code.{Code}
use Rattle.fort_tree.specs.declared.fault.Code.TheVariants.{E30, E31, E32, E33, E34, E35, E36, E37, E38, E39, E3A, E3B, E71}
use Rattle.fort_tree.specs.declared.place.Place.{Place}
use Rattle.fort_tree.specs.declared.unit.File.{File}
use Rattle.sound_programs.specs.ArgumentFaults.{count_faults, alias_faults, write_faults}
use Rattle.sound_programs.specs.CallFaults.{recursions, size_faults}
use Rattle.sound_programs.specs.DeclarationFaults.{declared_twice, module_faults, intent_faults}
use Rattle.sound_programs.specs.Faults.{Found, found, faults_of_names, faults_of_calls, faults_of_kinds, is_before, is_this, IsLeast, of_names, of_calls, of_kinds}
use Rattle.sound_programs.specs.KindFaults.{kind_faults}
use Rattle.sound_programs.specs.Laws.{SoundOrFaulty}
use Rattle.sound_programs.specs.LoopFaults.{loop_faults}
use Rattle.sound_programs.specs.NameFaults.{undeclared_names, unit_faults}
use Rattle.sound_programs.specs.Placing.{placed}
use Rattle.sound_programs.specs.Places.{same_place, is_earlier}
use Rattle.sound_programs.specs.RankFaults.{rank_faults}
use Rattle.sound_programs.specs.Sound.{Sound, IsNested}
use Rattle.sound_programs.proofs.OnFiles.{nowhere}
use Rattle.sound_programs.proofs.Empties.{left_empty, right_empty, map_empty}

-- ---- The order of faults

-- by a number, and where it is equal by what follows
abbrev By : ℕ → ℕ → Type 0 → Type 0
By x y P = (x < y) ⊎ ((x ≡ y) × P)

trichotomy : (x y : ℕ) → (x < y) ⊎ ((x ≡ y) ⊎ (y < x))
trichotomy x y = go (nat_lt x y) refl (nat_lt y x) refl
  where
    go : (b : Bool) → nat_lt x y ≡ b → (c : Bool) → nat_lt y x ≡ c → (x < y) ⊎ ((x ≡ y) ⊎ (y < x))
    go true p c q = inl (ltb-true x y p)
    go false p true q = inr (inr (ltb-true y x q))
    go false p false q = inr (inl (omega (arith, ltb-false x y p, ltb-false y x q)))

between : {P Q R : Type 0} (x y z : ℕ) → (P → Q ⊎ R) → By x z P → (By x y Q) ⊎ (By y z R)
between {P} {Q} {R} x y z step h = go (trichotomy x y) h
  where
    after_equal : x ≡ y → x ≡ z → Q ⊎ R → (By x y Q) ⊎ (By y z R)
    after_equal e f (inl q) = inl (inr (e, q))
    after_equal e f (inr r) = inr (inr (sym e ∙ f, r))

    go : (x < y) ⊎ ((x ≡ y) ⊎ (y < x)) → By x z P → (By x y Q) ⊎ (By y z R)
    go (inl lt) h = inl (inl lt)
    go (inr (inl e)) (inl lt) = inr (inl (omega (arith, e, lt)))
    go (inr (inl e)) (inr p) = after_equal e p.0 (step p.1)
    go (inr (inr gt)) (inl lt) = inr (inl (omega (arith, gt, lt)))
    go (inr (inr gt)) (inr p) = inr (inl (omega (arith, gt, p.0)))

not_both : {P Q : Type 0} (x y : ℕ) → (P → Q → ⊥) → By x y P → By y x Q → ⊥
not_both x y never (inl lt) (inl gt) = omega (arith, lt, gt)
not_both x y never (inl lt) (inr q) = omega (arith, lt, q.0)
not_both x y never (inr p) (inl gt) = omega (arith, p.0, gt)
not_both x y never (inr p) (inr q) = never p.1 q.1

Comes_before : Found → Found → Type 0
Comes_before a b = By a.at.file b.at.file (By a.at.line b.at.line (By a.at.column b.at.column (code_number a.code < code_number b.code)))

earlier_if : (a b : Found) → is_earlier a.at b.at ≡ true → Comes_before a b
unfolding Comes_before
earlier_if a b h = by_file (or_cases (nat_lt a.at.file b.at.file) _ h)
  where
    by_column : (nat_lt a.at.column b.at.column) ≡ true → By a.at.column b.at.column (code_number a.code < code_number b.code)
    by_column h = inl (ltb-true a.at.column b.at.column h)

    by_line : ((nat_lt a.at.line b.at.line) ≡ true) ⊎ ((nat_eq a.at.line b.at.line && nat_lt a.at.column b.at.column) ≡ true) → By a.at.line b.at.line (By a.at.column b.at.column (code_number a.code < code_number b.code))
    by_line (inl h) = inl (ltb-true a.at.line b.at.line h)
    by_line (inr h) = let q : _ × _ = and_parts (nat_eq a.at.line b.at.line) (nat_lt a.at.column b.at.column) h in inr (eqb-true a.at.line b.at.line q.0, by_column q.1)

    by_file : ((nat_lt a.at.file b.at.file) ≡ true) ⊎ ((nat_eq a.at.file b.at.file && (nat_lt a.at.line b.at.line || (nat_eq a.at.line b.at.line && nat_lt a.at.column b.at.column))) ≡ true) → Comes_before a b
    by_file (inl h) = inl (ltb-true a.at.file b.at.file h)
    by_file (inr h) = let q : _ × _ = and_parts (nat_eq a.at.file b.at.file) (nat_lt a.at.line b.at.line || (nat_eq a.at.line b.at.line && nat_lt a.at.column b.at.column)) h in inr (eqb-true a.at.file b.at.file q.0, by_line (or_cases (nat_lt a.at.line b.at.line) (nat_eq a.at.line b.at.line && nat_lt a.at.column b.at.column) q.1))

before_if : (a b : Found) → is_before a b ≡ true → Comes_before a b
unfolding Comes_before
before_if a b h = go (or_cases (is_earlier a.at b.at) (same_place a.at b.at && nat_lt (code_number a.code) (code_number b.code)) h)
  where
    go : (is_earlier a.at b.at ≡ true) ⊎ ((same_place a.at b.at && nat_lt (code_number a.code) (code_number b.code)) ≡ true) → Comes_before a b
    go (inl e) = earlier_if a b e
    go (inr e) =
        let q : _ × _ = and_parts (same_place a.at b.at) (nat_lt (code_number a.code) (code_number b.code)) e in
        let f : _ × _ = and_parts (nat_eq a.at.file b.at.file) (nat_eq a.at.line b.at.line && nat_eq a.at.column b.at.column) q.0 in
        let l : _ × _ = and_parts (nat_eq a.at.line b.at.line) (nat_eq a.at.column b.at.column) f.1 in
        inr (eqb-true a.at.file b.at.file f.0, inr (eqb-true a.at.line b.at.line l.0, inr (eqb-true a.at.column b.at.column l.1, ltb-true (code_number a.code) (code_number b.code) q.1)))

test_if : (a b : Found) → Comes_before a b → is_before a b ≡ true
unfolding Comes_before
test_if a b (inl f) = or_left (is_earlier a.at b.at) _ (or_left (nat_lt a.at.file b.at.file) _ (lt-ltb a.at.file b.at.file f))
test_if a b (inr (f, inl l)) =
    or_left (is_earlier a.at b.at) _ (or_right (nat_lt a.at.file b.at.file) _ (and_from (nat_eq a.at.file b.at.file) _ (eq-eqb a.at.file b.at.file f)
    (or_left (nat_lt a.at.line b.at.line) _ (lt-ltb a.at.line b.at.line l))))
test_if a b (inr (f, inr (l, inl c))) =
    or_left (is_earlier a.at b.at) _ (or_right (nat_lt a.at.file b.at.file) _ (and_from (nat_eq a.at.file b.at.file) _ (eq-eqb a.at.file b.at.file f)
    (or_right (nat_lt a.at.line b.at.line) _ (and_from (nat_eq a.at.line b.at.line) _ (eq-eqb a.at.line b.at.line l) (lt-ltb a.at.column b.at.column c)))))
test_if a b (inr (f, inr (l, inr (c, n)))) =
    or_right (is_earlier a.at b.at) _ (and_from (same_place a.at b.at) _
    (and_from (nat_eq a.at.file b.at.file) _ (eq-eqb a.at.file b.at.file f) (and_from (nat_eq a.at.line b.at.line) _ (eq-eqb a.at.line b.at.line l) (eq-eqb a.at.column b.at.column c)))
    (lt-ltb (code_number a.code) (code_number b.code) n))

-- two aren't before each other, and of three the one before the last is before the middle one or that before the last
never_both : (a b : Found) → Comes_before a b → Comes_before b a → ⊥
unfolding Comes_before
never_both a b =
    not_both a.at.file b.at.file (not_both a.at.line b.at.line (not_both a.at.column b.at.column (λ (p : code_number a.code < code_number b.code) (q : code_number b.code < code_number a.code). omega (arith, p, q))))

one_of : (a b c : Found) → Comes_before a c → (Comes_before a b) ⊎ (Comes_before b c)
unfolding Comes_before
one_of a b c = between a.at.file b.at.file c.at.file (between a.at.line b.at.line c.at.line (between a.at.column b.at.column c.at.column by_code))
  where
    by_code : code_number a.code < code_number c.code → (code_number a.code < code_number b.code) ⊎ (code_number b.code < code_number c.code)
    by_code h = go (trichotomy (code_number a.code) (code_number b.code))
      where
        go : (code_number a.code < code_number b.code) ⊎ ((code_number a.code ≡ code_number b.code) ⊎ (code_number b.code < code_number a.code)) → (code_number a.code < code_number b.code) ⊎ (code_number b.code < code_number c.code)
        go (inl lt) = inl lt
        go (inr (inl e)) = inr (omega (arith, h, e))
        go (inr (inr gt)) = inr (omega (arith, h, gt))

-- ---- The least of some faults

not_before : (a b : Found) → (Comes_before a b → ⊥) → not (is_before a b) ≡ true
not_before a b never = not_from_false (is_before a b) (false_from_ne_true (is_before a b) (λ h. never (before_if a b h)))

never_before : (a b : Found) → not (is_before a b) ≡ true → Comes_before a b → ⊥
never_before a b h before = false≢true (subst (λ t. not t ≡ true) (test_if a b before) h)

itself : (a : Found) → is_this a a ≡ true
itself a =
    and_from (same_place a.at a.at) _
    (and_from (nat_eq a.at.file a.at.file) _ (eq-eqb a.at.file a.at.file refl) (and_from (nat_eq a.at.line a.at.line) _ (eq-eqb a.at.line a.at.line refl) (eq-eqb a.at.column a.at.column refl)))
    (eq-eqb (code_number a.code) (code_number a.code) refl)

all_by : (p q : Found → Bool) (faults : List Found) → ((f : Found) → p f ≡ true → q f ≡ true) → list_all p faults ≡ true → list_all q faults ≡ true
all_by p q [] by h = refl
all_by p q (f ∷ rest) by h =
    let r : _ × _ = and_parts (p f) (list_all p rest) h in and_from (q f) (list_all q rest) (by f r.0) (all_by p q rest by r.1)

abbrev Least_of : List Found → Type 0
Least_of faults = (m : Found) × IsLeast faults m

with_head : (f : Found) (rest : List Found) → Least_of rest → Least_of (f ∷ rest)
with_head f rest (m, least) = go (is_before m f) refl
  where
    go : (b : Bool) → is_before m f ≡ b → Least_of (f ∷ rest)
    go true e = (
      m,
      record {
        among = or_right (is_this m f) _ least.among;
        least = and_from (not (is_before f m)) _ (not_before f m (λ h. never_both f m h (before_if m f e))) least.least;
      },
    )
    go false e = (
      f,
      record {
        among = or_left (is_this f f) _ (itself f);
        least =
            and_from (not (is_before f f)) _ (not_before f f (λ h. never_both f f h h))
            (all_by (λ o. not (is_before o m)) (λ o. not (is_before o f)) rest (λ o h. not_before o f (λ before. not_two o h (one_of o m f before))) least.least);
      },
    )
      where
        not_two : (o : Found) → not (is_before o m) ≡ true → (Comes_before o m) ⊎ (Comes_before m f) → ⊥
        not_two o h (inl before) = never_before o m h before
        not_two o h (inr before) = false≢true (sym e ∙ test_if m f before)

least_of : (f : Found) (rest : List Found) → Least_of (f ∷ rest)
least_of f [] = (f, record { among = or_left (is_this f f) _ (itself f); least = and_from (not (is_before f f)) true (not_before f f (λ h. never_both f f h h)) refl })
least_of f (g ∷ rest) = with_head f (g ∷ rest) (least_of g rest)

-- none, or a least
none_or_least : (faults : List Found) → (faults ≡ []) ⊎ (Least_of faults)
none_or_least [] = inl refl
none_or_least (f ∷ rest) = inr (least_of f rest)

none_found : (code : Code) (places : List Place) → found code places ≡ [] → places ≡ []
none_found code places e = map_empty (λ (at : Place). record { code = code; at = at }) places e

-- forms nest into it, and no phase has a fault
sound_if : (mode : Mode) (file : File) → IsNested mode file → faults_of_names (placed file) ≡ [] → faults_of_calls (placed file) ≡ [] → faults_of_kinds mode (placed file) ≡ [] → Sound mode file
sound_if mode file nested names calls kinds =
    let p = placed file in
    let n31 : _ = right_empty (found E30 (undeclared_names p)) _ names in
    let n34 : _ = right_empty (found E31 (declared_twice p)) _ n31 in
    let n35 : _ = right_empty (found E34 (module_faults p)) _ n34 in
    let n39 : _ = right_empty (found E35 (unit_faults p)) _ n35 in
    let n3b : _ = right_empty (found E39 (loop_faults p)) _ n39 in
    let k33 : _ = right_empty (found E32 (kind_faults p)) _ kinds in
    let k37 : _ = right_empty (found E33 (rank_faults mode p)) _ k33 in
    let k38 : _ = right_empty (found E37 (count_faults p)) _ k37 in
    let k3a : _ = right_empty (found E38 (alias_faults p)) _ k38 in
    record {
      nested = nested;
      each_name_is_declared = nowhere (undeclared_names p) (none_found E30 (undeclared_names p) (left_empty (found E30 (undeclared_names p)) _ names));
      none_is_declared_twice = nowhere (declared_twice p) (none_found E31 (declared_twice p) (left_empty (found E31 (declared_twice p)) _ n31));
      uses_bring = nowhere (module_faults p) (none_found E34 (module_faults p) (left_empty (found E34 (module_faults p)) _ n34));
      calls_name_units = nowhere (unit_faults p) (none_found E35 (unit_faults p) (left_empty (found E35 (unit_faults p)) _ n35));
      loop_variables_are_their_loops' = nowhere (loop_faults p) (none_found E39 (loop_faults p) (left_empty (found E39 (loop_faults p)) _ n39));
      dummies_have_intent = nowhere (intent_faults p) (none_found E3B (intent_faults p) n3b);
      calls_have_no_cycle = nowhere (recursions p) (none_found E36 (recursions p) (left_empty (found E36 (recursions p)) _ calls));
      units_and_depth_are_in_their_limits = nowhere (size_faults p) (none_found E71 (size_faults p) (right_empty (found E36 (recursions p)) _ calls));
      kinds_fit = nowhere (kind_faults p) (none_found E32 (kind_faults p) (left_empty (found E32 (kind_faults p)) _ kinds));
      ranks_fit = nowhere (rank_faults mode p) (none_found E33 (rank_faults mode p) (left_empty (found E33 (rank_faults mode p)) _ k33));
      arguments_are_counted = nowhere (count_faults p) (none_found E37 (count_faults p) (left_empty (found E37 (count_faults p)) _ k37));
      written_actuals_have_no_alias = nowhere (alias_faults p) (none_found E38 (alias_faults p) (left_empty (found E38 (alias_faults p)) _ k38));
      writes_are_allowed = nowhere (write_faults p) (none_found E3A (write_faults p) k3a);
    }

-- phase by phase
pub sound_or_faulty : (mode : Mode) (file : File) → IsNested mode file → SoundOrFaulty mode file
sound_or_faulty mode file nested = of_phases (none_or_least (faults_of_names (placed file))) (none_or_least (faults_of_calls (placed file))) (none_or_least (faults_of_kinds mode (placed file)))
  where
    of_phases : (faults_of_names (placed file) ≡ []) ⊎ (Least_of (faults_of_names (placed file))) → (faults_of_calls (placed file) ≡ []) ⊎ (Least_of (faults_of_calls (placed file)))
        → (faults_of_kinds mode (placed file) ≡ []) ⊎ (Least_of (faults_of_kinds mode (placed file))) → SoundOrFaulty mode file
    of_phases (inr m) calls kinds = inr (m.0, of_names m.1)
    of_phases (inl names) (inr m) kinds = inr (m.0, of_calls names m.1)
    of_phases (inl names) (inl calls) (inr m) = inr (m.0, of_kinds names calls m.1)
    of_phases (inl names) (inl calls) (inl kinds) = inl (sound_if mode file nested names calls kinds)
