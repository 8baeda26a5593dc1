-- The least of some faults: what is noted of them in any order is the first of them.
use Rattle.std.proofs.Common.{◌≡◌, ℕ, suc, ◌+◌, ◌<◌, length, get_or, drop, drop-cons, add-one, Bool, true, false, not, ◌&&◌, ◌||◌, List, [], ◌∷◌, ◌++◌, Option, None, Some, refl, sym, ap, ◌∙◌, subst, arith, if◌then◌else◌}
use Rattle.std.specs.Prelude.{MatchOption, nat_lt, nat_eq}
use Rattle.std.specs.List.{list_all, list_any}
use Rattle.std.specs.Option.{option_map}
use Rattle.std.proofs.lemmas.Bool.{false≢true}
use Rattle.std.proofs.lemmas.Bool.Decides.{nat_tests}
use Rattle.fort_tree.specs.Code.{code_number}
use Rattle.fort_tree.specs.declared.fault.Code.{Code}
use Rattle.fort_tree.specs.declared.place.Place.{Place}
use Rattle.fort_tree.specs.declared.stmt.Named.{Named}
use Rattle.sound_programs.specs.DeclarationFaults.{seconds}
use Rattle.sound_programs.specs.Faults.{Found, found, is_before, is_this, IsLeast}
use Rattle.sound_programs.specs.Places.{same_place, where_place}
use Rattle.fort_names.specs.declared.least.At.{At}
use Rattle.fort_names.specs.FoundAt.{found_of}
use Rattle.fort_names.specs.Leasts.{note, noted, places_at, clashes_of}

-- ---- parts of a list, one after the other

pub noted_append : (xs ys : List Found) (r : Option Found) → noted (xs ++ ys) r ≡ noted ys (noted xs r)
noted_append [] ys r = refl
noted_append (x ∷ xs) ys r = noted_append xs ys (note r x)

found_append : (code : Code) (xs ys : List Place) → found code (xs ++ ys) ≡ found code xs ++ found code ys
found_append code [] ys = refl
found_append code (x ∷ xs) ys = ap (λ l. record { code = code; at = x } ∷ l) (found_append code xs ys)

pub noted_places : (code : Code) (xs ys : List Place) (r : Option Found) → noted (found code (xs ++ ys)) r ≡ noted (found code ys) (noted (found code xs) r)
noted_places code xs ys r = ap (λ l. noted l r) (found_append code xs ys) ∙ noted_append (found code xs) (found code ys) r

-- one more item of a list, whose places come before those of the items behind it
pub next_places : {A : Type 0} (code : Code) (F : List A → List Place) (g : A → List Place) → ((a : A) (l : List A) → F (a ∷ l) ≡ g a ++ F l) → (items : List A) (i : ℕ) (a : A)
    → i < length items → a ≡ get_or items i a → (old new : Option Found) → new ≡ noted (found code (g a)) old → noted (found code (F (drop (i + 1) items))) new ≡ noted (found code (F (drop i items))) old
next_places {A} code F g parts items i a within is old new e =
    let at : drop i items ≡ a ∷ drop (i + 1) items = rw (add-one, drop-cons items i a) (ap (λ x. x ∷ drop (suc i) items) (sym is)) in
    ap (noted (found code (F (drop (i + 1) items)))) e
    ∙ sym (noted_places code (g a) (F (drop (i + 1) items)) old)
    ∙ ap (λ l. noted (found code l) old) (sym (parts a (drop (i + 1) items)))
    ∙ ap (λ l. noted (found code (F l)) old) (sym at)

-- the same, where the places of an item depend on those behind it
pub next_pairs : {A : Type 0} (code : Code) (F : List A → List Place) (g : A → List A → List Place) → ((a : A) (l : List A) → F (a ∷ l) ≡ g a l ++ F l) → (items : List A) (i : ℕ) (a : A)
    → i < length items → a ≡ get_or items i a → (old new : Option Found) → new ≡ noted (found code (g a (drop (i + 1) items))) old
    → noted (found code (F (drop (i + 1) items))) new ≡ noted (found code (F (drop i items))) old
next_pairs {A} code F g parts items i a within is old new e =
    let at : drop i items ≡ a ∷ drop (i + 1) items = rw (add-one, drop-cons items i a) (ap (λ x. x ∷ drop (suc i) items) (sym is)) in
    ap (noted (found code (F (drop (i + 1) items)))) e
    ∙ sym (noted_places code (g a (drop (i + 1) items)) (F (drop (i + 1) items)) old)
    ∙ ap (λ l. noted (found code l) old) (sym (parts a (drop (i + 1) items)))
    ∙ ap (λ l. noted (found code (F l)) old) (sym at)

append_nothing : (xs : List Place) → xs ++ [] ≡ xs
append_nothing [] = refl
append_nothing (x ∷ xs) = ap (λ l. x ∷ l) (append_nothing xs)

-- the places of one name with each of those behind it
pub seconds_first : (a : Named) (l : List Named) → seconds (a ∷ l) ≡ clashes_of a l ++ seconds l
seconds_first a l = ap (λ xs. xs ++ seconds l) (append_nothing (clashes_of a l))

-- an item at which the test holds, or not
pub test_first : {A : Type 0} (test : A → Bool) (at : A → Place) (a : A) (l : List A) → places_at test at (a ∷ l) ≡ where_place (test a) (at a) ++ places_at test at l
test_first {A} test at a l = go (test a)
  where
    go : (b : Bool) → (if b then at a ∷ places_at test at l else places_at test at l) ≡ where_place b (at a) ++ places_at test at l
    go true = refl
    go false = refl

-- ---- the order of faults

abbrev pub Later : ℕ → ℕ → Bool → Bool
Later a b rest = nat_lt a b || (nat_eq a b && rest)

abbrev In_order : Found → Found → Bool
In_order a b = Later a.at.file b.at.file (Later a.at.line b.at.line (Later a.at.column b.at.column (nat_lt (code_number a.code) (code_number b.code))))

regroup : (a b c d e g r : Bool) → ((a || (b && (c || (d && e)))) || ((b && (d && g)) && r)) ≡ (a || (b && (c || (d && (e || (g && r))))))
regroup true b c d e g r = refl
regroup false false c d e g r = refl
regroup false true true d e g r = refl
regroup false true false false e g r = refl
regroup false true false true e g r = refl

order_is : (a b : Found) → is_before a b ≡ In_order a b
order_is a b = regroup (nat_lt a.at.file b.at.file) (nat_eq a.at.file b.at.file) (nat_lt a.at.line b.at.line) (nat_eq a.at.line b.at.line) (nat_lt a.at.column b.at.column) (nat_eq a.at.column b.at.column) (nat_lt (code_number a.code) (code_number b.code))

later_chain : (a b c : ℕ) (x y z : Bool) → (x ≡ true → y ≡ true → z ≡ true) → Later a b x ≡ true → Later b c y ≡ true → Later a c z ≡ true
later_chain a b c x y z next = grind (arith, nat_tests)

last_chain : (x y z : ℕ) → nat_lt x y ≡ true → nat_lt y z ≡ true → nat_lt x z ≡ true
last_chain x y z = grind (arith, nat_tests)

pub before_chain : (a b c : Found) → is_before a b ≡ true → is_before b c ≡ true → is_before a c ≡ true
before_chain a b c e h =
    order_is a c
    ∙ later_chain a.at.file b.at.file c.at.file _ _ _
    (later_chain a.at.line b.at.line c.at.line _ _ _
    (later_chain a.at.column b.at.column c.at.column _ _ _ (last_chain (code_number a.code) (code_number b.code) (code_number c.code))))
    (sym (order_is a b) ∙ e) (sym (order_is b c) ∙ h)

-- where a comes before c, it comes before b or b comes before c
later_between : (a b c : ℕ) (x y z : Bool) → (x ≡ true → y ≡ false → z ≡ true) → Later a c x ≡ true → Later b c y ≡ false → Later a b z ≡ true
later_between a b c x y z next = grind (arith, nat_tests)

last_between : (x y z : ℕ) → nat_lt x z ≡ true → nat_lt y z ≡ false → nat_lt x y ≡ true
last_between x y z = grind (arith, nat_tests)

pub before_between : (a b c : Found) → is_before a c ≡ true → is_before b c ≡ false → is_before a b ≡ true
before_between a b c e h =
    order_is a b
    ∙ later_between a.at.file b.at.file c.at.file _ _ _
    (later_between a.at.line b.at.line c.at.line _ _ _
    (later_between a.at.column b.at.column c.at.column _ _ _ (last_between (code_number a.code) (code_number b.code) (code_number c.code))))
    (sym (order_is a c) ∙ e) (sym (order_is b c) ∙ h)

never_later : (a : ℕ) (r : Bool) → r ≡ false → Later a a r ≡ false
never_later a r = grind (arith, nat_tests)

pub never_less : (a : ℕ) → nat_lt a a ≡ false
never_less a = grind (arith, nat_tests)

pub never_itself : (a : Found) → is_before a a ≡ false
never_itself a = order_is a a ∙ never_later a.at.file _ (never_later a.at.line _ (never_later a.at.column _ (never_less (code_number a.code))))

equal_numbers : (a : ℕ) → nat_eq a a ≡ true
equal_numbers a = grind (arith, nat_tests)

both : (a b : Bool) → a ≡ true → b ≡ true → (a && b) ≡ true
both true b e h = h
both false b e h = absurd (false≢true e)

is_itself : (a : Found) → is_this a a ≡ true
is_itself a = both (same_place a.at a.at) (nat_eq (code_number a.code) (code_number a.code))
    (both (nat_eq a.at.file a.at.file) (nat_eq a.at.line a.at.line && nat_eq a.at.column a.at.column) (equal_numbers a.at.file)
    (both (nat_eq a.at.line a.at.line) (nat_eq a.at.column a.at.column) (equal_numbers a.at.line) (equal_numbers a.at.column)))
    (equal_numbers (code_number a.code))

-- ---- the first

not_false : (b : Bool) → b ≡ false → not b ≡ true
not_false false e = refl
not_false true e = absurd (false≢true (sym e))

not_is : (b : Bool) → not b ≡ true → b ≡ false
not_is false e = refl
not_is true e = absurd (false≢true e)

or_first : (a b : Bool) → a ≡ true → (a || b) ≡ true
or_first true b e = refl
or_first false b e = absurd (false≢true e)

or_second : (a b : Bool) → b ≡ true → (a || b) ≡ true
or_second true b e = refl
or_second false b e = e

or_between : (a b c : Bool) → (a || c) ≡ true → (a || (b || c)) ≡ true
or_between true b c e = refl
or_between false b c e = or_second b c e

-- the first of m and the faults behind it
record Kept (m : Found) (l : List Found) : Type 0 where
  first : Found
  is : noted l (Some m) ≡ Some first
  among : list_any (is_this first) (m ∷ l) ≡ true
  least : list_all (λ other. not (is_before other first)) l ≡ true
  from : not (is_before m first) ≡ true

take_new : (m p : Found) (l : List Found) → is_before p m ≡ true → Kept p l → Kept m (p ∷ l)
take_new m p l e k = record {
  first = k.first;
  is = ap (λ b. noted l (Some (if b then p else m))) e ∙ k.is;
  among = or_second (is_this k.first m) (list_any (is_this k.first) (p ∷ l)) k.among;
  least = both (not (is_before p k.first)) _ k.from k.least;
  from = not_false (is_before m k.first) (go (is_before m k.first) refl);
}
  where
    go : (b : Bool) → is_before m k.first ≡ b → is_before m k.first ≡ false
    go false h = h
    go true h = absurd (false≢true (sym (not_is (is_before p k.first) k.from) ∙ before_chain p m k.first e h))

keep_old : (m p : Found) (l : List Found) → is_before p m ≡ false → Kept m l → Kept m (p ∷ l)
keep_old m p l e k = record {
  first = k.first;
  is = ap (λ b. noted l (Some (if b then p else m))) e ∙ k.is;
  among = or_between (is_this k.first m) (is_this k.first p) (list_any (is_this k.first) l) k.among;
  least = both (not (is_before p k.first)) _ (not_false (is_before p k.first) (go (is_before p k.first) refl)) k.least;
  from = k.from;
}
  where
    go : (b : Bool) → is_before p k.first ≡ b → is_before p k.first ≡ false
    go false h = h
    go true h = absurd (false≢true (sym e ∙ before_between p m k.first h (not_is (is_before m k.first) k.from)))

kept : (m : Found) (l : List Found) → Kept m l
kept m [] = record { first = m; is = refl; among = or_first (is_this m m) false (is_itself m); least = refl; from = not_false (is_before m m) (never_itself m) }
kept m (p ∷ l) = go (is_before p m) refl (kept p l) (kept m l)
  where
    go : (b : Bool) → is_before p m ≡ b → Kept p l → Kept m l → Kept m (p ∷ l)
    go true e new old = take_new m p l e new
    go false e new old = keep_old m p l e old

-- the first of some faults is what was noted of them, or there are none
pub first_is : (l : List Found) (r : Option Found) → r ≡ noted l None → MatchOption r (l ≡ []) (IsLeast l)
first_is [] r e = subst (λ (o : Option Found). MatchOption o (◌≡◌ {A = List Found} [] []) (IsLeast [])) (sym e) refl
first_is (m ∷ l) r e =
    let k = kept m l in
    subst (λ (o : Option Found). MatchOption o (◌≡◌ {A = List Found} (m ∷ l) []) (IsLeast (m ∷ l))) (sym (e ∙ k.is))
    (record { among = k.among; least = both (not (is_before m k.first)) _ k.from k.least })

pub first_at : (l : List Found) (r : Option At) → option_map found_of r ≡ noted l None → MatchOption r (l ≡ []) (λ a. IsLeast l (found_of a))
first_at l None e = first_is l None e
first_at l (Some a) e = first_is l (Some (found_of a)) e
