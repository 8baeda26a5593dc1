-- Of which places a list has one that isn't later: that alone tells what is noted of the list.
use Rattle.std.proofs.Common.{◌≡◌, ℕ, Bool, true, false, not, ◌&&◌, ◌||◌, List, [], ◌∷◌, Option, None, Some, refl, sym, ap, ◌∙◌, arith, if◌then◌else◌}
use Rattle.std.specs.Prelude.{nat_lt}
use Rattle.std.proofs.lemmas.Bool.{false≢true}
use Rattle.std.proofs.lemmas.Bool.Decides.{nat_tests}
use Rattle.fort_tree.specs.Code.{code_number}
use Rattle.fort_tree.specs.declared.fault.Code.{Code}
use Rattle.fort_tree.specs.declared.fault.Code.TheVariants.{E31}
use Rattle.fort_tree.specs.declared.place.Place.{Place}
use Rattle.sound_programs.specs.Faults.{Found, found, is_before}
use Rattle.sound_programs.specs.Places.{same_place, is_earlier, later_of, earlier_of, first_of}
use Rattle.fort_names.specs.Leasts.{note, noted}
use Rattle.fort_names.specs.Reached.{is_by, some_by, option_by}
use Rattle.fort_names.proofs.FirstOf.{Later, never_less, never_itself, before_chain, before_between}

-- ---- the order of places

or_nothing : (x y b : Bool) → b ≡ false → (x || (y && b)) ≡ x
or_nothing true y b e = refl
or_nothing false true b e = e
or_nothing false false b e = refl

abbrev at_code : Code → Place → Found
at_code code a = record { code = code; at = a }

-- at one code the order is that of the places
one_code : (code : Code) (a b : Place) → is_before (at_code code a) (at_code code b) ≡ is_earlier a b
one_code code a b = or_nothing (is_earlier a b) (same_place a b) (nat_lt (code_number code) (code_number code)) (never_less (code_number code))

pub earlier_chain : (a b c : Place) → is_earlier a b ≡ true → is_earlier b c ≡ true → is_earlier a c ≡ true
earlier_chain a b c e h = sym (one_code E31 a c) ∙ before_chain (at_code E31 a) (at_code E31 b) (at_code E31 c) (one_code E31 a b ∙ e) (one_code E31 b c ∙ h)

pub earlier_between : (a b c : Place) → is_earlier a c ≡ true → is_earlier b c ≡ false → is_earlier a b ≡ true
earlier_between a b c e h = sym (one_code E31 a b) ∙ before_between (at_code E31 a) (at_code E31 b) (at_code E31 c) (one_code E31 a c ∙ e) (one_code E31 b c ∙ h)

pub not_earlier : (a : Place) → is_earlier a a ≡ false
not_earlier a = sym (one_code E31 a a) ∙ never_itself (at_code E31 a)

record Even (a b : ℕ) (x y : Bool) : Type 0 where
  equal : a ≡ b
  left : x ≡ false
  right : y ≡ false

evens : (a b : ℕ) (x y : Bool) → Later a b x ≡ false → Later b a y ≡ false → Even a b x y
evens a b x y e h = record { equal = grind (arith, nat_tests); left = grind (arith, nat_tests); right = grind (arith, nat_tests) }

level : (a b : ℕ) → nat_lt a b ≡ false → nat_lt b a ≡ false → a ≡ b
level a b = grind (arith, nat_tests)

pub one_place : (a b : Place) → is_earlier a b ≡ false → is_earlier b a ≡ false → a ≡ b
one_place a b e h =
    let files = evens a.file b.file _ _ e h in
    let lines = evens a.line b.line _ _ files.left files.right in
    λ i. record { file = files.equal i; line = lines.equal i; column = level a.column b.column lines.left lines.right i }

-- ---- the later and the earlier of two

pub later_by : (at a b : Place) → is_by at (later_of a b) ≡ (is_by at a && is_by at b)
later_by at a b = go (is_earlier a b) refl
  where
    go : (t : Bool) → is_earlier a b ≡ t → is_by at (if t then b else a) ≡ (is_by at a && is_by at b)
    go true e = by (is_earlier at a) (is_earlier at b) (λ h. earlier_chain at a b h e)
      where
        by : (x y : Bool) → (x ≡ true → y ≡ true) → not y ≡ (not x && not y)
        by true y f = ap not (f refl)
        by false y f = refl
    go false e = by (is_earlier at a) (is_earlier at b) (λ h. earlier_between at a b h e)
      where
        by : (x y : Bool) → (y ≡ true → x ≡ true) → not x ≡ (not x && not y)
        by true y f = refl
        by false true f = sym (f refl)
        by false false f = refl

pub earlier_by : (at a b : Place) → is_by at (if is_earlier b a then b else a) ≡ (is_by at a || is_by at b)
earlier_by at a b = go (is_earlier b a) refl
  where
    go : (t : Bool) → is_earlier b a ≡ t → is_by at (if t then b else a) ≡ (is_by at a || is_by at b)
    go true e = by (is_earlier at a) (is_earlier at b) (λ h. earlier_chain at b a h e)
      where
        by : (x y : Bool) → (y ≡ true → x ≡ true) → not y ≡ (not x || not y)
        by true y f = refl
        by false true f = sym (ap not (f refl))
        by false false f = refl
    go false e = by (is_earlier at a) (is_earlier at b) (λ h. earlier_between at b a h e)
      where
        by : (x y : Bool) → (x ≡ true → y ≡ true) → not x ≡ (not x || not y)
        by true y f = sym (ap not (f refl))
        by false y f = refl

-- ---- what is noted is told by the first

note_two : (code : Code) (r : Option Found) (a b : Place) → note (note r (at_code code a)) (at_code code b) ≡ note r (at_code code (if is_earlier b a then b else a))
note_two code None a b = ap (λ t. Some (if t then at_code code b else at_code code a)) (one_code code b a) ∙ go (is_earlier b a)
  where
    go : (t : Bool) → ◌≡◌ {A = Option Found} (Some (if t then at_code code b else at_code code a)) (Some (at_code code (if t then b else a)))
    go true = refl
    go false = refl
note_two code (Some m) a b =
    ap Some (go (is_earlier b a) (is_before (at_code code a) m) (is_before (at_code code b) m) (one_code code b a) refl refl)
  where
    go : (t u v : Bool) → is_before (at_code code b) (at_code code a) ≡ t → is_before (at_code code a) m ≡ u → is_before (at_code code b) m ≡ v
        → (if is_before (at_code code b) (if u then at_code code a else m) then at_code code b else (if u then at_code code a else m))
        ≡ (if is_before (at_code code (if t then b else a)) m then at_code code (if t then b else a) else m)
    go true true v e h g =
        ap (λ x. if x then at_code code b else at_code code a) e
        ∙ sym (ap (λ x. if x then at_code code b else m) (before_chain (at_code code b) (at_code code a) m e h))
    go true false v e h g = refl
    go false true v e h g = ap (λ x. if x then at_code code b else at_code code a) e ∙ sym (ap (λ x. if x then at_code code a else m) h)
    go false false true e h g = absurd (false≢true (sym e ∙ before_between (at_code code b) (at_code code a) m g h))
    go false false false e h g = ap (λ x. if x then at_code code b else m) g ∙ sym (ap (λ x. if x then at_code code a else m) h)

abbrev note_first : Code → Option Place → Option Found → Option Found
note_first code None r = r
note_first code (Some a) r = note r (at_code code a)

first_noted : (code : Code) (xs : List Place) (r : Option Found) → noted (found code xs) r ≡ note_first code (first_of xs) r
first_noted code [] r = refl
first_noted code (a ∷ xs) r = first_noted code xs (note r (at_code code a)) ∙ go (first_of xs)
  where
    go : (o : Option Place) → note_first code o (note r (at_code code a)) ≡ note r (at_code code (earlier_of a o))
    go None = refl
    go (Some b) = note_two code r a b

some_first : (at : Place) (xs : List Place) → some_by at xs ≡ option_by at (first_of xs)
some_first at [] = refl
some_first at (a ∷ xs) = ap (λ t. is_by at a || t) (some_first at xs) ∙ go (first_of xs)
  where
    alone : (t : Bool) → (t || false) ≡ t
    alone true = refl
    alone false = refl

    go : (o : Option Place) → (is_by at a || option_by at o) ≡ is_by at (earlier_of a o)
    go None = alone (is_by at a)
    go (Some b) = sym (earlier_by at a b)

not_same : (t : Bool) → not t ≡ true → t ≡ false
not_same true e = absurd (false≢true e)
not_same false e = refl

pub by_itself : (a : Place) → is_by a a ≡ true
by_itself a = ap not (not_earlier a)

same_option : (o p : Option Place) → ((at : Place) → option_by at o ≡ option_by at p) → o ≡ p
same_option None None h = refl
same_option None (Some b) h = absurd (false≢true (h b ∙ by_itself b))
same_option (Some a) None h = absurd (false≢true (sym (h a) ∙ by_itself a))
same_option (Some a) (Some b) h = ap Some (one_place a b (not_same (is_earlier a b) (sym (h a) ∙ by_itself a)) (not_same (is_earlier b a) (h b ∙ by_itself b)))

-- two lists that have a place no later than each place where the other has one
pub same_least : (code : Code) (xs ys : List Place) → ((at : Place) → some_by at xs ≡ some_by at ys) → (r : Option Found) → noted (found code xs) r ≡ noted (found code ys) r
same_least code xs ys h r =
    first_noted code xs r
    ∙ ap (λ o. note_first code o r) (same_option (first_of xs) (first_of ys) (λ at. sym (some_first at xs) ∙ h at ∙ some_first at ys))
    ∙ sym (first_noted code ys r)
