-- Places one after the other have the first that the definition gives.
use Rattle.std.proofs.Common.{◌≡◌, ℕ, Bool, true, false, ◌&&◌, ◌||◌, List, [], ◌∷◌, ◌++◌, Option, None, Some, refl, sym, ap, ◌∙◌, arith, if◌then◌else◌}
use Rattle.std.specs.Prelude.{nat_lt, nat_eq}
use Rattle.std.proofs.lemmas.Bool.{false≢true}
use Rattle.std.proofs.lemmas.Bool.Decides.{nat_tests}
use Rattle.fort_tree.specs.declared.place.Place.{Place}
use Rattle.sound_programs.specs.Places.{is_earlier, earlier_of, first_of, the_first, option_places}
use Rattle.call_graph.specs.Earliest.{earlier, earliest}

abbrev Later : ℕ → ℕ → Bool → Bool
Later a b rest = nat_lt a b || (nat_eq a b && rest)

later_chain : (a b c : ℕ) (x y z : Bool) → (x ≡ true → y ≡ true → z ≡ true) → Later a b x ≡ true → Later b c y ≡ true → Later a c z ≡ true
later_chain a b c x y z next = grind (arith, nat_tests)

last_chain : (x y z : ℕ) → nat_lt x y ≡ true → nat_lt y z ≡ true → nat_lt x z ≡ true
last_chain x y z = grind (arith, nat_tests)

earlier_chain : (a b c : Place) → is_earlier a b ≡ true → is_earlier b c ≡ true → is_earlier a c ≡ true
earlier_chain a b c = later_chain a.file b.file c.file _ _ _ (later_chain a.line b.line c.line _ _ _ (last_chain a.column b.column c.column))

-- where a comes before c, it comes before b or b comes before c
later_between : (a b c : ℕ) (x y z : Bool) → (x ≡ true → y ≡ false → z ≡ true) → Later a c x ≡ true → Later b c y ≡ false → Later a b z ≡ true
later_between a b c x y z next = grind (arith, nat_tests)

last_between : (x y z : ℕ) → nat_lt x z ≡ true → nat_lt y z ≡ false → nat_lt x y ≡ true
last_between x y z = grind (arith, nat_tests)

earlier_between : (a b c : Place) → is_earlier a c ≡ true → is_earlier b c ≡ false → is_earlier a b ≡ true
earlier_between a b c = later_between a.file b.file c.file _ _ _ (later_between a.line b.line c.line _ _ _ (last_between a.column b.column c.column))

-- the first of three, from either side
three : (a b c : Place) (p q r : Bool) → is_earlier b a ≡ p → is_earlier c b ≡ q → is_earlier c a ≡ r
    → (if is_earlier c (if is_earlier b a then b else a) then c else (if is_earlier b a then b else a)) ≡ (if is_earlier (if is_earlier c b then c else b) a then (if is_earlier c b then c else b) else a)
three a b c true true r e h k = grind (arith, e, h, earlier_chain c b a)
three a b c true false r e h k = grind (arith, e, h)
three a b c false true r e h k = grind (arith, e, h)
three a b c false false true e h k = absurd (false≢true (sym h ∙ earlier_between c b a k e))
three a b c false false false e h k = grind (arith, e, h, k)

earliest_is : (a : Place) (ps : List Place) → earliest (Some a) ps ≡ Some (earlier_of a (first_of ps))
earliest_is a [] = refl
earliest_is a (b ∷ ps) = earliest_is (if is_earlier b a then b else a) ps ∙ ap Some (go (first_of ps))
  where
    go : (m : Option Place) → earlier_of (if is_earlier b a then b else a) m ≡ earlier_of a (Some (earlier_of b m))
    go None = refl
    go (Some c) = three a b c (is_earlier b a) (is_earlier c b) (is_earlier c a) refl refl refl

pub the_first_is : (ps : List Place) → option_places (earliest None ps) ≡ the_first ps
the_first_is [] = refl
the_first_is (a ∷ ps) = ap option_places (earliest_is a ps)

pub earliest_append : (first : Option Place) (xs ys : List Place) → earliest first (xs ++ ys) ≡ earliest (earliest first xs) ys
earliest_append first [] ys = refl
earliest_append first (x ∷ xs) ys = earliest_append (earlier first x) xs ys
