-- The first of some places.
use Rattle.std.proofs.Common.{◌≡◌, ℕ, Bool, true, false, not, ◌&&◌, ◌||◌, List, [], ◌∷◌, ◌++◌, Option, None, Some, refl, sym, ap, ◌∙◌, subst, ◌⊎◌, inl, inr, Contains, arith}
use Rattle.std.specs.Prelude.{MatchOption, nat_lt, nat_eq}
use Rattle.std.specs.List.{list_all}
use Rattle.std.proofs.lemmas.Bool.{false≢true}
use Rattle.std.proofs.lemmas.Bool.Decides.{nat_tests}
use Rattle.fort_tree.specs.declared.place.Place.{Place}
use Rattle.column_scalars.proofs.MemberCases.{contains_here, contains_first, contains_later, contains_cases}
use Rattle.scalar_units.specs.Unbuilt.{is_earlier, note, noted, IsFirst}

-- ---- parts of a list, one after the other

pub noted_append : (xs ys : List Place) (r : Option Place) → noted (xs ++ ys) r ≡ noted ys (noted xs r)
noted_append [] ys r = refl
noted_append (x ∷ xs) ys r = noted_append xs ys (note r x)

pub two_parts : (xs ys : List Place) (r s t : Option Place) → s ≡ noted xs r → t ≡ noted ys s → t ≡ noted (xs ++ ys) r
two_parts xs ys r s t a b = b ∙ ap (noted ys) a ∙ sym (noted_append xs ys r)

pub five_parts : (a b c d e : List Place) (r s t u v w : Option Place) → s ≡ noted a r → t ≡ noted b s → u ≡ noted c t → v ≡ noted d u → w ≡ noted e v →
    w ≡ noted (a ++ (b ++ (c ++ (d ++ e)))) r
five_parts a b c d e r s t u v w p q x y z = two_parts a _ r s w p (two_parts b _ s t w q (two_parts c _ t u w x (two_parts d e u v w y z)))

-- ---- the order of places

abbrev Later : ℕ → ℕ → Bool → Bool
Later a b rest = nat_lt a b || (nat_eq a b && rest)

later_chain : (a b c : ℕ) (x y z : Bool) → (x ≡ true → y ≡ true → z ≡ true) → Later a b x ≡ true → Later b c y ≡ true → Later a c z ≡ true
later_chain a b c x y z next = grind (arith, nat_tests)

earlier_chain : (a b c : Place) → is_earlier a b ≡ true → is_earlier b c ≡ true → is_earlier a c ≡ true
earlier_chain a b c =
    later_chain a.file b.file c.file _ _ _ (later_chain a.line b.line c.line _ _ _ (columns a.column b.column c.column))
  where
    columns : (x y z : ℕ) → nat_lt x y ≡ true → nat_lt y z ≡ true → nat_lt x z ≡ true
    columns x y z = grind (arith, nat_tests)

-- where a stands before c, it stands before b or b stands before c
later_between : (a b c : ℕ) (x y z : Bool) → (x ≡ true → y ≡ false → z ≡ true) → Later a c x ≡ true → Later b c y ≡ false → Later a b z ≡ true
later_between a b c x y z next = grind (arith, nat_tests)

earlier_between : (a b c : Place) → is_earlier a c ≡ true → is_earlier b c ≡ false → is_earlier a b ≡ true
earlier_between a b c =
    later_between a.file b.file c.file _ _ _ (later_between a.line b.line c.line _ _ _ (columns a.column b.column c.column))
  where
    columns : (x y z : ℕ) → nat_lt x z ≡ true → nat_lt y z ≡ false → nat_lt x y ≡ true
    columns x y z = grind (arith, nat_tests)

never_itself : (a : Place) → is_earlier a a ≡ false
never_itself a = three a.file a.line a.column
  where
    three : (f l c : ℕ) → (nat_lt f f || (nat_eq f f && (nat_lt l l || (nat_eq l l && nat_lt c c)))) ≡ false
    three f l c = grind (arith, nat_tests)

-- ---- the first

not_false : (b : Bool) → b ≡ false → not b ≡ true
not_false false e = refl
not_false true e = absurd (false≢true (sym e))

not_is : (b : Bool) → not b ≡ true → b ≡ false
not_is false e = refl
not_is true e = absurd (false≢true e)

-- the first of m and the places behind it
record Kept (m : Place) (l : List Place) : Type 0 where
  first : Place
  is : noted l (Some m) ≡ Some first
  among : Contains (m ∷ l) first
  least : list_all (λ other. not (is_earlier other first)) l ≡ true
  from : not (is_earlier m first) ≡ true

both : (a b : Bool) → a ≡ true → b ≡ true → (a && b) ≡ true
both true true e h = refl
both true false e h = h
both false b e h = e

-- one place stands behind another, or is the same
skip : (m p : Place) (l : List Place) (x : Place) → Contains (m ∷ l) x → Contains (m ∷ p ∷ l) x
skip m p l x t = go (contains_cases m l x t)
  where
    go : (m ≡ x) ⊎ Contains l x → Contains (m ∷ p ∷ l) x
    go (inl e) = contains_first m x (p ∷ l) e
    go (inr later) = contains_later m (p ∷ l) x (contains_later p l x later)

take_new : (m p : Place) (l : List Place) → is_earlier p m ≡ true → Kept p l → Kept m (p ∷ l)
take_new m p l e k = record {
  first = k.first;
  is = rw e k.is;
  among = contains_later m (p ∷ l) k.first k.among;
  least = both (not (is_earlier p k.first)) _ k.from k.least;
  from = not_false (is_earlier m k.first) (go (is_earlier m k.first) refl);
}
  where
    go : (b : Bool) → is_earlier m k.first ≡ b → is_earlier m k.first ≡ false
    go false h = h
    go true h = absurd (false≢true (sym (not_is (is_earlier p k.first) k.from) ∙ earlier_chain p m k.first e h))

keep_old : (m p : Place) (l : List Place) → is_earlier p m ≡ false → Kept m l → Kept m (p ∷ l)
keep_old m p l e k = record {
  first = k.first;
  is = rw e k.is;
  among = skip m p l k.first k.among;
  least = both (not (is_earlier p k.first)) _ (not_false (is_earlier p k.first) (go (is_earlier p k.first) refl)) k.least;
  from = k.from;
}
  where
    go : (b : Bool) → is_earlier p k.first ≡ b → is_earlier p k.first ≡ false
    go false h = h
    go true h = absurd (false≢true (sym e ∙ earlier_between p m k.first h (not_is (is_earlier m k.first) k.from)))

kept : (m : Place) (l : List Place) → Kept m l
kept m [] = record { first = m; is = refl; among = contains_here m []; least = refl; from = not_false (is_earlier m m) (never_itself m) }
kept m (p ∷ l) = go (is_earlier p m) refl (kept p l) (kept m l)
  where
    go : (b : Bool) → is_earlier p m ≡ b → Kept p l → Kept m l → Kept m (p ∷ l)
    go true e new old = take_new m p l e new
    go false e new old = keep_old m p l e old

-- the first of some places is what was noted of them, or there are none
pub first_is : (l : List Place) (r : Option Place) → r ≡ noted l None → MatchOption r (l ≡ []) (λ at. IsFirst at l)
first_is [] r e = subst (λ (o : Option Place). MatchOption o (◌≡◌ {A = List Place} [] []) (λ at. IsFirst at [])) (sym e) refl
first_is (m ∷ l) r e =
    let k = kept m l in
    subst (λ (o : Option Place). MatchOption o (◌≡◌ {A = List Place} (m ∷ l) []) (λ at. IsFirst at (m ∷ l))) (sym (e ∙ k.is)) (record { is_one = k.among; is_least = both (not (is_earlier m k.first)) _ k.from k.least })
