-- Names that differ still do with one more.
use Rattle.std.proofs.Common.{◌≡◌, ℕ, Bool, true, false, not, ◌&&◌, ◌||◌, List, [], ◌∷◌, ◌++◌, refl, sym, ap, ◌∙◌, if◌then◌else◌, bytes_eq}
use Rattle.std.proofs.lemmas.Bool.{false≢true}
use Rattle.std.proofs.lemmas.Cmp.{nat_list_eq_equiv}
use Rattle.fort_names.specs.NameLists.{has, with_name, all_differ, AllDiffer}

split_false : (a b : Bool) → (a || b) ≡ false → (a ≡ false) × (b ≡ false)
split_false true b e = absurd (false≢true (sym e))
split_false false b e = (refl, e)

split_true : (a b : Bool) → (a && b) ≡ true → (a ≡ true) × (b ≡ true)
split_true true b e = (refl, e)
split_true false b e = absurd (false≢true e)

both : (a b : Bool) → a ≡ true → b ≡ true → (a && b) ≡ true
both true b e h = h
both false b e h = absurd (false≢true e)

not_is : (b : Bool) → not b ≡ true → b ≡ false
not_is false e = refl
not_is true e = absurd (false≢true e)

-- a name that isn't there and differs from the last one still isn't there
has_more : (names : List (List ℕ)) (x y : List ℕ) → has names x ≡ false → bytes_eq x y ≡ false → has (names ++ y ∷ []) x ≡ false
has_more [] x y h e = ap (λ b. b || false) e
has_more (n ∷ names) x y h e =
    let parts = split_false (bytes_eq x n) (has names x) h in
    ap (λ b. b || has (names ++ y ∷ []) x) parts.0 ∙ has_more names x y parts.1 e

differ_more : (names : List (List ℕ)) (y : List ℕ) → all_differ names ≡ true → has names y ≡ false → all_differ (names ++ y ∷ []) ≡ true
differ_more [] y d h = refl
differ_more (n ∷ names) y d h =
    let parts = split_true (not (has names n)) (all_differ names) d in
    let apart = split_false (bytes_eq y n) (has names y) h in
    both (not (has (names ++ y ∷ []) n)) (all_differ (names ++ y ∷ []))
    (ap not (has_more names n y (not_is (has names n) parts.0) (nat_list_eq_equiv.symm n y ∙ apart.0)))
    (differ_more names y parts.1 apart.1)

pub differ_with : (names : List (List ℕ)) (y : List ℕ) → AllDiffer names → AllDiffer (with_name names y)
differ_with names y d = record { differ = go (has names y) refl }
  where
    go : (b : Bool) → has names y ≡ b → all_differ (if b then names else names ++ y ∷ []) ≡ true
    go true e = d.differ
    go false e = differ_more names y d.differ e
