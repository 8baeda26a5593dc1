-- A chain of links needs to be no longer than there are links.
use Rattle.std.proofs.Common.{◌≡◌, ℕ, zero, suc, ◌≤◌, ◌<◌, ◌||◌, ◌&&◌, [], ◌∷◌, Bool, true, false, refl, sym, ap, subst, ◌∙◌, arith, length, inl, inr}
use Rattle.std.specs.List.{list_any}
use Rattle.std.specs.Str.{bytes_eq}
use Rattle.std.specs.Prelude.{◌⊎◌}
use Rattle.std.proofs.lemmas.Bool.{and_parts, and_from, false≢true}
use Rattle.std.proofs.lemmas.Slice.Eq.{bytes_eq-Decides}
use Rattle.claw_meaning.specs.Syntax.{Text}
use Rattle.sound_programs.specs.Links.{Links, leads_within, leads, Reaches}

-- ---- Links and ways over them

data Member : Links → Text × Text → Type 0 where
  first : {l : Text × Text} {ls : Links} → Member (l ∷ ls) l
  later : {k l : Text × Text} {ls : Links} → Member ls l → Member (k ∷ ls) l

-- at most n links lead from the first name to the second
data Way (links : Links) : ℕ → Text → Text → Type 0 where
  stays : {n : ℕ} {x : Text} → Way links n x x
  goes : {n : ℕ} {x z y : Text} → Member links (x, z) → Way links n z y → Way links (suc n) x y

names_equal : (x y : Text) → bytes_eq x y ≡ true → x ≡ y
names_equal x y e = (bytes_eq-Decides x y).0 e

equal_names : (x y : Text) → x ≡ y → bytes_eq x y ≡ true
equal_names x y e = (bytes_eq-Decides x y).1 e

-- ---- The test and the ways are one

any_member : (test : Text × Text → Bool) (links : Links) → list_any test links ≡ true → (l : Text × Text) × Member links l × (test l ≡ true)
any_member test [] h = absurd (false≢true h)
any_member test (l ∷ ls) h = go (any_member test ls) (test l) refl
  where
    go : (list_any test ls ≡ true → (k : Text × Text) × Member ls k × (test k ≡ true)) → (b : Bool) → test l ≡ b → (k : Text × Text) × Member (l ∷ ls) k × (test k ≡ true)
    go others true e = (l, first, e)
    go others false e =
        let r : (k : Text × Text) × Member ls k × (test k ≡ true) = others (subst (λ b. (b || list_any test ls) ≡ true) e h) in
        (r.0, later r.1, r.2)

member_any : (test : Text × Text → Bool) (links : Links) (l : Text × Text) → Member links l → test l ≡ true → list_any test links ≡ true
member_any test [] k m e = elim m [ ]
member_any test (l ∷ ls) k first e = ap (λ b. b || list_any test ls) e
member_any test (k ∷ ls) l (later m) e = go (test k) (member_any test ls l m e)
  where
    go : (b : Bool) → list_any test ls ≡ true → (b || list_any test ls) ≡ true
    go true h = refl
    go false h = h

way_of : (links : Links) (n : ℕ) (x y : Text) → leads_within links n x y ≡ true → Way links n x y
way_of links zero x y h = subst (λ z. Way links zero x z) (names_equal x y h) stays
way_of links (suc n) x y h = go (λ z. way_of links n z y) (bytes_eq x y) refl
  where
    go : ((z : Text) → leads_within links n z y ≡ true → Way links n z y) → (b : Bool) → bytes_eq x y ≡ b → Way links (suc n) x y
    go rest true e = subst (λ z. Way links (suc n) x z) (names_equal x y e) stays
    go rest false e =
        let tested : Text × Text → Bool = λ l. bytes_eq l.0 x && leads_within links n l.1 y in
        let r : (l : Text × Text) × Member links l × (tested l ≡ true) = any_member tested links (subst (λ b. (b || list_any tested links) ≡ true) e h) in
        let parts : (bytes_eq r.0.0 x ≡ true) × (leads_within links n r.0.1 y ≡ true) = and_parts (bytes_eq r.0.0 x) (leads_within links n r.0.1 y) r.2 in
        goes (subst (λ z. Member links (z, r.0.1)) (names_equal r.0.0 x parts.0) r.1) (rest r.0.1 parts.1)

or_right : (a b : Bool) → b ≡ true → (a || b) ≡ true
or_right true b h = refl
or_right false b h = h

test_of : (links : Links) {n : ℕ} {x y : Text} → Way links n x y → leads_within links n x y ≡ true
test_of links (stays {n} {x}) = same n
  where
    same : (m : ℕ) → leads_within links m x x ≡ true
    same zero = equal_names x x refl
    same (suc m) = ap (λ b. b || list_any (λ l. bytes_eq l.0 x && leads_within links m l.1 x) links) (equal_names x x refl)
test_of links (goes {n} {x} {z} {y} member way) =
    or_right (bytes_eq x y) (list_any (λ l. bytes_eq l.0 x && leads_within links n l.1 y) links)
    (member_any (λ l. bytes_eq l.0 x && leads_within links n l.1 y) links (x, z) member
    (and_from (bytes_eq x x) (leads_within links n z y) (equal_names x x refl) (test_of links way)))

-- ---- Ways that don't come back to a name

keep_unless : Bool → Text × Text → Links → Links
keep_unless true l ls = ls
keep_unless false l ls = l ∷ ls

-- the links that don't begin at the name
without : Text → Links → Links
unfolding keep_unless
without x [] = []
without x (l ∷ ls) = keep_unless (bytes_eq l.0 x) l (without x ls)

kept : (x : Text) (links : Links) (l : Text × Text) → Member links l → bytes_eq l.0 x ≡ false → Member (without x links) l
unfolding keep_unless without
kept x [] k m e = elim m [ ]
kept x (l ∷ ls) k first e = subst (λ b. Member (keep_unless b l (without x ls)) l) (sym e) first
kept x (k ∷ ls) l (later m) e = go (bytes_eq k.0 x) (kept x ls l m e)
  where
    go : (b : Bool) → Member (without x ls) l → Member (keep_unless b k (without x ls)) l
    go true m = m
    go false m = later m

from_front : (x : Text) (links ls : Links) (k l : Text × Text) → (Member links l → Member ls l × (bytes_eq l.0 x ≡ false)) → bytes_eq k.0 x ≡ false → Member (k ∷ links) l → Member (k ∷ ls) l × (bytes_eq l.0 x ≡ false)
from_front x links ls k l rest e first = (first, e)
from_front x links ls k l rest e (later m) = let r : Member ls l × (bytes_eq l.0 x ≡ false) = rest m in (later r.0, r.1)

was_kept : (x : Text) (links : Links) (l : Text × Text) → Member (without x links) l → Member links l × (bytes_eq l.0 x ≡ false)
unfolding keep_unless without
was_kept x [] l m = elim m [ ]
was_kept x (k ∷ ls) l m = go (was_kept x ls l) (bytes_eq k.0 x) refl m
  where
    go : (Member (without x ls) l → Member ls l × (bytes_eq l.0 x ≡ false)) → (b : Bool) → bytes_eq k.0 x ≡ b → Member (keep_unless b k (without x ls)) l → Member (k ∷ ls) l × (bytes_eq l.0 x ≡ false)
    go rest true e m = let r : Member ls l × (bytes_eq l.0 x ≡ false) = rest m in (later r.0, r.1)
    go rest false e m = from_front x (without x ls) ls k l rest e m

-- there are no more of them
without_no_longer : (x : Text) (links : Links) → length (without x links) ≤ length links
unfolding keep_unless without
without_no_longer x [] = omega arith
without_no_longer x (l ∷ ls) = go (bytes_eq l.0 x) (without_no_longer x ls)
  where
    go : (b : Bool) → length (without x ls) ≤ length ls → length (keep_unless b l (without x ls)) ≤ length (l ∷ ls)
    go true h = omega (arith, h)
    go false h = omega (arith, h)

-- and fewer, where one begins there
without_shorter : (x z : Text) (links : Links) → Member links (x, z) → length (without x links) < length links
unfolding keep_unless without
without_shorter x z [] m = elim m [ ]
without_shorter x z (l ∷ ls) first =
    subst (λ b. length (keep_unless b l (without x ls)) < length (l ∷ ls)) (sym (equal_names x x refl)) (omega (arith, without_no_longer x ls))
without_shorter x z (k ∷ ls) (later m) = go (bytes_eq k.0 x) (without_shorter x z ls m)
  where
    go : (b : Bool) → length (without x ls) < length ls → length (keep_unless b k (without x ls)) < length (k ∷ ls)
    go true h = omega (arith, h)
    go false h = omega (arith, h)

-- ---- Cutting a way

longer : (links : Links) {n : ℕ} {x y : Text} (m : ℕ) → n ≤ m → Way links n x y → Way links m x y
longer links m h stays = stays
longer links zero h (goes {n} member way) = absurd (nothing n h)
  where
    nothing : (n : ℕ) → suc n ≤ zero → ⊥
    nothing n h = omega (arith, h)
longer links (suc m) h (goes {n} member way) = goes member (longer links m (omega (arith, h)) way)

wider : (x : Text) (links : Links) {n : ℕ} {a b : Text} → Way (without x links) n a b → Way links n a b
wider x links stays = stays
wider x links (goes member way) = goes (was_kept x links _ member).0 (wider x links way)

-- what is left of a way behind the last link that begins at x, or the whole way, where none does
abbrev Behind : Links → Text → Text → Type 0
Behind links x y = (z : Text) × (n : ℕ) × Member links (x, z) × Way (without x links) n z y

behind : (x : Text) (links : Links) {n : ℕ} {a y : Text} → Way links n a y → (Way (without x links) n a y) ⊎ (Behind links x y)
behind x links stays = inl stays
behind x links (goes {n} {x = a} {z} {y} member way) = go (behind x links way) (bytes_eq a x) refl
  where
    go : (Way (without x links) n z y) ⊎ (Behind links x y) → (b : Bool) → bytes_eq a x ≡ b → (Way (without x links) (suc n) a y) ⊎ (Behind links x y)
    go (inr rest) b e = inr rest
    go (inl rest) true e = inr (z, n, subst (λ q. Member links (q, z)) (names_equal a x e) member, rest)
    go (inl rest) false e = inl (goes (kept x links (a, z) member e) rest)

-- no way leads on from x without a link that begins there
stuck : (x : Text) (links : Links) {n : ℕ} {y : Text} → bytes_eq x y ≡ false → Way (without x links) n x y → ⊥
stuck x links e stays = false≢true (sym e ∙ equal_names x x refl)
stuck x links e (goes {n} {x = a} {z} member way) = false≢true (sym (was_kept x links (x, z) member).1 ∙ equal_names x x refl)

abbrev CutAt : ℕ → Type 0
CutAt bound = (links : Links) (n : ℕ) (x y : Text) → length links ≤ bound → Way links n x y → Way links (length links) x y

-- one link, and what is left of the way over fewer links
over_fewer : (links : Links) (x z y : Text) → Member links (x, z) → Way (without x links) (length (without x links)) z y → Way links (length links) x y
over_fewer links x z y member way =
    longer links (length links) (omega (arith, without_shorter x z links member)) (goes member (wider x links way))

-- a way is as long as there are links, at most
cut : (bound : ℕ) → CutAt bound
cut zero links n x y h stays = stays
cut zero links n x y h (goes {x = a} {z} member way) = absurd (omega (arith, h, without_shorter a z links member))
cut (suc bound) links n x y h way = go (cut bound) (bytes_eq x y) refl
  where
    from_behind : CutAt bound → (Way (without x links) n x y) ⊎ (Behind links x y) → bytes_eq x y ≡ false → Way links (length links) x y
    from_behind rest (inl none) e = absurd (stuck x links e none)
    from_behind rest (inr (z, m, member, left)) e =
        over_fewer links x z y member (rest (without x links) m z y (omega (arith, h, without_shorter x z links member)) left)

    go : CutAt bound → (b : Bool) → bytes_eq x y ≡ b → Way links (length links) x y
    go rest true e = subst (λ q. Way links (length links) x q) (names_equal x y e) stays
    go rest false e = from_behind rest (behind x links way) e

-- what can be reached in any number of links can be reached in as many as there are
pub reached_within : (links : Links) (x y : Text) → Reaches links x y → leads links x y ≡ true
reached_within links x y reached =
    test_of links (cut (length links) links reached.0 x y (omega arith) (way_of links reached.0 x y reached.1))

pub reached_if_led : (links : Links) (x y : Text) → leads links x y ≡ true → Reaches links x y
reached_if_led links x y h = (length links, h)
