-- What a unit leads to by references: itself, and what those lead to, to which it refers.
use Rattle.std.proofs.Common.{◌≡◌, ℕ, zero, suc, Bool, true, false, ◌&&◌, ◌||◌, List, [], ◌∷◌, ◌++◌, map, length, Option, Some, None, refl, sym, ap, ◌∙◌, arith}
use Rattle.std.specs.Prelude.{flat_map, slice_get}
use Rattle.std.specs.List.{list_any}
use Rattle.std.specs.Str.{bytes_eq}
use Rattle.std.proofs.lemmas.Bool.{false≢true}
use Rattle.std.proofs.lemmas.Slice.Eq.{bytes_eq-Decides}
use Rattle.claw_meaning.specs.Syntax as plain
use Rattle.claw_meaning.specs.Syntax.{Text}
use Rattle.sound_programs.specs.ArgumentFaults.{reached_from}
use Rattle.sound_programs.specs.CallFaults.{Referral, referral, referrals_of, calls, link_of, sites_of}
use Rattle.sound_programs.specs.Links.{Links, leads_within, leads}
use Rattle.sound_programs.specs.Placed.{Unit, Program, bare_program}
use Rattle.sound_programs.specs.Scopes.{Of_unit, entity_in, unit_of}
use Rattle.sound_programs.specs.Walks.{Site}
use Rattle.sound_programs.proofs.Chains.{reached_within}
use Rattle.fort_names.proofs.Places.{any_map, any_append, any_filter, any_by}

-- ---- one more link changes nothing

either_way : (a b : Bool) → (a ≡ true → b ≡ true) → (b ≡ true → a ≡ true) → a ≡ b
either_way true b f g = sym (f refl)
either_way false true f g = g refl
either_way false false f g = refl

any_more : {A : Type 0} (p q : A → Bool) (xs : List A) → ((x : A) → p x ≡ true → q x ≡ true) → list_any p xs ≡ true → list_any q xs ≡ true
any_more p q [] f e = absurd (false≢true e)
any_more p q (x ∷ xs) f e = go (p x) refl e (any_more p q xs f)
  where
    or_right : (a b : Bool) → b ≡ true → (a || b) ≡ true
    or_right true b e = refl
    or_right false b e = e

    go : (b : Bool) → p x ≡ b → (b || list_any p xs) ≡ true → (list_any p xs ≡ true → list_any q xs ≡ true) → (q x || list_any q xs) ≡ true
    go true here h rest = ap (λ b. b || list_any q xs) (f x here)
    go false here h rest = or_right (q x) (list_any q xs) (rest h)

one_more : (links : Links) (n : ℕ) (x z : Text) → leads_within links n x z ≡ true → leads_within links (suc n) x z ≡ true
one_more links zero x z e = ap (λ b. b || list_any (λ link. bytes_eq link.0 x && leads_within links zero link.1 z) links) e
one_more links (suc n) x z e = go (bytes_eq x z) e (λ y. one_more links n y z)
  where
    both : (a b c : Bool) → (b ≡ true → c ≡ true) → (a && b) ≡ true → (a && c) ≡ true
    both true b c f h = f h
    both false b c f h = h

    go : (b : Bool) → (b || list_any (λ link. bytes_eq link.0 x && leads_within links n link.1 z) links) ≡ true → ((y : Text) → leads_within links n y z ≡ true → leads_within links (suc n) y z ≡ true)
        → (b || list_any (λ link. bytes_eq link.0 x && leads_within links (suc n) link.1 z) links) ≡ true
    go true h more = refl
    go false h more =
        any_more (λ (link : Text × Text). bytes_eq link.0 x && leads_within links n link.1 z) (λ link. bytes_eq link.0 x && leads_within links (suc n) link.1 z) links
        (λ link. both (bytes_eq link.0 x) (leads_within links n link.1 z) (leads_within links (suc n) link.1 z) (more link.1)) h

pub leads_onwards : (links : Links) (x z : Text) → leads links x z ≡ (bytes_eq x z || list_any (λ link. bytes_eq link.0 x && leads links link.1 z) links)
leads_onwards links x z =
    either_way (leads links x z) (leads_within links (suc (length links)) x z) (one_more links (length links) x z) (λ e. reached_within links x z (suc (length links), e))

-- ---- the links from a unit

module _ (q : plain.Program) where
  from_sites : (u : Unit) (x : Text) (test : Text → Bool) (o : Site → Option plain.Unit) (ss : List Site)
      → list_any (λ link. bytes_eq link.0 x && test link.1) (map link_of (flat_map (λ s. referral u s (o s)) ss))
      ≡ (bytes_eq u.name x && list_any test (map (λ r. r.to) (flat_map (λ s. referral u s (o s)) ss)))
  from_sites u x test o [] = sym (none (bytes_eq u.name x))
    where
      none : (b : Bool) → (b && false) ≡ false
      none true = refl
      none false = refl
  from_sites u x test o (s ∷ ss) = go (o s) (from_sites u x test o ss)
    where
      spread : (a b c : Bool) → ((a && b) || (a && c)) ≡ (a && (b || c))
      spread true b c = refl
      spread false b c = refl

      go : (v : Option plain.Unit)
          → list_any (λ link. bytes_eq link.0 x && test link.1) (map link_of (flat_map (λ s. referral u s (o s)) ss)) ≡ (bytes_eq u.name x && list_any test (map (λ r. r.to) (flat_map (λ s. referral u s (o s)) ss)))
          → list_any (λ link. bytes_eq link.0 x && test link.1) (map link_of (referral u s v ++ flat_map (λ s. referral u s (o s)) ss))
          ≡ (bytes_eq u.name x && list_any test (map (λ r. r.to) (referral u s v ++ flat_map (λ s. referral u s (o s)) ss)))
      go None rest = rest
      go (Some v) rest = ap (λ b. (bytes_eq u.name x && test v.name) || b) rest ∙ spread (bytes_eq u.name x) (test v.name) (list_any test (map (λ r. r.to) (flat_map (λ s. referral u s (o s)) ss)))

  from_unit : (u : Unit) (x : Text) (test : Text → Bool)
      → list_any (λ link. bytes_eq link.0 x && test link.1) (map link_of (referrals_of q u)) ≡ (bytes_eq u.name x && list_any test (map (λ r. r.to) (referrals_of q u)))
  from_unit u x test =
      let entity = entity_in q (Of_unit u) in
      from_sites u x test (λ s. unit_of (entity s.name.name)) (sites_of entity u)

  from_units : (us : List Unit) (x : Text) (test : Text → Bool)
      → list_any (λ link. bytes_eq link.0 x && test link.1) (map link_of (flat_map (referrals_of q) us)) ≡ list_any (λ u. bytes_eq u.name x && list_any test (map (λ r. r.to) (referrals_of q u))) us
  from_units [] x test = refl
  from_units (u ∷ us) x test =
      split (referrals_of q u) (flat_map (referrals_of q) us)
      ∙ (λ i. from_unit u x test i || from_units us x test i)
    where
      split : (rs ss : List Referral) → list_any (λ link. bytes_eq link.0 x && test link.1) (map link_of (rs ++ ss))
          ≡ (list_any (λ link. bytes_eq link.0 x && test link.1) (map link_of rs) || list_any (λ link. bytes_eq link.0 x && test link.1) (map link_of ss))
      split rs ss =
          any_map (λ link. bytes_eq link.0 x && test link.1) link_of (rs ++ ss) ∙ any_append (λ (r : Referral). bytes_eq r.from x && test r.to) rs ss
          ∙ sym (λ i. any_map (λ link. bytes_eq link.0 x && test link.1) link_of rs i || any_map (λ link. bytes_eq link.0 x && test link.1) link_of ss i)

-- ---- the one unit of a name

-- no other unit has the name of this one
pub record IsAlone (us : List Unit) (n : ℕ) (u : Unit) : Type 0 where
  pub there : slice_get us n ≡ Some u
  pub alone : (m : ℕ) (v : Unit) → slice_get us m ≡ Some v → bytes_eq v.name u.name ≡ true → m ≡ n

none_of_name : (us : List Unit) (x : Text) (P : Unit → Bool) → ((m : ℕ) (v : Unit) → slice_get us m ≡ Some v → bytes_eq v.name x ≡ false) → list_any (λ v. bytes_eq v.name x && P v) us ≡ false
none_of_name [] x P none = refl
none_of_name (v ∷ us) x P none = ap (λ b. (b && P v) || list_any (λ v. bytes_eq v.name x && P v) us) (none zero v refl) ∙ none_of_name us x P (λ m w e. none (suc m) w e)

not_true : (b : Bool) → (b ≡ true → ⊥) → b ≡ false
not_true true f = absurd (f refl)
not_true false f = refl

pub only_one : (us : List Unit) (n : ℕ) (u : Unit) (P : Unit → Bool) → slice_get us n ≡ Some u → ((m : ℕ) (v : Unit) → slice_get us m ≡ Some v → bytes_eq v.name u.name ≡ true → m ≡ n)
    → list_any (λ v. bytes_eq v.name u.name && P v) us ≡ P u
only_one [] n u P there alone = absurd (cc)
only_one (v ∷ us) zero u P there alone =
    let same : v ≡ u = cc in
    let itself : bytes_eq v.name u.name ≡ true = (bytes_eq-Decides v.name u.name).1 (ap (λ w. w.name) same) in
    ap (λ b. (b && P v) || list_any (λ w. bytes_eq w.name u.name && P w) us) itself
    ∙ ap (λ b. P v || b) (none_of_name us u.name P (λ m w e. not_true (bytes_eq w.name u.name) (λ k. later m (alone (suc m) w e k))))
    ∙ last (P v) ∙ ap P same
  where
    later : (m : ℕ) → suc m ≡ zero → ⊥
    later m e = absurd (omega (arith, e))

    last : (b : Bool) → (b || false) ≡ b
    last true = refl
    last false = refl
only_one (v ∷ us) (suc n) u P there alone =
    ap (λ b. (b && P v) || list_any (λ w. bytes_eq w.name u.name && P w) us) (not_true (bytes_eq v.name u.name) (λ k. later (alone zero v refl k)))
    ∙ only_one us n u P there (λ m w e k. down m (alone (suc m) w e k))
  where
    later : zero ≡ suc n → ⊥
    later e = absurd (omega (arith, e))

    down : (m : ℕ) → suc m ≡ suc n → m ≡ n
    down m e = omega (arith, e)

-- ---- what a unit leads to

pub unit_leads : (p : Program) (n : ℕ) (u : Unit) → IsAlone p.units n u → (z : Text)
    → leads (calls p) u.name z ≡ (bytes_eq u.name z || list_any (λ y. leads (calls p) y z) (map (λ r. r.to) (referrals_of (bare_program p) u)))
unit_leads p n u h z =
    leads_onwards (calls p) u.name z
    ∙ ap (λ b. bytes_eq u.name z || b)
    (from_units (bare_program p) p.units u.name (λ y. leads (calls p) y z)
    ∙ only_one p.units n u (λ v. list_any (λ y. leads (calls p) y z) (map (λ r. r.to) (referrals_of (bare_program p) v))) h.there h.alone)

-- ---- the units that a unit reaches

pub turned : (x y : Text) → bytes_eq x y ≡ bytes_eq y x
turned x y =
    either_way (bytes_eq x y) (bytes_eq y x) (λ e. (bytes_eq-Decides y x).1 (sym ((bytes_eq-Decides x y).0 e))) (λ e. (bytes_eq-Decides x y).1 (sym ((bytes_eq-Decides y x).0 e)))

any_none : {A : Type 0} (xs : List A) → list_any (λ (x : A). false) xs ≡ false
any_none [] = refl
any_none (x ∷ xs) = any_none xs

any_either : {A : Type 0} (f g : A → Bool) (xs : List A) → list_any (λ x. f x || g x) xs ≡ (list_any f xs || list_any g xs)
any_either f g [] = refl
any_either f g (x ∷ xs) = ap (λ b. (f x || g x) || b) (any_either f g xs) ∙ spread (f x) (g x) (list_any f xs) (list_any g xs)
  where
    spread : (a b c d : Bool) → ((a || b) || (c || d)) ≡ ((a || c) || (b || d))
    spread true b c d = refl
    spread false b true d = right b
      where
        right : (b : Bool) → (b || true) ≡ true
        right true = refl
        right false = refl
    spread false b false d = refl

any_other_way : {A B : Type 0} (f : A → B → Bool) (xs : List A) (ys : List B) → list_any (λ x. list_any (f x) ys) xs ≡ list_any (λ y. list_any (λ x. f x y) xs) ys
any_other_way f [] ys = sym (any_none ys)
any_other_way f (x ∷ xs) ys = ap (λ b. list_any (f x) ys || b) (any_other_way f xs ys) ∙ sym (any_either (f x) (λ y. list_any (λ z. f z y) xs) ys)

any_and : {A : Type 0} (f : A → Bool) (b : Bool) (xs : List A) → (list_any f xs && b) ≡ list_any (λ x. f x && b) xs
any_and f b [] = refl
any_and f b (x ∷ xs) = spread (f x) (list_any f xs) b ∙ ap (λ c. (f x && b) || c) (any_and f b xs)
  where
    spread : (p q r : Bool) → ((p || q) && r) ≡ ((p && r) || (q && r))
    spread true true true = refl
    spread true true false = refl
    spread true false true = refl
    spread true false false = refl
    spread false q r = refl

-- a unit reaches itself, and what those reach, to which it refers
pub reached_onwards : (p : Program) (n : ℕ) (u : Unit) → IsAlone p.units n u → (P : Unit → Bool)
    → list_any P (reached_from p u.name) ≡ (P u || list_any (λ y. list_any P (reached_from p y)) (map (λ r. r.to) (referrals_of (bare_program p) u)))
reached_onwards p n u h P =
    let ys : List Text = map (λ r. r.to) (referrals_of (bare_program p) u) in
    any_filter P (λ w. leads (calls p) u.name w.name) p.units
    ∙ any_by (λ w. leads (calls p) u.name w.name && P w) (λ w. (bytes_eq w.name u.name && P w) || list_any (λ y. leads (calls p) y w.name && P w) ys) p.units (λ w. one w ys (unit_leads p n u h w.name))
    ∙ any_either (λ w. bytes_eq w.name u.name && P w) (λ w. list_any (λ y. leads (calls p) y w.name && P w) ys) p.units
    ∙ (λ i. only_one p.units n u P h.there h.alone i || any_other_way (λ w y. leads (calls p) y w.name && P w) p.units ys i)
    ∙ ap (λ b. P u || b) (any_by (λ y. list_any (λ w. leads (calls p) y w.name && P w) p.units) (λ y. list_any P (reached_from p y)) ys (λ y. sym (any_filter P (λ w. leads (calls p) y w.name) p.units)))
  where
    spread : (a b c : Bool) → ((a || b) && c) ≡ ((a && c) || (b && c))
    spread true true true = refl
    spread true true false = refl
    spread true false true = refl
    spread true false false = refl
    spread false b c = refl

    one : (w : Unit) (ys : List Text) → leads (calls p) u.name w.name ≡ (bytes_eq u.name w.name || list_any (λ y. leads (calls p) y w.name) ys)
        → (leads (calls p) u.name w.name && P w) ≡ ((bytes_eq w.name u.name && P w) || list_any (λ y. leads (calls p) y w.name && P w) ys)
    one w ys e =
        ap (λ b. b && P w) (e ∙ ap (λ b. b || list_any (λ y. leads (calls p) y w.name) ys) (turned u.name w.name))
        ∙ spread (bytes_eq w.name u.name) (list_any (λ y. leads (calls p) y w.name) ys) (P w)
        ∙ ap (λ b. (bytes_eq w.name u.name && P w) || b) (any_and (λ y. leads (calls p) y w.name) (P w) ys)
