-- Which names lead to one, round by round, and that no link lies on a cycle where each leads to a lesser rank.
use Rattle.std.proofs.Common.{◌≡◌, ℕ, zero, suc, ◌+◌, ◌-◌, ◌≤◌, ◌<◌, Bool, true, false, ◌&&◌, ◌||◌, List, [], ◌∷◌, ◌++◌, map, length, cond, refl, sym, ap, ◌∙◌, arith}
use Rattle.std.specs.Prelude.{nat_lt}
use Rattle.std.specs.List.{list_any, list_all, filter}
use Rattle.std.specs.Str.{bytes_eq}
use Rattle.std.proofs.lemmas.Bool.{and_parts, and_from, or_left, ltb-true}
use Rattle.std.proofs.lemmas.Bool.Decides.{nat_tests}
use Rattle.std.proofs.lemmas.Cmp.{nat_list_eq_equiv}
use Rattle.std.proofs.lemmas.Slice.Eq.{bytes_eq-Decides}
use Rattle.fort_tree.specs.declared.place.Place.{Place}
use Rattle.claw_meaning.specs.Syntax.{Text}
use Rattle.sound_programs.specs.Links.{Links, leads_within, leads}
use Rattle.sound_programs.specs.Places.{is_earlier, where_place}
use Rattle.fort_names.specs.declared.cycles.Link.{Link}
use Rattle.fort_names.specs.NameLists.{has, with_name}
use Rattle.fort_names.specs.Circles.{links_after, one_further, AreThose, falls, circle_places}
use Rattle.fort_names.proofs.Covering.{has_with}
use Rattle.fort_names.proofs.Members.{Member, any_member, member_any, any_same, any_push, same_test}

or_false : (t : Bool) → (t || false) ≡ t
or_false true = refl
or_false false = refl

-- ---- rounds

pub at_first : (links : Links) (y : Text) → AreThose (with_name [] y) (λ x. leads_within links 0 x y)
at_first links y = record { each = λ x. or_false (bytes_eq x y) }

-- one link more is taken into account
pub one_link : (done : Links) (link : Text × Text) (y : Text) (test : Text → Bool) (next : List Text) → AreThose next (one_further done y test) → test link.1 ≡ true
    → AreThose (with_name next link.0) (one_further (done ++ link ∷ []) y test)
one_link done link y test next h e = record {
  each = λ x.
      has_with next link.0 x
      ∙ (λ i. h.each x i || nat_list_eq_equiv.symm x link.0 i)
      ∙ regroup (bytes_eq x y) (list_any (λ l. bytes_eq l.0 x && test l.1) done) (bytes_eq link.0 x)
      ∙ ap (λ t. bytes_eq x y || (list_any (λ l. bytes_eq l.0 x && test l.1) done || (bytes_eq link.0 x && t))) (sym e)
      ∙ ap (λ t. bytes_eq x y || t) (sym (any_push (λ l. bytes_eq l.0 x && test l.1) done link));
}
  where
    regroup : (a b c : Bool) → ((a || b) || c) ≡ (a || (b || (c && true)))
    regroup a b c = grind (arith, nat_tests)

pub no_link : (done : Links) (link : Text × Text) (y : Text) (test : Text → Bool) (next : List Text) → AreThose next (one_further done y test) → test link.1 ≡ false
    → AreThose next (one_further (done ++ link ∷ []) y test)
no_link done link y test next h e = record {
  each = λ x.
      h.each x
      ∙ regroup (bytes_eq x y) (list_any (λ l. bytes_eq l.0 x && test l.1) done) (bytes_eq link.0 x)
      ∙ ap (λ t. bytes_eq x y || (list_any (λ l. bytes_eq l.0 x && test l.1) done || (bytes_eq link.0 x && t))) (sym e)
      ∙ ap (λ t. bytes_eq x y || t) (sym (any_push (λ l. bytes_eq l.0 x && test l.1) done link));
}
  where
    regroup : (a b c : Bool) → (a || b) ≡ (a || (b || (c && false)))
    regroup a b c = grind (arith, nat_tests)

pub before_links : (y : Text) (test : Text → Bool) → AreThose (with_name [] y) (one_further [] y test)
before_links y test = record { each = λ x. refl }

-- one round more
pub round_more : (links : Links) (y : Text) (n : ℕ) (names next : List Text) → AreThose names (λ x. leads_within links n x y) → AreThose next (one_further links y (has names)) → AreThose next (λ x. leads_within links (suc n) x y)
round_more links y n names next h k = record {
  each = λ x. k.each x ∙ ap (λ t. bytes_eq x y || t) (any_same (λ l. bytes_eq l.0 x && has names l.1) (λ l. bytes_eq l.0 x && leads_within links n l.1 y) links (λ l. ap (λ t. bytes_eq l.0 x && t) (h.each l.1)));
}

any_more : {A : Type 0} (p q : A → Bool) (l : List A) → ((a : A) → p a ≡ true → q a ≡ true) → list_any p l ≡ true → list_any q l ≡ true
any_more {A} p q l more h =
    let r : (a : A) × Member l a × (p a ≡ true) = any_member p l h in
    member_any q r.1 (more r.0 r.2)

all_of : {A : Type 0} (test : A → Bool) {l : List A} {a : A} → Member l a → list_all test l ≡ true → test a ≡ true
all_of test (Member.first {a} {l}) h = (and_parts (test a) (list_all test l) h).0
all_of test (Member.later {a} {b} {l} m) h = all_of test m (and_parts (test b) (list_all test l) h).1

module _ (links : Links) (y : Text) where
  grows : (n : ℕ) (x : Text) → leads_within links n x y ≡ true → leads_within links (suc n) x y ≡ true
  grows zero x h = or_left (bytes_eq x y) _ h
  grows (suc n) x h = go (grows n) (bytes_eq x y) h
    where
      go : ((z : Text) → leads_within links n z y ≡ true → leads_within links (suc n) z y ≡ true) → (t : Bool) → (t || list_any (λ l. bytes_eq l.0 x && leads_within links n l.1 y) links) ≡ true → (t || list_any (λ l. bytes_eq l.0 x && leads_within links (suc n) l.1 y) links) ≡ true
      go before true e = refl
      go before false e =
          any_more (λ l. bytes_eq l.0 x && leads_within links n l.1 y) (λ l. bytes_eq l.0 x && leads_within links (suc n) l.1 y) links
          (λ l k. let parts = and_parts (bytes_eq l.0 x) (leads_within links n l.1 y) k in and_from (bytes_eq l.0 x) (leads_within links (suc n) l.1 y) parts.0 (before l.1 parts.1)) e

  stays : (k : ℕ) → ((x : Text) → leads_within links (suc k) x y ≡ leads_within links k x y) → (j n : ℕ) → n ≡ k + j → (x : Text) → leads_within links n x y ≡ leads_within links k x y
  stays k same zero n e x = let at : n ≡ k = omega (arith, e) in ap (λ i. leads_within links i x y) at
  stays k same (suc j) n e x =
      let at : n ≡ suc (k + j) = omega (arith, e) in
      ap (λ i. leads_within links i x y) at
      ∙ ap (λ t. bytes_eq x y || t) (any_same (λ l. bytes_eq l.0 x && leads_within links (k + j) l.1 y) (λ l. bytes_eq l.0 x && leads_within links k l.1 y) links (λ l. ap (λ t. bytes_eq l.0 x && t) (stays k same j (k + j) refl l.1)))
      ∙ same x

  -- where a round brings no new name, no later one does
  pub at_rest : (n : ℕ) (names next : List Text) (x : Text) → n ≤ length links → AreThose names (λ z. leads_within links n z y) → AreThose next (λ z. leads_within links (suc n) z y)
      → list_all (has names) next ≡ true → has names x ≡ leads links x y
  at_rest n names next x within h k none =
      h.each x ∙ sym (stays n still (length links - n) (length links) (omega (arith, within)) x)
    where
      still : (z : Text) → leads_within links (suc n) z y ≡ leads_within links n z y
      still z = same_test (leads_within links (suc n) z y) (leads_within links n z y) there (grows n z)
        where
          there : leads_within links (suc n) z y ≡ true → leads_within links n z y ≡ true
          there e =
              let r : (a : Text) × Member next a × (bytes_eq z a ≡ true) = any_member (bytes_eq z) next (k.each z ∙ e) in
              sym (h.each z) ∙ ap (has names) ((bytes_eq-Decides z r.0).0 r.2) ∙ all_of (has names) r.1 none

-- ---- ranks

module _ (rank : Text → ℕ) where
  abbrev lesser : Text × Text → Bool
  lesser l = nat_lt (rank l.1) (rank l.0)

  module _ (links : Links) (falling : list_all lesser links ≡ true) where
    no_higher : (n : ℕ) (x y : Text) → leads_within links n x y ≡ true → rank y ≤ rank x
    no_higher zero x y h = let e : rank x ≡ rank y = ap rank ((bytes_eq-Decides x y).0 h) in omega (arith, e)
    no_higher (suc n) x y h = go (λ z. no_higher n z y) (bytes_eq x y) refl h
      where
        go : ((z : Text) → leads_within links n z y ≡ true → rank y ≤ rank z) → (t : Bool) → bytes_eq x y ≡ t → (t || list_any (λ l. bytes_eq l.0 x && leads_within links n l.1 y) links) ≡ true → rank y ≤ rank x
        go before true e k = let same : rank x ≡ rank y = ap rank ((bytes_eq-Decides x y).0 e) in omega (arith, same)
        go before false e k =
            let tested : Text × Text → Bool = λ l. bytes_eq l.0 x && leads_within links n l.1 y in
            let r : (l : Text × Text) × Member links l × (tested l ≡ true) = any_member tested links k in
            let parts : (bytes_eq r.0.0 x ≡ true) × (leads_within links n r.0.1 y ≡ true) = and_parts (bytes_eq r.0.0 x) (leads_within links n r.0.1 y) r.2 in
            let same : rank r.0.0 ≡ rank x = ap rank ((bytes_eq-Decides r.0.0 x).0 parts.0) in
            let down : rank r.0.1 < rank r.0.0 = ltb-true (rank r.0.1) (rank r.0.0) (all_of lesser r.1 falling) in
            let on : rank y ≤ rank r.0.1 = before r.0.1 parts.1 in
            omega (arith, same, down, on)

  after_falls : (at : Place) (all : List Link) → falls rank all ≡ true → list_all lesser (links_after at all) ≡ true
  after_falls at [] f = refl
  after_falls at (l ∷ all) f =
      let parts = and_parts (nat_lt (rank l.name) (rank l.user)) (falls rank all) f in
      go parts.0 (after_falls at all parts.1) (is_earlier at l.at)
    where
      go : nat_lt (rank l.name) (rank l.user) ≡ true → list_all lesser (links_after at all) ≡ true → (t : Bool) → list_all lesser (map (λ (k : Link). (k.user, k.name)) (cond t (l ∷ filter (λ (k : Link). is_earlier at k.at) all) (filter (λ (k : Link). is_earlier at k.at) all))) ≡ true
      go here rest true = and_from (nat_lt (rank l.name) (rank l.user)) (list_all lesser (links_after at all)) here rest
      go here rest false = rest

  -- a link that leads to a lesser rank doesn't come back where all links do so
  never_back : (at : Place) (all : List Link) (l : Link) → falls rank all ≡ true → nat_lt (rank l.name) (rank l.user) ≡ true → leads (links_after at all) l.name l.user ≡ false
  never_back at all l f h = go (leads (links_after at all) l.name l.user) refl
    where
      go : (t : Bool) → leads (links_after at all) l.name l.user ≡ t → t ≡ false
      go false e = refl
      go true e =
          let up : rank l.user ≤ rank l.name = no_higher (links_after at all) (after_falls at all f) (length (links_after at all)) l.name l.user e in
          let down : rank l.name < rank l.user = ltb-true (rank l.name) (rank l.user) h in
          absurd (omega (arith, up, down))

  on_none : (all some : List Link) → falls rank all ≡ true → falls rank some ≡ true → circle_places all some ≡ []
  on_none all [] f g = refl
  on_none all (l ∷ some) f g =
      let parts = and_parts (nat_lt (rank l.name) (rank l.user)) (falls rank some) g in
      λ i. where_place (never_back l.at all l f parts.0 i) l.at ++ on_none all some f parts.1 i

  -- where each link leads to a lesser rank none lies on a cycle
  pub no_circle : (all : List Link) → falls rank all ≡ true → circle_places all all ≡ []
  no_circle all f = on_none all all f f
