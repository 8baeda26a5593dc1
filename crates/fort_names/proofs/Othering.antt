-- Two lines that give one name from two modules: there are such up to a place exactly where one gives it there from another
-- module than the first of them.
use Rattle.std.proofs.Common.{◌≡◌, ℕ, Bool, true, false, not, ◌&&◌, ◌||◌, List, [], ◌∷◌, Option, None, Some, refl, sym, ap, ◌∙◌, subst, arith, if◌then◌else◌, inl, inr}
use Rattle.std.specs.Prelude.{nat_eq, ◌⊎◌}
use Rattle.std.specs.List.{list_any}
use Rattle.std.proofs.lemmas.Bool.{false≢true, and_parts, and_from}
use Rattle.std.proofs.lemmas.Bool.Decides.{nat_tests}
use Rattle.fort_tree.specs.declared.place.Place.{Place}
use Rattle.sound_programs.specs.Places.{is_earlier}
use Rattle.fort_names.specs.Leasts.{places_at}
use Rattle.fort_names.specs.Reached.{is_by, some_by}
use Rattle.fort_names.specs.TwoUses.{is_other, earlier_use, first_use, other_uses}
use Rattle.fort_names.proofs.Members.{Member, any_member, member_any}
use Rattle.fort_names.proofs.Reaching.{earlier_chain, earlier_between, not_earlier}

-- the first stands before the second in the list
pub data Pair {A : Type 0} : List A → A → A → Type 0 where
  now : {a b : A} {l : List A} → Member l b → Pair (a ∷ l) a b
  behind : {a b c : A} {l : List A} → Pair l a b → Pair (c ∷ l) a b

pub first_of : {A : Type 0} {l : List A} {a b : A} → Pair l a b → Member l a
first_of (now m) = Member.first
first_of (behind p) = Member.later (first_of p)

pub second_of : {A : Type 0} {l : List A} {a b : A} → Pair l a b → Member l b
second_of (now m) = Member.later m
second_of (behind p) = Member.later (second_of p)

-- two members that differ stand in one order or the other
pub in_order : {A : Type 0} {l : List A} {a b : A} → Member l a → Member l b → ((a ≡ b) ⊎ (Pair l a b ⊎ Pair l b a))
in_order (Member.first) (Member.first) = inl refl
in_order (Member.first) (Member.later m) = inr (inl (now m))
in_order (Member.later m) (Member.first) = inr (inr (now m))
in_order (Member.later m) (Member.later n) = go (in_order m n)
  where
    go : {A : Type 0} {l : List A} {a b c : A} → ((a ≡ b) ⊎ (Pair l a b ⊎ Pair l b a)) → ((a ≡ b) ⊎ (Pair (c ∷ l) a b ⊎ Pair (c ∷ l) b a))
    go (inl e) = inl e
    go (inr (inl p)) = inr (inl (behind p))
    go (inr (inr p)) = inr (inr (behind p))

abbrev pub apart : Option ℕ → Option ℕ → Bool
apart None o = false
apart (Some m) o = is_other m o

pub apart_swaps : (o p : Option ℕ) → apart o p ≡ true → apart p o ≡ true
apart_swaps None p e = absurd (false≢true e)
apart_swaps (Some m) None e = absurd (false≢true e)
apart_swaps (Some m) (Some n) e = turn m n e
  where
    turn : (m n : ℕ) → not (nat_eq m n) ≡ true → not (nat_eq n m) ≡ true
    turn m n = grind (arith, nat_tests)

never_apart : (o : Option ℕ) → apart o o ≡ true → ⊥
never_apart None e = false≢true e
never_apart (Some m) e = same m e
  where
    same : (m : ℕ) → not (nat_eq m m) ≡ true → ⊥
    same m = grind (arith, nat_tests)

places_by : {A : Type 0} (at : Place) (test : A → Bool) (place : A → Place) (l : List A) → some_by at (places_at test place l) ≡ list_any (λ a. test a && is_by at (place a)) l
places_by at test place [] = refl
places_by {A} at test place (a ∷ l) = go (places_by at test place l) (test a)
  where
    go : some_by at (places_at test place l) ≡ list_any (λ b. test b && is_by at (place b)) l → (t : Bool)
        → some_by at (if t then place a ∷ places_at test place l else places_at test place l) ≡ ((t && is_by at (place a)) || list_any (λ b. test b && is_by at (place b)) l)
    go h true = ap (λ t. is_by at (place a) || t) h
    go h false = h

module _ {A : Type 0} (from : A → Option ℕ) (place : A → Place) where
  -- the first place comes from a line
  record Source (f : Place × ℕ) (l : List A) : Type 0 where
    line : A
    there : Member l line
    gives : from line ≡ Some f.1
    is : place line ≡ f.0

  source : (acc : Option (Place × ℕ)) (l : List A) (f : Place × ℕ) → first_use from place acc l ≡ Some f → ◌⊎◌ (acc ≡ Some f) (Source f l)
  source acc [] f e = inl e
  source acc (a ∷ l) f e = go acc (from a) refl (source (earlier_use acc (from a) (place a)) l f e)
    where
      go : (acc : Option (Place × ℕ)) (o : Option ℕ) → from a ≡ o → ◌⊎◌ (earlier_use acc o (place a) ≡ Some f) (Source f l) → ◌⊎◌ (acc ≡ Some f) (Source f (a ∷ l))
      go acc o h (inr s) = inr (record { line = s.line; there = Member.later s.there; gives = s.gives; is = s.is })
      go acc None h (inl e) = inl e
      go None (Some m) h (inl e) =
          let same : (place a, m) ≡ f = cc in
          inr (record { line = a; there = Member.first; gives = h ∙ ap (λ p. Some p.1) same; is = ap (λ p. p.0) same })
      go (Some g) (Some m) h (inl e) = by (is_earlier (place a) g.0) e
        where
          by : (t : Bool) → ◌≡◌ {A = Option (Place × ℕ)} (Some (if t then (place a, m) else g)) (Some f) → ◌⊎◌ (◌≡◌ {A = Option (Place × ℕ)} (Some g) (Some f)) (Source f (a ∷ l))
          by true e =
              let same : (place a, m) ≡ f = cc in
              inr (record { line = a; there = Member.first; gives = h ∙ ap (λ p. Some p.1) same; is = ap (λ p. p.0) same })
          by false e = inl e

  -- and no line comes before it
  record Beats (p : Place) (o : Option (Place × ℕ)) : Type 0 where
    least : Place × ℕ
    is : o ≡ Some least
    none : is_earlier p least.0 ≡ false

  not_before : (a b c : Place) → is_earlier a b ≡ false → is_earlier b c ≡ false → is_earlier a c ≡ false
  not_before a b c e h = go (is_earlier a c) refl
    where
      go : (t : Bool) → is_earlier a c ≡ t → t ≡ false
      go false k = refl
      go true k = absurd (false≢true (sym e ∙ earlier_between a b c k h))

  further_on : {p q : Place} {o : Option (Place × ℕ)} → is_earlier p q ≡ false → Beats q o → Beats p o
  further_on {p} {q} e b = record { least = b.least; is = b.is; none = not_before p q b.least.0 e b.none }

  keeps : (g : Place × ℕ) (l : List A) → Beats g.0 (first_use from place (Some g) l)
  keeps g [] = record { least = g; is = refl; none = not_earlier g.0 }
  keeps g (a ∷ l) = go (from a) (λ h. keeps h l)
    where
      go : (o : Option ℕ) → ((h : Place × ℕ) → Beats h.0 (first_use from place (Some h) l)) → Beats g.0 (first_use from place (earlier_use (Some g) o (place a)) l)
      go None rest = rest g
      go (Some m) rest = by (is_earlier (place a) g.0) refl
        where
          by : (t : Bool) → is_earlier (place a) g.0 ≡ t → Beats g.0 (first_use from place (Some (if t then (place a, m) else g)) l)
          by true e = further_on (after (is_earlier g.0 (place a)) refl) (rest (place a, m))
            where
              after : (t : Bool) → is_earlier g.0 (place a) ≡ t → t ≡ false
              after false k = refl
              after true k = absurd (false≢true (sym (not_earlier g.0) ∙ earlier_chain g.0 (place a) g.0 k e))
          by false e = rest g

  beaten : (acc : Option (Place × ℕ)) {l : List A} {a : A} → Member l a → (m : ℕ) → from a ≡ Some m → Beats (place a) (first_use from place acc l)
  beaten acc (Member.first {a} {l}) m e = subst (λ o. Beats (place a) (first_use from place (earlier_use acc o (place a)) l)) (sym e) (go acc)
    where
      go : (o : Option (Place × ℕ)) → Beats (place a) (first_use from place (earlier_use o (Some m) (place a)) l)
      go None = keeps (place a, m) l
      go (Some g) = by (is_earlier (place a) g.0) refl
        where
          by : (t : Bool) → is_earlier (place a) g.0 ≡ t → Beats (place a) (first_use from place (Some (if t then (place a, m) else g)) l)
          by true h = keeps (place a, m) l
          by false h = further_on h (keeps g l)
  beaten acc (Member.later {a} {b} {l} n) m e = beaten (earlier_use acc (from b) (place b)) n m e

  -- two lines that give the name from two modules, neither later than a place
  pub record Meeting (at : Place) (l : List A) : Type 0 where
    pub one : A
    pub other : A
    pub pair : Pair l one other
    pub apart_are : apart (from one) (from other) ≡ true
    pub one_by : is_by at (place one) ≡ true
    pub other_by : is_by at (place other) ≡ true

  -- what isn't later than one that isn't later isn't so either
  by_earlier : (at p q : Place) → is_earlier q p ≡ false → is_by at q ≡ true → is_by at p ≡ true
  by_earlier at p q e h = go (is_earlier at p) refl
    where
      go : (t : Bool) → is_earlier at p ≡ t → not t ≡ true
      go false k = refl
      go true k = sym (ap not (earlier_between at q p k e)) ∙ h

  met : {at : Place} {l : List A} {a b : A} → Member l a → Member l b → apart (from a) (from b) ≡ true → is_by at (place a) ≡ true → is_by at (place b) ≡ true → Meeting at l
  met {at} {l} {a} {b} m n e h k = go (in_order m n)
    where
      go : ◌⊎◌ (a ≡ b) (◌⊎◌ (Pair l a b) (Pair l b a)) → Meeting at l
      go (inl same) = absurd (never_apart (from a) (ap (λ c. apart (from a) (from c)) same ∙ e))
      go (inr (inl p)) = record { one = a; other = b; pair = p; apart_are = e; one_by = h; other_by = k }
      go (inr (inr p)) = record { one = b; other = a; pair = p; apart_are = apart_swaps (from a) (from b) e; one_by = k; other_by = h }

  pub meeting_of : (at : Place) (l : List A) → some_by at (other_uses from place (first_use from place None l) l) ≡ true → Meeting at l
  meeting_of at l h = go (first_use from place None l) refl h
    where
      go : (o : Option (Place × ℕ)) → first_use from place None l ≡ o → some_by at (other_uses from place o l) ≡ true → Meeting at l
      go None e h = absurd (false≢true h)
      go (Some f) e h = by (source None l f e)
        where
          r : (b : A) × Member l b × ((is_other f.1 (from b) && is_by at (place b)) ≡ true)
          r = any_member (λ b. is_other f.1 (from b) && is_by at (place b)) l (sym (places_by at (λ b. is_other f.1 (from b)) place l) ∙ h)

          parts : (is_other f.1 (from r.0) ≡ true) × (is_by at (place r.0) ≡ true)
          parts = and_parts (is_other f.1 (from r.0)) (is_by at (place r.0)) r.2

          number : (o : Option ℕ) → is_other f.1 o ≡ true → (m : ℕ) × (o ≡ Some m)
          number None e = absurd (false≢true e)
          number (Some m) e = (m, refl)

          by : ◌⊎◌ (◌≡◌ {A = Option (Place × ℕ)} None (Some f)) (Source f l) → Meeting at l
          by (inl n) = absurd (cc)
          by (inr s) =
              let n : (m : ℕ) × (from r.0 ≡ Some m) = number (from r.0) parts.0 in
              let b = beaten None r.1 n.0 n.1 in
              let same : f ≡ b.least = cc (e, b.is) in
              let first_by : is_by at (place s.line) ≡ true = ap (is_by at) (s.is ∙ ap (λ u. u.0) same) ∙ by_earlier at b.least.0 (place r.0) b.none parts.1 in
              met s.there r.1 (ap (λ o. apart o (from r.0)) s.gives ∙ parts.0) first_by parts.1

  pub of_meeting : (at : Place) (l : List A) → Meeting at l → some_by at (other_uses from place (first_use from place None l) l) ≡ true
  of_meeting at l m = go (from m.one) (from m.other) refl refl m.apart_are
    where
      go : (o p : Option ℕ) → from m.one ≡ o → from m.other ≡ p → apart o p ≡ true → some_by at (other_uses from place (first_use from place None l) l) ≡ true
      go None p e h k = absurd (false≢true k)
      go (Some i) None e h k = absurd (false≢true k)
      go (Some i) (Some j) e h k = ap (λ o. some_by at (other_uses from place o l)) b.is ∙ places_by at (λ a. is_other b.least.1 (from a)) place l ∙ by (nat_eq b.least.1 i) refl
        where
          b : Beats (place m.one) (first_use from place None l)
          b = beaten None (first_of m.pair) i e

          other : (u i j : ℕ) → nat_eq u i ≡ true → not (nat_eq i j) ≡ true → not (nat_eq u j) ≡ true
          other u i j = grind (arith, nat_tests)

          by : (t : Bool) → nat_eq b.least.1 i ≡ t → list_any (λ a. is_other b.least.1 (from a) && is_by at (place a)) l ≡ true
          by true n =
              member_any (λ a. is_other b.least.1 (from a) && is_by at (place a)) (second_of m.pair)
              (and_from (is_other b.least.1 (from m.other)) (is_by at (place m.other)) (ap (is_other b.least.1) h ∙ other b.least.1 i j n k) m.other_by)
          by false n =
              member_any (λ a. is_other b.least.1 (from a) && is_by at (place a)) (first_of m.pair)
              (and_from (is_other b.least.1 (from m.one)) (is_by at (place m.one)) (ap (is_other b.least.1) e ∙ ap not n) m.one_by)
