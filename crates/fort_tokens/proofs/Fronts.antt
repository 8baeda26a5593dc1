-- The front of a fixed word that is none: no front of it is a token.
use Rattle.std.proofs.Common.{◌≡◌, ◌≢◌, ℕ, Bool, true, false, cond, List, [], ◌∷◌, ◌++◌, length, refl, sym, ap, ◌∙◌, subst, arith, suc}
use Rattle.std.proofs.lemmas.Bool.{true≢false, and_parts, or_cases, eqb-true}
use Rattle.std.proofs.Common.{inl, inr, ◌||◌, ◌&&◌, not, append_assoc}
use Rattle.std.proofs.lemmas.List.{append-nil}
use Rattle.std.specs.List.{list_any, list_all}
use Rattle.std.specs.Str.{bytes_eq}
use Rattle.std.specs.Char.{is_ascii_lowercase}
use Rattle.std.proofs.lemmas.List.{map-append}
use Rattle.fort_tokens.specs.declared.character.Char.{Char}
use Rattle.fort_tokens.specs.Texts.{is_begun, is_fixed, is_name_byte, is_kind, begins_with, fixed_words}
use Rattle.std.specs.Char.{is_ascii_digit}
use Rattle.std.specs.Prelude.{nat_le, nat_eq, ◌==◌}
use Rattle.fort_tokens.specs.Automaton.{State, start, name, digits, under, suffixed, fixed, dead, next, run, accepts, has_form}
use Rattle.fort_tokens.specs.Reads.{bytes}
use Rattle.fort_tokens.proofs.Runs.{Kills, longer, run-append}

-- u is a front of w, or goes past it
pub data Compared (w z u v : List Char) : Type 0 where
  within : (q : List Char) → w ≡ u ++ q → Compared w z u v
  past : (x : List Char) → x ≢ [] → u ≡ w ++ x → z ≡ x ++ v → Compared w z u v

pub cons≢nil : (c : Char) (x : List Char) → c ∷ x ≢ []
cons≢nil c x e = absurd (grind (arith, e))

abbrev pub head-of : Char → List Char → Char
head-of d [] = d
head-of d (c ∷ x) = c

abbrev pub tail-of : List Char → List Char
tail-of [] = []
tail-of (c ∷ x) = x

compared-more : (c d : Char) (w z u v : List Char) → c ≡ d → Compared w z u v → Compared (c ∷ w) z (d ∷ u) v
compared-more c d w z u v h (within q e) = within q (ap (λ x. x ∷ w) h ∙ ap (λ w. d ∷ w) e)
compared-more c d w z u v h (past x n e k) = past x n (ap (λ y. y ∷ u) (sym h) ∙ ap (λ u. c ∷ u) e) k

pub compared : (w z u v : List Char) → w ++ z ≡ u ++ v → Compared w z u v
compared w z [] v e = within w refl
compared [] z (d ∷ u) v e = past (d ∷ u) (cons≢nil d u) refl e
compared (c ∷ w) z (d ∷ u) v e = compared-more c d w z u v (ap (head-of c) e) (compared w z u v (ap tail-of e))

-- the word of a list that passes one test, and passes another as all do
any-all : (p q : List ℕ → Bool) (ws : List (List ℕ)) → list_any p ws ≡ true → list_all q ws ≡ true → (w : List ℕ) × (p w ≡ true) × (q w ≡ true)
any-all p q [] a b = absurd (true≢false (sym a))
any-all p q (w ∷ ws) a b =
    let both = and_parts (q w) (list_all q ws) b in
    elim (or_cases (p w) (list_any p ws) a) [ inl h ↦ (w, h, both.0) | inr h ↦ any-all p q ws h both.1 ]

-- a fixed word goes through fixed words from the first of its fronts that is one
abbrev climbs : List ℕ → List ℕ → Bool
climbs pre [] = true
climbs pre (b ∷ suf) = (not (is_fixed pre) || is_fixed (pre ++ b ∷ [])) && climbs (pre ++ b ∷ []) suf

all-climb : list_all (λ w. climbs [] w) fixed_words ≡ true
all-climb = refl

implied : (x y : Bool) → (not x || y) ≡ true → x ≡ true → y ≡ true
implied true y h e = h
implied false y h e = absurd (true≢false (sym e))

climb : (pre suf q : List ℕ) → climbs pre suf ≡ true → begins_with suf q ≡ true → is_fixed pre ≡ true → is_fixed (pre ++ q) ≡ true
climb pre suf [] c b l = ap is_fixed (append-nil pre) ∙ l
climb pre [] (x ∷ q) c b l = absurd (true≢false (sym b))
climb pre (w ∷ suf) (x ∷ q) c b l =
    let both = and_parts (nat_eq x w) (begins_with suf q) b in
    let same : x ≡ w = eqb-true x w both.0 in
    let parts = and_parts (not (is_fixed pre) || is_fixed (pre ++ w ∷ [])) (climbs (pre ++ w ∷ []) suf) c in
    let more : is_fixed (pre ++ w ∷ [] ++ q) ≡ true = climb (pre ++ w ∷ []) suf q parts.1 both.1 (implied (is_fixed pre) (is_fixed (pre ++ w ∷ [])) parts.0 l) in
    ap (λ y. is_fixed (pre ++ (y ∷ q))) same ∙ ap is_fixed (sym (append_assoc pre (w ∷ []) (q))) ∙ more

reach : (pre w t q : List ℕ) → climbs pre w ≡ true → begins_with w (t ++ q) ≡ true → (suf : List ℕ) × (climbs (pre ++ t) suf ≡ true) × (begins_with suf q ≡ true)
reach pre w [] q c b = (w, ap (λ p. climbs p w) (append-nil pre) ∙ c, b)
reach pre [] (x ∷ t) q c b = absurd (true≢false (sym b))
reach pre (w ∷ ws) (x ∷ t) q c b =
    let both = and_parts (nat_eq x w) (begins_with ws (t ++ q)) b in
    let same : x ≡ w = eqb-true x w both.0 in
    let parts = and_parts (not (is_fixed pre) || is_fixed (pre ++ w ∷ [])) (climbs (pre ++ w ∷ []) ws) c in
    let r = reach (pre ++ w ∷ []) ws t q parts.1 both.1 in
    (r.0, ap (λ p. climbs p r.0) (ap (λ y. pre ++ (y ∷ t)) same ∙ sym (append_assoc pre (w ∷ []) (t))) ∙ r.1, r.2)

fixed-up : (t q : List ℕ) → is_begun (t ++ q) ≡ true → is_fixed t ≡ true → is_fixed (t ++ q) ≡ true
fixed-up t q b f =
    let w = any-all (λ w. begins_with w (t ++ q)) (λ w. climbs [] w) fixed_words b all-climb in
    let r = reach [] w.0 t q w.2 w.1 in
    climb t r.0 q r.1 r.2 f

-- the front of a fixed word that is no fixed word has no front that is one
front-at : (t q : List ℕ) (x : Bool) → is_begun (t ++ q) ≡ true → is_fixed (t ++ q) ≡ false → is_fixed t ≡ x → is_fixed t ≡ false
front-at t q true b f e = absurd (true≢false (sym (fixed-up t q b e) ∙ f))
front-at t q false b f e = e

abbrev is_open : State → Bool
is_open start = true
is_open (fixed t) = true
is_open _ = false

shut-cond : (x : Bool) (s : State) → is_open s ≡ false → is_open (cond x s dead) ≡ false
shut-cond true s h = h
shut-cond false s h = refl

shut-digits : (x y : Bool) → is_open (cond x digits (cond y under dead)) ≡ false
shut-digits true y = refl
shut-digits false true = refl
shut-digits false false = refl

shut-next : (s : State) (b : ℕ) → is_open s ≡ false → is_open (next s b) ≡ false
shut-next name b h = shut-cond (is_name_byte b) name refl
shut-next digits b h = shut-digits (is_ascii_digit b) (b == 95)
shut-next under b h = shut-cond (is_kind b) suffixed refl
shut-next suffixed b h = refl
shut-next dead b h = refl
shut-next start b h = absurd (true≢false h)
shut-next (fixed t) b h = absurd (true≢false h)

shut : (s : State) (q : List ℕ) → is_open s ≡ false → is_open (run s q) ≡ false
shut s [] h = h
shut s (b ∷ q) h = shut (next s b) q (shut-next s b h)

-- a state of fixed words has the text that was read
abbrev Is : State → List ℕ → Type 0
Is start u = u ≡ []
Is (fixed v) u = (v ≡ u) × (is_begun v ≡ true)
Is _ u = Unit {0}

is-begun : (u v : List ℕ) (x : Bool) → v ≡ u → is_begun v ≡ x → Is (cond x (fixed v) dead) u
is-begun u v true e b = (e, b)
is-begun u v false e b = tt

is-start : (u : List ℕ) (b : ℕ) (x y : Bool) → u ≡ [] → Is (cond x name (cond y digits (cond (is_begun (b ∷ [])) (fixed (b ∷ [])) dead))) (u ++ b ∷ [])
is-start u b true y e = tt
is-start u b false true e = tt
is-start u b false false e = is-begun (u ++ b ∷ []) (b ∷ []) (is_begun (b ∷ [])) (ap (λ u. u ++ b ∷ []) (sym e)) refl

is-closed : (s : State) (u : List ℕ) → is_open s ≡ false → Is s u
is-closed name u h = tt
is-closed digits u h = tt
is-closed under u h = tt
is-closed suffixed u h = tt
is-closed dead u h = tt
is-closed start u h = absurd (true≢false h)
is-closed (fixed t) u h = absurd (true≢false h)

is-next : (s : State) (u : List ℕ) (b : ℕ) → Is s u → Is (next s b) (u ++ b ∷ [])
is-next start u b h = is-start u b (is_ascii_lowercase b) (is_ascii_digit b) h
is-next (fixed v) u b h = is-begun (u ++ b ∷ []) (v ++ b ∷ []) (is_begun (v ++ b ∷ [])) (ap (λ v. v ++ b ∷ []) h.0) refl
is-next name u b h = is-closed (next name b) (u ++ b ∷ []) (shut-next name b refl)
is-next digits u b h = is-closed (next digits b) (u ++ b ∷ []) (shut-next digits b refl)
is-next under u b h = is-closed (next under b) (u ++ b ∷ []) (shut-next under b refl)
is-next suffixed u b h = tt
is-next dead u b h = tt

is-run : (s : State) (u t : List ℕ) → Is s u → Is (run s t) (u ++ t)
is-run s u [] h = subst (Is s) (sym (append-nil u)) h
is-run s u (b ∷ t) h = subst (Is (run (next s b) t)) (append_assoc u (b ∷ []) t) (is-run (next s b) (u ++ b ∷ []) t (is-next s u b h))

open-not : (s : State) (q v : List ℕ) → is_open s ≡ false → run s q ≡ fixed v → ⊥
open-not s q v h r = true≢false (ap is_open (sym r) ∙ shut s q h)

form-at : (t q : List ℕ) (s : State) → Is s t → run s q ≡ fixed (t ++ q) → is_begun (t ++ q) ≡ true → is_fixed (t ++ q) ≡ false → accepts s ≡ false
form-at t q start i r b f = refl
form-at t q under i r b f = refl
form-at t q dead i r b f = refl
form-at t q name i r b f = absurd (open-not name q (t ++ q) refl r)
form-at t q digits i r b f = absurd (open-not digits q (t ++ q) refl r)
form-at t q suffixed i r b f = absurd (open-not suffixed q (t ++ q) refl r)
form-at t q (fixed v) i r b f = ap is_fixed i.0 ∙ front-at t q (is_fixed t) b f refl

pub front-form : (t q : List ℕ) → run start (t ++ q) ≡ fixed (t ++ q) → is_fixed (t ++ q) ≡ false → has_form t ≡ false
front-form t q r f =
    let whole : Is (fixed (t ++ q)) (t ++ q) = subst (λ s. Is s (t ++ q)) r (is-run start [] (t ++ q) refl) in
    form-at t q (run start t) (is-run start [] t refl) (sym (run-append start t q) ∙ r) whole.1 f

pub no-form : (c : Char) (w z u v : List Char) → run start (bytes (c ∷ w)) ≡ fixed (bytes (c ∷ w)) → is_fixed (bytes (c ∷ w)) ≡ false →
    Kills (run start (bytes (c ∷ w))) z → w ++ z ≡ u ++ v → has_form (bytes (c ∷ u)) ≡ false
no-form c w z u v r f k e = elim (compared w z u v e) [
  | within q h ↦
      let cut : bytes (c ∷ w) ≡ bytes (c ∷ u) ++ bytes q = ap (λ w. bytes (c ∷ w)) h ∙ map-append (λ c. c.byte) (c ∷ u) q in
      front-form (bytes (c ∷ u)) (bytes q) (subst (λ t. run start t ≡ fixed t) cut r) (subst (λ t. is_fixed t ≡ false) cut f)
  | past x n h y ↦ subst (λ u. has_form (bytes (c ∷ u)) ≡ false) (sym h) (longer (c ∷ w) z x v k n y)
]

same-length : (w t : List ℕ) → bytes_eq t w ≡ true → length t ≡ length w
same-length [] [] h = refl
same-length [] (b ∷ t) h = absurd (true≢false (sym h))
same-length (w ∷ ws) [] h = absurd (true≢false (sym h))
same-length (w ∷ ws) (b ∷ t) h = ap suc (same-length ws t (and_parts (nat_eq b w) (bytes_eq t ws) h).1)

pub fixed-short : (t : List ℕ) → is_fixed t ≡ true → nat_le (length t) 63 ≡ true
fixed-short t f =
    let w = any-all (bytes_eq t) (λ w. nat_le (length w) 63) fixed_words f refl in
    ap (λ n. nat_le n 63) (same-length w.0 t w.1) ∙ w.2

pub fixed-no_blank : (w : List ℕ) (b : ℕ) → run start (b ∷ w) ≡ fixed (b ∷ w) → b ≢ 32
fixed-no_blank w b r e = open-not dead w (b ∷ w) refl (ap (λ b. run (next start b) w) (sym e) ∙ r)

abbrev no_blank : List ℕ → Bool
no_blank [] = true
no_blank (b ∷ bs) = not (nat_eq 32 b) && no_blank bs

not-both : (x : Bool) → x ≡ true → not x ≡ true → ⊥
not-both true h k = true≢false (sym k)
not-both false h k = true≢false (sym h)

blank-begins : (w t : List ℕ) → begins_with w (t ++ 32 ∷ []) ≡ true → no_blank w ≡ true → ⊥
blank-begins [] [] h k = true≢false (sym h)
blank-begins [] (b ∷ t) h k = true≢false (sym h)
blank-begins (w ∷ ws) [] h k = not-both (nat_eq 32 w) (and_parts (nat_eq 32 w) (begins_with ws []) h).0 (and_parts (not (nat_eq 32 w)) (no_blank ws) k).0
blank-begins (w ∷ ws) (b ∷ t) h k = blank-begins ws t (and_parts (nat_eq b w) (begins_with ws (t ++ 32 ∷ [])) h).1 (and_parts (not (nat_eq 32 w)) (no_blank ws) k).1

blank-at : (t : List ℕ) (x : Bool) → is_begun (t ++ 32 ∷ []) ≡ x → is_begun (t ++ 32 ∷ []) ≡ false
blank-at t true h = let w = any-all (λ w. begins_with w (t ++ 32 ∷ [])) no_blank fixed_words h refl in absurd (blank-begins w.0 t w.1 w.2)
blank-at t false h = h

pub fixed-blank : (t : List ℕ) → is_begun (t ++ 32 ∷ []) ≡ false
fixed-blank t = blank-at t (is_begun (t ++ 32 ∷ [])) refl

-- a byte that no fixed word has goes on with no front of one
abbrev no_byte : ℕ → List ℕ → Bool
no_byte x [] = true
no_byte x (b ∷ bs) = not (nat_eq x b) && no_byte x bs

foreign-begins : (x : ℕ) (w t : List ℕ) → begins_with w (t ++ x ∷ []) ≡ true → no_byte x w ≡ true → ⊥
foreign-begins x [] [] h k = true≢false (sym h)
foreign-begins x [] (b ∷ t) h k = true≢false (sym h)
foreign-begins x (w ∷ ws) [] h k = not-both (nat_eq x w) (and_parts (nat_eq x w) (begins_with ws []) h).0 (and_parts (not (nat_eq x w)) (no_byte x ws) k).0
foreign-begins x (w ∷ ws) (b ∷ t) h k = foreign-begins x ws t (and_parts (nat_eq b w) (begins_with ws (t ++ x ∷ [])) h).1 (and_parts (not (nat_eq x w)) (no_byte x ws) k).1

amp-at : (t : List ℕ) (x : Bool) → is_begun (t ++ 38 ∷ []) ≡ x → is_begun (t ++ 38 ∷ []) ≡ false
amp-at t true h = let w = any-all (λ w. begins_with w (t ++ 38 ∷ [])) (no_byte 38) fixed_words h refl in absurd (foreign-begins 38 w.0 t w.1 w.2)
amp-at t false h = h

pub fixed-amp : (t : List ℕ) → is_begun (t ++ 38 ∷ []) ≡ false
fixed-amp t = amp-at t (is_begun (t ++ 38 ∷ [])) refl
