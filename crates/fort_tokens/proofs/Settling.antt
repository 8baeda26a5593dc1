-- A character that the text does not go on with: the text becomes a token or is bad.
use Rattle.std.proofs.Common.{◌≡◌, ◌≢◌, ℕ, ◌-◌, ◌+◌, ◌*◌, Bool, true, false, cond, ◌&&◌, ◌||◌, not, List, [], ◌∷◌, ◌++◌, Option, None, Some, length, take, refl, sym, ap, ◌∙◌, subst, arith, append_assoc, length-append}
use Rattle.std.specs.Prelude.{nat_le, ◌==◌}
use Rattle.std.specs.Char.{is_ascii_lowercase, is_ascii_digit}
use Rattle.std.proofs.lemmas.Bool.{true≢false}
use Rattle.std.proofs.lemmas.List.{map-append, append-nil}
use Rattle.std.proofs.Math.Seq.{take-append_seam}
use Rattle.fort_tree.specs.declared.place.Place.{Place}
use Rattle.fort_tokens.specs.declared.character.Char.{Char}
use Rattle.fort_tokens.specs.Reads.{Word}
use Rattle.fort_tokens.specs.Reading.{Reading}
use Rattle.fort_tokens.specs.declared.shape.Shape.{Shape}
use Rattle.fort_tokens.specs.declared.shape.Shape.TheVariants as shape
use Rattle.fort_tokens.specs.Texts.{is_name_byte, is_kind, is_begun, is_fixed, is_small, value_from, front}
use Rattle.fort_tokens.specs.Automaton.{State, start, name, digits, under, suffixed, fixed, dead, next, run, accepts, has_form, numeric}
use Rattle.fort_tokens.specs.Reads.{bytes, Cut, token, broken, Longest, is_sound, goes_wrong}
use Rattle.fort_tokens.specs.Machine.{emitted, spoiled, split, settled_at}
use Rattle.fort_tokens.proofs.Runs.{Kills, run-append, run-dead}
use Rattle.fort_tokens.proofs.Ended.{longest-by, is_longest, begins-none, sound-as}
use Rattle.fort_tokens.proofs.Pending.{Stands, empty, in_name, in_digits, in_suffixed, in_under, in_point, in_fixed, Fed, Again, going, stopped, Any, Heads}
use Rattle.fort_tokens.proofs.Growing.{Ends, ends_name, ends_digits, ends_suffixed, ends_under, ends_fixed}
use Rattle.fort_tokens.proofs.Fronts.{head-of, tail-of, no-form, fixed-short, fixed-no_blank}

abbrev pub Back : List Char → List Char → List Word → Type 0
Back cs pend ts = (z : List Char) (us : List Word) (o : Option Place) → Any z → Cut (pend ++ z) us o → Cut (cs ++ z) (ts ++ us) o

abbrev pub reader : List Word → Shape → Place → Place → List Char → Reading
reader ts sh at last pend = record { words = ts; shape = sh; text = bytes pend; at = at; last = last; bad = None }

pub kills : (s : State) (b : ℕ) (z : List Char) → next s b ≡ dead → Heads b z → Kills s z
kills s b [] k h = tt
kills s b (c ∷ z) k h = ap (next s) h ∙ k

-- the text becomes a token
emit : (cs : List Char) (ts : List Word) (sh : Shape) (last : Place) (b : ℕ) (c : Char) (w : List Char) → Back cs (c ∷ w) ts → has_form (bytes (c ∷ w)) ≡ true →
    next (run start (bytes (c ∷ w))) b ≡ dead → ((z : List Char) → Heads b z → is_sound (c ∷ w) z ≡ true) →
    Fed Again (Heads b) cs (emitted (reader ts sh c.at last (c ∷ w)))
emit cs ts sh last b c w back form dies sound =
    going (ts ++ record { text = bytes (c ∷ w); at = c.at } ∷ []) shape.Empty c.at last [] tt empty
    (λ z us o h r. subst (λ ts. Cut (cs ++ z) ts o) (sym (append_assoc ts (record { text = bytes (c ∷ w); at = c.at } ∷ []) us))
    (back z (record { text = bytes (c ∷ w); at = c.at } ∷ us) o tt (token c w (is_longest (c ∷ w) z form (kills (run start (bytes (c ∷ w))) b z dies h)) (sound z h) r)))

-- the text breaks a rule
break : (cs : List Char) (ts : List Word) (sh : Shape) (last : Place) (b : ℕ) (c : Char) (w : List Char) → Back cs (c ∷ w) ts → has_form (bytes (c ∷ w)) ≡ true →
    next (run start (bytes (c ∷ w))) b ≡ dead → ((z : List Char) → Heads b z → is_sound (c ∷ w) z ≡ false) →
    Fed Again (Heads b) cs (spoiled (reader ts sh c.at last (c ∷ w)) c.at)
break cs ts sh last b c w back form dies sound =
    stopped ts sh (bytes (c ∷ w)) c.at last c.at
    (λ z h. subst (λ ts. Cut (cs ++ z) ts (Some c.at)) (append-nil ts)
    (back z [] (Some c.at) tt (broken c w (is_longest (c ∷ w) z form (kills (run start (bytes (c ∷ w))) b z dies h)) (sound z h))))

judge : (cs : List Char) (ts : List Word) (sh : Shape) (last : Place) (b : ℕ) (c : Char) (w : List Char) (x : Bool) → Back cs (c ∷ w) ts → has_form (bytes (c ∷ w)) ≡ true →
    next (run start (bytes (c ∷ w))) b ≡ dead → ((z : List Char) → Heads b z → is_sound (c ∷ w) z ≡ x) →
    Fed Again (Heads b) cs (cond x (emitted (reader ts sh c.at last (c ∷ w))) (spoiled (reader ts sh c.at last (c ∷ w)) c.at))
judge cs ts sh last b c w true back form dies sound = emit cs ts sh last b c w back form dies sound
judge cs ts sh last b c w false back form dies sound = break cs ts sh last b c w back form dies sound

or-false : (x : Bool) → (x || false) ≡ x
or-false true = refl
or-false false = refl

wrong : (b : ℕ) (z : List Char) → (b == 46) ≡ false → Heads b z → goes_wrong z ≡ is_ascii_lowercase b
wrong b [] n h = ap is_ascii_lowercase (sym h)
wrong b (c ∷ []) n h = ap is_ascii_lowercase h
wrong b (c ∷ d ∷ z) n h = ap (λ x. is_ascii_lowercase x || (x == 46 && is_ascii_digit d.byte)) h ∙ ap (λ x. is_ascii_lowercase b || (x && is_ascii_digit d.byte)) n ∙ or-false (is_ascii_lowercase b)

number : (cs : List Char) (ts : List Word) (sh : Shape) (last : Place) (b : ℕ) (c : Char) (w : List Char) (s : State) → Back cs (c ∷ w) ts → run start (bytes (c ∷ w)) ≡ s → accepts s ≡ true → numeric s ≡ true →
    next s b ≡ dead → (b == 46) ≡ false →
    Fed Again (Heads b) cs (cond (is_small (bytes (c ∷ w)) && not (is_ascii_lowercase b)) (emitted (reader ts sh c.at last (c ∷ w))) (spoiled (reader ts sh c.at last (c ∷ w)) c.at))
number cs ts sh last b c w s back r a n d e =
    judge cs ts sh last b c w (is_small (bytes (c ∷ w)) && not (is_ascii_lowercase b)) back (ap accepts r ∙ a) (ap (λ s. next s b) r ∙ d)
    (λ z h. sound-as c w z s r ∙ ap (λ x. cond x (is_small (bytes (c ∷ w)) && not (goes_wrong z)) (nat_le (length (bytes (c ∷ w))) 63)) n
    ∙ ap (λ x. is_small (bytes (c ∷ w)) && not x) (wrong b z e h))

settle-fixed : (cs : List Char) (ts : List Word) (last : Place) (b : ℕ) (c : Char) (w : List Char) (x : Bool) → Back cs (c ∷ w) ts → run start (bytes (c ∷ w)) ≡ fixed (bytes (c ∷ w)) →
    is_begun (bytes (c ∷ w) ++ b ∷ []) ≡ false → is_fixed (bytes (c ∷ w)) ≡ x →
    Fed Again (Heads b) cs (cond x (emitted (reader ts shape.Fixed c.at last (c ∷ w))) (spoiled (reader ts shape.Fixed c.at last (c ∷ w)) c.at))
settle-fixed cs ts last b c w true back r k e =
    emit cs ts shape.Fixed last b c w back (ap accepts r ∙ e) (ap (λ s. next s b) r ∙ ap (λ x. cond x (fixed (bytes (c ∷ w) ++ b ∷ [])) dead) k)
    (λ z h. sound-as c w z (fixed (bytes (c ∷ w))) r ∙ fixed-short (bytes (c ∷ w)) e)
settle-fixed cs ts last b c w false back r k e =
    stopped ts shape.Fixed (bytes (c ∷ w)) c.at last c.at
    (λ z h. subst (λ ts. Cut (cs ++ z) ts (Some c.at)) (append-nil ts)
    (back z [] (Some c.at) tt (begins-none c (fixed-no_blank (bytes w) c.byte r)
    (λ u v q. no-form c w z u v r e (kills (run start (bytes (c ∷ w))) b z (ap (λ s. next s b) r ∙ ap (λ x. cond x (fixed (bytes (c ∷ w) ++ b ∷ [])) dead) k) h) q))))

-- a byte that is no digit ends the number
pub value-stop : (x : ℕ) (t : List ℕ) (v : ℕ) → is_ascii_digit x ≡ false → value_from v (t ++ x ∷ []) ≡ value_from v t
value-stop x [] v h = rw h refl
value-stop x (b ∷ t) v h = ap (λ y. cond (is_ascii_digit b) y v) (value-stop x t (10 * v + (b - 48)) h)

same-value : (c : Char) (w : List Char) (u : Char) → is_ascii_digit u.byte ≡ false → is_small (bytes (c ∷ (w ++ u ∷ []))) ≡ is_small (bytes (c ∷ w))
same-value c w u h = ap is_small (map-append (λ c. c.byte) (c ∷ w) (u ∷ [])) ∙ ap (λ v. nat_le v 9223372036854775807) (value-stop u.byte (bytes (c ∷ w)) 0 h)

pub front-is : (t : List ℕ) (x : ℕ) → front (t ++ x ∷ []) ≡ t
front-is t x = let n : length (t ++ x ∷ []) - 1 ≡ length t = grind (arith, length-append) in
    ap (λ n. take n (t ++ x ∷ [])) n ∙ take-append_seam t (x ∷ [])

front-text : (c : Char) (w : List Char) (u : Char) → bytes (c ∷ w) ≡ front (bytes (c ∷ (w ++ u ∷ [])))
front-text c w u = sym (ap front (map-append (λ c. c.byte) (c ∷ w) (u ∷ [])) ∙ front-is (bytes (c ∷ w)) u.byte)

pub numeric-form : (s : State) → numeric s ≡ true → accepts s ≡ true
numeric-form digits e = refl
numeric-form suffixed e = refl
numeric-form start e = absurd (true≢false (sym e))
numeric-form name e = absurd (true≢false (sym e))
numeric-form under e = absurd (true≢false (sym e))
numeric-form (fixed t) e = absurd (true≢false (sym e))
numeric-form dead e = absurd (true≢false (sym e))

-- the number before the last character, and what is read from that on
number-before : (cs : List Char) (ts us : List Word) (o : Option Place) (c : Char) (w : List Char) (u : Char) (z : List Char) → Back cs (c ∷ (w ++ u ∷ [])) ts →
    numeric (run start (bytes (c ∷ w))) ≡ true → Longest (c ∷ w) (u ∷ z) → is_small (bytes (c ∷ w)) ≡ true → goes_wrong (u ∷ z) ≡ false →
    Cut (u ∷ z) us o → Cut (cs ++ z) (ts ++ record { text = front (bytes (c ∷ (w ++ u ∷ []))); at = c.at } ∷ us) o
number-before cs ts us o c w u z back n long small right r =
    let sound : is_sound (c ∷ w) (u ∷ z) ≡ true = sound-as c w (u ∷ z) (run start (bytes (c ∷ w))) refl ∙ rw (n, small, right) refl in
    let reads : Cut (c ∷ (w ++ (u ∷ z))) (record { text = bytes (c ∷ w); at = c.at } ∷ us) o = token c w long sound r in
    let moved : Cut (c ∷ (w ++ u ∷ [] ++ z)) (record { text = bytes (c ∷ w); at = c.at } ∷ us) o = subst (λ y. Cut (c ∷ y) (record { text = bytes (c ∷ w); at = c.at } ∷ us) o) (sym (append_assoc w (u ∷ []) z)) reads in
    back z (record { text = front (bytes (c ∷ (w ++ u ∷ []))); at = c.at } ∷ us) o tt
    (subst (λ t. Cut (c ∷ (w ++ u ∷ [] ++ z)) (record { text = t; at = c.at } ∷ us) o) (front-text c w u) moved)

broken-before : (cs : List Char) (ts : List Word) (c : Char) (w : List Char) (u : Char) (z : List Char) → Back cs (c ∷ (w ++ u ∷ [])) ts →
    Longest (c ∷ w) (u ∷ z) → is_sound (c ∷ w) (u ∷ z) ≡ false → Cut (cs ++ z) ts (Some c.at)
broken-before cs ts c w u z back long wrong =
    let reads : Cut (c ∷ (w ++ (u ∷ z))) [] (Some c.at) = broken c w long wrong in
    let moved : Cut (c ∷ (w ++ u ∷ [] ++ z)) [] (Some c.at) = subst (λ y. Cut (c ∷ y) [] (Some c.at)) (sym (append_assoc w (u ∷ []) z)) reads in
    subst (λ ts. Cut (cs ++ z) ts (Some c.at)) (append-nil ts) (back z [] (Some c.at) tt moved)

under-rest : (b : ℕ) (x : List Char) → Kills under x → accepts (run under (bytes x)) ≡ false
under-rest b [] k = refl
under-rest b (d ∷ x) k = ap (λ s. accepts (run s (bytes x))) k ∙ ap accepts (run-dead (bytes x))

under-head : (b : ℕ) (z x v : List Char) → is_kind b ≡ false → Heads b z → z ≡ x ++ v → Kills under x
under-head b z [] v k h e = tt
under-head b z (d ∷ x) v k h e =
    let at : d.byte ≡ b = subst (λ z. Heads b z) e h in ap (λ b. next under b) at ∙ ap (λ y. cond y suffixed dead) k

-- digits, an underscore, and no kind
under-longer : (b : ℕ) (c : Char) (w : List Char) (u : Char) (z x v : List Char) → run start (bytes (c ∷ w)) ≡ digits → u.byte ≡ 95 → is_kind b ≡ false → Heads b z → x ≢ [] → u ∷ z ≡ x ++ v →
    has_form (bytes (c ∷ w ++ x)) ≡ false
under-longer b c w u z [] v r e k h n q = absurd (n refl)
under-longer b c w u z (a ∷ x) v r e k h n q =
    let same : u ≡ a = ap (head-of u) q in
    let rest : z ≡ x ++ v = ap tail-of q in
    let at : run start (bytes (c ∷ w ++ a ∷ x)) ≡ run under (bytes x) =
    ap (run start) (map-append (λ c. c.byte) (c ∷ w) (a ∷ x)) ∙ run-append start (bytes (c ∷ w)) (a.byte ∷ bytes x) ∙ ap (λ s. run (next s a.byte) (bytes x)) r
    ∙ ap (λ b. run (next digits b) (bytes x)) (ap (λ a. a.byte) (sym same) ∙ e) in
    ap accepts at ∙ under-rest b x (under-head b z x v k h rest)

under-longest : (b : ℕ) (c : Char) (w : List Char) (u : Char) (z : List Char) → run start (bytes (c ∷ w)) ≡ digits → u.byte ≡ 95 → is_kind b ≡ false → Heads b z → Longest (c ∷ w) (u ∷ z)
under-longest b c w u z r e k h = longest-by (c ∷ w) (u ∷ z) (ap accepts r) (λ x v n q. under-longer b c w u z x v r e k h n q)

under-none : (u : Char) (z : List Char) → u.byte ≡ 95 → Cut (u ∷ z) [] (Some u.at)
under-none u z e = begins-none u (λ q. absurd (omega (arith, e, q))) (λ x v q. ap (λ b. has_form (b ∷ bytes x)) e ∙ ap accepts (run-dead (bytes x)))

settle-under : (cs : List Char) (ts : List Word) (b : ℕ) (c : Char) (w : List Char) (u : Char) (x : Bool) → Back cs (c ∷ (w ++ u ∷ [])) ts → run start (bytes (c ∷ w)) ≡ digits → u.byte ≡ 95 →
    is_kind b ≡ false → is_small (bytes (c ∷ w)) ≡ x →
    Fed Again (Heads b) cs (cond x (spoiled (split (reader ts shape.Under c.at u.at (c ∷ (w ++ u ∷ [])))) u.at) (spoiled (reader ts shape.Under c.at u.at (c ∷ (w ++ u ∷ []))) c.at))
settle-under cs ts b c w u true back r e k small =
    stopped (ts ++ record { text = front (bytes (c ∷ (w ++ u ∷ []))); at = c.at } ∷ []) shape.Fixed (46 ∷ []) u.at u.at u.at
    (λ z h. number-before cs ts [] (Some u.at) c w u z back (ap numeric r) (under-longest b c w u z r e k h) small (wrong 95 (u ∷ z) refl e) (under-none u z e))
settle-under cs ts b c w u false back r e k small =
    stopped ts shape.Under (bytes (c ∷ (w ++ u ∷ []))) c.at u.at c.at
    (λ z h. broken-before cs ts c w u z back (under-longest b c w u z r e k h) (sound-as c w (u ∷ z) digits r ∙ ap (λ x. x && not (goes_wrong (u ∷ z))) small))

point-dead : (s : State) (b : ℕ) → numeric s ≡ true → b ≡ 46 → next s b ≡ dead
point-dead digits b n e = rw e refl
point-dead suffixed b n e = refl
point-dead start b n e = absurd (true≢false (sym n))
point-dead name b n e = absurd (true≢false (sym n))
point-dead under b n e = absurd (true≢false (sym n))
point-dead (fixed t) b n e = absurd (true≢false (sym n))
point-dead dead b n e = absurd (true≢false (sym n))

point-longest : (c : Char) (w : List Char) (u : Char) (z : List Char) → numeric (run start (bytes (c ∷ w))) ≡ true → u.byte ≡ 46 → Longest (c ∷ w) (u ∷ z)
point-longest c w u z n e = is_longest (c ∷ w) (u ∷ z) (numeric-form (run start (bytes (c ∷ w))) n) (point-dead (run start (bytes (c ∷ w))) u.byte n e)

point-wrong : (b : ℕ) (u : Char) (z : List Char) → u.byte ≡ 46 → Heads b z → goes_wrong (u ∷ z) ≡ is_ascii_digit b
point-wrong b u [] e h = ap is_ascii_lowercase e ∙ ap is_ascii_digit (sym h)
point-wrong b u (d ∷ z) e h = ap (λ x. is_ascii_lowercase x || (x == 46 && is_ascii_digit d.byte)) e ∙ ap is_ascii_digit h

not-true : (x y : Bool) → (x && not y) ≡ true → (x ≡ true) × (y ≡ false)
not-true true false e = (refl, refl)
not-true true true e = absurd (true≢false (sym e))
not-true false y e = absurd (true≢false (sym e))

settle-point : (cs : List Char) (ts : List Word) (b : ℕ) (c : Char) (w : List Char) (u : Char) (x : Bool) → Back cs (c ∷ (w ++ u ∷ [])) ts → numeric (run start (bytes (c ∷ w))) ≡ true → u.byte ≡ 46 →
    (is_small (bytes (c ∷ w)) && not (is_ascii_digit b)) ≡ x →
    Fed Again (Heads b) cs (cond x (split (reader ts shape.Point c.at u.at (c ∷ (w ++ u ∷ [])))) (spoiled (reader ts shape.Point c.at u.at (c ∷ (w ++ u ∷ []))) c.at))
settle-point cs ts b c w u true back n e small =
    let tok : Word = record { text = front (bytes (c ∷ (w ++ u ∷ []))); at = c.at } in
    subst (λ a. Fed Again (Heads b) cs (record { words = ts ++ tok ∷ []; shape = shape.Fixed; text = a ∷ []; at = u.at; last = u.at; bad = None })) e
    (going (ts ++ tok ∷ []) shape.Fixed u.at u.at (u ∷ []) (ap (λ a. is_fixed (a ∷ [])) e) (in_fixed u [] (ap (λ a. next start a) e ∙ ap (λ a. fixed (a ∷ [])) (sym e)))
    (λ z us o h r. subst (λ ts. Cut (cs ++ z) ts o) (sym (append_assoc ts (tok ∷ []) us))
    (number-before cs ts us o c w u z back n (point-longest c w u z n e) (not-true _ _ small).0 (point-wrong b u z e h ∙ (not-true _ _ small).1) r)))
settle-point cs ts b c w u false back n e small =
    stopped ts shape.Point (bytes (c ∷ (w ++ u ∷ []))) c.at u.at c.at
    (λ z h. broken-before cs ts c w u z back (point-longest c w u z n e) (sound-as c w (u ∷ z) (run start (bytes (c ∷ w))) refl ∙ rw n (ap (λ x. is_small (bytes (c ∷ w)) && not x) (point-wrong b u z e h) ∙ small)))

name-form : (cs : List Char) (ts : List Word) (last : Place) (b : ℕ) (c : Char) (w : List Char) → Back cs (c ∷ w) ts → run start (bytes (c ∷ w)) ≡ name → is_name_byte b ≡ false →
    Fed Again (Heads b) cs (settled_at shape.Name (reader ts shape.Name c.at last (c ∷ w)) b)
name-form cs ts last b c w back r k = judge cs ts shape.Name last b c w (nat_le (length (bytes (c ∷ w))) 63) back (ap accepts r) (ap (λ s. next s b) r ∙ ap (λ x. cond x name dead) k) (λ z h. sound-as c w z name r)

-- what stands is settled by a byte with which it does not go on
pub settles : (cs : List Char) (ts : List Word) (sh : Shape) (at last : Place) (pend : List Char) (b : ℕ) → Stands sh at last pend → Ends b sh pend → Back cs pend ts →
    Fed Again (Heads b) cs (settled_at sh (reader ts sh at last pend) b)
settles cs ts sh at last pend b empty e back = going ts shape.Empty at last [] tt empty (λ z us o h r. back z us o tt r)
settles cs ts sh at last pend b (in_name c w r) (ends_name k) back = name-form cs ts last b c w back r k
settles cs ts sh at last pend b (in_digits c w r) (ends_digits k n) back = number cs ts shape.Digits last b c w digits back r refl refl k n
settles cs ts sh at last pend b (in_suffixed c w r) (ends_suffixed n) back = number cs ts shape.Suffixed last b c w suffixed back r refl refl refl n
settles cs ts sh at last pend b (in_under c w u r e) (ends_under k) back =
    subst (λ x. Fed Again (Heads b) cs (cond x (spoiled (split (reader ts shape.Under c.at u.at (c ∷ (w ++ u ∷ [])))) u.at) (spoiled (reader ts shape.Under c.at u.at (c ∷ (w ++ u ∷ []))) c.at)))
    (sym (same-value c w u (ap is_ascii_digit e))) (settle-under cs ts b c w u (is_small (bytes (c ∷ w))) back r e k refl)
settles cs ts sh at last pend b (in_point c w u n e) k back =
    subst (λ x. Fed Again (Heads b) cs (cond (x && not (is_ascii_digit b)) (split (reader ts shape.Point c.at u.at (c ∷ (w ++ u ∷ [])))) (spoiled (reader ts shape.Point c.at u.at (c ∷ (w ++ u ∷ []))) c.at)))
    (sym (same-value c w u (ap is_ascii_digit e))) (settle-point cs ts b c w u (is_small (bytes (c ∷ w)) && not (is_ascii_digit b)) back n e refl)
settles cs ts sh at last pend b (in_fixed c w r) (ends_fixed k) back = settle-fixed cs ts last b c w (is_fixed (bytes (c ∷ w))) back r k refl
