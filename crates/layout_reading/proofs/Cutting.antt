-- A token is the longest at its place where what stands behind it doesn't go on with it.
use Rattle.std.proofs.Common.{◌≡◌, ◌≢◌, ℕ, zero, suc, ◌<◌, ◌≤◌, ◌^◌, Bool, true, false, ◌&&◌, not, nat_le, nat_eq, ◌==◌, List, [], ◌∷◌, ◌++◌, map, length, replicate, decimal, Option, None, Some, refl, sym, ap, ◌∙◌, subst, arith, append_assoc, inl, inr}
use Rattle.std.proofs.lemmas.Bool.{true≢false, and_parts, and_from, or_right, or_left, or_cases}
use Rattle.std.proofs.lemmas.Bool.Decides.{nat_tests}
use Rattle.std.proofs.lemmas.List.{map-append}
use Rattle.std.specs.Char.{is_ascii_digit, is_ascii_lowercase}
use Rattle.std.specs.List.{list_all, list_any}
use Rattle.std.specs.Str.{all_ascii_digits, bytes_eq}
use Rattle.fort_arith.specs.declared.kind.Kind.{Kind}
use Rattle.fort_arith.specs.declared.kind.Kind.TheVariants as kind
use Rattle.fort_spell.specs.declared.mark.Mark.{Mark}
use Rattle.fort_spell.specs.declared.mark.Mark.TheVariants as mark
use Rattle.fort_tree.specs.declared.place.Place.{Place}
use Rattle.fort_tokens.specs.declared.character.Char.{Char}
use Rattle.fort_tokens.specs.Texts.{is_name_byte, is_small, is_begun, is_fixed, begins_with, fixed_words}
use Rattle.fort_tokens.specs.Forms.{is_form, is_number_tail, is_number_form}
use Rattle.fort_tokens.specs.Reads.{Word as ReadWord, bytes, Longest, goes_wrong, is_sound, word_at, Cut, end, blank, token}
use Rattle.fort_spell.specs.Text.{mark_text, suffix_text}
use Rattle.fort_spell.specs.Pieces.{Token, Word, Number, Sign, text_of}
use Rattle.layout_reading.specs.Readable.{IsToken, goes_on, first_byte}
use Rattle.layout_reading.proofs.Texts.{name_named, numeral, number_small, token_some, token_short, cons-head, cons-tail}

-- FORMS

name_form : (b : ℕ) (bs : List ℕ) → is_ascii_lowercase b ≡ true → is_form (b ∷ bs) ≡ list_all is_name_byte bs
name_form b bs h = rw h refl

digit_form : (b : ℕ) (bs : List ℕ) → is_ascii_digit b ≡ true → is_form (b ∷ bs) ≡ is_number_tail bs
digit_form b bs h = let k : is_ascii_lowercase b ≡ false = grind (arith, nat_tests, h) in rw (k, h) refl

mark_form : (m : Mark) (r : List ℕ) → is_form (mark_text m ++ r) ≡ is_fixed (mark_text m ++ r)
mark_form mark.Open r = refl
mark_form _ r = refl

mark_fixed : (m : Mark) → is_form (mark_text m) ≡ true
mark_fixed mark.Open = refl
mark_fixed _ = refl

mark_no_number : (m : Mark) → is_number_form (mark_text m) ≡ false
mark_no_number mark.Open = refl
mark_no_number _ = refl

suffix_tail : (k : Option Kind) → is_number_tail (suffix_text k) ≡ true
suffix_tail None = refl
suffix_tail (Some kind.I1) = refl
suffix_tail (Some _) = refl

number_tail : (ds : List ℕ) (k : Option Kind) → all_ascii_digits ds ≡ true → is_number_tail (ds ++ suffix_text k) ≡ true
number_tail [] k h = suffix_tail k
number_tail (d ∷ ds) k h = let p = and_parts (is_ascii_digit d) (all_ascii_digits ds) h in rw p.0 (number_tail ds k p.1)

number_form : (n : ℕ) (k : Option Kind) → n < 2 ^ 63 → is_form (decimal n ++ suffix_text k) ≡ true
number_form n k h =
    let m = numeral n h in
    ap (λ x. is_form (x ++ suffix_text k)) m.is ∙ digit_form m.first (m.others ++ suffix_text k) m.digit ∙ number_tail m.others k m.all

pub token_form : (t : Token) → IsToken t → is_form (text_of t) ≡ true
token_form (Word name) h = let n = name_named name h in ap is_form n.is ∙ name_form n.first n.others n.letter ∙ n.all
token_form (Number n k) h = number_form n k h
token_form (Sign m) h = mark_fixed m

-- NO LONGER FORM

all_stops : (bs : List ℕ) (c : ℕ) (u : List ℕ) → is_name_byte c ≡ false → list_all is_name_byte (bs ++ c ∷ u) ≡ false
all_stops [] c u h = rw h refl
all_stops (b ∷ bs) c u h = rw (all_stops bs c u h) (and-false (is_name_byte b))
  where
    and-false : (x : Bool) → (x && false) ≡ false
    and-false true = refl
    and-false false = refl

no_name_no_digit : (c : ℕ) → is_name_byte c ≡ false → is_ascii_digit c ≡ false
no_name_no_digit c h = grind (arith, nat_tests)

no_name_no_under : (c : ℕ) → is_name_byte c ≡ false → (c == 95) ≡ false
no_name_no_under c h = grind (arith, nat_tests)

bare_stops : (c : ℕ) (u : List ℕ) → is_name_byte c ≡ false → is_number_tail (c ∷ u) ≡ false
bare_stops c u h = rw (no_name_no_digit c h, no_name_no_under c h) refl

suffix_stops : (k : Option Kind) (c : ℕ) (u : List ℕ) → is_name_byte c ≡ false → is_number_tail (suffix_text k ++ c ∷ u) ≡ false
suffix_stops None c u h = bare_stops c u h
suffix_stops (Some kind.I1) c u h = refl
suffix_stops (Some kind.I2) c u h = refl
suffix_stops (Some kind.I4) c u h = refl
suffix_stops (Some kind.I8) c u h = refl
suffix_stops (Some kind.Logical) c u h = bare_stops c u h

number_stops : (ds : List ℕ) (k : Option Kind) (c : ℕ) (u : List ℕ) → all_ascii_digits ds ≡ true → is_name_byte c ≡ false → is_number_tail (ds ++ suffix_text k ++ c ∷ u) ≡ false
number_stops [] k c u h g = suffix_stops k c u g
number_stops (d ∷ ds) k c u h g = let p = and_parts (is_ascii_digit d) (all_ascii_digits ds) h in rw p.0 (number_stops ds k c u p.1 g)

same_begins : (w t q : List ℕ) → bytes_eq (t ++ q) w ≡ true → begins_with w t ≡ true
same_begins w [] q h = refl
same_begins [] (b ∷ t) q h = absurd (true≢false (sym h))
same_begins (w ∷ ws) (b ∷ t) q h =
    let p = and_parts (nat_eq b w) (bytes_eq (t ++ q) ws) h in
    and_from (nat_eq b w) (begins_with ws t) p.0 (same_begins ws t q p.1)

any_begins : (ws : List (List ℕ)) (t q : List ℕ) → list_any (bytes_eq (t ++ q)) ws ≡ true → list_any (λ w. begins_with w t) ws ≡ true
any_begins [] t q h = h
any_begins (w ∷ ws) t q h = elim (or_cases (bytes_eq (t ++ q) w) (list_any (bytes_eq (t ++ q)) ws) h) [
  | inl k ↦ or_left (begins_with w t) (list_any (λ w. begins_with w t) ws) (same_begins w t q k)
  | inr k ↦ or_right (begins_with w t) (list_any (λ w. begins_with w t) ws) (any_begins ws t q k)
]

unbegun_at : (t q : List ℕ) (x : Bool) → is_begun t ≡ false → is_fixed (t ++ q) ≡ x → x ≡ false
unbegun_at t q true h k = absurd (true≢false (sym (any_begins fixed_words t q k) ∙ h))
unbegun_at t q false h k = refl

unbegun : (t q : List ℕ) → is_begun t ≡ false → is_fixed (t ++ q) ≡ false
unbegun t q h = unbegun_at t q (is_fixed (t ++ q)) h refl

pub token_stops : (t : Token) (c : ℕ) (u : List ℕ) → IsToken t → goes_on t c ≡ false → is_form (text_of t ++ c ∷ u) ≡ false
token_stops (Word name) c u h g =
    let n = name_named name h in
    ap (λ x. is_form (x ++ c ∷ u)) n.is ∙ name_form n.first (n.others ++ c ∷ u) n.letter ∙ all_stops n.others c u g
token_stops (Number n k) c u h g =
    let m = numeral n h in
    ap (λ x. is_form (x ++ suffix_text k ++ c ∷ u)) m.is ∙ digit_form m.first (m.others ++ suffix_text k ++ c ∷ u) m.digit ∙ number_stops m.others k c u m.all g
token_stops (Sign m) c u h g = mark_form m (c ∷ u) ∙ ap is_fixed (sym (append_assoc (mark_text m) (c ∷ []) u)) ∙ unbegun (mark_text m ++ c ∷ []) u g

-- WHAT STANDS BEHIND A TOKEN

abbrev pub blanks : ℕ → List ℕ
blanks n = replicate n 32

-- The bytes behind a token hold these tokens: each stands behind blanks, or right behind the one before, which doesn't go on with it.
pub data Follows : Token → List ℕ → List Token → Type 0 where
  nothing : {t : Token} → Follows t [] []
  apart : {t u : Token} {us : List Token} (j : ℕ) (r : List ℕ) → IsToken u → Follows u r us → Follows t (blanks (suc j) ++ (text_of u ++ r)) (u ∷ us)
  beside : {t u : Token} {us : List Token} (r : List ℕ) → IsToken u → goes_on t (first_byte (text_of u)) ≡ false → Follows u r us → Follows t (text_of u ++ r) (u ∷ us)

abbrev Off : Token → List ℕ → Type 0
Off t [] = Unit {0}
Off t (b ∷ bs) = goes_on t b ≡ false

abbrev first_digit : List ℕ → Bool
first_digit [] = false
first_digit (b ∷ bs) = is_ascii_digit b

-- no point and digit
abbrev no_point : List ℕ → Bool
no_point [] = true
no_point (b ∷ bs) = not (b == 46 && first_digit bs)

mark_blank : (m : Mark) → is_begun (mark_text m ++ 32 ∷ []) ≡ false
mark_blank mark.Open = refl
mark_blank _ = refl

blank_off : (t : Token) → goes_on t 32 ≡ false
blank_off (Word name) = refl
blank_off (Number n k) = refl
blank_off (Sign m) = mark_blank m

first_off : (t : Token) (w r : List ℕ) (b : ℕ) (bs : List ℕ) → w ≡ b ∷ bs → goes_on t (first_byte w) ≡ false → Off t (w ++ r)
first_off t w r b bs e h = subst (λ w. goes_on t (first_byte w) ≡ false → Off t (w ++ r)) (sym e) (λ h. h) h

follows_off : (t : Token) (r : List ℕ) (us : List Token) → Follows t r us → Off t r
follows_off t r us nothing = tt
follows_off t r us (apart j q h f) = blank_off t
follows_off t r us (beside {u = u} q h g f) = let s = token_some u h in first_off t (text_of u) q s.first s.others s.is g

mark_point : (m : Mark) (r : List ℕ) → no_point (mark_text m ++ r) ≡ true
mark_point mark.Open r = refl
mark_point _ r = refl

name_byte_point : (b : ℕ) (bs : List ℕ) → is_name_byte b ≡ true → no_point (b ∷ bs) ≡ true
name_byte_point b bs h = let k : (b == 46) ≡ false = grind (arith, nat_tests, h) in rw k refl

word_point : (w r : List ℕ) (b : ℕ) (bs : List ℕ) → w ≡ b ∷ bs → is_name_byte b ≡ true → no_point (w ++ r) ≡ true
word_point w r b bs e h = ap (λ w. no_point (w ++ r)) e ∙ name_byte_point b (bs ++ r) h

letter_byte : (b : ℕ) → is_ascii_lowercase b ≡ true → is_name_byte b ≡ true
letter_byte b h = grind (arith, nat_tests)

digit_byte : (b : ℕ) → is_ascii_digit b ≡ true → is_name_byte b ≡ true
digit_byte b h = grind (arith, nat_tests)

token_point : (t : Token) (r : List ℕ) → IsToken t → no_point (text_of t ++ r) ≡ true
token_point (Word name) r h = let n = name_named name h in word_point name r n.first n.others n.is (letter_byte n.first n.letter)
token_point (Number n k) r h =
    let m = numeral n h in
    ap no_point (append_assoc (decimal n) (suffix_text k) r) ∙ word_point (decimal n) (suffix_text k ++ r) m.first m.others m.is (digit_byte m.first m.digit)
token_point (Sign m) r h = mark_point m r

follows_point : (t : Token) (r : List ℕ) (us : List Token) → Follows t r us → no_point r ≡ true
follows_point t r us nothing = refl
follows_point t r us (apart j q h f) = refl
follows_point t r us (beside {u = u} q h g f) = token_point u q h

-- SOUND TOKENS

no_name_no_letter : (c : ℕ) → is_name_byte c ≡ false → is_ascii_lowercase c ≡ false
no_name_no_letter c h = grind (arith, nat_tests)

not-true : (a : Bool) → not a ≡ true → a ≡ false
not-true true h = sym h
not-true false h = refl

goes_right : (n : ℕ) (k : Option Kind) (cs : List Char) → Off (Number n k) (bytes cs) → no_point (bytes cs) ≡ true → goes_wrong cs ≡ false
goes_right n k [] h g = refl
goes_right n k (c ∷ []) h g = no_name_no_letter c.byte h
goes_right n k (c ∷ d ∷ cs) h g = rw (no_name_no_letter c.byte h) (not-true (c.byte == 46 && is_ascii_digit d.byte) g)

length_bytes : (cs : List Char) → length (bytes cs) ≡ length cs
length_bytes [] = refl
length_bytes (c ∷ cs) = ap suc (length_bytes cs)

letter_no_number : (b : ℕ) (bs : List ℕ) → is_ascii_lowercase b ≡ true → is_number_form (b ∷ bs) ≡ false
letter_no_number b bs h = let k : is_ascii_digit b ≡ false = grind (arith, nat_tests, h) in rw k refl

digit_number : (b : ℕ) (bs : List ℕ) → is_ascii_digit b ≡ true → is_number_form (b ∷ bs) ≡ is_number_tail bs
digit_number b bs h = rw h refl

le_test : (n m : ℕ) → n ≤ m → nat_le n m ≡ true
le_test n m h = grind (arith, nat_tests)

sound_short : (t : Token) (cs z : List Char) → IsToken t → bytes cs ≡ text_of t → is_number_form (text_of t) ≡ false → is_sound cs z ≡ true
sound_short t cs z h e g =
    let k : is_number_form (bytes cs) ≡ false = ap is_number_form e ∙ g in
    let l : length cs ≤ 63 = omega (arith, token_short t h, sym (length_bytes cs) ∙ ap length e) in rw k (le_test (length cs) 63 l)

sound_number : (n : ℕ) (k : Option Kind) (cs z : List Char) → n < 2 ^ 63 → bytes cs ≡ decimal n ++ suffix_text k → goes_wrong z ≡ false → is_sound cs z ≡ true
sound_number n k cs z h e g =
    let m = numeral n h in
    let a : is_number_form (bytes cs) ≡ true =
    ap is_number_form e ∙ ap (λ x. is_number_form (x ++ suffix_text k)) m.is ∙ digit_number m.first (m.others ++ suffix_text k) m.digit ∙ number_tail m.others k m.all in
    let b : is_small (bytes cs) ≡ true = ap is_small e ∙ number_small n k h in rw (a, b, g) refl

token_sound : (t : Token) (cs z : List Char) → IsToken t → bytes cs ≡ text_of t → Off t (bytes z) → no_point (bytes z) ≡ true → is_sound cs z ≡ true
token_sound (Word name) cs z h e o p = let n = name_named name h in sound_short (Word name) cs z h e (ap is_number_form n.is ∙ letter_no_number n.first n.others n.letter)
token_sound (Number n k) cs z h e o p = sound_number n k cs z h e (goes_right n k z o p)
token_sound (Sign m) cs z h e o p = sound_short (Sign m) cs z h e (mark_no_number m)

longest_at : (t : Token) (cs z more after : List Char) → IsToken t → bytes cs ≡ text_of t → Off t (bytes z) → more ≢ [] → z ≡ more ++ after → is_form (bytes (cs ++ more)) ≡ false
longest_at t cs z [] after h e o n s = absurd (n refl)
longest_at t cs z (d ∷ u) after h e o n s =
    let off : goes_on t d.byte ≡ false = subst (λ z. Off t (bytes z)) s o in
    ap is_form (map-append (λ c. c.byte) cs (d ∷ u) ∙ ap (λ x. x ++ d.byte ∷ bytes u) e) ∙ token_stops t d.byte (bytes u) h off

token_longest : (t : Token) (cs z : List Char) → IsToken t → bytes cs ≡ text_of t → Off t (bytes z) → Longest cs z
token_longest t cs z h e o = record { form = ap is_form e ∙ token_form t h; most = λ more after n s. longest_at t cs z more after h e o n s }

-- CUT

-- characters whose bytes are two texts
pub record Split (cs : List Char) (x y : List ℕ) : Type 0 where
  pub front : List Char
  pub back : List Char
  pub is : cs ≡ front ++ back
  pub fronts : bytes front ≡ x
  pub backs : bytes back ≡ y

pub split : (cs : List Char) (x y : List ℕ) → bytes cs ≡ x ++ y → Split cs x y
split cs [] y e = record { front = []; back = cs; is = refl; fronts = refl; backs = e }
split [] (b ∷ x) y e = absurd cc
split (c ∷ cs) (b ∷ x) y e =
    let s = split cs x y (cons-tail e) in
    let h : c.byte ∷ bytes s.front ≡ b ∷ x = ap (λ q. q ∷ bytes s.front) (cons-head e) ∙ ap (λ q. b ∷ q) s.fronts in
    record { front = c ∷ s.front; back = s.back; is = ap (λ q. c ∷ q) s.is; fronts = h; backs = s.backs }

-- Characters are cut into words with the texts of tokens; what holds of all their places holds of the words'.
pub record CutTo (cs : List Char) (ts : List Token) : Type 0 where
  pub words : List ReadWord
  pub cut : Cut cs words None
  pub texts : map (λ (word : ReadWord). word.text) words ≡ map text_of ts
  pub places : (P : Place → Bool) → list_all (λ (c : Char). P c.at) cs ≡ true → list_all (λ (word : ReadWord). P word.at) words ≡ true

cut_end : (cs : List Char) → bytes cs ≡ [] → CutTo cs []
cut_end [] e = record { words = []; cut = end; texts = refl; places = λ P h. refl }
cut_end (c ∷ cs) e = absurd cc

cut_blank : (c : Char) (cs : List Char) (ts : List Token) → c.byte ≡ 32 → CutTo cs ts → CutTo (c ∷ cs) ts
cut_blank c cs ts e k = record { words = k.words; cut = blank c e k.cut; texts = k.texts; places = λ P h. k.places P (and_parts (P c.at) (list_all (λ (c : Char). P c.at) cs) h).1 }

pub cut_blanks : (n : ℕ) (cs : List Char) (y : List ℕ) (ts : List Token) → bytes cs ≡ blanks n ++ y → ((ds : List Char) → bytes ds ≡ y → CutTo ds ts) → CutTo cs ts
cut_blanks zero cs y ts e f = f cs e
cut_blanks (suc n) [] y ts e f = absurd cc
cut_blanks (suc n) (c ∷ cs) y ts e f = cut_blank c cs ts (cons-head e) (cut_blanks n cs y ts (cons-tail e) f)

places_behind : (P : Place → Bool) (cs ds : List Char) → list_all (λ (c : Char). P c.at) (cs ++ ds) ≡ true → list_all (λ (c : Char). P c.at) ds ≡ true
places_behind P [] ds h = h
places_behind P (c ∷ cs) ds h = places_behind P cs ds (and_parts (P c.at) (list_all (λ (c : Char). P c.at) (cs ++ ds)) h).1

cut_token : (t : Token) (cs z : List Char) (ts : List Token) → IsToken t → bytes cs ≡ text_of t → Off t (bytes z) → no_point (bytes z) ≡ true → CutTo z ts → CutTo (cs ++ z) (t ∷ ts)
cut_token t [] z ts h e o p k = let s = token_some t h in absurd (cc (e, s.is))
cut_token t (c ∷ cs) z ts h e o p k = record {
  words = word_at c.at (c ∷ cs) ∷ k.words;
  cut = token c cs (token_longest t (c ∷ cs) z h e o) (token_sound t (c ∷ cs) z h e o p) k.cut;
  texts = ap (λ x. x ∷ map (λ (word : ReadWord). word.text) k.words) e ∙ ap (λ x. text_of t ∷ x) k.texts;
  places = λ P h.
      let both = and_parts (P c.at) (list_all (λ (c : Char). P c.at) (cs ++ z)) h in
      and_from (P c.at) (list_all (λ (word : ReadWord). P word.at) k.words) both.0 (k.places P (places_behind P cs z both.1));
}

cut_at : (t : Token) (r : List ℕ) (ts : List Token) (cs : List Char) → IsToken t → Off t r → no_point r ≡ true → Split cs (text_of t) r → ((z : List Char) → bytes z ≡ r → CutTo z ts) → CutTo cs (t ∷ ts)
cut_at t r ts cs h o p s f =
    let k = cut_token t s.front s.back ts h s.fronts (subst (Off t) (sym s.backs) o) (ap no_point s.backs ∙ p) (f s.back s.backs) in subst (λ x. CutTo x (t ∷ ts)) (sym s.is) k

-- A token and what follows it are read as just these tokens.
pub cut_follows : (t : Token) (r : List ℕ) (us : List Token) → Follows t r us → IsToken t → (cs : List Char) → bytes cs ≡ text_of t ++ r → CutTo cs (t ∷ us)
cut_follows t r us f h cs e = cut_at t r us cs h (follows_off t r us f) (follows_point t r us f) (split cs (text_of t) r e) (behind t r us f)
  where
    behind : (t : Token) (r : List ℕ) (us : List Token) → Follows t r us → (z : List Char) → bytes z ≡ r → CutTo z us
    behind t r us nothing z e = cut_end z e
    behind t r us (apart {u = u} {us = vs} j q h f) z e =
        cut_blanks (suc j) z (text_of u ++ q) (u ∷ vs) e (λ ds d. cut_at u q vs ds h (follows_off u q vs f) (follows_point u q vs f) (split ds (text_of u) q d) (behind u q vs f))
    behind t r us (beside {u = u} {us = vs} q h g f) z e = cut_at u q vs z h (follows_off u q vs f) (follows_point u q vs f) (split z (text_of u) q e) (behind u q vs f)
