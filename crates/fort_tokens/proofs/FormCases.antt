-- The automaton accepts the forms.
use Rattle.std.proofs.Common.{◌≡◌, ℕ, Bool, true, false, cond, ◌&&◌, ◌||◌, List, [], ◌∷◌, ◌++◌, refl, sym, ap, arith, ◌∙◌, append_assoc, inl, inr}
use Rattle.std.specs.Prelude.{◌==◌, nat_eq}
use Rattle.std.specs.List.{list_all, list_any}
use Rattle.std.specs.Str.{bytes_eq}
use Rattle.std.specs.Char.{is_ascii_lowercase, is_ascii_digit}
use Rattle.std.proofs.lemmas.Bool.{true≢false, and_parts, or_cases}
use Rattle.std.proofs.lemmas.Bool.Decides.{nat_tests}
use Rattle.std.proofs.lemmas.List.{append-nil}
use Rattle.fort_tokens.specs.Texts.{is_name_byte, is_kind, is_begun, is_fixed, begins_with, fixed_words}
use Rattle.fort_tokens.specs.Automaton.{State, start, name, digits, under, suffixed, fixed, dead, next, run, accepts, has_form, numeric, has_number_form}
use Rattle.fort_tokens.specs.Forms.{is_suffix, is_number_tail, is_number_form, is_form}
use Rattle.fort_tokens.proofs.Runs.{run-dead}

none-dead : (t : List ℕ) → accepts (run dead t) ≡ false
none-dead t = ap accepts (run-dead t)

word-at : (x : Bool) (bs : List ℕ) → accepts (run name bs) ≡ list_all is_name_byte bs → accepts (run (cond x name dead) bs) ≡ (x && list_all is_name_byte bs)
word-at true bs h = h
word-at false bs h = none-dead bs

words : (bs : List ℕ) → accepts (run name bs) ≡ list_all is_name_byte bs
words [] = refl
words (b ∷ bs) = word-at (is_name_byte b) bs (words bs)

kind-at : (x : Bool) → accepts (cond x suffixed dead) ≡ x
kind-at true = refl
kind-at false = refl

kind-more : (x : Bool) (b : ℕ) (bs : List ℕ) → accepts (run (cond x suffixed dead) (b ∷ bs)) ≡ false
kind-more true b bs = none-dead bs
kind-more false b bs = none-dead bs

suffixes : (bs : List ℕ) → accepts (run under bs) ≡ is_suffix bs
suffixes [] = refl
suffixes (k ∷ []) = kind-at (is_kind k)
suffixes (k ∷ b ∷ bs) = kind-more (is_kind k) b bs

number-at : (x y : Bool) (bs : List ℕ) → accepts (run digits bs) ≡ is_number_tail bs →
    accepts (run (cond x digits (cond y under dead)) bs) ≡ cond x (is_number_tail bs) (cond y (is_suffix bs) false)
number-at true y bs h = h
number-at false true bs h = suffixes bs
number-at false false bs h = none-dead bs

numbers : (bs : List ℕ) → accepts (run digits bs) ≡ is_number_tail bs
numbers [] = refl
numbers (b ∷ bs) = number-at (is_ascii_digit b) (b == 95) bs (numbers bs)

pub both : (x y : Bool) → x ≡ true → y ≡ true → (x && y) ≡ true
both true y h k = k
both false y h k = absurd (true≢false (sym h))

same-begins : (w t q : List ℕ) → bytes_eq (t ++ q) w ≡ true → begins_with w t ≡ true
same-begins w [] q h = refl
same-begins [] (b ∷ t) q h = absurd (true≢false (sym h))
same-begins (w ∷ ws) (b ∷ t) q h =
    let p = and_parts (nat_eq b w) (bytes_eq (t ++ q) ws) h in
    both (nat_eq b w) (begins_with ws t) p.0 (same-begins ws t q p.1)

pub or-left : (x y : Bool) → x ≡ true → (x || y) ≡ true
or-left true y h = refl
or-left false y h = absurd (true≢false (sym h))

pub or-right : (x y : Bool) → y ≡ true → (x || y) ≡ true
or-right true y h = refl
or-right false y h = h

any-begins : (ws : List (List ℕ)) (t q : List ℕ) → list_any (bytes_eq (t ++ q)) ws ≡ true → list_any (λ w. begins_with w t) ws ≡ true
any-begins [] t q h = h
any-begins (w ∷ ws) t q h = elim (or_cases (bytes_eq (t ++ q) w) (list_any (bytes_eq (t ++ q)) ws) h) [
  | inl k ↦ or-left (begins_with w t) (list_any (λ w. begins_with w t) ws) (same-begins w t q k)
  | inr k ↦ or-right (begins_with w t) (list_any (λ w. begins_with w t) ws) (any-begins ws t q k)
]

unbegun : (t q : List ℕ) (x : Bool) → is_begun t ≡ false → is_fixed (t ++ q) ≡ x → false ≡ is_fixed (t ++ q)
unbegun t q true h k = absurd (true≢false (sym (any-begins fixed_words t q k) ∙ h))
unbegun t q false h k = sym k

fixed-at : (t bs : List ℕ) (x : Bool) → is_begun t ≡ x → accepts (run (fixed t) bs) ≡ is_fixed (t ++ bs) → accepts (run (cond x (fixed t) dead) bs) ≡ is_fixed (t ++ bs)
fixed-at t bs true h k = k
fixed-at t bs false h k = none-dead bs ∙ unbegun t bs (is_fixed (t ++ bs)) h refl

fixeds : (t bs : List ℕ) → accepts (run (fixed t) bs) ≡ is_fixed (t ++ bs)
fixeds t [] = ap is_fixed (sym (append-nil t))
fixeds t (b ∷ bs) = fixed-at (t ++ b ∷ []) bs (is_begun (t ++ b ∷ [])) refl (fixeds (t ++ b ∷ []) bs) ∙ ap is_fixed (append_assoc t (b ∷ []) bs)

form-at : (x y : Bool) (b : ℕ) (bs : List ℕ) → accepts (run (cond x name (cond y digits (cond (is_begun (b ∷ [])) (fixed (b ∷ [])) dead))) bs)
    ≡ cond x (list_all is_name_byte bs) (cond y (is_number_tail bs) (is_fixed (b ∷ bs)))
form-at true y b bs = words bs
form-at false true b bs = numbers bs
form-at false false b bs = fixed-at (b ∷ []) bs (is_begun (b ∷ [])) refl (fixeds (b ∷ []) bs)

pub forms : (t : List ℕ) → has_form t ≡ is_form t
forms [] = refl
forms (b ∷ bs) = form-at (is_ascii_lowercase b) (is_ascii_digit b) b bs

-- the text is no number, and is none with more behind it
abbrev is_aside : State → Bool
is_aside name = true
is_aside (fixed t) = true
is_aside dead = true
is_aside _ = false

aside-cond : (x : Bool) (s : State) → is_aside s ≡ true → is_aside (cond x s dead) ≡ true
aside-cond true s h = h
aside-cond false s h = refl

aside-next : (s : State) (b : ℕ) → is_aside s ≡ true → is_aside (next s b) ≡ true
aside-next name b h = aside-cond (is_name_byte b) name refl
aside-next (fixed t) b h = aside-cond (is_begun (t ++ b ∷ [])) (fixed (t ++ b ∷ [])) refl
aside-next dead b h = refl
aside-next start b h = absurd (true≢false (sym h))
aside-next digits b h = absurd (true≢false (sym h))
aside-next under b h = absurd (true≢false (sym h))
aside-next suffixed b h = absurd (true≢false (sym h))

aside-now : (s : State) → is_aside s ≡ true → numeric s ≡ false
aside-now name h = refl
aside-now (fixed t) h = refl
aside-now dead h = refl
aside-now start h = refl
aside-now digits h = absurd (true≢false (sym h))
aside-now under h = refl
aside-now suffixed h = absurd (true≢false (sym h))

aside : (s : State) (bs : List ℕ) → is_aside s ≡ true → numeric (run s bs) ≡ false
aside s [] h = aside-now s h
aside s (b ∷ bs) h = aside (next s b) bs (aside-next s b h)

kind-number : (x : Bool) → numeric (cond x suffixed dead) ≡ x
kind-number true = refl
kind-number false = refl

kind-past : (x : Bool) (b : ℕ) (bs : List ℕ) → numeric (run (cond x suffixed dead) (b ∷ bs)) ≡ false
kind-past true b bs = aside dead bs refl
kind-past false b bs = aside dead bs refl

number-suffix : (bs : List ℕ) → numeric (run under bs) ≡ is_suffix bs
number-suffix [] = refl
number-suffix (k ∷ []) = kind-number (is_kind k)
number-suffix (k ∷ b ∷ bs) = kind-past (is_kind k) b bs

number-tail-at : (x y : Bool) (bs : List ℕ) → numeric (run digits bs) ≡ is_number_tail bs →
    numeric (run (cond x digits (cond y under dead)) bs) ≡ cond x (is_number_tail bs) (cond y (is_suffix bs) false)
number-tail-at true y bs h = h
number-tail-at false true bs h = number-suffix bs
number-tail-at false false bs h = aside dead bs refl

number-tail : (bs : List ℕ) → numeric (run digits bs) ≡ is_number_tail bs
number-tail [] = refl
number-tail (b ∷ bs) = number-tail-at (is_ascii_digit b) (b == 95) bs (number-tail bs)

pub letter-no_digit : (b : ℕ) → is_ascii_lowercase b ≡ true → is_ascii_digit b ≡ false
letter-no_digit b h = grind (arith, nat_tests)

number-form-at : (x y : Bool) (b : ℕ) (bs : List ℕ) → (x ≡ true → y ≡ false) →
    numeric (run (cond x name (cond y digits (cond (is_begun (b ∷ [])) (fixed (b ∷ [])) dead))) bs) ≡ cond y (is_number_tail bs) false
number-form-at true true b bs h = absurd (true≢false (h refl))
number-form-at true false b bs h = aside name bs refl
number-form-at false true b bs h = number-tail bs
number-form-at false false b bs h = aside (cond (is_begun (b ∷ [])) (fixed (b ∷ [])) dead) bs (aside-cond (is_begun (b ∷ [])) (fixed (b ∷ [])) refl)

pub number-forms : (t : List ℕ) → has_number_form t ≡ is_number_form t
number-forms [] = refl
number-forms (b ∷ bs) = number-form-at (is_ascii_lowercase b) (is_ascii_digit b) b bs (letter-no_digit b)
