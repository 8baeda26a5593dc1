-- A text that ends within bounds is a token.
use Rattle.std.proofs.Common.{◌≡◌, ℕ, ◌+◌, ◌-◌, ◌*◌, ◌≤◌, suc, Bool, true, false, cond, ◌&&◌, ◌||◌, IsTrue, List, [], ◌∷◌, ◌++◌, length, take, drop, refl, sym, ap, ◌∙◌, arith}
use Rattle.std.specs.Prelude.{nat_eq, nat_le, nat_lt, ◌==◌}
use Rattle.std.specs.List.{list_all, prefix_len}
use Rattle.std.specs.Char.{is_ascii_lowercase, is_ascii_alphabetic, is_ascii_digit, to_ascii_lowercase, digit_value}
use Rattle.std.specs.Str.{bytes_eq}
use Rattle.std.specs.Int.{IsInRange}
use Rattle.std.proofs.lemmas.Str.{digit_value_digit}
use Rattle.std.specs.Str.Parse.{digits_value, digits_value_after}
use Rattle.std.proofs.lemmas.Bool.{true≢false, and_parts, eqb-true}
use Rattle.std.proofs.lemmas.Bool.Decides.{nat_tests}
use Rattle.fort_tree.specs.Name.{is_word_byte, is_name, lowercase}
use Rattle.fort_tree.specs.Token.{is_token, is_number, is_one_of, kind_suffixes}
use Rattle.fort_tokens.specs.Texts.{is_name_byte, is_kind, is_small, value_from, front}
use Rattle.fort_tokens.specs.Forms.{is_suffix, is_number_tail, is_number_form}
use Rattle.fort_tokens.specs.Standing.{is_name_form}
use Rattle.fort_tokens.proofs.FormCases.{both, or-left, or-right}
use Rattle.fort_tokens.proofs.Settling.{value-stop}

equal : (t : List ℕ) → bytes_eq t t ≡ true
equal [] = refl
equal (b ∷ t) = both (nat_eq b b) (bytes_eq t t) (grind (arith, nat_tests)) (equal t)

-- texts in lower case
low-word : (b : ℕ) → is_name_byte b ≡ true → to_ascii_lowercase b ≡ b
low-word b h = grind (arith, nat_tests)

low-letter : (b : ℕ) → is_ascii_lowercase b ≡ true → to_ascii_lowercase b ≡ b
low-letter b h = grind (arith, nat_tests)

low-digit : (b : ℕ) → is_ascii_digit b ≡ true → to_ascii_lowercase b ≡ b
low-digit b h = grind (arith, nat_tests)

low-kind : (b : ℕ) → is_kind b ≡ true → to_ascii_lowercase b ≡ b
low-kind b h = grind (arith, nat_tests)

low-words : (t : List ℕ) → list_all is_name_byte t ≡ true → lowercase t ≡ t
low-words [] h = refl
low-words (b ∷ t) h = let h = and_parts (is_name_byte b) (list_all is_name_byte t) h in rw (low-word b h.0, low-words t h.1) refl

low-suffix : (t : List ℕ) → is_suffix t ≡ true → lowercase t ≡ t
low-suffix [] h = refl
low-suffix (k ∷ []) h = rw (low-kind k h) refl
low-suffix (k ∷ b ∷ t) h = absurd (true≢false (sym h))

low-tail-at : (b : ℕ) (t : List ℕ) (x y : Bool) → is_ascii_digit b ≡ x → (b == 95) ≡ y → cond x (is_number_tail t) (cond y (is_suffix t) false) ≡ true →
    (is_number_tail t ≡ true → lowercase t ≡ t) → lowercase (b ∷ t) ≡ b ∷ t
low-tail-at b t true y ex ey h k = rw (low-digit b ex, k h) refl
low-tail-at b t false true ex ey h k = rw (eqb-true b 95 ey, low-suffix t h) refl
low-tail-at b t false false ex ey h k = absurd (true≢false (sym h))

low-tail : (t : List ℕ) → is_number_tail t ≡ true → lowercase t ≡ t
low-tail [] h = refl
low-tail (b ∷ t) h = low-tail-at b t (is_ascii_digit b) (b == 95) refl refl h (low-tail t)

-- a name
word-byte : (b : ℕ) → is_name_byte b ≡ true → is_word_byte b ≡ true
word-byte b h = grind (arith, nat_tests)

word-bytes : (t : List ℕ) → list_all is_name_byte t ≡ true → list_all is_word_byte t ≡ true
word-bytes [] h = refl
word-bytes (b ∷ t) h = let h = and_parts (is_name_byte b) (list_all is_name_byte t) h in both (is_word_byte b) (list_all is_word_byte t) (word-byte b h.0) (word-bytes t h.1)

letter : (b : ℕ) → is_ascii_lowercase b ≡ true → is_ascii_alphabetic b ≡ true
letter b h = grind (arith, nat_tests)

short : (n : ℕ) → suc n ≤ 63 → nat_le n 62 ≡ true
short n h = grind (arith, nat_tests)

name-is : (t : List ℕ) → is_name_form t ≡ true → length t ≤ 63 → is_name t ≡ true
name-is [] h n = absurd (true≢false (sym h))
name-is (b ∷ t) h n =
    let h = and_parts (is_ascii_lowercase b) (list_all is_name_byte t) h in
    rw (letter b h.0, short (length t) n, word-bytes t h.1) refl

low-name : (t : List ℕ) → is_name_form t ≡ true → lowercase t ≡ t
low-name [] h = refl
low-name (b ∷ t) h =
    let h = and_parts (is_ascii_lowercase b) (list_all is_name_byte t) h in
    rw (low-letter b h.0, low-words t h.1) refl

pub name-made : (t : List ℕ) → is_name_form t ≡ true → length t ≤ 63 → IsTrue (is_token t)
name-made t h n = rw (low-name t h, equal t, name-is t h n) refl

-- a number
in-range : (b : ℕ) → is_ascii_digit b ≡ true → IsInRange 48 57 b
in-range b h = grind (arith, nat_tests)

digit-more : (v b : ℕ) → is_ascii_digit b ≡ true → 10 * v + (b - 48) ≡ v * 10 + digit_value b
digit-more v b h = omega (arith, digit_value_digit b (in-range b h))

value-taken-at : (v b : ℕ) (t : List ℕ) (x : Bool) → is_ascii_digit b ≡ x → ((v : ℕ) → value_from v t ≡ digits_value_after 10 v (take (prefix_len is_ascii_digit t) t)) →
    cond x (value_from (10 * v + (b - 48)) t) v ≡ digits_value_after 10 v (take (cond x (1 + prefix_len is_ascii_digit t) 0) (b ∷ t))
value-taken-at v b t true e h =
    let n : 1 + prefix_len is_ascii_digit t ≡ suc (prefix_len is_ascii_digit t) = omega arith in
    h (10 * v + (b - 48)) ∙ ap (λ w. digits_value_after 10 w (take (prefix_len is_ascii_digit t) t)) (digit-more v b e)
    ∙ ap (λ k. digits_value_after 10 v (take k (b ∷ t))) (sym n)
value-taken-at v b t false e h = refl

value-taken : (v : ℕ) (t : List ℕ) → value_from v t ≡ digits_value_after 10 v (take (prefix_len is_ascii_digit t) t)
value-taken v [] = refl
value-taken v (b ∷ t) = value-taken-at v b t (is_ascii_digit b) refl (λ v. value-taken v t)

one-of-four : (x y z w : Bool) → (x || (y || (z || w))) ≡ true → ((x && true) || ((y && true) || ((z && true) || ((w && true) || false)))) ≡ true
one-of-four true y z w h = refl
one-of-four false true z w h = refl
one-of-four false false true w h = refl
one-of-four false false false true h = refl
one-of-four false false false false h = absurd (true≢false (sym h))

suffix-is : (t : List ℕ) → is_suffix t ≡ true → is_one_of kind_suffixes (95 ∷ t) ≡ true
suffix-is [] h = absurd (true≢false (sym h))
suffix-is (k ∷ []) h = one-of-four (k == 49) (k == 50) (k == 52) (k == 56) h
suffix-is (k ∷ b ∷ t) h = absurd (true≢false (sym h))

rest-is-at : (b : ℕ) (t : List ℕ) (x y : Bool) → (b == 95) ≡ y → cond x (is_number_tail t) (cond y (is_suffix t) false) ≡ true →
    (is_number_tail t ≡ true → is_one_of kind_suffixes (drop (prefix_len is_ascii_digit t) t) ≡ true) →
    is_one_of kind_suffixes (drop (cond x (1 + prefix_len is_ascii_digit t) 0) (b ∷ t)) ≡ true
rest-is-at b t true y e h k =
    let n : 1 + prefix_len is_ascii_digit t ≡ suc (prefix_len is_ascii_digit t) = omega arith in
    ap (λ k. is_one_of kind_suffixes (drop k (b ∷ t))) n ∙ k h
rest-is-at b t false true e h k = ap (λ b. is_one_of kind_suffixes (b ∷ t)) (eqb-true b 95 e) ∙ suffix-is t h
rest-is-at b t false false e h k = absurd (true≢false (sym h))

rest-is : (t : List ℕ) → is_number_tail t ≡ true → is_one_of kind_suffixes (drop (prefix_len is_ascii_digit t) t) ≡ true
rest-is [] h = refl
rest-is (b ∷ t) h = rest-is-at b t (is_ascii_digit b) (b == 95) refl h (rest-is t)

tail-of-form : (t : List ℕ) (x y : Bool) → cond x (is_number_tail t) false ≡ true → cond x (is_number_tail t) (cond y (is_suffix t) false) ≡ true
tail-of-form t true y h = h
tail-of-form t false y h = absurd (true≢false (sym h))

begins-digit : (t : List ℕ) (x : Bool) → cond x (is_number_tail t) false ≡ true → nat_lt 0 (cond x (1 + prefix_len is_ascii_digit t) 0) ≡ true
begins-digit t true h = grind (arith, nat_tests)
begins-digit t false h = absurd (true≢false (sym h))

number-is : (t : List ℕ) → is_number_form t ≡ true → is_small t ≡ true → is_number t ≡ true
number-is [] h s = absurd (true≢false (sym h))
number-is (b ∷ t) h s = both (nat_lt 0 (prefix_len is_ascii_digit (b ∷ t))) _ (begins-digit t (is_ascii_digit b) h)
    (both (nat_le (digits_value 10 (take (prefix_len is_ascii_digit (b ∷ t)) (b ∷ t))) 9223372036854775807) _
    (ap (λ v. nat_le v 9223372036854775807) (sym (value-taken 0 (b ∷ t))) ∙ s)
    (rest-is (b ∷ t) (tail-of-form t (is_ascii_digit b) (b == 95) h)))

low-number : (t : List ℕ) → is_number_form t ≡ true → lowercase t ≡ t
low-number [] h = refl
low-number (b ∷ t) h = low-tail (b ∷ t) (tail-of-form t (is_ascii_digit b) (b == 95) h)

pub number-made : (t : List ℕ) → is_number_form t ≡ true → is_small t ≡ true → IsTrue (is_token t)
number-made t h s = rw (low-number t h, equal t) (or-right (is_name t) _ (or-left (is_number t) _ (number-is t h s)))

-- a number that one byte stands behind
pub front-made : (t : List ℕ) (b : ℕ) → is_number_form (front t) ≡ true → t ≡ front t ++ b ∷ [] → is_ascii_digit b ≡ false → is_small t ≡ true → IsTrue (is_token (front t))
front-made t b h e d s = number-made (front t) h (sym (ap (λ v. nat_le v 9223372036854775807) (value-stop b (front t) 0 d)) ∙ sym (ap is_small e) ∙ s)
