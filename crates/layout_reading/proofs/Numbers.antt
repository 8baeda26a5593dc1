-- Numbers are written as they are read.
use Rattle.std.proofs.Common.{◌≡◌, ℕ, ◌+◌, ◌*◌, ◌-◌, ◌<◌, ◌≤◌, ◌^◌, min, suc, List, [], ◌∷◌, ◌++◌, Bool, true, false, cond, ◌&&◌, ◌||◌, not, nat_le, nat_lt, nat_eq, Option, None, Some, length, take, drop, fold, decimal, refl, sym, ap, ◌∙◌, subst, arith, rules, bytes_eq}
use lib.Seq.{take-append_seam, drop-append_seam}
use Rattle.std.specs.List.{list_all, list_any, prefix_len}
use Rattle.std.specs.Char.{is_ascii_digit, is_ascii_alphabetic}
use Rattle.std.specs.Str.{all_ascii_digits}
use Rattle.std.specs.Str.Parse.{digits_value}
use Rattle.std.proofs.lemmas.Bool.{true≢false, and_parts, and_left, or_from}
use Rattle.std.proofs.lemmas.Bool.Decides.{nat_tests}
use Rattle.std.proofs.lemmas.Fmt.{digits_decimal, digits_value-decimal}
use Rattle.std.proofs.lemmas.Str.Parse.{IsNumeralModel, numerals_by_fold}
use Rattle.fort_arith.specs.declared.kind.Kind.{Kind}
use Rattle.fort_arith.specs.declared.kind.Kind.TheVariants as kind
use Rattle.fort_tree.specs.declared.statement.Token.{Token}
use Rattle.fort_tree.specs.Name.{is_name, lowercase}
use Rattle.fort_tree.specs.Token.{is_token, is_number, is_one_of, dotted_words, operators, sentinels, kind_suffixes}
use Rattle.fort_grammar.specs.declared.class.Class.{Class}
use Rattle.fort_grammar.specs.declared.class.Class.TheVariants as class
use Rattle.fort_grammar.specs.Class.{words}
use Rattle.fort_grammar.specs.Token.{text_class, token_class, open_class, begins_with_digit}
use Rattle.fort_expr.specs.Expression.{IsNumber, a_number, a_kind_number}
use Rattle.fort_expr.specs.Words.{value_of, digit_count, number_of, suffix_kind, kind_of}
use Rattle.fort_spell.specs.Text.{suffix_text}
use Rattle.layout_reading.proofs.Texts.{numeral, no_digit}
use Rattle.layout_reading.proofs.Classes.{all_hold, of_class, then}

abbrev numbers : Class → Bool
numbers class.Number = true
numbers class.KindNumber = true
numbers _ = false

is_number_class : (c : Class) → numbers c ≡ true → IsNumber c
is_number_class class.Number h = a_number refl
is_number_class class.KindNumber h = a_kind_number refl
is_number_class _ h = absurd (true≢false (sym h))

number_class : (c : Class) → IsNumber c → numbers c ≡ true
number_class c (a_number e) = ap numbers e
number_class c (a_kind_number e) = ap numbers e

-- A NUMBER BEGINS WITH A DIGIT

abbrev begins : Class → List ℕ → Bool
begins c text = then (numbers c) (begins_with_digit text)

begins_all : all_hold begins words ≡ true
begins_all = refl

open_begins : (b d : Bool) → then (numbers (cond b class.Name (cond d class.Number class.Other))) d ≡ true
open_begins true d = refl
open_begins false true = refl
open_begins false false = refl

number_begins : (text : List ℕ) → IsNumber (text_class text) → begins_with_digit text ≡ true
number_begins text h =
    subst (λ b. then b (begins_with_digit text) ≡ true) (number_class (text_class text) h) (of_class begins text begins_all (open_begins (is_name text) (begins_with_digit text)))

no_such_word : (ws : List (List ℕ)) (text : List ℕ) → begins_with_digit text ≡ true → list_all (λ w. not (begins_with_digit w)) ws ≡ true → list_any (bytes_eq text) ws ≡ false
no_such_word [] text h g = refl
no_such_word (w ∷ ws) text h g =
    let p = and_parts (not (begins_with_digit w)) (list_all (λ w. not (begins_with_digit w)) ws) g in
    or_from (bytes_eq text w) (list_any (bytes_eq text) ws) (differs text w h p.0) (no_such_word ws text h p.1)
  where
    digit_same : (a b : ℕ) → is_ascii_digit a ≡ true → not (is_ascii_digit b) ≡ true → nat_eq a b ≡ false
    digit_same a b h g = grind (arith, nat_tests)

    differs : (text w : List ℕ) → begins_with_digit text ≡ true → not (begins_with_digit w) ≡ true → bytes_eq text w ≡ false
    differs [] w h g = absurd (true≢false (sym h))
    differs (a ∷ text) [] h g = refl
    differs (a ∷ text) (b ∷ w) h g = and_left (nat_eq a b) (bytes_eq text w) (digit_same a b h g)

digit_no_name : (text : List ℕ) → begins_with_digit text ≡ true → is_name text ≡ false
digit_no_name [] h = absurd (true≢false (sym h))
digit_no_name (b ∷ bs) h = let k : is_ascii_alphabetic b ≡ false = grind (arith, nat_tests, h) in rw k refl

only : (a b c d e : Bool) → (a || (b || (c || (d || e)))) ≡ true → a ≡ false → c ≡ false → d ≡ false → e ≡ false → b ≡ true
only a true c d e h p q r s = refl
only a false c d e h p q r s = rw (p, q, r, s) at h

token_number : (text : List ℕ) → is_token text ≡ true → begins_with_digit text ≡ true → is_number text ≡ true
token_number text h d =
    let p = and_parts (bytes_eq (lowercase text) text) (is_name text || (is_number text || (is_one_of dotted_words text || (is_one_of operators text || is_one_of sentinels text)))) h in
    only (is_name text) (is_number text) (is_one_of dotted_words text) (is_one_of operators text) (is_one_of sentinels text) p.1 (digit_no_name text d)
    (no_such_word dotted_words text d refl) (no_such_word operators text d refl) (no_such_word sentinels text d refl)

-- ITS VALUE

abbrev value_on : ℕ → List ℕ → ℕ
value_on v ds = fold (λ value digit. 10 * value + (digit - 48)) v ds

own : IsNumeralModel (λ ds. all_ascii_digits ds ≡ true) (value_on 0)
own = numerals_by_fold _ (search rules) value_on (record { empty = λ n. refl; more = λ n c cs h. ap (λ v. value_on v cs) (omega arith) })

one_more : (n b : ℕ) (xs : List ℕ) → take (1 + n) (b ∷ xs) ≡ b ∷ take n xs
one_more n b xs = let e : 1 + n ≡ suc n = omega arith in ap (λ n. take n (b ∷ xs)) e

prefix_if : (b : ℕ) (xs : List ℕ) (c : Bool) → is_ascii_digit b ≡ c → all_ascii_digits (take (prefix_len is_ascii_digit xs) xs) ≡ true →
    all_ascii_digits (take (cond c (1 + prefix_len is_ascii_digit xs) 0) (b ∷ xs)) ≡ true
prefix_if b xs true e h = ap all_ascii_digits (one_more (prefix_len is_ascii_digit xs) b xs) ∙ rw e h
prefix_if b xs false e h = refl

digits_prefix : (xs : List ℕ) → all_ascii_digits (take (prefix_len is_ascii_digit xs) xs) ≡ true
digits_prefix [] = refl
digits_prefix (b ∷ xs) = prefix_if b xs (is_ascii_digit b) refl (digits_prefix xs)

token_value : (text : List ℕ) → is_number text ≡ true → value_of (take (digit_count text) text) ≤ 9223372036854775807
token_value text h =
    let ds : List ℕ = take (digit_count text) text in
    let p = and_parts (nat_lt 0 (digit_count text)) (nat_le (digits_value 10 ds) 9223372036854775807 && is_one_of kind_suffixes (drop (digit_count text) text)) h in
    let q = and_parts (nat_le (digits_value 10 ds) 9223372036854775807) (is_one_of kind_suffixes (drop (digit_count text) text)) p.1 in
    let e : value_of ds ≡ digits_value 10 ds = own.same ds (own.to ds (digits_prefix text)) in
    grind (arith, nat_tests, e, q.0)

pub number_in_range : (t : Token) → is_token t.text ≡ true → IsNumber (token_class t) → number_of t.text < 2 ^ 63
number_in_range t h n = omega (arith, token_value t.text (token_number t.text h (number_begins t.text n)))

-- ITS SUFFIX

abbrev suffixes : Option Kind → Bool
suffixes (Some kind.Logical) = false
suffixes _ = true

kind_suffix_at : (a b c d : Bool) → suffixes (cond a (Some kind.I1) (cond b (Some kind.I2) (cond c (Some kind.I4) (cond d (Some kind.I8) None)))) ≡ true
kind_suffix_at true b c d = refl
kind_suffix_at false true c d = refl
kind_suffix_at false false true d = refl
kind_suffix_at false false false true = refl
kind_suffix_at false false false false = refl

kind_suffixes_are : (text : List ℕ) → suffixes (kind_of text) ≡ true
kind_suffixes_are text = kind_suffix_at _ _ _ _

suffix_back : (k : Option Kind) → suffixes k ≡ true → suffix_kind (suffix_text k) ≡ k
suffix_back None h = refl
suffix_back (Some kind.I1) h = refl
suffix_back (Some kind.I2) h = refl
suffix_back (Some kind.I4) h = refl
suffix_back (Some kind.I8) h = refl
suffix_back (Some kind.Logical) h = absurd (true≢false (sym h))

suffix_no_digit : (k : Option Kind) → no_digit (suffix_text k) ≡ true
suffix_no_digit None = refl
suffix_no_digit (Some kind.I1) = refl
suffix_no_digit (Some _) = refl

-- WHAT IS WRITTEN

count_stops : (s : List ℕ) → no_digit s ≡ true → prefix_len is_ascii_digit s ≡ 0
count_stops [] h = refl
count_stops (b ∷ s) h = let k : is_ascii_digit b ≡ false = grind (arith, nat_tests, h) in rw k refl

count_digits : (ds s : List ℕ) → all_ascii_digits ds ≡ true → no_digit s ≡ true → prefix_len is_ascii_digit (ds ++ s) ≡ length ds
count_digits [] s h g = count_stops s g
count_digits (d ∷ ds) s h g = let k = and_parts (is_ascii_digit d) (all_ascii_digits ds) h in rw k.0 (ap (λ n. 1 + n) (count_digits ds s k.1 g) ∙ omega arith)

abbrev pub number_text : ℕ → Option Kind → List ℕ
number_text n k = decimal n ++ suffix_text k

pub count_back : (n : ℕ) (k : Option Kind) → n < 2 ^ 63 → digit_count (number_text n k) ≡ length (decimal n)
count_back n k h = count_digits (decimal n) (suffix_text k) (digits_decimal own n (omega (arith, h))) (suffix_no_digit k)

pub number_back : (n : ℕ) (k : Option Kind) → n < 2 ^ 63 → number_of (number_text n k) ≡ n
number_back n k h =
    let e : value_of (take (digit_count (number_text n k)) (number_text n k)) ≡ n =
    ap (λ i. value_of (take i (number_text n k))) (count_back n k h) ∙ ap value_of (take-append_seam (decimal n) (suffix_text k)) ∙ digits_value-decimal own n (omega (arith, h)) in
    ap (λ v. min v 9223372036854775808) e ∙ omega (arith, h)

pub kind_back : (n : ℕ) (text : List ℕ) → n < 2 ^ 63 → kind_of (number_text n (kind_of text)) ≡ kind_of text
kind_back n text h =
    ap (λ i. suffix_kind (drop i (number_text n (kind_of text)))) (count_back n (kind_of text) h) ∙ ap suffix_kind (drop-append_seam (decimal n) (suffix_text (kind_of text))) ∙ suffix_back (kind_of text) (kind_suffixes_are text)

abbrev are_numbers : Class → List ℕ → Bool
are_numbers c text = then (begins_with_digit text) (numbers c)

numbers_all : all_hold are_numbers words ≡ true
numbers_all = refl

number_begins_so : (n : ℕ) (k : Option Kind) → n < 2 ^ 63 → begins_with_digit (number_text n k) ≡ true
number_begins_so n k h = let m = numeral n h in ap (λ w. begins_with_digit (w ++ suffix_text k)) m.is ∙ m.digit

pub number_class_is : (q : Token) (n : ℕ) (k : Option Kind) → n < 2 ^ 63 → q.text ≡ number_text n k → IsNumber (token_class q)
number_class_is q n k h e =
    let d : begins_with_digit q.text ≡ true = ap begins_with_digit e ∙ number_begins_so n k h in
    let unlisted : then (begins_with_digit q.text) (numbers (open_class q.text)) ≡ true = rw (d, digit_no_name q.text d) refl in
    is_number_class (token_class q) (subst (λ b. then b (numbers (token_class q)) ≡ true) d (of_class are_numbers q.text numbers_all unlisted))
