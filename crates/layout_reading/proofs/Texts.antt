-- Bytes and texts of tokens.
use Rattle.std.proofs.Common.{◌≡◌, ℕ, ◌+◌, ◌*◌, ◌-◌, ◌<◌, ◌≤◌, ◌^◌, Bool, true, false, ◌&&◌, ◌||◌, not, nat_le, nat_lt, ◌==◌, List, [], ◌∷◌, ◌++◌, length, decimal, Option, None, Some, refl, sym, ap, ◌∙◌, arith, rules, length-append}
use Rattle.std.proofs.lemmas.Bool.{true≢false, and_parts, and_from, or_left}
use Rattle.std.proofs.lemmas.Bool.Decides.{nat_tests}
use Rattle.std.proofs.lemmas.List.Folds.{list_all-append}
use Rattle.std.proofs.lemmas.Fmt.{digits_decimal, digits_value-decimal, length-decimal-le, decimal_nonempty}
use Rattle.std.proofs.lemmas.Str.Parse.{IsNumeralModel, numerals_by_fold}
use Rattle.std.specs.Char.{is_ascii_digit, is_ascii_lowercase, is_ascii_alphabetic, to_ascii_lowercase}
use Rattle.std.specs.List.{list_all}
use Rattle.std.specs.Str.{all_ascii_digits}
use Rattle.fort_arith.specs.declared.kind.Kind.{Kind}
use Rattle.fort_arith.specs.declared.kind.Kind.TheVariants as kind
use Rattle.fort_spell.specs.declared.mark.Mark.{Mark}
use Rattle.fort_spell.specs.declared.mark.Mark.TheVariants as mark
use Rattle.fort_tree.specs.Name.{IsName, is_name, is_word_byte, lowercase}
use Rattle.fort_tokens.specs.Texts.{is_name_byte, is_small, value_from}
use Rattle.fort_spell.specs.Text.{mark_text, suffix_text}
use Rattle.fort_spell.specs.Pieces.{Token, Word, Number, Sign, text_of}
use Rattle.layout_reading.specs.Readable.{IsToken}

-- what tokens are made of: no blank, no `!`, `&` or `;`, and no upper-case letter
abbrev pub is_ink : ℕ → Bool
is_ink b = nat_lt 32 b && (nat_lt b 127 && (not (b == 33) && (not (b == 38) && (not (b == 59) && to_ascii_lowercase b == b))))

-- ink or a blank
abbrev pub is_plain : ℕ → Bool
is_plain b = is_ink b || b == 32

pub ink_plain : (b : ℕ) → is_ink b ≡ true → is_plain b ≡ true
ink_plain b h = or_left (is_ink b) (b == 32) h

pub all_append : (p : ℕ → Bool) (x y : List ℕ) → list_all p x ≡ true → list_all p y ≡ true → list_all p (x ++ y) ≡ true
all_append p x y h g = list_all-append p x y ∙ and_from (list_all p x) (list_all p y) h g

pub all_under : (p q : ℕ → Bool) → ((b : ℕ) → p b ≡ true → q b ≡ true) → (x : List ℕ) → list_all p x ≡ true → list_all q x ≡ true
all_under p q f [] h = refl
all_under p q f (b ∷ x) h = let k = and_parts (p b) (list_all p x) h in and_from (q b) (list_all q x) (f b k.0) (all_under p q f x k.1)

name_byte_ink : (b : ℕ) → is_name_byte b ≡ true → is_ink b ≡ true
name_byte_ink b h = grind (arith, nat_tests)

lower_name_byte : (b : ℕ) → is_word_byte b ≡ true → to_ascii_lowercase b ≡ b → is_name_byte b ≡ true
lower_name_byte b h e = grind (arith, nat_tests)

lower_letter : (b : ℕ) → is_ascii_alphabetic b ≡ true → to_ascii_lowercase b ≡ b → is_ascii_lowercase b ≡ true
lower_letter b h e = grind (arith, nat_tests)

digit_name_byte : (b : ℕ) → is_ascii_digit b ≡ true → is_name_byte b ≡ true
digit_name_byte b h = grind (arith, nat_tests)

letter_name_byte : (b : ℕ) → is_ascii_lowercase b ≡ true → is_name_byte b ≡ true
letter_name_byte b h = grind (arith, nat_tests)

pub cons-head : {b c : ℕ} {w x : List ℕ} → b ∷ w ≡ c ∷ x → b ≡ c
cons-head h = cc

pub cons-tail : {b c : ℕ} {w x : List ℕ} → b ∷ w ≡ c ∷ x → w ≡ x
cons-tail h = cc

-- NAMES

name_bytes : (bs : List ℕ) → list_all is_word_byte bs ≡ true → lowercase bs ≡ bs → list_all is_name_byte bs ≡ true
name_bytes [] h e = refl
name_bytes (b ∷ bs) h e =
    let k = and_parts (is_word_byte b) (list_all is_word_byte bs) h in
    and_from (is_name_byte b) (list_all is_name_byte bs) (lower_name_byte b k.0 (cons-head e)) (name_bytes bs k.1 (cons-tail e))

-- a name's first letter and the bytes behind it
pub record Named (text : List ℕ) : Type 0 where
  pub first : ℕ
  pub others : List ℕ
  pub is : text ≡ first ∷ others
  pub letter : is_ascii_lowercase first ≡ true
  pub all : list_all is_name_byte others ≡ true
  pub short : length others ≤ 62

named_at : (b : ℕ) (bs : List ℕ) → is_name (b ∷ bs) ≡ true → lowercase (b ∷ bs) ≡ b ∷ bs → Named (b ∷ bs)
named_at b bs h e =
    let k = and_parts (is_ascii_alphabetic b && nat_le (length bs) 62) (list_all is_word_byte bs) h in
    let l = and_parts (is_ascii_alphabetic b) (nat_le (length bs) 62) k.0 in
    record {
      first = b;
      others = bs;
      is = refl;
      letter = lower_letter b l.0 (cons-head e);
      all = name_bytes bs k.1 (cons-tail e);
      short = grind (arith, nat_tests, l.1);
    }

named : (text : List ℕ) → is_name text ≡ true → lowercase text ≡ text → Named text
named [] h e = absurd (true≢false (sym h))
named (b ∷ bs) h e = named_at b bs h e

pub name_named : (text : List ℕ) → IsName text → Named text
name_named text h = named text h.form h.lower

-- NUMBERS

abbrev read_on : ℕ → List ℕ → ℕ
read_on n [] = n
read_on n (c ∷ cs) = read_on (10 * n + (c - 48)) cs

own : IsNumeralModel (λ ds. all_ascii_digits ds ≡ true) (read_on 0)
own = numerals_by_fold _ (search rules) read_on (search rules)

-- a number's first digit and those behind it
pub record Numeral (n : ℕ) : Type 0 where
  pub first : ℕ
  pub others : List ℕ
  pub is : decimal n ≡ first ∷ others
  pub digit : is_ascii_digit first ≡ true
  pub all : all_ascii_digits others ≡ true
  pub value : read_on 0 (first ∷ others) ≡ n
  pub short : length others ≤ 18

numeral_at : (n : ℕ) (ds : List ℕ) → decimal n ≡ ds → all_ascii_digits ds ≡ true → read_on 0 ds ≡ n → length ds ≤ 19 → 0 < length ds → Numeral n
numeral_at n [] e h v l k = absurd (omega (arith, k))
numeral_at n (d ∷ ds) e h v l k =
    let p = and_parts (is_ascii_digit d) (all_ascii_digits ds) h in
    record { first = d; others = ds; is = e; digit = p.0; all = p.1; value = v; short = omega (arith, l) }

pub numeral : (n : ℕ) → n < 2 ^ 63 → Numeral n
numeral n h = numeral_at n (decimal n) refl (digits_decimal own n (omega (arith, h))) (digits_value-decimal own n (omega (arith, h))) (length-decimal-le 19 n (omega arith) (omega (arith, h)) (omega (arith, h))) (decimal_nonempty n (omega (arith, h)))

-- no digit stands at the front
abbrev pub no_digit : List ℕ → Bool
no_digit [] = true
no_digit (b ∷ bs) = not (is_ascii_digit b)

value_stops : (v : ℕ) (s : List ℕ) → no_digit s ≡ true → value_from v s ≡ v
value_stops v [] h = refl
value_stops v (b ∷ s) h = let k : is_ascii_digit b ≡ false = grind (arith, nat_tests, h) in rw k refl

value_digits : (v : ℕ) (ds s : List ℕ) → all_ascii_digits ds ≡ true → no_digit s ≡ true → value_from v (ds ++ s) ≡ read_on v ds
value_digits v [] s h g = value_stops v s g
value_digits v (d ∷ ds) s h g = let k = and_parts (is_ascii_digit d) (all_ascii_digits ds) h in rw k.0 (value_digits (10 * v + (d - 48)) ds s k.1 g)

suffix_no_digit : (k : Option Kind) → no_digit (suffix_text k) ≡ true
suffix_no_digit None = refl
suffix_no_digit (Some kind.I1) = refl
suffix_no_digit (Some _) = refl

suffix_short : (k : Option Kind) → nat_le (length (suffix_text k)) 2 ≡ true
suffix_short None = refl
suffix_short (Some kind.I1) = refl
suffix_short (Some _) = refl

suffix_ink : (k : Option Kind) → list_all is_ink (suffix_text k) ≡ true
suffix_ink None = refl
suffix_ink (Some kind.I1) = refl
suffix_ink (Some _) = refl

digits_ink : (ds : List ℕ) → all_ascii_digits ds ≡ true → list_all is_ink ds ≡ true
digits_ink [] h = refl
digits_ink (d ∷ ds) h =
    let k = and_parts (is_ascii_digit d) (all_ascii_digits ds) h in
    and_from (is_ink d) (list_all is_ink ds) (name_byte_ink d (digit_name_byte d k.0)) (digits_ink ds k.1)

pub number_small : (n : ℕ) (k : Option Kind) → n < 2 ^ 63 → is_small (decimal n ++ suffix_text k) ≡ true
number_small n k h =
    let m = numeral n h in
    let digits : all_ascii_digits (m.first ∷ m.others) ≡ true = and_from (is_ascii_digit m.first) (all_ascii_digits m.others) m.digit m.all in
    let value : value_from 0 (decimal n ++ suffix_text k) ≡ n =
    ap (λ x. value_from 0 (x ++ suffix_text k)) m.is ∙ value_digits 0 (m.first ∷ m.others) (suffix_text k) digits (suffix_no_digit k) ∙ m.value in
    ap (λ x. nat_le x 9223372036854775807) value ∙ grind (arith, nat_tests, h)

-- MARKS

mark_ink : (m : Mark) → list_all is_ink (mark_text m) ≡ true
mark_ink mark.Open = refl
mark_ink _ = refl

mark_short : (m : Mark) → nat_le (length (mark_text m)) 7 ≡ true
mark_short mark.Open = refl
mark_short _ = refl

-- TOKENS

-- a text's first byte and those behind it
pub record Some_bytes (text : List ℕ) : Type 0 where
  pub first : ℕ
  pub others : List ℕ
  pub is : text ≡ first ∷ others

some_mark : (m : Mark) → Some_bytes (mark_text m)
some_mark mark.Open = record { first = 40; others = []; is = refl }
some_mark _ = record { first = _; others = _; is = refl }

some_first : (x : ℕ) (xs s : List ℕ) (w : List ℕ) → w ≡ x ∷ xs → Some_bytes (w ++ s)
some_first x xs s w e = record { first = x; others = xs ++ s; is = ap (λ w. w ++ s) e }

pub token_some : (t : Token) → IsToken t → Some_bytes (text_of t)
token_some (Word name) h = let n = name_named name h in record { first = n.first; others = n.others; is = n.is }
token_some (Number n k) h = let m = numeral n h in some_first m.first m.others (suffix_text k) (decimal n) m.is
token_some (Sign m) h = some_mark m

pub token_ink : (t : Token) → IsToken t → list_all is_ink (text_of t) ≡ true
token_ink (Word name) h =
    let n = name_named name h in
    ap (list_all is_ink) n.is ∙ and_from (is_ink n.first) (list_all is_ink n.others) (name_byte_ink n.first (letter_name_byte n.first n.letter)) (all_under is_name_byte is_ink name_byte_ink n.others n.all)
token_ink (Number n k) h =
    let m = numeral n h in
    all_append is_ink (decimal n) (suffix_text k) (ap (list_all is_ink) m.is ∙ digits_ink (m.first ∷ m.others) (and_from (is_ascii_digit m.first) (all_ascii_digits m.others) m.digit m.all)) (suffix_ink k)
token_ink (Sign m) h = mark_ink m

pub token_short : (t : Token) → IsToken t → length (text_of t) ≤ 63
token_short (Word name) h = let n = name_named name h in rw n.is (omega (arith, n.short))
token_short (Number n k) h =
    let m = numeral n h in
    let a : length (decimal n) ≤ 19 = rw m.is (omega (arith, m.short)) in
    let b : length (suffix_text k) ≤ 2 = grind (arith, nat_tests, suffix_short k) in
    rw (length-append (decimal n) (suffix_text k)) (omega (arith, a, b))
token_short (Sign m) h = grind (arith, nat_tests, mark_short m)
