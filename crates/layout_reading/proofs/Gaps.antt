-- Pieces beside each other that don't run together.
use Rattle.std.proofs.Common.{◌≡◌, ℕ, Bool, true, false, ◌||◌, not, ◌==◌, List, [], ◌∷◌, ◌++◌, codes, decimal, refl, sym, ap, ◌∙◌, arith}
use Rattle.std.specs.Prelude.{⊤}
use Rattle.std.proofs.lemmas.Bool.{true≢false, or_right}
use Rattle.std.proofs.lemmas.Bool.Decides.{nat_tests}
use Rattle.std.specs.Char.{is_ascii_lowercase, is_ascii_digit}
use Rattle.fort_spell.specs.declared.mark.Mark.{Mark}
use Rattle.fort_spell.specs.declared.mark.Mark.TheVariants as mark
use Rattle.fort_spell.specs.Text.{mark_text, suffix_text}
use Rattle.fort_spell.specs.Pieces.{Token, Word, Number, Sign, text_of, Piece}
use Rattle.fort_tokens.specs.Texts.{is_name_byte, is_begun}
use Rattle.layout_reading.specs.Readable.{IsToken, goes_on, first_byte, AreBehind}
use Rattle.layout_reading.proofs.Texts.{name_named, numeral}

-- what an operand can begin with
abbrev pub opens : Mark → Bool
opens mark.Open = true
opens mark.Plus = true
opens mark.Minus = true
opens mark.Not = true
opens mark.True = true
opens mark.False = true
opens _ = false

abbrev pub begins : Token → Bool
begins (Word name) = true
begins (Number n k) = true
begins (Sign m) = opens m

abbrev pub is_sign : Token → Bool
is_sign (Word name) = false
is_sign (Number n k) = false
is_sign (Sign m) = true

-- pieces that begin with an operand's first token
abbrev pub Starts : List Piece → Type 0
Starts [] = ⊥
Starts (p ∷ ps) = IsToken p.token × (begins p.token ≡ true) × AreBehind p.token ps

-- pieces that can stand behind an operand
abbrev pub Follows : List Piece → Type 0
Follows [] = ⊤
Follows (p ∷ ps) = IsToken p.token × ((p.spaced || is_sign p.token) ≡ true) × AreBehind p.token ps

abbrev pub closes : Token → Bool
closes (Sign mark.Comma) = true
closes (Sign mark.Close) = true
closes _ = false

-- pieces that begin with what stands behind an item of a list
abbrev pub Closed : List Piece → Type 0
Closed [] = ⊥
Closed (p ∷ ps) = (closes p.token ≡ true) × AreBehind p.token ps

-- BEHIND A MARK

-- no mark goes on with a name's byte
word_off : (m : Mark) (b : ℕ) → is_name_byte b ≡ true → is_begun (mark_text m ++ b ∷ []) ≡ false
word_off mark.Colon b h = let k : (b == 58) ≡ false = grind (arith, nat_tests, h) in rw k refl
word_off mark.Star b h = let k : (b == 42) ≡ false = grind (arith, nat_tests, h) in rw k refl
word_off mark.Assign b h = let k : (b == 61) ≡ false = grind (arith, nat_tests, h) in rw k refl
word_off mark.Slash b h = let k : (b == 61) ≡ false = grind (arith, nat_tests, h) in rw k refl
word_off mark.Less b h = let k : (b == 61) ≡ false = grind (arith, nat_tests, h) in rw k refl
word_off mark.Greater b h = let k : (b == 61) ≡ false = grind (arith, nat_tests, h) in rw k refl
word_off _ b h = refl

letter_byte : (b : ℕ) → is_ascii_lowercase b ≡ true → is_name_byte b ≡ true
letter_byte b h = grind (arith, nat_tests)

digit_byte : (b : ℕ) → is_ascii_digit b ≡ true → is_name_byte b ≡ true
digit_byte b h = grind (arith, nat_tests)

text_off : (m : Mark) (w s : List ℕ) (b : ℕ) (bs : List ℕ) → w ≡ b ∷ bs → is_name_byte b ≡ true → is_begun (mark_text m ++ first_byte (w ++ s) ∷ []) ≡ false
text_off m w s b bs e h = ap (λ w. is_begun (mark_text m ++ first_byte (w ++ s) ∷ [])) e ∙ word_off m b h

open_off : (m : Mark) → is_begun (mark_text m ++ 40 ∷ []) ≡ false
open_off mark.Open = refl
open_off _ = refl

plus_off : (m : Mark) → is_begun (mark_text m ++ 43 ∷ []) ≡ false
plus_off mark.Open = refl
plus_off _ = refl

minus_off : (m : Mark) → is_begun (mark_text m ++ 45 ∷ []) ≡ false
minus_off mark.Open = refl
minus_off _ = refl

point_off : (m : Mark) → is_begun (mark_text m ++ 46 ∷ []) ≡ false
point_off mark.Open = refl
point_off _ = refl

append-nil' : (xs : List ℕ) → xs ++ [] ≡ xs
append-nil' [] = refl
append-nil' (x ∷ xs) = ap (λ y. x ∷ y) (append-nil' xs)

mark_begins : (m : Mark) (t : Token) → IsToken t → begins t ≡ true → goes_on (Sign m) (first_byte (text_of t)) ≡ false
mark_begins m (Word name) h g =
    let n = name_named name h in
    ap (λ w. is_begun (mark_text m ++ first_byte w ∷ [])) (sym (append-nil' name)) ∙ text_off m name [] n.first n.others n.is (letter_byte n.first n.letter)
mark_begins m (Number n k) h g = let d = numeral n h in text_off m (decimal n) (suffix_text k) d.first d.others d.is (digit_byte d.first d.digit)
mark_begins m (Sign mark.Open) h g = open_off m
mark_begins m (Sign mark.Plus) h g = plus_off m
mark_begins m (Sign mark.Minus) h g = minus_off m
mark_begins m (Sign mark.Not) h g = point_off m
mark_begins m (Sign mark.True) h g = point_off m
mark_begins m (Sign mark.False) h g = point_off m
mark_begins m (Sign _) h g = absurd (true≢false (sym g))

off : (s : Bool) (t : Token) (b : ℕ) → goes_on t b ≡ false → (s || not (goes_on t b)) ≡ true
off s t b h = or_right s (not (goes_on t b)) (rw h refl)

pub mark_starts : (m : Mark) (k : List Piece) → Starts k → AreBehind (Sign m) k
mark_starts m [] h = absurd h
mark_starts m (p ∷ ps) h = (h.0, off p.spaced (Sign m) (first_byte (text_of p.token)) (mark_begins m p.token h.0 h.1), h.2)

-- BEHIND AN OPERAND'S LAST TOKEN

-- what an operand can end with
abbrev pub ends : Token → Bool
ends (Word name) = true
ends (Number n k) = true
ends (Sign mark.Close) = true
ends (Sign mark.True) = true
ends (Sign mark.False) = true
ends (Sign _) = false

no_name_mark : (m : Mark) → is_name_byte (first_byte (mark_text m)) ≡ false
no_name_mark mark.Open = refl
no_name_mark _ = refl

close_mark : (m : Mark) → is_begun (codes ")" ++ first_byte (mark_text m) ∷ []) ≡ false
close_mark mark.Open = refl
close_mark _ = refl

true_mark : (m : Mark) → is_begun (codes ".true." ++ first_byte (mark_text m) ∷ []) ≡ false
true_mark mark.Open = refl
true_mark _ = refl

false_mark : (m : Mark) → is_begun (codes ".false." ++ first_byte (mark_text m) ∷ []) ≡ false
false_mark mark.Open = refl
false_mark _ = refl

end_mark : (t : Token) (m : Mark) → ends t ≡ true → goes_on t (first_byte (mark_text m)) ≡ false
end_mark (Word name) m h = no_name_mark m
end_mark (Number n k) m h = no_name_mark m
end_mark (Sign mark.Close) m h = close_mark m
end_mark (Sign mark.True) m h = true_mark m
end_mark (Sign mark.False) m h = false_mark m
end_mark (Sign _) m h = absurd (true≢false (sym h))

end_off : (t u : Token) (s : Bool) → ends t ≡ true → (s || is_sign u) ≡ true → (s || not (goes_on t (first_byte (text_of u)))) ≡ true
end_off t u true h g = refl
end_off t (Word name) false h g = absurd (true≢false (sym g))
end_off t (Number n k) false h g = absurd (true≢false (sym g))
end_off t (Sign m) false h g = rw (end_mark t m h) refl

pub ends_follow : (t : Token) (k : List Piece) → ends t ≡ true → Follows k → AreBehind t k
ends_follow t [] h f = tt
ends_follow t (p ∷ ps) h f = (f.0, end_off t p.token p.spaced h f.1, f.2)

-- BEHIND ANY TOKEN

comma_mark : (m : Mark) → is_begun (mark_text m ++ 44 ∷ []) ≡ false
comma_mark mark.Open = refl
comma_mark _ = refl

comma_off : (t : Token) → goes_on t 44 ≡ false
comma_off (Word name) = refl
comma_off (Number n k) = refl
comma_off (Sign m) = comma_mark m

close_mark_off : (m : Mark) → is_begun (mark_text m ++ 41 ∷ []) ≡ false
close_mark_off mark.Open = refl
close_mark_off _ = refl

close_off : (t : Token) → goes_on t 41 ≡ false
close_off (Word name) = refl
close_off (Number n k) = refl
close_off (Sign m) = close_mark_off m

closed_by : (t u : Token) → closes u ≡ true → IsToken u × (goes_on t (first_byte (text_of u)) ≡ false) × (is_sign u ≡ true)
closed_by t (Sign mark.Comma) h = (tt, comma_off t, refl)
closed_by t (Sign mark.Close) h = (tt, close_off t, refl)
closed_by t _ h = absurd (true≢false (sym h))

pub closed : (t : Token) (k : List Piece) → Closed k → AreBehind t k
closed t [] h = absurd h
closed t (p ∷ ps) h = let q = closed_by t p.token h.0 in (q.0, off p.spaced t (first_byte (text_of p.token)) q.1, h.1)

pub closed_follows : (k : List Piece) → Closed k → Follows k
closed_follows [] h = absurd h
closed_follows (p ∷ ps) h = let q = closed_by p.token p.token h.0 in (q.0, or_right p.spaced (is_sign p.token) q.2, h.1)

-- BEHIND A BLANK

pub spaced_off : (t u : Token) (ps : List Piece) → IsToken u → AreBehind u ps → AreBehind t (record { spaced = true; token = u } ∷ ps)
spaced_off t u ps h b = (h, refl, b)
