-- Texts that are tokens.
use Rattle.std.proofs.Common.{◌≡◌, ℕ, ◌<◌, ◌^◌, List, [], ◌∷◌, ◌++◌, true, ◌&&◌, ◌||◌, nat_lt, nat_le, map, length, take, drop, decimal, Option, None, Some, refl, ap, ◌∙◌, arith, bytes_eq}
use lib.Seq.{take-append_seam, drop-append_seam}
use Rattle.std.specs.List.{list_all}
use Rattle.std.specs.Char.{to_ascii_lowercase}
use Rattle.std.specs.Str.Parse.{digits_value}
use Rattle.std.proofs.lemmas.Bool.{and_parts, and_from, or_left, or_right}
use Rattle.std.proofs.lemmas.Bool.Decides.{nat_tests}
use Rattle.std.proofs.lemmas.Fmt.{decimal_is_IsNumeral, decimal_nonempty}
use Rattle.std.proofs.lemmas.Slice.Eq.{bytes_eq-Decides}
use Rattle.fort_arith.specs.declared.kind.Kind.{Kind}
use Rattle.fort_arith.specs.declared.kind.Kind.TheVariants as kind
use Rattle.fort_tree.specs.declared.statement.Token.{Token}
use Rattle.fort_tree.specs.declared.statement.Line.{Line}
use Rattle.fort_tree.specs.Name.{is_name, lowercase}
use Rattle.fort_tree.specs.Token.{is_token, is_number, is_one_of, kind_suffixes, dotted_words, operators, sentinels}
use Rattle.fort_tokens.specs.Reads.{Word as Read, word_of}
use Rattle.fort_spell.specs.declared.mark.Mark.{Mark}
use Rattle.fort_spell.specs.declared.mark.Mark.TheVariants as mark
use Rattle.fort_spell.specs.Text.{mark_text, suffix_text}
use Rattle.fort_spell.specs.Pieces.{Token as Spelled, Word, Number, Sign, text_of, Piece}
use Rattle.fort_tree.specs.declared.choice.Mode.TheVariants.{Target}
use Rattle.fort_spell.specs.declared.line.Sentinel.{Sentinel}
use Rattle.fort_spell.specs.declared.line.Sentinel.TheVariants as sentinel
use Rattle.fort_spell.specs.Rows.{Row}
use Rattle.fort_lex.specs.Lines.{Written, written}
use Rattle.layout_reading.specs.Readable.{IsToken, AreBehind, ArePieces, AreReadable}
use Rattle.layout_reading.specs.Shown.{Shown, shown, sentinel_words, line_of}
use Rattle.layout_reading.proofs.Texts.{is_ink, token_ink}
use Rattle.layout_reading.proofs.Numbers.{number_text, count_back}

ink_lower : (b : ℕ) → is_ink b ≡ true → to_ascii_lowercase b ≡ b
ink_lower b h = grind (arith, nat_tests)

inks_lower : (text : List ℕ) → list_all is_ink text ≡ true → lowercase text ≡ text
inks_lower [] h = refl
inks_lower (b ∷ text) h =
    let k = and_parts (is_ink b) (list_all is_ink text) h in
    ap (λ c. c ∷ lowercase text) (ink_lower b k.0) ∙ ap (λ x. b ∷ x) (inks_lower text k.1)

mark_token : (m : Mark) → (is_name (mark_text m) || (is_number (mark_text m) || (is_one_of dotted_words (mark_text m) || (is_one_of operators (mark_text m) || is_one_of sentinels (mark_text m))))) ≡ true
mark_token mark.Open = refl
mark_token _ = refl

suffix_known : (k : Option Kind) → is_one_of kind_suffixes (suffix_text k) ≡ true
suffix_known None = refl
suffix_known (Some kind.I1) = refl
suffix_known (Some _) = refl

number_token : (n : ℕ) (k : Option Kind) → n < 2 ^ 63 → is_number (number_text n k) ≡ true
number_token n k h =
    let text : List ℕ = number_text n k in
    let some : nat_lt 0 (length (decimal n)) ≡ true = grind (arith, nat_tests, decimal_nonempty n (omega (arith, h))) in
    let value : digits_value 10 (decimal n) ≡ n = (decimal_is_IsNumeral n (omega (arith, h))).1 in
    let small : nat_le (digits_value 10 (decimal n)) 9223372036854775807 ≡ true = grind (arith, nat_tests, value, h) in
    ap (λ i. nat_lt 0 i && (nat_le (digits_value 10 (take i text)) 9223372036854775807 && is_one_of kind_suffixes (drop i text))) (count_back n k h)
    ∙ and_from (nat_lt 0 (length (decimal n))) _ some
    (ap (λ x. nat_le (digits_value 10 x) 9223372036854775807 && is_one_of kind_suffixes (drop (length (decimal n)) text)) (take-append_seam (decimal n) (suffix_text k))
    ∙ and_from (nat_le (digits_value 10 (decimal n)) 9223372036854775807) _ small (ap (is_one_of kind_suffixes) (drop-append_seam (decimal n) (suffix_text k)) ∙ suffix_known k))

some_form : (t : Spelled) → IsToken t → (is_name (text_of t) || (is_number (text_of t) || (is_one_of dotted_words (text_of t) || (is_one_of operators (text_of t) || is_one_of sentinels (text_of t))))) ≡ true
some_form (Word name) h = or_left (is_name name) _ h.form
some_form (Number n k) h = or_right (is_name (number_text n k)) _ (or_left (is_number (number_text n k)) _ (number_token n k h))
some_form (Sign m) h = mark_token m

pub is_whole : (t : Spelled) → IsToken t → is_token (text_of t) ≡ true
is_whole t h = and_from (bytes_eq (lowercase (text_of t)) (text_of t)) _ ((bytes_eq-Decides (lowercase (text_of t)) (text_of t)).1 (inks_lower (text_of t) (token_ink t h))) (some_form t h)

behind_whole : (t : Spelled) (ps : List Piece) → AreBehind t ps → list_all is_token (map (λ (p : Piece). text_of p.token) ps) ≡ true
behind_whole t [] h = refl
behind_whole t (p ∷ ps) h = and_from (is_token (text_of p.token)) _ (is_whole p.token h.0) (behind_whole p.token ps h.2)

pub pieces_whole : (ps : List Piece) → ArePieces ps → list_all is_token (map (λ (p : Piece). text_of p.token) ps) ≡ true
pieces_whole [] h = absurd h
pieces_whole (p ∷ ps) h = and_from (is_token (text_of p.token)) _ (is_whole p.token h.0) (behind_whole p.token ps h.1)

-- words that are tokens, as tokens
pub words_whole : (ws : List Read) → list_all is_token (map (λ (w : Read). w.text) ws) ≡ true → (ts : List Token) × (map word_of ts ≡ ws)
words_whole [] h = ([], refl)
words_whole (w ∷ ws) h =
    let k = and_parts (is_token w.text) (list_all is_token (map (λ (w : Read). w.text) ws)) h in
    let r = words_whole ws k.1 in
    (record { text = w.text; at = w.at; whole = k.0 } ∷ r.0, ap (λ x. w ∷ x) r.1)

sentinel_whole : (s : Sentinel) → list_all is_token (sentinel_words s) ≡ true
sentinel_whole sentinel.Absent = refl
sentinel_whole _ = refl

all_append : (k l : List (List ℕ)) → list_all is_token k ≡ true → list_all is_token l ≡ true → list_all is_token (k ++ l) ≡ true
all_append [] l h g = g
all_append (x ∷ k) l h g = let p = and_parts (is_token x) (list_all is_token k) h in and_from (is_token x) _ p.0 (all_append k l p.1 g)

pub first_shown : {a b : Shown} {k l : List Shown} → a ∷ k ≡ b ∷ l → a ≡ b
first_shown e = cc

pub others_shown : {a b : Shown} {k l : List Shown} → a ∷ k ≡ b ∷ l → k ≡ l
others_shown e = cc

-- a line of tokens that is written so
line_whole : (row : Row) (w : Written) → ArePieces row.pieces → shown w ≡ line_of Target row → (l : Line) × (written l ≡ w)
line_whole row w h e =
    let texts : list_all is_token (map (λ (r : Read). r.text) w.words) ≡ true =
    ap (λ (s : Shown). list_all is_token s.texts) e ∙ all_append (sentinel_words row.margin.sentinel) (map (λ (p : Piece). text_of p.token) row.pieces) (sentinel_whole row.margin.sentinel) (pieces_whole row.pieces h) in
    let ts = words_whole w.words texts in (
      record { at = w.at; mode = w.mode; directive = w.directive; unfinished = w.unfinished; within = w.within; tokens = ts.0 },
      ap (λ x. record { at = w.at; mode = w.mode; directive = w.directive; unfinished = w.unfinished; within = w.within; words = x }) ts.1,
    )

pub lines_whole : (rows : List Row) (ws : List Written) → AreReadable rows → map shown ws ≡ map (line_of Target) rows → (ls : List Line) × (map written ls ≡ ws)
lines_whole [] [] h e = ([], refl)
lines_whole [] (w ∷ ws) h e = absurd cc
lines_whole (row ∷ rows) [] h e = absurd cc
lines_whole (row ∷ rows) (w ∷ ws) h e =
    let l = line_whole row w h.0.pieces (first_shown e) in
    let r = lines_whole rows ws h.1 (others_shown e) in (l.0 ∷ r.0, ap (λ x. x ∷ map written r.0) l.1 ∙ ap (λ x. w ∷ x) r.1)
