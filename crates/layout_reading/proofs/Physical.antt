-- The physical lines of a row, and what is seen of each by itself.
use Rattle.std.proofs.Common.{◌≡◌, ℕ, zero, suc, ◌+◌, ◌-◌, ◌≤◌, Bool, true, false, ◌&&◌, ◌||◌, not, nat_lt, nat_eq, ◌==◌, List, [], ◌∷◌, ◌++◌, length, take, drop, codes, Some, None, slice_index, unwrap_or, position, bytes_eq, refl, sym, ap, ◌∙◌, arith, append_assoc, length-append, get_or}
use Rattle.std.proofs.lemmas.Bool.{and_parts, and_left, and_right}
use Rattle.std.proofs.lemmas.Bool.Decides.{nat_tests}
use Rattle.std.proofs.lemmas.List.{append-nil}
use lib.Seq.{take-length, drop-append_seam}
use Rattle.std.specs.List.{list_all, prefix_len, position_or_len}
use Rattle.std.specs.Char.{to_ascii_lowercase}
use Rattle.fort_spell.specs.declared.line.Margin.{Margin}
use Rattle.fort_lex.specs.declared.sentinel.Sentinel.{Sentinel}
use Rattle.fort_lex.specs.declared.sentinel.Sentinel.TheVariants.{Omp, Acc}
use Rattle.fort_tree.specs.Name.{lowercase}
use Rattle.fort_spell.specs.Text.{margin_text}
use Rattle.fort_lex.specs.Rows.{lines_from, without_return, is_gap, indent, word_of_sentinel, begins_with_word, sentinel_at_front, sentinel_of, start, start_as, comment_start, code, statement, directive, row, row_as, place, placed, is_bad, bad_bytes, too_long, byte_faults}
use Rattle.layout_reading.proofs.Texts.{is_ink, is_plain, all_append, all_under}
use Rattle.layout_reading.proofs.Cutting.{blanks}
use Rattle.layout_reading.proofs.Laying.{broken}

-- LINES

abbrev pub text_lines : List ℕ → List ℕ → List ℕ → List (List ℕ) → List (List ℕ)
text_lines first more x [] = (first ++ x) ∷ []
text_lines first more x (z ∷ zs) = (first ++ (x ++ codes " &")) ∷ text_lines more more z zs

-- a byte that ends no line and is not dropped at its end
abbrev pub in_line : ℕ → Bool
in_line b = not (b == 10) && not (b == 13)

not-true : (a : Bool) → not a ≡ true → a ≡ false
not-true true h = sym h
not-true false h = refl

no_return : (xs : List ℕ) (i : ℕ) → list_all in_line xs ≡ true → (get_or xs i 0 == 13) ≡ false
no_return [] i h = refl
no_return (b ∷ xs) zero h = not-true (b == 13) (and_parts (not (b == 10)) (not (b == 13)) (and_parts (in_line b) (list_all in_line xs) h).0).1
no_return (b ∷ xs) (suc i) h = no_return xs i (and_parts (in_line b) (list_all in_line xs) h).1

kept : (line : List ℕ) → list_all in_line line ≡ true → without_return line ≡ line
kept line h = rw (no_return line (length line - 1) h) refl

line_goes : (b : ℕ) (front rest : List ℕ) → in_line b ≡ true → lines_from front (b ∷ rest) ≡ lines_from (front ++ b ∷ []) rest
line_goes b front rest h = let k : (b == 10) ≡ false = not-true (b == 10) (and_parts (not (b == 10)) (not (b == 13)) h).0 in rw k refl

line_cut : (front w rest : List ℕ) → list_all in_line w ≡ true → lines_from front (w ++ 10 ∷ rest) ≡ without_return (front ++ w) ∷ lines_from [] rest
line_cut front [] rest h = ap (λ x. without_return x ∷ lines_from [] rest) (sym (append-nil front))
line_cut front (b ∷ w) rest h =
    let k = and_parts (in_line b) (list_all in_line w) h in
    line_goes b front (w ++ 10 ∷ rest) k.0 ∙ line_cut (front ++ b ∷ []) w rest k.1 ∙ ap (λ x. without_return x ∷ lines_from [] rest) (append_assoc front (b ∷ []) w)

one_line : (w rest : List ℕ) → list_all in_line w ≡ true → lines_from [] (w ++ 10 ∷ rest) ≡ w ∷ lines_from [] rest
one_line w rest h = line_cut [] w rest h ∙ ap (λ x. x ∷ lines_from [] rest) (kept w h)

abbrev pub AllInLine : List (List ℕ) → Type 0
AllInLine [] = Unit {0}
AllInLine (z ∷ zs) = (list_all in_line z ≡ true) × AllInLine zs

last_shape : (a x rest : List ℕ) → (a ++ (x ++ 10 ∷ [])) ++ rest ≡ (a ++ x) ++ 10 ∷ rest
last_shape a x rest = append_assoc a (x ++ 10 ∷ []) rest ∙ ap (λ y. a ++ y) (append_assoc x (10 ∷ []) rest) ∙ sym (append_assoc a x (10 ∷ rest))

more_shape : (a x d rest : List ℕ) → (a ++ (x ++ (32 ∷ 38 ∷ 10 ∷ d))) ++ rest ≡ (a ++ (x ++ 32 ∷ 38 ∷ [])) ++ 10 ∷ (d ++ rest)
more_shape a x d rest =
    append_assoc a (x ++ (32 ∷ 38 ∷ 10 ∷ d)) rest ∙ ap (λ y. a ++ y) (append_assoc x (32 ∷ 38 ∷ 10 ∷ d) rest ∙ sym (append_assoc x (32 ∷ 38 ∷ []) (10 ∷ (d ++ rest)))) ∙ sym (append_assoc a (x ++ 32 ∷ 38 ∷ []) (10 ∷ (d ++ rest)))

pub lines_row : (m : Margin) (first x : List ℕ) (zs : List (List ℕ)) (rest : List ℕ) → list_all in_line first ≡ true → list_all in_line (margin_text m) ≡ true → list_all in_line x ≡ true → AllInLine zs →
    lines_from [] ((first ++ broken m x zs) ++ rest) ≡ text_lines first (margin_text m) x zs ++ lines_from [] rest
lines_row m first x [] rest f g h k = ap (lines_from []) (last_shape first x rest) ∙ one_line (first ++ x) rest (all_append in_line first x f h)
lines_row m first x (z ∷ zs) rest f g h k =
    ap (lines_from []) (more_shape first x (margin_text m ++ broken m z zs) rest) ∙
    one_line (first ++ (x ++ 32 ∷ 38 ∷ [])) ((margin_text m ++ broken m z zs) ++ rest) (all_append in_line first (x ++ 32 ∷ 38 ∷ []) f (all_append in_line x (32 ∷ 38 ∷ []) h refl)) ∙
    ap (λ y. (first ++ (x ++ 32 ∷ 38 ∷ [])) ∷ y) (lines_row m (margin_text m) z zs rest g g k.0 k.1)

-- THE FRONT OF A LINE

-- no gap, no `!`, and no upper-case letter
pub ink_no_gap : (b : ℕ) → is_ink b ≡ true → is_gap b ≡ false
ink_no_gap b h = grind (arith, nat_tests)

prefix_at : (p : ℕ → Bool) (k : ℕ) (b : ℕ) (y : List ℕ) → p 32 ≡ true → p b ≡ false → prefix_len p (blanks k ++ b ∷ y) ≡ k
prefix_at p zero b y h g = rw g refl
prefix_at p (suc k) b y h g = rw h (ap (λ n. 1 + n) (prefix_at p k b y h g) ∙ omega arith)

length_front : (k b : ℕ) (y : List ℕ) → nat_lt k (length (blanks k ++ b ∷ y)) ≡ true
length_front zero b y = grind (arith, nat_tests)
length_front (suc k) b y = let h : nat_lt k (length (blanks k ++ b ∷ y)) ≡ true = length_front k b y in grind (arith, nat_tests, h)

indent_at : (k b : ℕ) (y : List ℕ) → is_gap b ≡ false → indent (blanks k ++ b ∷ y) ≡ k
indent_at k b y h =
    let e : position_or_len (λ b. not (is_gap b)) (blanks k ++ b ∷ y) ≡ k = prefix_at (λ b. not (not (is_gap b))) k b y refl (rw h refl) in
    rw (e, length_front k b y) refl

drop_blanks : (k : ℕ) (y : List ℕ) → drop k (blanks k ++ y) ≡ y
drop_blanks zero y = refl
drop_blanks (suc k) y = drop_blanks k y

-- BYTES OUTSIDE COMMENTS

-- ink, a blank, or `&`
abbrev pub in_text : ℕ → Bool
in_text b = is_plain b || b == 38

text_no_comment : (b : ℕ) → in_text b ≡ true → (b == 33) ≡ false
text_no_comment b h = grind (arith, nat_tests)

text_no_bad : (b : ℕ) → in_text b ≡ true → is_bad b ≡ false
text_no_bad b h = grind (arith, nat_tests)

pub text_in_line : (b : ℕ) → in_text b ≡ true → in_line b ≡ true
text_in_line b h = grind (arith, nat_tests)

prefix_all : (p : ℕ → Bool) (xs : List ℕ) → list_all p xs ≡ true → prefix_len p xs ≡ length xs
prefix_all p [] h = refl
prefix_all p (x ∷ xs) h =
    let k = and_parts (p x) (list_all p xs) h in
    rw k.0 (ap (λ n. 1 + n) (prefix_all p xs k.1) ∙ omega arith)

all_no_comment : (xs : List ℕ) → list_all in_text xs ≡ true → list_all (λ b. not (b == 33)) xs ≡ true
all_no_comment xs h = all_under in_text (λ b. not (b == 33)) (λ b g. rw (text_no_comment b g) refl) xs h

lt_self : (n : ℕ) → nat_lt n n ≡ false
lt_self n = grind (arith, nat_tests)

no_position : (xs : List ℕ) → list_all in_text xs ≡ true → position (λ b. b == 33) xs ≡ None
no_position xs h =
    let e : position_or_len (λ b. b == 33) xs ≡ length xs = prefix_all (λ b. not (b == 33)) xs (all_no_comment xs h) in
    rw (e, lt_self (length xs)) refl

-- no comment begins behind this byte
no_comment : (from : ℕ) (line : List ℕ) → list_all in_text (drop from line) ≡ true → from ≤ length line → take (comment_start from line) line ≡ line
no_comment from line h k =
    let e : comment_start from line ≡ length line = ap (λ o. from + unwrap_or o (length line - from)) (no_position (drop from line) h) ∙ omega (arith, k) in
    ap (λ n. take n line) e ∙ take-length line

no_bad : (f n k : ℕ) (xs : List ℕ) → list_all (λ b. not (is_bad b)) xs ≡ true → bad_bytes f n k xs ≡ []
no_bad f n k [] h = refl
no_bad f n k (b ∷ xs) h =
    let g = and_parts (not (is_bad b)) (list_all (λ b. not (is_bad b)) xs) h in rw (not-true (is_bad b) g.0) (no_bad f n (k + 1) xs g.1)

not_long : (f n : ℕ) (xs : List ℕ) → length xs ≤ 132 → too_long f n xs ≡ []
not_long f n xs h = let k : nat_lt 132 (length xs) ≡ false = grind (arith, nat_tests, h) in rw k refl

pub faultless : (f n : ℕ) (l : List ℕ) (ls : List (List ℕ)) → code l ≡ l → list_all (λ b. not (is_bad b)) l ≡ true → length l ≤ 132 → byte_faults f n (l ∷ ls) ≡ byte_faults f (n + 1) ls
faultless f n l ls c h k = rw (c, no_bad f n 1 l h, not_long f n l k) refl

-- A STATEMENT'S LINE

third : (x y z : Bool) → z ≡ false → (x && (y && z)) ≡ false
third x y z h = and_right x (y && z) (and_right y z h)

other_bytes : (s : List ℕ) (b : ℕ) (y : List ℕ) → is_ink b ≡ true → bytes_eq (lowercase (b ∷ y)) (33 ∷ s) ≡ false
other_bytes s b y h = let k : nat_eq (to_ascii_lowercase b) 33 ≡ false = grind (arith, nat_tests, h) in and_left (nat_eq (to_ascii_lowercase b) 33) _ k

other_at : (s : List ℕ) (b : ℕ) (y : List ℕ) → is_ink b ≡ true → begins_with_word (33 ∷ s) (b ∷ y) ≡ false
other_at s b y h = third _ _ _ (other_bytes (lowercase s) b (take (length s) y) h)

no_sentinel : (b : ℕ) (y : List ℕ) → is_ink b ≡ true → sentinel_at_front (b ∷ y) ≡ None
no_sentinel b y h = rw (other_at (codes "$claw") b y h, other_at (codes "$omp") b y h, other_at (codes "$acc") b y h) refl

statement_sentinel : (k b : ℕ) (y : List ℕ) → is_ink b ≡ true → sentinel_of (blanks k ++ b ∷ y) ≡ None
statement_sentinel k b y h =
    ap (λ n. sentinel_at_front (drop n (blanks k ++ b ∷ y))) (indent_at k b y (ink_no_gap b h)) ∙ ap sentinel_at_front (drop_blanks k (b ∷ y)) ∙ no_sentinel b y h

blanks_text : (k : ℕ) → list_all in_text (blanks k) ≡ true
blanks_text zero = refl
blanks_text (suc k) = blanks_text k

statement_code : (k b : ℕ) (y : List ℕ) → is_ink b ≡ true → list_all in_text (b ∷ y) ≡ true → code (blanks k ++ b ∷ y) ≡ blanks k ++ b ∷ y
statement_code k b y h g =
    let l : List ℕ = blanks k ++ b ∷ y in
    ap (λ o. take (comment_start (start_as o l) l) l) (statement_sentinel k b y h) ∙ no_comment 0 l (all_append in_text (blanks k) (b ∷ y) (blanks_text k) g) (omega arith)

pub statement_row : (f n k b : ℕ) (y : List ℕ) → is_ink b ≡ true → list_all in_text (b ∷ y) ≡ true → row f n (blanks k ++ b ∷ y) ≡ statement (placed f n 1 (blanks k ++ b ∷ y))
statement_row f n k b y h g =
    let l : List ℕ = blanks k ++ b ∷ y in
    ap (λ o. row_as o (place f n (indent l + 1)) (placed f n (start_as o l + 1) (drop (start_as o l) (code l)))) (statement_sentinel k b y h) ∙ ap (λ c. statement (placed f n 1 c)) (statement_code k b y h g)

pub statement_faultless : (f n k b : ℕ) (y : List ℕ) (ls : List (List ℕ)) → is_ink b ≡ true → list_all in_text (b ∷ y) ≡ true → length (blanks k ++ b ∷ y) ≤ 132 →
    byte_faults f n ((blanks k ++ b ∷ y) ∷ ls) ≡ byte_faults f (n + 1) ls
statement_faultless f n k b y ls h g l =
    faultless f n (blanks k ++ b ∷ y) ls (statement_code k b y h g)
    (all_under in_text (λ b. not (is_bad b)) (λ b e. rw (text_no_bad b e) refl) (blanks k ++ b ∷ y) (all_append in_text (blanks k) (b ∷ y) (blanks_text k) g)) l

-- A MARK'S LINE

-- A mark begins with its sentinel and a blank.
pub record Leads (s : Sentinel) : Type 0 where
  pub found : (y : List ℕ) → sentinel_at_front (word_of_sentinel s ++ 32 ∷ y) ≡ Some s
  pub others : List ℕ
  pub begins : word_of_sentinel s ≡ 33 ∷ others
  pub ends : length (word_of_sentinel s) ≡ 5
  pub right : list_all (λ b. not (is_bad b)) (word_of_sentinel s) ≡ true
  pub within : list_all in_line (word_of_sentinel s) ≡ true

first_of : (x : Bool) → x ≡ true → (x && true) ≡ true
first_of x h = rw h refl

omp_found : (y : List ℕ) → sentinel_at_front (codes "!$omp" ++ 32 ∷ y) ≡ Some Omp
omp_found y =
    let l : List ℕ = codes "!$omp" ++ 32 ∷ y in
    let a : begins_with_word (codes "!$claw") l ≡ false = third (nat_lt 6 (length l)) (is_gap (slice_index l 6)) false refl in
    let b : nat_lt 5 (length l) ≡ true = grind (arith, nat_tests) in
    let c : begins_with_word (codes "!$omp") l ≡ true = first_of _ b in rw (a, c) refl

acc_found : (y : List ℕ) → sentinel_at_front (codes "!$acc" ++ 32 ∷ y) ≡ Some Acc
acc_found y =
    let l : List ℕ = codes "!$acc" ++ 32 ∷ y in
    let a : begins_with_word (codes "!$claw") l ≡ false = third (nat_lt 6 (length l)) (is_gap (slice_index l 6)) false refl in
    let d : begins_with_word (codes "!$omp") l ≡ false = third (nat_lt 5 (length l)) (is_gap (slice_index l 5)) false refl in
    let b : nat_lt 5 (length l) ≡ true = grind (arith, nat_tests) in
    let c : begins_with_word (codes "!$acc") l ≡ true = first_of _ b in rw (a, d, c) refl

pub omp_leads : Leads Omp
omp_leads = record {
  found = omp_found;
  others = codes "$omp";
  begins = refl;
  ends = refl;
  right = refl;
  within = refl;
}

pub acc_leads : Leads Acc
acc_leads = record {
  found = acc_found;
  others = codes "$acc";
  begins = refl;
  ends = refl;
  right = refl;
  within = refl;
}

pub length_blanks : (n : ℕ) → length (blanks n) ≡ n
length_blanks zero = refl
length_blanks (suc n) = ap suc (length_blanks n)

mark_indent : (s : Sentinel) (k : ℕ) (y : List ℕ) → Leads s → indent (blanks k ++ (word_of_sentinel s ++ 32 ∷ y)) ≡ k
mark_indent s k y m = ap (λ w. indent (blanks k ++ (w ++ 32 ∷ y))) m.begins ∙ indent_at k 33 (m.others ++ 32 ∷ y) refl

mark_sentinel : (s : Sentinel) (k : ℕ) (y : List ℕ) → Leads s → sentinel_of (blanks k ++ (word_of_sentinel s ++ 32 ∷ y)) ≡ Some s
mark_sentinel s k y m =
    ap (λ n. sentinel_at_front (drop n (blanks k ++ (word_of_sentinel s ++ 32 ∷ y)))) (mark_indent s k y m) ∙ ap sentinel_at_front (drop_blanks k (word_of_sentinel s ++ 32 ∷ y)) ∙ m.found y

mark_start : (s : Sentinel) (k : ℕ) (y : List ℕ) → Leads s → start (blanks k ++ (word_of_sentinel s ++ 32 ∷ y)) ≡ k + 5
mark_start s k y m =
    let l : List ℕ = blanks k ++ (word_of_sentinel s ++ 32 ∷ y) in
    ap (λ o. start_as o l) (mark_sentinel s k y m) ∙ ap (λ n. n + length (word_of_sentinel s)) (mark_indent s k y m) ∙ ap (λ n. k + n) m.ends

mark_front : (s : Sentinel) (k : ℕ) → Leads s → length (blanks k ++ word_of_sentinel s) ≡ k + 5
mark_front s k m = length-append (blanks k) (word_of_sentinel s) ∙ ap (λ n. n + length (word_of_sentinel s)) (length_blanks k) ∙ ap (λ n. k + n) m.ends

mark_drop : (s : Sentinel) (k : ℕ) (y : List ℕ) → Leads s → drop (k + 5) (blanks k ++ (word_of_sentinel s ++ 32 ∷ y)) ≡ 32 ∷ y
mark_drop s k y m =
    ap (λ n. drop n (blanks k ++ (word_of_sentinel s ++ 32 ∷ y))) (sym (mark_front s k m))
    ∙ ap (drop (length (blanks k ++ word_of_sentinel s))) (sym (append_assoc (blanks k) (word_of_sentinel s) (32 ∷ y)))
    ∙ drop-append_seam (blanks k ++ word_of_sentinel s) (32 ∷ y)

mark_length : (s : Sentinel) (k : ℕ) (y : List ℕ) → Leads s → k + 5 ≤ length (blanks k ++ (word_of_sentinel s ++ 32 ∷ y))
mark_length s k y m =
    let e : length (blanks k ++ (word_of_sentinel s ++ 32 ∷ y)) ≡ k + 5 + length (32 ∷ y) =
    ap length (sym (append_assoc (blanks k) (word_of_sentinel s) (32 ∷ y))) ∙ length-append (blanks k ++ word_of_sentinel s) (32 ∷ y) ∙ ap (λ n. n + length (32 ∷ y)) (mark_front s k m) in
    omega (arith, e)

mark_code : (s : Sentinel) (k : ℕ) (y : List ℕ) → Leads s → list_all in_text y ≡ true → code (blanks k ++ (word_of_sentinel s ++ 32 ∷ y)) ≡ blanks k ++ (word_of_sentinel s ++ 32 ∷ y)
mark_code s k y m h =
    let l : List ℕ = blanks k ++ (word_of_sentinel s ++ 32 ∷ y) in
    ap (λ n. take (comment_start n l) l) (mark_start s k y m) ∙ no_comment (k + 5) l (ap (list_all in_text) (mark_drop s k y m) ∙ h) (mark_length s k y m)

pub mark_row : (f n : ℕ) (s : Sentinel) (k : ℕ) (y : List ℕ) → Leads s → list_all in_text y ≡ true →
    row f n (blanks k ++ (word_of_sentinel s ++ 32 ∷ y)) ≡ directive s (place f n (k + 1)) (placed f n (k + 5 + 1) (32 ∷ y))
mark_row f n s k y m h =
    let l : List ℕ = blanks k ++ (word_of_sentinel s ++ 32 ∷ y) in
    ap (λ o. row_as o (place f n (indent l + 1)) (placed f n (start l + 1) (drop (start l) (code l)))) (mark_sentinel s k y m)
    ∙ ap (λ i. directive s (place f n (i + 1)) (placed f n (start l + 1) (drop (start l) (code l)))) (mark_indent s k y m)
    ∙ ap (λ c. directive s (place f n (k + 1)) (placed f n (start l + 1) (drop (start l) c))) (mark_code s k y m h)
    ∙ ap (λ i. directive s (place f n (k + 1)) (placed f n (i + 1) (drop i l))) (mark_start s k y m)
    ∙ ap (λ z. directive s (place f n (k + 1)) (placed f n (k + 5 + 1) z)) (mark_drop s k y m)

all_right : (xs : List ℕ) → list_all in_text xs ≡ true → list_all (λ b. not (is_bad b)) xs ≡ true
all_right xs h = all_under in_text (λ b. not (is_bad b)) (λ b e. rw (text_no_bad b e) refl) xs h

pub mark_faultless : (f n : ℕ) (s : Sentinel) (k : ℕ) (y : List ℕ) (ls : List (List ℕ)) → Leads s → list_all in_text y ≡ true → length (blanks k ++ (word_of_sentinel s ++ 32 ∷ y)) ≤ 132 →
    byte_faults f n ((blanks k ++ (word_of_sentinel s ++ 32 ∷ y)) ∷ ls) ≡ byte_faults f (n + 1) ls
mark_faultless f n s k y ls m h l =
    faultless f n (blanks k ++ (word_of_sentinel s ++ 32 ∷ y)) ls (mark_code s k y m h)
    (all_append (λ b. not (is_bad b)) (blanks k) (word_of_sentinel s ++ 32 ∷ y) (all_right (blanks k) (blanks_text k)) (all_append (λ b. not (is_bad b)) (word_of_sentinel s) (32 ∷ y) m.right (all_right (32 ∷ y) h))) l
