-- The lines of a row are joined to one text.
use Rattle.std.proofs.Common.{◌≡◌, ℕ, zero, suc, ◌+◌, ◌<◌, Bool, true, false, cond, ◌&&◌, not, nat_le, nat_lt, nat_eq, ◌==◌, List, [], ◌∷◌, ◌++◌, length, drop, codes, Option, Some, None, unwrap_or, refl, sym, ap, ◌∙◌, subst, arith, append_assoc}
use Rattle.std.proofs.lemmas.Bool.{and_parts, and_from, or_left}
use Rattle.std.proofs.lemmas.Bool.Decides.{nat_tests}
use Rattle.std.proofs.lemmas.List.{append-nil}
use Rattle.std.proofs.lemmas.List.Folds.{list_all-append}
use Rattle.std.specs.List.{list_all, prefix_len, position_or_len}
use Rattle.fort_tree.specs.declared.place.Place.{Place}
use Rattle.fort_tokens.specs.declared.character.Char.{Char}
use Rattle.fort_tree.specs.declared.choice.Mode.{Mode}
use Rattle.fort_tree.specs.declared.fault.Fault.{Fault}
use Rattle.fort_tokens.specs.Reads.{bytes}
use Rattle.fort_lex.specs.Rows.{Row, statement, row, rows, place, placed, blanked}
use Rattle.fort_lex.specs.Joined.{is_blank, all_blank, Part, mark_off, blank_at, without_blanks, continuing_at, continuing, next_part, Statement, joined, statement_at, statement_texts, open_after}
use Rattle.fort_lex.specs.Lines.{Written, DirectiveLines, passed_over}
use Rattle.layout_reading.proofs.Texts.{is_ink, is_plain, ink_plain, all_append, all_under}
use Rattle.layout_reading.proofs.Cutting.{blanks}
use Rattle.layout_reading.proofs.Laying.{behind, Segment, Segments}
use Rattle.layout_reading.proofs.Physical.{text_lines, in_text, statement_row}

-- CHARACTERS

text_blanked : (b : ℕ) → in_text b ≡ true → blanked b ≡ b
text_blanked b h = let k : (b == 9) ≡ false = grind (arith, nat_tests, h) in rw k refl

pub plain_text : (b : ℕ) → is_plain b ≡ true → in_text b ≡ true
plain_text b h = or_left (is_plain b) (b == 38) h

plain_no_mark : (b : ℕ) → is_plain b ≡ true → (blanked b == 38) ≡ false
plain_no_mark b h = let k : (b == 38) ≡ false = grind (arith, nat_tests, h) in ap (λ c. c == 38) (text_blanked b (plain_text b h)) ∙ k

pub plains_text : (w : List ℕ) → list_all is_plain w ≡ true → list_all in_text w ≡ true
plains_text w h = all_under is_plain in_text plain_text w h

pub placed_bytes : (f n j : ℕ) (w : List ℕ) → list_all in_text w ≡ true → bytes (placed f n j w) ≡ w
placed_bytes f n j [] h = refl
placed_bytes f n j (b ∷ w) h =
    let k = and_parts (in_text b) (list_all in_text w) h in
    ap (λ c. c ∷ bytes (placed f n (j + 1) w)) (text_blanked b k.0) ∙ ap (λ x. b ∷ x) (placed_bytes f n (j + 1) w k.1)

pub placed_lines : (P : Place → Bool) (f n j : ℕ) (w : List ℕ) → ((k : ℕ) → P (place f n k) ≡ true) → list_all (λ (c : Char). P c.at) (placed f n j w) ≡ true
placed_lines P f n j [] h = refl
placed_lines P f n j (b ∷ w) h = and_from (P (place f n j)) (list_all (λ (c : Char). P c.at) (placed f n (j + 1) w)) (h j) (placed_lines P f n (j + 1) w h)

abbrev pub mark_place : ℕ → ℕ → ℕ → List ℕ → Place
mark_place f n j [] = place f n j
mark_place f n j (b ∷ w) = mark_place f n (j + 1) w

pub off_whole : (f n j : ℕ) (w : List ℕ) → list_all is_plain w ≡ true → mark_off (placed f n j w) ≡ record { text = placed f n j w; mark = None }
off_whole f n j [] h = refl
off_whole f n j (b ∷ w) h =
    let k = and_parts (is_plain b) (list_all is_plain w) h in
    rw (plain_no_mark b k.0, off_whole f n (j + 1) w k.1) refl

pub off_open : (f n j : ℕ) (w : List ℕ) → list_all is_plain w ≡ true → mark_off (placed f n j (w ++ 38 ∷ [])) ≡ record { text = placed f n j w; mark = Some (mark_place f n j w) }
off_open f n j [] h = refl
off_open f n j (b ∷ w) h =
    let k = and_parts (is_plain b) (list_all is_plain w) h in
    rw (plain_no_mark b k.0, off_open f n (j + 1) w k.1) refl

-- A CONTINUING LINE

abbrev pub shift : ℕ → ℕ → ℕ
shift zero j = j
shift (suc k) j = shift k (j + 1)

ink_no_blank : (b : ℕ) → is_ink b ≡ true → (blanked b == 32) ≡ false
ink_no_blank b h = let k : (b == 32) ≡ false = grind (arith, nat_tests, h) in ap (λ c. c == 32) (text_blanked b (plain_text b (ink_plain b h))) ∙ k

not_blank : Char → Bool
not_blank c = not (is_blank c)

prefix_blanks : (f n j k b : ℕ) (y : List ℕ) → is_ink b ≡ true → prefix_len (λ (c : Char). not (not (is_blank c))) (placed f n j (blanks k ++ b ∷ y)) ≡ k
prefix_blanks f n j zero b y h = rw (ink_no_blank b h) refl
prefix_blanks f n j (suc k) b y h = ap (λ i. 1 + i) (prefix_blanks f n (j + 1) k b y h) ∙ omega arith

placed_longer : (f n j k b : ℕ) (y : List ℕ) → nat_lt k (length (placed f n j (blanks k ++ b ∷ y))) ≡ true
placed_longer f n j zero b y = grind (arith, nat_tests)
placed_longer f n j (suc k) b y = let h : nat_lt k (length (placed f n (j + 1) (blanks k ++ b ∷ y))) ≡ true = placed_longer f n (j + 1) k b y in grind (arith, nat_tests, h)

placed_drop : (f n j k : ℕ) (w : List ℕ) → drop k (placed f n j (blanks k ++ w)) ≡ placed f n (shift k j) w
placed_drop f n j zero w = refl
placed_drop f n j (suc k) w = placed_drop f n (j + 1) k w

stripped : (f n j k b : ℕ) (y : List ℕ) → is_ink b ≡ true → without_blanks (placed f n j (blanks k ++ b ∷ y)) ≡ placed f n (shift k j) (b ∷ y)
stripped f n j k b y h =
    let l : List Char = placed f n j (blanks k ++ b ∷ y) in
    let e : position_or_len (λ (c : Char). not (is_blank c)) l ≡ k = prefix_blanks f n j k b y h in
    ap (λ i. drop (unwrap_or (cond (nat_lt i (length l)) (Some i) None) (length l)) l) e
    ∙ ap (λ t. drop (unwrap_or (cond t (Some k) None) (length l)) l) (placed_longer f n j k b y)
    ∙ placed_drop f n j k (b ∷ y)

continued : (f n j k b : ℕ) (y : List ℕ) → is_ink b ≡ true → continuing (placed f n j (blanks k ++ b ∷ y)) ≡ blank_at (place f n (shift k j)) ∷ placed f n (shift k j) (b ∷ y)
continued f n j k b y h = ap continuing_at (stripped f n j k b y h) ∙ rw (plain_no_mark b (ink_plain b h)) refl

has_ink : (f n j k b : ℕ) (y : List ℕ) → is_ink b ≡ true → all_blank (placed f n j (blanks k ++ b ∷ y)) ≡ false
has_ink f n j zero b y h = rw (ink_no_blank b h) refl
has_ink f n j (suc k) b y h = has_ink f n (j + 1) k b y h

next_is : (p : Place) (f n j k b : ℕ) (y : List ℕ) → is_ink b ≡ true → next_part p (placed f n j (blanks k ++ b ∷ y)) ≡ mark_off (blank_at (place f n (shift k j)) ∷ placed f n (shift k j) (b ∷ y))
next_is p f n j k b y h = rw (has_ink f n j k b y h) (ap mark_off (continued f n j k b y h))

-- what a line gives, behind a blank
pub given_whole : (f n i : ℕ) (z : List ℕ) → list_all is_plain z ≡ true → mark_off (blank_at (place f n i) ∷ placed f n i z) ≡ record { text = blank_at (place f n i) ∷ placed f n i z; mark = None }
given_whole f n i z h = rw (off_whole f n i z h) refl

pub given_open : (f n i : ℕ) (z : List ℕ) → list_all is_plain z ≡ true →
    mark_off (blank_at (place f n i) ∷ placed f n i (z ++ codes " &")) ≡ record { text = blank_at (place f n i) ∷ placed f n i (z ++ 32 ∷ []); mark = Some (mark_place f n i (z ++ 32 ∷ [])) }
given_open f n i z h =
    ap (λ w. mark_off (blank_at (place f n i) ∷ placed f n i w)) (sym (append_assoc z (32 ∷ []) (38 ∷ [])))
    ∙ ap (λ (q : Part). record { text = blank_at (place f n i) ∷ q.text; mark = q.mark }) (off_open f n i (z ++ 32 ∷ []) (all_append is_plain z (32 ∷ []) h refl))

pub next_of : (p : Place) (f n j k b : ℕ) (y z e : List ℕ) → z ≡ b ∷ y → is_ink b ≡ true →
    next_part p (placed f n j (blanks k ++ (z ++ e))) ≡ mark_off (blank_at (place f n (shift k j)) ∷ placed f n (shift k j) (z ++ e))
next_of p f n j k b y z e s h =
    ap (λ w. next_part p (placed f n j (blanks k ++ (w ++ e)))) s ∙ next_is p f n j k b (y ++ e) h ∙ ap (λ w. mark_off (blank_at (place f n (shift k j)) ∷ placed f n (shift k j) (w ++ e))) (sym s)

pub continued_of : (f n j k b : ℕ) (y z e : List ℕ) → z ≡ b ∷ y → is_ink b ≡ true → continuing (placed f n j (blanks k ++ (z ++ e))) ≡ blank_at (place f n (shift k j)) ∷ placed f n (shift k j) (z ++ e)
continued_of f n j k b y z e s h =
    ap (λ w. continuing (placed f n j (blanks k ++ (w ++ e)))) s ∙ continued f n j k b (y ++ e) h ∙ ap (λ w. blank_at (place f n (shift k j)) ∷ placed f n (shift k j) (w ++ e)) (sym s)

-- THE LINES OF A ROW

-- the number of the line behind those of a row
abbrev pub after : ℕ → List (List ℕ) → ℕ
after n [] = n + 1
after n (z ∷ zs) = after (n + 1) zs

pub after_more : (n : ℕ) (zs : List (List ℕ)) → n < after n zs
after_more n [] = omega arith
after_more n (z ∷ zs) = omega (arith, after_more (n + 1) zs)

-- the place stands in one of the lines from one on, before another
abbrev pub between : ℕ → ℕ → ℕ → Place → Bool
between f from to at = nat_eq at.file f && (nat_le from at.line && nat_lt at.line to)

pub on_line : (f n e k : ℕ) → n < e → between f n e (place f n k) ≡ true
on_line f n e k h = and_from (nat_eq f f) (nat_le n n && nat_lt n e) (grind (arith, nat_tests)) (and_from (nat_le n n) (nat_lt n e) (grind (arith, nat_tests)) (grind (arith, nat_tests, h)))

pub within_more : (f n e : ℕ) (at : Place) → between f (n + 1) e at ≡ true → between f n e at ≡ true
within_more f n e at h =
    let g = and_parts (nat_eq at.file f) (nat_le (n + 1) at.line && nat_lt at.line e) h in
    let k = and_parts (nat_le (n + 1) at.line) (nat_lt at.line e) g.1 in
    and_from (nat_eq at.file f) (nat_le n at.line && nat_lt at.line e) g.0 (and_from (nat_le n at.line) (nat_lt at.line e) (grind (arith, nat_tests, k.0)) k.1)

pub all_more : {A : Type 0} (p q : A → Bool) → ((x : A) → p x ≡ true → q x ≡ true) → (xs : List A) → list_all p xs ≡ true → list_all q xs ≡ true
all_more p q f [] h = refl
all_more p q f (x ∷ xs) h = let k = and_parts (p x) (list_all p xs) h in and_from (q x) (list_all q xs) (f x k.0) (all_more p q f xs k.1)

pub all_both : {A : Type 0} (p : A → Bool) (x y : List A) → list_all p x ≡ true → list_all p y ≡ true → list_all p (x ++ y) ≡ true
all_both p x y h g = list_all-append p x y ∙ and_from (list_all p x) (list_all p y) h g

-- characters with these bytes, in the lines from one on, before another
pub record Stands (f : ℕ) (cs : List Char) (text : List ℕ) (from to : ℕ) : Type 0 where
  pub spell : bytes cs ≡ text
  pub lines : list_all (λ (c : Char). between f from to c.at) cs ≡ true

pub placed_stand : (f n j e : ℕ) (w : List ℕ) → list_all is_plain w ≡ true → n < e → Stands f (placed f n j w) w n e
placed_stand f n j e w h k = record { spell = placed_bytes f n j w (plains_text w h); lines = placed_lines (between f n e) f n j w (λ i. on_line f n e i k) }

pub given_stand : (f n i e : ℕ) (w : List ℕ) → list_all is_plain w ≡ true → n < e → Stands f (blank_at (place f n i) ∷ placed f n i w) (32 ∷ w) n e
given_stand f n i e w h k =
    let s = placed_stand f n i e w h k in
    record { spell = ap (λ x. 32 ∷ x) s.spell; lines = and_from (between f n e (place f n i)) (list_all (λ (c : Char). between f n e c.at) (placed f n i w)) (on_line f n e i k) s.lines }

bytes_append : (a b : List Char) → bytes (a ++ b) ≡ bytes a ++ bytes b
bytes_append [] b = refl
bytes_append (c ∷ a) b = ap (λ x. c.byte ∷ x) (bytes_append a b)

pub stand_both : (f : ℕ) (a b : List Char) (x y : List ℕ) (n e : ℕ) → Stands f a x n e → Stands f b y (n + 1) e → Stands f (a ++ b) (x ++ y) n e
stand_both f a b x y n e s t = record {
  spell = bytes_append a b ∙ ap (λ w. w ++ bytes b) s.spell ∙ ap (λ w. x ++ w) t.spell;
  lines = all_both (λ (c : Char). between f n e c.at) a b s.lines (all_more (λ (c : Char). between f (n + 1) e c.at) (λ (c : Char). between f n e c.at) (λ c h. within_more f n e c.at h) b t.lines);
}

-- STATEMENTS

-- what the further lines of a statement give
pub record Gives (f : ℕ) (text : List Char) (result : Statement) (rest : List (List Char)) (z : List ℕ) (zs : List (List ℕ)) (n : ℕ) : Type 0 where
  pub more : List Char
  pub is : result ≡ record { text = text ++ more; mark = None; rest = rest }
  pub stands : Stands f more (32 ∷ (z ++ behind zs)) n (after n zs)

-- what stands of a segment before the `&`
pub open_plain : (z : List ℕ) → list_all is_plain z ≡ true → list_all is_plain (z ++ 32 ∷ []) ≡ true
open_plain z h = all_append is_plain z (32 ∷ []) h refl

pub amp_text : (z : List ℕ) → list_all is_plain z ≡ true → list_all in_text (z ++ codes " &") ≡ true
amp_text z h = all_append in_text z (codes " &") (plains_text z h) refl

pub statement_row_of : (f n k b : ℕ) (y z e : List ℕ) → z ≡ b ∷ y → is_ink b ≡ true → list_all in_text (z ++ e) ≡ true → row f n (blanks k ++ (z ++ e)) ≡ statement (placed f n 1 (blanks k ++ (z ++ e)))
statement_row_of f n k b y z e s h g =
    let g' : list_all in_text (b ∷ (y ++ e)) ≡ true = ap (λ w. list_all in_text (w ++ e)) (sym s) ∙ g in
    ap (λ w. row f n (blanks k ++ (w ++ e))) s ∙ statement_row f n k b (y ++ e) h g' ∙ ap (λ w. statement (placed f n 1 (blanks k ++ (w ++ e)))) (sym s)

first_text : (f n k b : ℕ) (y z e : List ℕ) (ls : List (List ℕ)) → z ≡ b ∷ y → is_ink b ≡ true → list_all in_text (z ++ e) ≡ true →
    statement_texts (rows f n ((blanks k ++ (z ++ e)) ∷ ls)) ≡ placed f n 1 (blanks k ++ (z ++ e)) ∷ statement_texts (rows f (n + 1) ls)
first_text f n k b y z e ls s h g = ap (λ r. statement_texts (r ∷ rows f (n + 1) ls)) (statement_row_of f n k b y z e s h g)

pub more_shape : (z z' : List ℕ) (zs : List (List ℕ)) → 32 ∷ (z ++ 32 ∷ []) ++ 32 ∷ (z' ++ behind zs) ≡ 32 ∷ (z ++ behind (z' ∷ zs))
more_shape z z' zs = ap (λ x. 32 ∷ x) (append_assoc z (32 ∷ []) (32 ∷ (z' ++ behind zs)))

gives_last : (f n k : ℕ) (z : List ℕ) (room : ℕ) (ms : List (List ℕ)) (text : List Char) (p : Place) → Segment room z →
    Gives f text (joined text (Some p) (statement_texts (rows f n ((blanks k ++ z) ∷ ms)))) (statement_texts (rows f (n + 1) ms)) z [] n
gives_last f n k z room ms text p s =
    let e : z ≡ z ++ [] = sym (append-nil z) in
    let t : statement_texts (rows f n ((blanks k ++ (z ++ [])) ∷ ms)) ≡ placed f n 1 (blanks k ++ (z ++ [])) ∷ statement_texts (rows f (n + 1) ms) =
    first_text f n k s.first s.others z [] ms s.is s.ink (ap (list_all in_text) (sym e) ∙ plains_text z s.plain) in
    let g : next_part p (placed f n 1 (blanks k ++ (z ++ []))) ≡ record { text = blank_at (place f n (shift k 1)) ∷ placed f n (shift k 1) z; mark = None } =
    next_of p f n 1 k s.first s.others z [] s.is s.ink ∙ ap (λ w. mark_off (blank_at (place f n (shift k 1)) ∷ placed f n (shift k 1) w)) (sym e) ∙ given_whole f n (shift k 1) z s.plain in
    record {
      more = blank_at (place f n (shift k 1)) ∷ placed f n (shift k 1) z;
      is = ap (λ w. joined text (Some p) (statement_texts (rows f n ((blanks k ++ w) ∷ ms)))) e ∙ ap (joined text (Some p)) t
          ∙ ap (λ (q : Part). joined (text ++ q.text) q.mark (statement_texts (rows f (n + 1) ms))) g;
      stands = record { spell = (given_stand f n (shift k 1) (n + 1) z s.plain (omega arith)).spell ∙ ap (λ w. 32 ∷ w) e; lines = (given_stand f n (shift k 1) (n + 1) z s.plain (omega arith)).lines };
    }

gives_more : (f n k : ℕ) (z z' : List ℕ) (zs : List (List ℕ)) (room : ℕ) (ms : List (List ℕ)) (text : List Char) (p : Place) → Segment room z → (rest : List (List Char)) →
    ((text : List Char) (p : Place) → Gives f text (joined text (Some p) (statement_texts (rows f (n + 1) ms))) rest z' zs (n + 1)) →
    Gives f text (joined text (Some p) (statement_texts (rows f n ((blanks k ++ (z ++ codes " &")) ∷ ms)))) rest z (z' ∷ zs) n
gives_more f n k z z' zs room ms text p s rest go =
    let i : ℕ = shift k 1 in
    let here : List Char = blank_at (place f n i) ∷ placed f n i (z ++ 32 ∷ []) in
    let at : Place = mark_place f n i (z ++ 32 ∷ []) in
    let r = go (text ++ here) at in
    let g : next_part p (placed f n 1 (blanks k ++ (z ++ codes " &"))) ≡ record { text = here; mark = Some at } =
    next_of p f n 1 k s.first s.others z (codes " &") s.is s.ink ∙ given_open f n i z s.plain in
    let st = stand_both f here r.more (32 ∷ (z ++ 32 ∷ [])) (32 ∷ (z' ++ behind zs)) n (after (n + 1) zs) (given_stand f n i (after (n + 1) zs) (z ++ 32 ∷ []) (open_plain z s.plain) (omega (arith, after_more (n + 1) zs))) r.stands in
    record {
      more = here ++ r.more;
      is = ap (joined text (Some p)) (first_text f n k s.first s.others z (codes " &") ms s.is s.ink (amp_text z s.plain))
          ∙ ap (λ (q : Part). joined (text ++ q.text) q.mark (statement_texts (rows f (n + 1) ms))) g ∙ r.is
          ∙ ap (λ w. record { text = w; mark = None; rest = rest }) (append_assoc text here r.more);
      stands = record { spell = st.spell ∙ more_shape z z' zs; lines = st.lines };
    }

gives_all : (f n k room : ℕ) (z : List ℕ) (zs : List (List ℕ)) (ms : List (List ℕ)) (text : List Char) (p : Place) → Segment room z → Segments room zs →
    Gives f text (joined text (Some p) (statement_texts (rows f n (text_lines (blanks k) (blanks k) z zs ++ ms)))) (statement_texts (rows f (after n zs) ms)) z zs n
gives_all f n k room z [] ms text p s ss = gives_last f n k z room ms text p s
gives_all f n k room z (z' ∷ zs) ms text p s ss =
    gives_more f n k z z' zs room (text_lines (blanks k) (blanks k) z' zs ++ ms) text p s (statement_texts (rows f (after (n + 1) zs) ms)) (λ text p. gives_all f (n + 1) k room z' zs ms text p ss.0 ss.1)

-- a statement's text, and that it ends with its row
pub record Whole (f : ℕ) (result : Statement) (rest : List (List Char)) (text : List ℕ) (from to : ℕ) : Type 0 where
  pub chars : List Char
  pub is : result ≡ record { text = chars; mark = None; rest = rest }
  pub stands : Stands f chars text from to

pub front_plain : (k : ℕ) (x : List ℕ) → list_all is_plain x ≡ true → list_all is_plain (blanks k ++ x) ≡ true
front_plain k x h = all_append is_plain (blanks k) x (all_blanks k) h
  where
    all_blanks : (k : ℕ) → list_all is_plain (blanks k) ≡ true
    all_blanks zero = refl
    all_blanks (suc k) = all_blanks k

abbrev pub begun : List (List Char) → Statement
begun [] = record { text = []; mark = None; rest = [] }
begun (l ∷ ls) = statement_at l ls

pub off_amp : (f n j k : ℕ) (x : List ℕ) → list_all is_plain x ≡ true →
    mark_off (placed f n j (blanks k ++ (x ++ codes " &"))) ≡ record { text = placed f n j (blanks k ++ (x ++ 32 ∷ [])); mark = Some (mark_place f n j (blanks k ++ (x ++ 32 ∷ []))) }
off_amp f n j k x h =
    let e : blanks k ++ (x ++ codes " &") ≡ blanks k ++ (x ++ 32 ∷ []) ++ 38 ∷ [] =
    ap (λ w. blanks k ++ w) (sym (append_assoc x (32 ∷ []) (38 ∷ []))) ∙ sym (append_assoc (blanks k) (x ++ 32 ∷ []) (38 ∷ [])) in
    ap (λ w. mark_off (placed f n j w)) e ∙ off_open f n j (blanks k ++ (x ++ 32 ∷ [])) (front_plain k (x ++ 32 ∷ []) (open_plain x h))

pub whole_shape : (k : ℕ) (x z : List ℕ) (zs : List (List ℕ)) → blanks k ++ (x ++ 32 ∷ []) ++ 32 ∷ (z ++ behind zs) ≡ blanks k ++ (x ++ behind (z ∷ zs))
whole_shape k x z zs = append_assoc (blanks k) (x ++ 32 ∷ []) (32 ∷ (z ++ behind zs)) ∙ ap (λ w. blanks k ++ w) (append_assoc x (32 ∷ []) (32 ∷ (z ++ behind zs)))

-- the lines of a statement's row are one statement
pub whole_statement : (f n k k' room room' : ℕ) (x : List ℕ) (zs : List (List ℕ)) (ms : List (List ℕ)) → Segment room x → Segments room' zs →
    Whole f (begun (statement_texts (rows f n (text_lines (blanks k) (blanks k') x zs ++ ms)))) (statement_texts (rows f (after n zs) ms)) (blanks k ++ (x ++ behind zs)) n (after n zs)
whole_statement f n k k' room room' x [] ms s ss =
    let e : x ≡ x ++ [] = sym (append-nil x) in
    let w : List ℕ = blanks k ++ (x ++ []) in
    let p : list_all is_plain w ≡ true = front_plain k (x ++ []) (ap (list_all is_plain) (sym e) ∙ s.plain) in
    record {
      chars = placed f n 1 w;
      is = ap (λ y. begun (statement_texts (rows f n ((blanks k ++ y) ∷ ms)))) e
          ∙ ap begun (first_text f n k s.first s.others x [] ms s.is s.ink (ap (list_all in_text) (sym e) ∙ plains_text x s.plain))
          ∙ ap (λ (q : Part). joined q.text q.mark (statement_texts (rows f (n + 1) ms))) (off_whole f n 1 w p);
      stands = placed_stand f n 1 (n + 1) w p (omega arith);
    }
whole_statement f n k k' room room' x (z ∷ zs) ms s ss =
    let w : List ℕ = blanks k ++ (x ++ 32 ∷ []) in
    let p : list_all is_plain w ≡ true = front_plain k (x ++ 32 ∷ []) (open_plain x s.plain) in
    let ls : List (List ℕ) = text_lines (blanks k') (blanks k') z zs ++ ms in
    let r = gives_all f (n + 1) k' room' z zs ms (placed f n 1 w) (mark_place f n 1 w) ss.0 ss.1 in
    let st = stand_both f (placed f n 1 w) r.more w (32 ∷ (z ++ behind zs)) n (after (n + 1) zs) (placed_stand f n 1 (after (n + 1) zs) w p (omega (arith, after_more (n + 1) zs))) r.stands in
    record {
      chars = placed f n 1 w ++ r.more;
      is = ap begun (first_text f n k s.first s.others x (codes " &") ls s.is s.ink (amp_text x s.plain))
          ∙ ap (λ (q : Part). joined q.text q.mark (statement_texts (rows f (n + 1) ls))) (off_amp f n 1 k x s.plain) ∙ r.is;
      stands = record { spell = st.spell ∙ whole_shape k x z zs; lines = st.lines };
    }

-- DIRECTIVES PASS OVER A STATEMENT

passed : {mode : Mode} {ys : List Written} {gs : List Fault} (o : Option Place) (r : Row) (line : List Char) (others : List Row) → r ≡ statement line → DirectiveLines mode (open_after o line) others ys gs →
    DirectiveLines mode o (r ∷ others) ys gs
passed {mode = mode} {ys = ys} {gs = gs} o r line others e d = subst (λ r. DirectiveLines mode o (r ∷ others) ys gs) (sym e) (passed_over d)

marked : {mode : Mode} {ys : List Written} {gs : List Fault} (a b : Option Place) (others : List Row) → a ≡ b → DirectiveLines mode b others ys gs → DirectiveLines mode a others ys gs
marked {mode = mode} {ys = ys} {gs = gs} a b others e d = subst (λ o. DirectiveLines mode o others ys gs) (sym e) d

further_passed : {mode : Mode} {ys : List Written} {gs : List Fault} (f n k room : ℕ) (z : List ℕ) (zs ms : List (List ℕ)) (p : Place) → Segment room z → Segments room zs →
    DirectiveLines mode None (rows f (after n zs) ms) ys gs → DirectiveLines mode (Some p) (rows f n (text_lines (blanks k) (blanks k) z zs ++ ms)) ys gs
further_passed {mode = mode} {ys = ys} {gs = gs} f n k room z [] ms p s ss d =
    let e : z ++ [] ≡ z = append-nil z in
    let w : List ℕ = blanks k ++ (z ++ []) in
    let g : next_part p (placed f n 1 w) ≡ record { text = blank_at (place f n (shift k 1)) ∷ placed f n (shift k 1) z; mark = None } =
    next_of p f n 1 k s.first s.others z [] s.is s.ink ∙ ap (λ w. mark_off (blank_at (place f n (shift k 1)) ∷ placed f n (shift k 1) w)) e ∙ given_whole f n (shift k 1) z s.plain in
    subst (λ y. DirectiveLines mode (Some p) (rows f n ((blanks k ++ y) ∷ ms)) ys gs) e
    (passed (Some p) (row f n w) (placed f n 1 w) (rows f (n + 1) ms) (statement_row_of f n k s.first s.others z [] s.is s.ink (ap (list_all in_text) e ∙ plains_text z s.plain))
    (marked _ None (rows f (n + 1) ms) (ap (λ (q : Part). q.mark) g) d))
further_passed {mode = mode} {ys = ys} {gs = gs} f n k room z (z' ∷ zs) ms p s ss d =
    let w : List ℕ = blanks k ++ (z ++ codes " &") in
    let ls : List (List ℕ) = text_lines (blanks k) (blanks k) z' zs ++ ms in
    let i : ℕ = shift k 1 in
    let at : Place = mark_place f n i (z ++ 32 ∷ []) in
    let g : next_part p (placed f n 1 w) ≡ record { text = blank_at (place f n i) ∷ placed f n i (z ++ 32 ∷ []); mark = Some at } =
    next_of p f n 1 k s.first s.others z (codes " &") s.is s.ink ∙ given_open f n i z s.plain in
    passed (Some p) (row f n w) (placed f n 1 w) (rows f (n + 1) ls) (statement_row_of f n k s.first s.others z (codes " &") s.is s.ink (amp_text z s.plain))
    (marked _ (Some at) (rows f (n + 1) ls) (ap (λ (q : Part). q.mark) g) (further_passed f (n + 1) k room z' zs ms at ss.0 ss.1 d))

pub statement_passed : {mode : Mode} {ys : List Written} {gs : List Fault} (f n k k' room room' : ℕ) (x : List ℕ) (zs ms : List (List ℕ)) → Segment room x → Segments room' zs →
    DirectiveLines mode None (rows f (after n zs) ms) ys gs → DirectiveLines mode None (rows f n (text_lines (blanks k) (blanks k') x zs ++ ms)) ys gs
statement_passed {mode = mode} {ys = ys} {gs = gs} f n k k' room room' x [] ms s ss d =
    let e : x ++ [] ≡ x = append-nil x in
    let w : List ℕ = blanks k ++ (x ++ []) in
    subst (λ y. DirectiveLines mode None (rows f n ((blanks k ++ y) ∷ ms)) ys gs) e
    (passed None (row f n w) (placed f n 1 w) (rows f (n + 1) ms) (statement_row_of f n k s.first s.others x [] s.is s.ink (ap (list_all in_text) e ∙ plains_text x s.plain))
    (marked _ None (rows f (n + 1) ms) (ap (λ (q : Part). q.mark) (off_whole f n 1 w (front_plain k (x ++ []) (ap (list_all is_plain) e ∙ s.plain)))) d))
statement_passed {mode = mode} {ys = ys} {gs = gs} f n k k' room room' x (z ∷ zs) ms s ss d =
    let w : List ℕ = blanks k ++ (x ++ codes " &") in
    let ls : List (List ℕ) = text_lines (blanks k') (blanks k') z zs ++ ms in
    let at : Place = mark_place f n 1 (blanks k ++ (x ++ 32 ∷ [])) in
    passed None (row f n w) (placed f n 1 w) (rows f (n + 1) ls) (statement_row_of f n k s.first s.others x (codes " &") s.is s.ink (amp_text x s.plain))
    (marked _ (Some at) (rows f (n + 1) ls) (ap (λ (q : Part). q.mark) (off_amp f n 1 k x s.plain)) (further_passed f (n + 1) k' room' z zs ms at ss.0 ss.1 d))
