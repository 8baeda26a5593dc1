-- The lines of a mark's row are joined to one text, and no line has a fault of bytes.
use Rattle.std.proofs.Common.{◌≡◌, ℕ, zero, suc, ◌+◌, ◌≤◌, true, List, [], ◌∷◌, ◌++◌, length, codes, Some, None, refl, sym, ap, ◌∙◌, subst, arith, append_assoc, length-append}
use Rattle.std.proofs.lemmas.List.{append-nil}
use Rattle.std.specs.List.{list_all}
use Rattle.fort_tree.specs.declared.place.Place.{Place}
use Rattle.fort_tokens.specs.declared.character.Char.{Char}
use Rattle.fort_lex.specs.declared.sentinel.Sentinel.{Sentinel}
use Rattle.fort_lex.specs.declared.sentinel.Sentinel.TheVariants.{Claw, Omp, Acc}
use Rattle.fort_lex.specs.Rows.{word_of_sentinel, Row, directive, row, rows, place, placed, byte_faults}
use Rattle.fort_lex.specs.Joined.{Part, mark_off, blank_at, continuing, same, Group, grouped, group_at, statement_texts}
use Rattle.layout_reading.proofs.Texts.{is_ink, is_plain, all_append}
use Rattle.layout_reading.proofs.Cutting.{blanks}
use Rattle.layout_reading.proofs.Laying.{behind, Segment, Segments}
use Rattle.layout_reading.proofs.Physical.{text_lines, in_text, Leads, statement_faultless, mark_row, mark_faultless, length_blanks}
use Rattle.layout_reading.proofs.Joining.{shift, mark_place, continued_of, given_whole, given_open, amp_text, plains_text, open_plain, front_plain, off_whole, off_amp, after, after_more, Stands, stand_both, given_stand, placed_stand, more_shape, whole_shape}

-- what a mark's line begins with: its sentinel, and blanks behind it
abbrev pub head : Sentinel → ℕ → ℕ → List ℕ
head s k j = blanks k ++ (word_of_sentinel s ++ blanks (suc j))

head_shape : (s : Sentinel) (k j : ℕ) (y : List ℕ) → head s k j ++ y ≡ blanks k ++ (word_of_sentinel s ++ 32 ∷ (blanks j ++ y))
head_shape s k j y = append_assoc (blanks k) (word_of_sentinel s ++ blanks (suc j)) y ∙ ap (λ w. blanks k ++ w) (append_assoc (word_of_sentinel s) (blanks (suc j)) y)

blanks_text : (k : ℕ) → list_all in_text (blanks k) ≡ true
blanks_text zero = refl
blanks_text (suc k) = blanks_text k

head_row : (f n : ℕ) (s : Sentinel) (k j : ℕ) (y : List ℕ) → Leads s → list_all in_text y ≡ true → row f n (head s k j ++ y) ≡ directive s (place f n (k + 1)) (placed f n (k + 5 + 1) (blanks (suc j) ++ y))
head_row f n s k j y m h = ap (row f n) (head_shape s k j y) ∙ mark_row f n s k (blanks j ++ y) m (all_append in_text (blanks j) y (blanks_text j) h)

same_self : (s : Sentinel) → same s s ≡ true
same_self Claw = refl
same_self Omp = refl
same_self Acc = refl

-- what the further lines of a mark give
pub record Adds (f : ℕ) (text : List Char) (result : Group) (rest : List Row) (z : List ℕ) (zs : List (List ℕ)) (n : ℕ) : Type 0 where
  pub more : List Char
  pub is : result ≡ record { text = text ++ more; mark = None; rest = rest }
  pub stands : Stands f more (32 ∷ (z ++ behind zs)) n (after n zs)

one_added : (s : Sentinel) (text : List Char) (p at : Place) (r : Row) (line : List Char) (others : List Row) (q : Part) → r ≡ directive s at line → mark_off (continuing line) ≡ q →
    grouped s text (Some p) (r ∷ others) ≡ grouped s (text ++ q.text) q.mark others
one_added s text p at r line others q e g =
    ap (λ r. grouped s text (Some p) (r ∷ others)) e ∙ rw (same_self s) (ap (λ (q : Part). grouped s (text ++ q.text) q.mark others) g)

adds_last : (f n : ℕ) (s : Sentinel) (k j room : ℕ) (z : List ℕ) (ms : List (List ℕ)) (text : List Char) (p : Place) → Leads s → Segment room z →
    Adds f text (grouped s text (Some p) (rows f n ((head s k j ++ z) ∷ ms))) (rows f (n + 1) ms) z [] n
adds_last f n s k j room z ms text p m g =
    let e : z ++ [] ≡ z = append-nil z in
    let c : ℕ = k + 5 + 1 in
    let i : ℕ = shift (suc j) c in
    let o : mark_off (continuing (placed f n c (blanks (suc j) ++ z))) ≡ record { text = blank_at (place f n i) ∷ placed f n i z; mark = None } =
    ap (λ y. mark_off (continuing (placed f n c (blanks (suc j) ++ y)))) (sym e) ∙ ap mark_off (continued_of f n c (suc j) g.first g.others z [] g.is g.ink) ∙ ap (λ y. mark_off (blank_at (place f n i) ∷ placed f n i y)) e ∙
    given_whole f n i z g.plain in
    let st = given_stand f n i (n + 1) z g.plain (omega arith) in
    record {
      more = blank_at (place f n i) ∷ placed f n i z;
      is = one_added s text p (place f n (k + 1)) (row f n (head s k j ++ z)) (placed f n c (blanks (suc j) ++ z)) (rows f (n + 1) ms) (record { text = blank_at (place f n i) ∷ placed f n i z; mark = None })
          (head_row f n s k j z m (plains_text z g.plain)) o;
      stands = record { spell = st.spell ∙ ap (λ w. 32 ∷ w) (sym e); lines = st.lines };
    }

adds_more : (f n : ℕ) (s : Sentinel) (k j room : ℕ) (z z' : List ℕ) (zs ms : List (List ℕ)) (text : List Char) (p : Place) → Leads s → Segment room z → (rest : List Row) →
    ((text : List Char) (p : Place) → Adds f text (grouped s text (Some p) (rows f (n + 1) ms)) rest z' zs (n + 1)) →
    Adds f text (grouped s text (Some p) (rows f n ((head s k j ++ (z ++ codes " &")) ∷ ms))) rest z (z' ∷ zs) n
adds_more f n s k j room z z' zs ms text p m g rest go =
    let c : ℕ = k + 5 + 1 in
    let i : ℕ = shift (suc j) c in
    let here : List Char = blank_at (place f n i) ∷ placed f n i (z ++ 32 ∷ []) in
    let at : Place = mark_place f n i (z ++ 32 ∷ []) in
    let y : List ℕ = z ++ codes " &" in
    let o : mark_off (continuing (placed f n c (blanks (suc j) ++ y))) ≡ record { text = here; mark = Some at } =
    ap mark_off (continued_of f n c (suc j) g.first g.others z (codes " &") g.is g.ink) ∙ given_open f n i z g.plain in
    let r = go (text ++ here) at in
    let st = stand_both f here r.more (32 ∷ (z ++ 32 ∷ [])) (32 ∷ (z' ++ behind zs)) n (after (n + 1) zs) (given_stand f n i (after (n + 1) zs) (z ++ 32 ∷ []) (open_plain z g.plain) (omega (arith, after_more (n + 1) zs))) r.stands in
    record {
      more = here ++ r.more;
      is = one_added s text p (place f n (k + 1)) (row f n (head s k j ++ y)) (placed f n c (blanks (suc j) ++ y)) (rows f (n + 1) ms) (record { text = here; mark = Some at })
          (head_row f n s k j y m (amp_text z g.plain)) o ∙ r.is
          ∙ ap (λ w. record { text = w; mark = None; rest = rest }) (append_assoc text here r.more);
      stands = record { spell = st.spell ∙ more_shape z z' zs; lines = st.lines };
    }

adds_all : (f n : ℕ) (s : Sentinel) (k j room : ℕ) (z : List ℕ) (zs ms : List (List ℕ)) (text : List Char) (p : Place) → Leads s → Segment room z → Segments room zs →
    Adds f text (grouped s text (Some p) (rows f n (text_lines (head s k j) (head s k j) z zs ++ ms))) (rows f (after n zs) ms) z zs n
adds_all f n s k j room z [] ms text p m g gs = adds_last f n s k j room z ms text p m g
adds_all f n s k j room z (z' ∷ zs) ms text p m g gs =
    adds_more f n s k j room z z' zs (text_lines (head s k j) (head s k j) z' zs ++ ms) text p m g (rows f (after (n + 1) zs) ms) (λ text p. adds_all f (n + 1) s k j room z' zs ms text p m gs.0 gs.1)

-- a mark's row: the line that begins it, and the whole
pub record Marked (f : ℕ) (result : List Row) (rest : List Row) (s : Sentinel) (text : List ℕ) (from to : ℕ) : Type 0 where
  pub at : Place
  pub line : List Char
  pub others : List Row
  pub is : result ≡ directive s at line ∷ others
  pub chars : List Char
  pub group : group_at s line others ≡ record { text = chars; mark = None; rest = rest }
  pub stands : Stands f chars text from to
  pub stands_at : at.line ≡ from
  pub in_file : at.file ≡ f

pub whole_mark : (f n : ℕ) (s : Sentinel) (k j k' j' room room' : ℕ) (x : List ℕ) (zs ms : List (List ℕ)) → Leads s → Segment room x → Segments room' zs →
    Marked f (rows f n (text_lines (head s k j) (head s k' j') x zs ++ ms)) (rows f (after n zs) ms) s (blanks (suc j) ++ (x ++ behind zs)) n (after n zs)
whole_mark f n s k j k' j' room room' x [] ms m g gs =
    let e : x ≡ x ++ [] = sym (append-nil x) in
    let c : ℕ = k + 5 + 1 in
    let w : List ℕ = blanks (suc j) ++ x in
    let p : list_all is_plain w ≡ true = front_plain (suc j) x g.plain in
    let st = placed_stand f n c (n + 1) w p (omega arith) in
    record {
      at = place f n (k + 1);
      line = placed f n c w;
      others = rows f (n + 1) ms;
      is = ap (λ r. r ∷ rows f (n + 1) ms) (head_row f n s k j x m (plains_text x g.plain));
      chars = placed f n c w;
      group = ap (λ (q : Part). grouped s q.text q.mark (rows f (n + 1) ms)) (off_whole f n c w p);
      stands = record { spell = st.spell ∙ ap (λ y. blanks (suc j) ++ y) e; lines = st.lines };
      stands_at = refl;
      in_file = refl;
    }
whole_mark f n s k j k' j' room room' x (z ∷ zs) ms m g gs =
    let c : ℕ = k + 5 + 1 in
    let y : List ℕ = x ++ codes " &" in
    let w : List ℕ = blanks (suc j) ++ (x ++ 32 ∷ []) in
    let p : list_all is_plain w ≡ true = front_plain (suc j) (x ++ 32 ∷ []) (open_plain x g.plain) in
    let ls : List (List ℕ) = text_lines (head s k' j') (head s k' j') z zs ++ ms in
    let at : Place = mark_place f n c w in
    let r = adds_all f (n + 1) s k' j' room' z zs ms (placed f n c w) at m gs.0 gs.1 in
    let st = stand_both f (placed f n c w) r.more w (32 ∷ (z ++ behind zs)) n (after (n + 1) zs) (placed_stand f n c (after (n + 1) zs) w p (omega (arith, after_more (n + 1) zs))) r.stands in
    record {
      at = place f n (k + 1);
      line = placed f n c (blanks (suc j) ++ y);
      others = rows f (n + 1) ls;
      is = ap (λ r. r ∷ rows f (n + 1) ls) (head_row f n s k j y m (amp_text x g.plain));
      chars = placed f n c w ++ r.more;
      group = ap (λ (q : Part). grouped s q.text q.mark (rows f (n + 1) ls)) (off_amp f n c (suc j) x g.plain) ∙ r.is;
      stands = record { spell = st.spell ∙ whole_shape (suc j) x z zs; lines = st.lines };
      stands_at = refl;
      in_file = refl;
    }

-- no statement stands in a mark's row
no_text : (f n : ℕ) (s : Sentinel) (k j : ℕ) (y : List ℕ) (ls : List (List ℕ)) → Leads s → list_all in_text y ≡ true → statement_texts (rows f n ((head s k j ++ y) ∷ ls)) ≡ statement_texts (rows f (n + 1) ls)
no_text f n s k j y ls m h = ap (λ r. statement_texts (r ∷ rows f (n + 1) ls)) (head_row f n s k j y m h)

pub no_statement_in : (f n : ℕ) (s : Sentinel) (k j k' j' room room' : ℕ) (x : List ℕ) (zs ms : List (List ℕ)) → Leads s → Segment room x → Segments room' zs →
    statement_texts (rows f n (text_lines (head s k j) (head s k' j') x zs ++ ms)) ≡ statement_texts (rows f (after n zs) ms)
no_statement_in f n s k j k' j' room room' x [] ms m g gs = no_text f n s k j x ms m (plains_text x g.plain)
no_statement_in f n s k j k' j' room room' x (z ∷ zs) ms m g gs =
    no_text f n s k j (x ++ codes " &") (text_lines (head s k' j') (head s k' j') z zs ++ ms) m (amp_text x g.plain) ∙ no_statement_in f (n + 1) s k' j' k' j' room' room' z zs ms m gs.0 gs.1

-- FAULTS OF BYTES

line_fits : (h x e : List ℕ) (room : ℕ) → length h ≤ room → room + length x ≤ 130 → length e ≤ 2 → length (h ++ (x ++ e)) ≤ 132
line_fits h x e room a b c = rw (length-append h (x ++ e), length-append x e) (omega (arith, a, b, c))

statement_right : (f n k b room : ℕ) (y x e : List ℕ) (ls : List (List ℕ)) → x ≡ b ∷ y → is_ink b ≡ true → list_all in_text (x ++ e) ≡ true → k ≤ room → room + length x ≤ 130 → length e ≤ 2 →
    byte_faults f n ((blanks k ++ (x ++ e)) ∷ ls) ≡ byte_faults f (n + 1) ls
statement_right f n k b room y x e ls s h g a l c =
    let fits : length (blanks k ++ (x ++ e)) ≤ 132 = line_fits (blanks k) x e room (rw (length_blanks k) a) l c in
    let g' : list_all in_text (b ∷ (y ++ e)) ≡ true = ap (λ w. list_all in_text (w ++ e)) (sym s) ∙ g in
    let fits' : length (blanks k ++ b ∷ (y ++ e)) ≤ 132 = subst (λ w. length (blanks k ++ (w ++ e)) ≤ 132) s fits in
    ap (λ w. byte_faults f n ((blanks k ++ (w ++ e)) ∷ ls)) s ∙ statement_faultless f n k b (y ++ e) ls h g' fits'

pub statement_bytes : (f n k k' room room' : ℕ) (x : List ℕ) (zs ms : List (List ℕ)) → k ≤ room → k' ≤ room' → Segment room x → Segments room' zs →
    byte_faults f n (text_lines (blanks k) (blanks k') x zs ++ ms) ≡ byte_faults f (after n zs) ms
statement_bytes f n k k' room room' x [] ms a b s ss =
    ap (λ y. byte_faults f n ((blanks k ++ y) ∷ ms)) (sym (append-nil x))
    ∙ statement_right f n k s.first room s.others x [] ms s.is s.ink (ap (list_all in_text) (append-nil x) ∙ plains_text x s.plain) a s.short (omega arith)
statement_bytes f n k k' room room' x (z ∷ zs) ms a b s ss =
    statement_right f n k s.first room s.others x (codes " &") (text_lines (blanks k') (blanks k') z zs ++ ms) s.is s.ink (amp_text x s.plain) a s.short (omega arith)
    ∙ statement_bytes f (n + 1) k' k' room' room' z zs ms b b ss.0 ss.1

mark_right : (f n : ℕ) (s : Sentinel) (k j room : ℕ) (x e : List ℕ) (ls : List (List ℕ)) → Leads s → list_all in_text (x ++ e) ≡ true → length (head s k j) ≤ room → room + length x ≤ 130 → length e ≤ 2 →
    byte_faults f n ((head s k j ++ (x ++ e)) ∷ ls) ≡ byte_faults f (n + 1) ls
mark_right f n s k j room x e ls m h a l c =
    let fits : length (blanks k ++ (word_of_sentinel s ++ 32 ∷ (blanks j ++ (x ++ e)))) ≤ 132 = subst (λ w. length w ≤ 132) (head_shape s k j (x ++ e)) (line_fits (head s k j) x e room a l c) in
    ap (λ w. byte_faults f n (w ∷ ls)) (head_shape s k j (x ++ e)) ∙ mark_faultless f n s k (blanks j ++ (x ++ e)) ls m (all_append in_text (blanks j) (x ++ e) (blanks_text j) h) fits

pub mark_bytes : (f n : ℕ) (s : Sentinel) (k j k' j' room room' : ℕ) (x : List ℕ) (zs ms : List (List ℕ)) → Leads s → length (head s k j) ≤ room → length (head s k' j') ≤ room' → Segment room x → Segments room' zs →
    byte_faults f n (text_lines (head s k j) (head s k' j') x zs ++ ms) ≡ byte_faults f (after n zs) ms
mark_bytes f n s k j k' j' room room' x [] ms m a b g gs =
    ap (λ y. byte_faults f n ((head s k j ++ y) ∷ ms)) (sym (append-nil x))
    ∙ mark_right f n s k j room x [] ms m (ap (list_all in_text) (append-nil x) ∙ plains_text x g.plain) a g.short (omega arith)
mark_bytes f n s k j k' j' room room' x (z ∷ zs) ms m a b g gs =
    mark_right f n s k j room x (codes " &") (text_lines (head s k' j') (head s k' j') z zs ++ ms) m (amp_text x g.plain) a g.short (omega arith)
    ∙ mark_bytes f (n + 1) s k' j' k' j' room' room' z zs ms m b b gs.0 gs.1
