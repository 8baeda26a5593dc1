-- The lines into which the pieces of a row are broken.
use Rattle.std.proofs.Common.{◌≡◌, ℕ, zero, suc, ◌+◌, ◌≤◌, Bool, true, false, ◌||◌, not, nat_le, ◌&&◌, List, [], ◌∷◌, ◌++◌, map, length, replicate, codes, refl, sym, ap, ◌∙◌, subst, arith, append_assoc, length-append}
use Rattle.std.proofs.lemmas.Bool.Decides.{nat_tests}
use Rattle.std.specs.List.{list_all}
use Rattle.fort_spell.specs.declared.line.Margin.{Margin}
use Rattle.fort_spell.specs.declared.line.Sentinel.{Sentinel}
use Rattle.fort_spell.specs.declared.line.Sentinel.TheVariants as sentinel
use Rattle.fort_spell.specs.Text.{margin_text, first_margin, sentinel_text}
use Rattle.fort_spell.specs.Pieces.{Token, Piece, text_of}
use Rattle.fort_spell.specs.Rows.{Row, lead, past, laid, line}
use Rattle.layout_reading.specs.Readable.{IsToken, goes_on, first_byte, stands_off, AreBehind, ArePieces, IsReadable}
use Rattle.layout_reading.proofs.Texts.{is_ink, is_plain, ink_plain, all_append, all_under, token_some, token_ink, token_short}
use Rattle.layout_reading.proofs.Cutting.{Follows, nothing, apart, beside}

-- the rest of a row's text, where the rest of a line and the texts of further lines are given
abbrev pub broken : Margin → List ℕ → List (List ℕ) → List ℕ
broken m x [] = x ++ codes "\n"
broken m x (z ∷ zs) = x ++ (codes " &\n" ++ (margin_text m ++ broken m z zs))

-- the same as one line: two blanks stand for a break
abbrev pub behind : List (List ℕ) → List ℕ
behind [] = []
behind (z ∷ zs) = 32 ∷ 32 ∷ (z ++ behind zs)

-- the text of a further line: it begins with ink, and has ink and blanks
pub record Segment (room : ℕ) (z : List ℕ) : Type 0 where
  pub first : ℕ
  pub others : List ℕ
  pub is : z ≡ first ∷ others
  pub ink : is_ink first ≡ true
  pub plain : list_all is_plain z ≡ true
  pub short : room + length z ≤ 130

abbrev pub Segments : ℕ → List (List ℕ) → Type 0
Segments room [] = Unit {0}
Segments room (z ∷ zs) = Segment room z × Segments room zs

-- what pieces behind a token are laid out as
pub record Spread (m : Margin) (col : ℕ) (t : Token) (ps : List Piece) : Type 0 where
  pub here : List ℕ
  pub further : List (List ℕ)
  pub is : laid m col ps ≡ broken m here further
  pub follows : Follows t (here ++ behind further) (map (λ (p : Piece). p.token) ps)
  pub plain : list_all is_plain here ≡ true
  pub short : col + length here ≤ 130
  pub segments : Segments (length (margin_text m)) further

pub lead_plain : (s : Bool) → list_all is_plain (lead s) ≡ true
lead_plain true = refl
lead_plain false = refl

pub text_plain : (t : Token) → IsToken t → list_all is_plain (text_of t) ≡ true
text_plain t h = all_under is_ink is_plain ink_plain (text_of t) (token_ink t h)

broken_front : (m : Margin) (a x : List ℕ) (zs : List (List ℕ)) → broken m (a ++ x) zs ≡ a ++ broken m x zs
broken_front m a x [] = append_assoc a x (codes "\n")
broken_front m a x (z ∷ zs) = append_assoc a x _

not_on : (a : Bool) → not a ≡ true → a ≡ false
not_on true h = sym h
not_on false h = refl

follows_lead : (t u : Token) (s : Bool) (r : List ℕ) (us : List Token) → (s || not (goes_on t (first_byte (text_of u)))) ≡ true → IsToken u → Follows u r us → Follows t (lead s ++ (text_of u ++ r)) (u ∷ us)
follows_lead t u true r us h k f = apart 0 r k f
follows_lead t u false r us h k f = beside r k (not_on _ h) f

segment : (room : ℕ) (t : Token) (x : List ℕ) → IsToken t → list_all is_plain x ≡ true → room + length (text_of t) + length x ≤ 130 → Segment room (text_of t ++ x)
segment room t x h p k =
    let s = token_some t h in
    let e : text_of t ++ x ≡ s.first ∷ (s.others ++ x) = ap (λ w. w ++ x) s.is in
    let i : list_all is_ink (s.first ∷ s.others) ≡ true = ap (list_all is_ink) (sym s.is) ∙ token_ink t h in
    record {
      first = s.first;
      others = s.others ++ x;
      is = e;
      ink = first_of (is_ink s.first) _ i;
      plain = all_append is_plain (text_of t) x (text_plain t h) p;
      short = rw (length-append (text_of t) x) (omega (arith, k));
    }
  where
    first_of : (a b : Bool) → (a && b) ≡ true → a ≡ true
    first_of true b h = refl
    first_of false b h = h

length_past : (col : ℕ) (p : Piece) (x : List ℕ) → col + length (lead p.spaced ++ (text_of p.token ++ x)) ≡ past col p + length x
length_past col p x = rw (length-append (lead p.spaced) (text_of p.token ++ x), length-append (text_of p.token) x) (omega arith)

laid_nil : (m : Margin) (col : ℕ) → laid m col [] ≡ codes "\n"
unfolding laid
laid_nil m col = refl

laid_stays : (m : Margin) (col : ℕ) (p : Piece) (ps : List Piece) → nat_le (past col p) 130 ≡ true → laid m col (p ∷ ps) ≡ lead p.spaced ++ (text_of p.token ++ laid m (past col p) ps)
unfolding laid
laid_stays m col p ps c = rw c refl

laid_breaks : (m : Margin) (col : ℕ) (p : Piece) (ps : List Piece) → nat_le (past col p) 130 ≡ false →
    laid m col (p ∷ ps) ≡ codes " &\n" ++ (margin_text m ++ (text_of p.token ++ laid m (length (margin_text m) + length (text_of p.token)) ps))
unfolding laid
laid_breaks m col p ps c = rw c refl

stays : (m : Margin) (col : ℕ) (t : Token) (p : Piece) (ps : List Piece) → nat_le (past col p) 130 ≡ true → IsToken p.token → stands_off t p ≡ true → Spread m (past col p) p.token ps → Spread m col t (p ∷ ps)
stays m col t p ps c h g s = record {
  here = lead p.spaced ++ (text_of p.token ++ s.here);
  further = s.further;
  is = laid_stays m col p ps c ∙ (ap (λ y. lead p.spaced ++ (text_of p.token ++ y)) s.is ∙ ap (λ y. lead p.spaced ++ y) (sym (broken_front m (text_of p.token) s.here s.further)) ∙ sym (broken_front m (lead p.spaced) (text_of p.token ++ s.here) s.further));
  follows = subst (λ y. Follows t y (p.token ∷ map (λ (p : Piece). p.token) ps))
      (ap (λ y. lead p.spaced ++ y) (sym (append_assoc (text_of p.token) s.here (behind s.further))) ∙ sym (append_assoc (lead p.spaced) (text_of p.token ++ s.here) (behind s.further)))
      (follows_lead t p.token p.spaced (s.here ++ behind s.further) _ g h s.follows);
  plain = all_append is_plain (lead p.spaced) (text_of p.token ++ s.here) (lead_plain p.spaced) (all_append is_plain (text_of p.token) s.here (text_plain p.token h) s.plain);
  short = omega (arith, length_past col p s.here, s.short);
  segments = s.segments;
}

breaks : (m : Margin) (col : ℕ) (t : Token) (p : Piece) (ps : List Piece) → nat_le (past col p) 130 ≡ false → col ≤ 130 → IsToken p.token →
    Spread m (length (margin_text m) + length (text_of p.token)) p.token ps → Spread m col t (p ∷ ps)
breaks m col t p ps c k h s = record {
  here = [];
  further = (text_of p.token ++ s.here) ∷ s.further;
  is = laid_breaks m col p ps c ∙ (ap (λ y. codes " &\n" ++ (margin_text m ++ (text_of p.token ++ y))) s.is ∙ ap (λ y. codes " &\n" ++ (margin_text m ++ y)) (sym (broken_front m (text_of p.token) s.here s.further)));
  follows = subst (λ y. Follows t (32 ∷ 32 ∷ y) (p.token ∷ map (λ (p : Piece). p.token) ps)) (sym (append_assoc (text_of p.token) s.here (behind s.further))) (apart 1 (s.here ++ behind s.further) h s.follows);
  plain = refl;
  short = omega (arith, k);
  segments = (segment (length (margin_text m)) p.token s.here h s.plain s.short, s.segments);
}

spread_if : (m : Margin) (col : ℕ) (t : Token) (p : Piece) (ps : List Piece) (c : Bool) → nat_le (past col p) 130 ≡ c → col ≤ 130 → length (margin_text m) ≤ 50 → IsToken p.token → stands_off t p ≡ true →
    ((at : ℕ) → at ≤ 130 → Spread m at p.token ps) → Spread m col t (p ∷ ps)
spread_if m col t p ps true c k l h g f = stays m col t p ps c h g (f (past col p) (grind (arith, nat_tests, c)))
spread_if m col t p ps false c k l h g f = breaks m col t p ps c k h (f (length (margin_text m) + length (text_of p.token)) (omega (arith, l, token_short p.token h)))

pub spread : (m : Margin) (col : ℕ) (t : Token) (ps : List Piece) → col ≤ 130 → length (margin_text m) ≤ 50 → AreBehind t ps → Spread m col t ps
spread m col t [] k l h = record { here = []; further = []; is = laid_nil m col; follows = nothing; plain = refl; short = omega (arith, k); segments = tt }
spread m col t (p ∷ ps) k l h = spread_if m col t p ps (nat_le (past col p) 130) refl k l h.0 h.1 (λ at small. spread m at p.token ps small l h.2)

-- A ROW

sentinel_short : (s : Sentinel) → nat_le (length (sentinel_text s)) 6 ≡ true
sentinel_short sentinel.Absent = refl
sentinel_short _ = refl

length_blanks : (n : ℕ) → length {A = ℕ} (replicate n 32) ≡ n
length_blanks zero = refl
length_blanks (suc n) = ap suc (length_blanks n)

pub margin_short : (m : Margin) → m.indent ≤ 40 → length (margin_text m) ≤ 50
margin_short m h =
    let k : length (sentinel_text m.sentinel) ≤ 6 = grind (arith, nat_tests, sentinel_short m.sentinel) in
    rw (length-append (replicate (m.indent + 4) 32) (sentinel_text m.sentinel), length_blanks (m.indent + 4)) (omega (arith, h, k))

pub first_short : (m : Margin) → m.indent ≤ 40 → length (first_margin m) ≤ 46
first_short m h =
    let k : length (sentinel_text m.sentinel) ≤ 6 = grind (arith, nat_tests, sentinel_short m.sentinel) in
    rw (length-append (replicate m.indent 32) (sentinel_text m.sentinel), length_blanks m.indent) (omega (arith, h, k))

-- a row's first token, and what is laid out behind it
pub record Laid (row : Row) : Type 0 where
  pub spaced : Bool
  pub token : Token
  pub others : List Token
  pub here : List ℕ
  pub further : List (List ℕ)
  pub is : line row ≡ first_margin row.margin ++ (lead spaced ++ broken row.margin (text_of token ++ here) further)
  pub tokens : map (λ (p : Piece). p.token) row.pieces ≡ token ∷ others
  pub follows : Follows token (here ++ behind further) others
  pub known : IsToken token
  pub first : Segment (length (first_margin row.margin) + length (lead spaced)) (text_of token ++ here)
  pub segments : Segments (length (margin_text row.margin)) further

lead_short : (s : Bool) → nat_le (length (lead s)) 1 ≡ true
lead_short true = refl
lead_short false = refl

laid_at : (m : Margin) (p : Piece) (ps : List Piece) → m.indent ≤ 40 → IsToken p.token → AreBehind p.token ps → Laid (record { margin = m; pieces = p ∷ ps })
laid_at m p ps k h b =
    let w : length (first_margin m) ≤ 46 = first_short m k in
    let l : length (lead p.spaced) ≤ 1 = grind (arith, nat_tests, lead_short p.spaced) in
    let small : past (length (first_margin m)) p ≤ 130 = omega (arith, w, l, token_short p.token h) in
    let c : nat_le (past (length (first_margin m)) p) 130 ≡ true = grind (arith, nat_tests, small) in
    let s = spread m (past (length (first_margin m)) p) p.token ps small (margin_short m k) b in
    record {
      spaced = p.spaced;
      token = p.token;
      others = map (λ (p : Piece). p.token) ps;
      here = s.here;
      further = s.further;
      is = ap (λ y. first_margin m ++ y) (laid_stays m (length (first_margin m)) p ps c ∙ (ap (λ y. lead p.spaced ++ (text_of p.token ++ y)) s.is ∙ ap (λ y. lead p.spaced ++ y) (sym (broken_front m (text_of p.token) s.here s.further))));
      tokens = refl;
      follows = s.follows;
      known = h;
      first = segment (length (first_margin m) + length (lead p.spaced)) p.token s.here h s.plain s.short;
      segments = s.segments;
    }

pub laid_row : (row : Row) → IsReadable row → Laid row
laid_row row h = at row.pieces h.pieces
  where
    at : (ps : List Piece) → ArePieces ps → Laid (record { margin = row.margin; pieces = ps })
    at [] g = absurd g
    at (p ∷ ps) g = laid_at row.margin p ps h.indented g.0 g.1
