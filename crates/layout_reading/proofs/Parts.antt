-- The parts of statements are read as they are written.
use Rattle.std.proofs.Common.{◌≡◌, List, [], ◌∷◌, ◌++◌, Bool, true, false, ◌||◌, map, refl, sym, ap, ◌∙◌, subst, codes, append_assoc, bytes_eq}
use Rattle.std.specs.Prelude.{⊤}
use Rattle.std.proofs.lemmas.List.{append-nil, map-append}
use Rattle.fort_arith.specs.declared.op.Op.{Op}
use Rattle.fort_arith.specs.declared.op.Op.TheVariants as op
use Rattle.fort_tree.specs.declared.statement.Token.{Token}
use Rattle.fort_tree.specs.declared.expr.Expr.{Expr}
use Rattle.fort_tree.specs.declared.expr.Expr.TheVariants as expr
use Rattle.fort_tree.specs.declared.expr.Unary.TheVariants as unary
use Rattle.fort_tree.specs.Name.{lowercase}
use Rattle.fort_tree.specs.Token.{is_token}
use Rattle.fort_grammar.specs.declared.class.Class.TheVariants as class
use Rattle.fort_grammar.specs.Token.{token_class}
use Rattle.fort_expr.specs.Expression.{IsNumber}
use Rattle.fort_stmt.specs.Form as f
use Rattle.fort_stmt.specs.Form.{named_of, number_of_token, name_of_token, truth_of_token, IsNames, IsNamesOption, IsBound, IsBoundOption, IsDimension, IsShape, IsInitial, IsValue, IsValueOption, IsRange, IsRanges, IsTarget, IsArguments, IsStep}
use Rattle.fort_spell.specs.declared.mark.Mark.{Mark}
use Rattle.fort_spell.specs.declared.mark.Mark.TheVariants as mark
use Rattle.fort_spell.specs.Text.{mark_text}
use Rattle.fort_spell.specs.Pieces.{Word, Sign, Piece, Spelling, sign, items, more_items}
use Rattle.fort_spell.specs.Expressions.{expr_pieces, op_mark, loose}
use Rattle.layout_reading.specs.Readable.{AreBehind}
use Rattle.layout_reading.specs.Tokens.{texts, piece_texts, AreTokens}
use Rattle.layout_reading.proofs.Classes.{comma_class_is, plus_class_is, minus_class_is}
use Rattle.layout_reading.proofs.Gaps.{Starts, Follows, mark_starts, ends_follow}
use Rattle.layout_reading.proofs.Unplacing.{same_name, same_two}
use Rattle.layout_reading.proofs.Spellings.{name_pieces, two_pieces}
use Rattle.layout_reading.proofs.Expressions.{cut, real_first, real_rest, Again, Law, law_number, law_truth, law_one, law_named, law_ref, leads}
use Rattle.layout_reading.proofs.Keywords.{keyword, Free, token_free, free_lower}

-- EXPRESSIONS IN THEIR PLACES

-- a law of an expression, whatever stood behind it
pub record Fit (F : List Token → List Token → Expr → Type 0) (e : Expr) : Type 0 where
  pub again : (s : Bool) (k : List Piece) (ws : List Token) → texts ws ≡ piece_texts (expr_pieces e s k) → Again F e ws k
  pub stands : (s : Bool) (k : List Piece) → Follows k → Starts (expr_pieces e s k)

pub fit : (F : List Token → List Token → Expr → Type 0) (z : List Token) (e : Expr) → Law F z e → Fit F e
fit F z e l = record { again = l.again; stands = l.stands }

pub law_target : {w z : List Token} {e : Expr} → IsTarget w z e → AreTokens w → Law IsTarget z e
law_target (f.target {w = w} {z = z} {e = e} t h d) r = law_named IsTarget t z e (λ q w z e h i. f.target q h i) (real_first t w r) h (law_ref d (real_rest t w r))

-- a number
pub data IsNumeral : List Token → List Token → Expr → Type 0 where
  numeral : {z : List Token} (t : Token) → IsNumber (token_class t) → IsNumeral (t ∷ z) z (number_of_token t)

-- a name without subscripts
pub data IsBare : List Token → List Token → Expr → Type 0 where
  bare : {z : List Token} (t : Token) → token_class t ≡ class.Name → IsBare (t ∷ z) z (name_of_token t)

law_numeral : (t : Token) (z : List Token) → is_token t.text ≡ true → IsNumber (token_class t) → AreTokens z → Law IsNumeral z (number_of_token t)
law_numeral t z real h left = law_number IsNumeral (λ q z h. numeral q h) t z real h left

law_name : (F : List Token → List Token → Expr → Type 0) → ((q : Token) (z : List Token) → token_class q ≡ class.Name → F (q ∷ z) z (name_of_token q)) →
    (t : Token) (z : List Token) → is_token t.text ≡ true → token_class t ≡ class.Name → AreTokens z → Law F z (name_of_token t)
law_name F make t z real h left =
    let free : Free (lowercase t.text) = token_free t real h in
    record {
      again = λ s k ws e.
          let c = cut ws (lowercase t.text) (piece_texts k) (e ∙ ap piece_texts (name_pieces (lowercase t.text) t.at s k)) in
          record {
            rest = c.others;
            tree = name_of_token c.first;
            is = subst (λ y. F y c.others (name_of_token c.first)) (sym c.is) (make c.first c.others (keyword c.first (lowercase t.text) class.Name free c.text));
            same = same_name (lowercase c.first.text) (lowercase t.text) c.first.at t.at (free_lower c.first (lowercase t.text) free c.text);
            have = c.have;
          };
      stands = λ s k i. subst Starts (sym (name_pieces (lowercase t.text) t.at s k)) (free.is_name, refl, ends_follow (Word (lowercase t.text)) k refl i);
      left = left;
    }

or_sign : (s : Bool) → (s || true) ≡ true
or_sign true = refl
or_sign false = refl

-- a sign between two operands
law_op : (Is Js Ks : List Token → List Token → Expr → Type 0) (o : Op) (c : Token) (x z : List Token) (a b : Expr) →
    ((w x z : List Token) (a b : Expr) (q : Token) → Is w (q ∷ x) a → q.text ≡ mark_text (op_mark o) → Js x z b → Ks w z (expr.Two o a b)) →
    Law Is (c ∷ x) a → Law Js z b → Law Ks z (expr.Two o a b)
law_op Is Js Ks o c x z a b make l r = record {
  again = λ s k ws h.
      let m : Mark = op_mark o in
      let p : Bool = loose o in
      let u = l.again s (sign p m (expr_pieces b p k)) ws (h ∙ ap piece_texts (two_pieces o a b s k)) in
      let d = cut u.rest (mark_text m) (piece_texts (expr_pieces b p k)) u.have in
      let v = r.again p k d.others d.have in
      record {
        rest = v.rest;
        tree = expr.Two o u.tree v.tree;
        is = make ws d.others v.rest u.tree v.tree d.first (subst (λ y. Is ws y u.tree) d.is u.is) d.text v.is;
        same = same_two o o u.tree v.tree a b refl u.same v.same;
        have = v.have;
      };
  stands = λ s k i.
      subst Starts (sym (two_pieces o a b s k)) (l.stands s (sign (loose o) (op_mark o) (expr_pieces b (loose o) k)) (tt, or_sign (loose o), mark_starts (op_mark o) (expr_pieces b (loose o) k) (r.stands (loose o) k i)));
  left = r.left;
}

minus_begins : (k : List Piece) (s : Bool) → Starts k → Starts (sign s mark.Minus k)
minus_begins k s i = (tt, refl, mark_starts mark.Minus k i)

negative_bound : (q : Token) (w z : List Token) (a : Expr) → q.text ≡ mark_text mark.Minus → IsNumeral w z a → IsBound (q ∷ w) z (expr.One unary.Minus a q.at)
negative_bound q w z a e (numeral t h) = f.bound_negative q t (minus_class_is q e) h

negative_initial : (q : Token) (w z : List Token) (a : Expr) → q.text ≡ mark_text mark.Minus → IsNumeral w z a → IsInitial (q ∷ w) z (expr.One unary.Minus a q.at)
negative_initial q w z a e (numeral t h) = f.initial_negative q t (minus_class_is q e) h

negative_value : (q : Token) (w z : List Token) (a : Expr) → q.text ≡ mark_text mark.Minus → IsNumeral w z a → IsValue (q ∷ w) z (expr.One unary.Minus a q.at)
negative_value q w z a e (numeral t h) = f.value_negative q t (minus_class_is q e) h

plus_bound : (w x z : List Token) (a b : Expr) (q : Token) → IsBare w (q ∷ x) a → q.text ≡ mark_text mark.Plus → IsNumeral x z b → IsBound w z (expr.Two op.Add a b)
plus_bound w x z a b q (bare n e) h (numeral t i) = f.bound_plus n q t e (plus_class_is q h) i

minus_bound : (w x z : List Token) (a b : Expr) (q : Token) → IsBare w (q ∷ x) a → q.text ≡ mark_text mark.Minus → IsNumeral x z b → IsBound w z (expr.Two op.Sub a b)
minus_bound w x z a b q (bare n e) h (numeral t i) = f.bound_minus n q t e (minus_class_is q h) i

pub law_bound : {w z : List Token} {e : Expr} → IsBound w z e → AreTokens w → Law IsBound z e
law_bound (f.bound_number {z = z} t h) r = law_number IsBound (λ q z h. f.bound_number q h) t z (real_first t z r) h (real_rest t z r)
law_bound (f.bound_negative {z = z} m t e h) r =
    let r' = real_rest m (t ∷ z) r in law_one IsNumeral IsBound unary.Minus m.at z (number_of_token t) negative_bound minus_begins (law_numeral t z (real_first t z r') h (real_rest t z r'))
law_bound (f.bound_name {z = z} n e) r = law_name IsBound (λ q z h. f.bound_name q h) n z (real_first n z r) e (real_rest n z r)
law_bound (f.bound_plus {z = z} n o t e p h) r =
    let r' = real_rest n (o ∷ t ∷ z) r in
    let r'' = real_rest o (t ∷ z) r' in
    law_op IsBare IsNumeral IsBound op.Add o (t ∷ z) z (name_of_token n) (number_of_token t) plus_bound (law_name IsBare (λ q z h. bare q h) n (o ∷ t ∷ z) (real_first n (o ∷ t ∷ z) r) e r') (law_numeral t z (real_first t z r'') h (real_rest t z r''))
law_bound (f.bound_minus {z = z} n o t e p h) r =
    let r' = real_rest n (o ∷ t ∷ z) r in
    let r'' = real_rest o (t ∷ z) r' in
    law_op IsBare IsNumeral IsBound op.Sub o (t ∷ z) z (name_of_token n) (number_of_token t) minus_bound (law_name IsBare (λ q z h. bare q h) n (o ∷ t ∷ z) (real_first n (o ∷ t ∷ z) r) e r') (law_numeral t z (real_first t z r'') h (real_rest t z r''))

pub law_initial : {w z : List Token} {e : Expr} → IsInitial w z e → AreTokens w → Law IsInitial z e
law_initial (f.initial_number {z = z} t h) r = law_number IsInitial (λ q z h. f.initial_number q h) t z (real_first t z r) h (real_rest t z r)
law_initial (f.initial_negative {z = z} m t e h) r =
    let r' = real_rest m (t ∷ z) r in law_one IsNumeral IsInitial unary.Minus m.at z (number_of_token t) negative_initial minus_begins (law_numeral t z (real_first t z r') h (real_rest t z r'))
law_initial (f.initial_truth {z = z} t h) r = law_truth IsInitial (λ q z h. f.initial_truth q h) (bytes_eq t.text (codes ".true.")) t.at z (real_rest t z r)

pub law_value : {w z : List Token} {e : Expr} → IsValue w z e → AreTokens w → Law IsValue z e
law_value (f.value_number {z = z} t h) r = law_number IsValue (λ q z h. f.value_number q h) t z (real_first t z r) h (real_rest t z r)
law_value (f.value_negative {z = z} m t e h) r =
    let r' = real_rest m (t ∷ z) r in law_one IsNumeral IsValue unary.Minus m.at z (number_of_token t) negative_value minus_begins (law_numeral t z (real_first t z r') h (real_rest t z r'))
law_value (f.value_name {z = z} n e) r = law_name IsValue (λ q z h. f.value_name q h) n z (real_first n z r) e (real_rest n z r)

-- LISTS OF ITEMS

pub record ItemAgain (T U : Type 0) (F : List Token → List Token → T → Type 0) (bare : T → U) (x : T) (ws : List Token) (k : List Piece) : Type 0 where
  pub rest : List Token
  pub item : T
  pub is : F ws rest item
  pub same : bare item ≡ bare x
  pub have : texts rest ≡ piece_texts k

-- an item that can stand in a list, where the pieces behind it are such
pub record ItemFit (T U : Type 0) (F : List Token → List Token → T → Type 0) (bare : T → U) (sp : T → Spelling) (E : List Piece → Type 0) (x : T) : Type 0 where
  pub again : (s : Bool) (k : List Piece) (ws : List Token) → texts ws ≡ piece_texts (sp x s k) → ItemAgain T U F bare x ws k
  pub behind : (m : Mark) → leads m ≡ true → (s : Bool) (k : List Piece) → E k → AreBehind (Sign m) (sp x s k)

module _ (T U : Type 0) (F : List Token → List Token → T → Type 0) (G : List Token → List Token → List T → Type 0) (bare : T → U) (sp : T → Spelling) (E : List Piece → Type 0)
    (first : (w z : List Token) (x : T) → F w z x → G w z (x ∷ []))
    (next : (w x z : List Token) (l : List T) (y : T) (c : Token) → G w (c ∷ x) l → token_class c ≡ class.Comma → F x z y → G w z (l ++ y ∷ []))
    (comma : (k : List Piece) → AreBehind (Sign mark.Comma) k → E (sign false mark.Comma k)) where
  abbrev pub AllFit : List T → Type 0
  AllFit [] = ⊤
  AllFit (x ∷ l) = ItemFit T U F bare sp E x × AllFit l

  pub fit_more : (l : List T) (x : T) → AllFit l → ItemFit T U F bare sp E x → AllFit (l ++ x ∷ [])
  fit_more [] x a b = (b, tt)
  fit_more (y ∷ l) x a b = (a.0, fit_more l x a.1 b)

  items_on : (gap : Bool) (l : List T) (k : List Piece) (w ws : List Token) (before : List T) (done : List T) → AllFit l → G w ws before → map bare before ≡ map bare done →
      texts ws ≡ piece_texts (more_items gap (map sp l) k) → ItemAgain (List T) (List U) (λ v z x. G w z x) (map bare) (done ++ l) ws k
  items_on gap [] k w ws before done a g e h = record { rest = ws; item = before; is = g; same = e ∙ ap (map bare) (sym (append-nil done)); have = h }
  items_on gap (x ∷ l) k w ws before done a g e h =
      let c = cut ws (mark_text mark.Comma) (piece_texts (sp x gap (more_items gap (map sp l) k))) h in
      let v = a.0.again gap (more_items gap (map sp l) k) c.others c.have in
      let r = items_on gap l k w v.rest (before ++ v.item ∷ []) (done ++ x ∷ []) a.1 (next w c.others v.rest before v.item c.first (subst (λ y. G w y before) c.is g) (comma_class_is c.first c.text) v.is)
      (map-append bare before (v.item ∷ []) ∙ ap (λ y. y ++ bare v.item ∷ []) e ∙ ap (λ y. map bare done ++ y ∷ []) v.same ∙ sym (map-append bare done (x ∷ []))) v.have in
      record { rest = r.rest; item = r.item; is = r.is; same = r.same ∙ ap (map bare) (append_assoc done (x ∷ []) l); have = r.have }

  pub items_again : (gap s : Bool) (x : T) (l : List T) (k : List Piece) (ws : List Token) → AllFit (x ∷ l) → texts ws ≡ piece_texts (items gap (map sp (x ∷ l)) s k) → ItemAgain (List T) (List U) G (map bare) (x ∷ l) ws k
  items_again gap s x l k ws a h =
      let v = a.0.again s (more_items gap (map sp l) k) ws h in
      let r = items_on gap l k ws v.rest (v.item ∷ []) (x ∷ []) a.1 (first ws v.rest v.item v.is) (ap (λ y. y ∷ []) v.same) v.have in
      record { rest = r.rest; item = r.item; is = r.is; same = r.same; have = r.have }

  more_ends : (gap : Bool) (l : List T) (k : List Piece) → AllFit l → E k → E (more_items gap (map sp l) k)
  more_ends gap [] k a e = e
  more_ends gap (x ∷ l) k a e = comma (sp x gap (more_items gap (map sp l) k)) (a.0.behind mark.Comma refl gap (more_items gap (map sp l) k) (more_ends gap l k a.1 e))

  pub items_behind : (m : Mark) → leads m ≡ true → (gap s : Bool) (x : T) (l : List T) (k : List Piece) → AllFit (x ∷ l) → E k → AreBehind (Sign m) (items gap (map sp (x ∷ l)) s k)
  items_behind m h gap s x l k a e = a.0.behind m h s (more_items gap (map sp l) k) (more_ends gap l k a.1 e)
