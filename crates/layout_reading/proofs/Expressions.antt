-- The tokens of a written expression derive it again.
use Rattle.std.proofs.Common.{◌≡◌, ℕ, ◌<◌, ◌^◌, List, [], ◌∷◌, ◌++◌, Option, None, Some, Bool, true, false, ◌||◌, map, option_map, refl, sym, ap, ◌∙◌, subst, codes}
use Rattle.std.specs.List.{list_all}
use Rattle.std.specs.Str.{bytes_eq}
use Rattle.std.proofs.lemmas.Bool.{true≢false, and_from, and_parts}
use Rattle.std.proofs.lemmas.Slice.Eq.{bytes_eq-Decides}
use Rattle.fort_arith.specs.declared.kind.Kind.{Kind}
use Rattle.fort_tree.specs.declared.place.Place.{Place}
use Rattle.fort_tree.specs.declared.statement.Token.{Token}
use Rattle.fort_tree.specs.declared.expr.Expr.{Expr}
use Rattle.fort_tree.specs.declared.expr.Expr.TheVariants as expr
use Rattle.fort_tree.specs.declared.expr.Sub.{Sub}
use Rattle.fort_tree.specs.declared.expr.Sub.TheVariants as sub
use Rattle.fort_tree.specs.declared.expr.Unary.{Unary}
use Rattle.fort_tree.specs.declared.expr.Unary.TheVariants as unary
use Rattle.fort_tree.specs.Name.{IsName, is_name, lowercase}
use Rattle.fort_tree.specs.Token.{is_token}
use Rattle.fort_tree.specs.Unplaced.{unplaced, unplaced_sub}
use Rattle.fort_grammar.specs.declared.class.Class.TheVariants as class
use Rattle.fort_grammar.specs.Token.{text_class, token_class}
use Rattle.fort_expr.specs.Expression as g
use Rattle.fort_expr.specs.Expression.{IsNumber, IsReferred, IsSign, IsMultiply, IsExpr, IsDisj, IsConj, IsNeg, IsRel, IsSum, IsTerm, IsFactor, IsPrimary, IsRef, IsSubs, IsList, IsSub, IsBound}
use Rattle.fort_expr.specs.Words.{operator_of, number_of, kind_of, front_place}
use Rattle.fort_expr.proofs.Names.{referred-name}
use Rattle.fort_spell.specs.declared.mark.Mark.{Mark}
use Rattle.fort_spell.specs.declared.mark.Mark.TheVariants as mark
use Rattle.fort_spell.specs.Text.{mark_text}
use Rattle.fort_spell.specs.Pieces.{Token as Spelled, Word, Number, Sign, Piece, Spelling, word, sign, bracketed, lower, or_none, items}
use Rattle.fort_spell.specs.Expressions.{expr_pieces, sub_pieces, bound_pieces, loose, op_mark, truth_mark, unary_mark, unary_loose}
use Rattle.layout_reading.specs.Readable.{AreBehind, ArePieces}
use Rattle.layout_reading.specs.Tokens.{texts, piece_texts, AreTokens}
use Rattle.layout_reading.specs.Printable.{AreExpression}
use Rattle.layout_reading.proofs.Classes.{operator_class, operator_back, truths_back, open_class_is, close_class_is, comma_class_is, colon_class_is, not_class_is, plus_class_is, minus_class_is, truth_class_is}
use Rattle.layout_reading.proofs.Numbers.{number_in_range, number_text, number_back, kind_back, number_class_is}
use Rattle.layout_reading.proofs.Gaps.{Starts, Follows, Closed, ends, mark_starts, ends_follow, closed, closed_follows}
use Rattle.layout_reading.proofs.Unplacing.{same_number, same_truth, same_name, same_ref, same_one, same_two, same_paren, same_alone, same_range, same_append}
use Rattle.layout_reading.proofs.Spellings.{number_pieces, truth_pieces, name_pieces, ref_pieces, one_pieces, two_pieces, paren_pieces, alone_pieces, range_pieces, items_one}

-- TOKENS

-- the first of tokens whose texts are known
pub record Cut (ws : List Token) (t : List ℕ) (ts : List (List ℕ)) : Type 0 where
  pub first : Token
  pub others : List Token
  pub is : ws ≡ first ∷ others
  pub text : first.text ≡ t
  pub have : texts others ≡ ts

pub cut : (ws : List Token) (t : List ℕ) (ts : List (List ℕ)) → texts ws ≡ t ∷ ts → Cut ws t ts
cut [] t ts e = absurd cc
cut (w ∷ ws) t ts e = record { first = w; others = ws; is = refl; text = cc; have = cc }

pub real_first : (t : Token) (ts : List Token) → AreTokens (t ∷ ts) → is_token t.text ≡ true
real_first t ts h = (and_parts (is_token t.text) (list_all (λ (t : Token). is_token t.text) ts) h).0

pub real_rest : (t : Token) (ts : List Token) → AreTokens (t ∷ ts) → AreTokens ts
real_rest t ts h = (and_parts (is_token t.text) (list_all (λ (t : Token). is_token t.text) ts) h).1

-- the text of each token is a token's
pub all_real : (ts : List Token) → AreTokens ts
all_real [] = refl
all_real (t ∷ ts) = and_from (is_token t.text) (list_all (λ (t : Token). is_token t.text) ts) t.whole (all_real ts)

pub real_lower : (text : List ℕ) → is_token text ≡ true → lowercase text ≡ text
real_lower text h = (bytes_eq-Decides (lowercase text) text).0 (and_parts (bytes_eq (lowercase text) text) _ h).0

-- THE LAW OF AN EXPRESSION

-- Tokens with the texts of the pieces of an expression, and of those behind it, derive the expression, its places set aside.
pub record Again (Is : List Token → List Token → Expr → Type 0) (e : Expr) (ws : List Token) (k : List Piece) : Type 0 where
  pub rest : List Token
  pub tree : Expr
  pub is : Is ws rest tree
  pub same : unplaced tree ≡ unplaced e
  pub have : texts rest ≡ piece_texts k

pub record Law (Is : List Token → List Token → Expr → Type 0) (z : List Token) (e : Expr) : Type 0 where
  pub again : (s : Bool) (k : List Piece) (ws : List Token) → texts ws ≡ piece_texts (expr_pieces e s k) → Again Is e ws k
  pub stands : (s : Bool) (k : List Piece) → Follows k → Starts (expr_pieces e s k)
  pub left : AreTokens z

pub lift : (Is Js : List Token → List Token → Expr → Type 0) (z : List Token) (e : Expr) → ((w z : List Token) (e : Expr) → Is w z e → Js w z e) → Law Is z e → Law Js z e
lift Is Js z e f l = record {
  again = λ s k ws h. let a = l.again s k ws h in record { rest = a.rest; tree = a.tree; is = f ws a.rest a.tree a.is; same = a.same; have = a.have };
  stands = l.stands;
  left = l.left;
}

or_sign : (s : Bool) → (s || true) ≡ true
or_sign true = refl
or_sign false = refl

-- a binary operator between two operands
pub law_two : (Is Js Ks : List Token → List Token → Expr → Type 0) (C : Token → Type 0) (o : Token) (x z : List Token) (a b : Expr) →
    ((q : Token) → q.text ≡ mark_text (op_mark (operator_of o.text)) → C q) →
    ((w x z : List Token) (a b : Expr) (q : Token) → Is w (q ∷ x) a → C q → Js x z b → Ks w z (expr.Two (operator_of q.text) a b)) →
    Law Is (o ∷ x) a → Law Js z b → Law Ks z (expr.Two (operator_of o.text) a b)
law_two Is Js Ks C o x z a b keeps make l r = record {
  again = λ s k ws h.
      let m : Mark = op_mark (operator_of o.text) in
      let p : Bool = loose (operator_of o.text) in
      let u = l.again s (sign p m (expr_pieces b p k)) ws (h ∙ ap piece_texts (two_pieces (operator_of o.text) a b s k)) in
      let c = cut u.rest (mark_text m) (piece_texts (expr_pieces b p k)) u.have in
      let v = r.again p k c.others c.have in
      record {
        rest = v.rest;
        tree = expr.Two (operator_of c.first.text) u.tree v.tree;
        is = make ws c.others v.rest u.tree v.tree c.first (subst (λ y. Is ws y u.tree) c.is u.is) (keeps c.first c.text) v.is;
        same = same_two (operator_of c.first.text) (operator_of o.text) u.tree v.tree a b (operator_back (operator_of o.text) c.first c.text) u.same v.same;
        have = v.have;
      };
  stands = λ s k f.
      let m : Mark = op_mark (operator_of o.text) in
      let p : Bool = loose (operator_of o.text) in
      subst Starts (sym (two_pieces (operator_of o.text) a b s k)) (l.stands s (sign p m (expr_pieces b p k)) (tt, or_sign p, mark_starts m (expr_pieces b p k) (r.stands p k f)));
  left = r.left;
}

-- an operator before an operand
pub law_one : (Is Js : List Token → List Token → Expr → Type 0) (u : Unary) (at : Place) (z : List Token) (a : Expr) → ((q : Token) (w z : List Token) (a : Expr) → q.text ≡ mark_text (unary_mark u) → Is w z a → Js (q ∷ w) z (expr.One u a q.at)) →
    ((k : List Piece) → (s : Bool) → Starts k → Starts (sign s (unary_mark u) k)) → Law Is z a → Law Js z (expr.One u a at)
law_one Is Js u at z a make begins l = record {
  again = λ s k ws h.
      let c = cut ws (mark_text (unary_mark u)) (piece_texts (expr_pieces a (unary_loose u) k)) (h ∙ ap piece_texts (one_pieces u a at s k)) in
      let v = l.again (unary_loose u) k c.others c.have in
      record {
        rest = v.rest;
        tree = expr.One u v.tree c.first.at;
        is = subst (λ y. Js y v.rest (expr.One u v.tree c.first.at)) (sym c.is) (make c.first c.others v.rest v.tree c.text v.is);
        same = same_one u v.tree a c.first.at at v.same;
        have = v.have;
      };
  stands = λ s k f. subst Starts (sym (one_pieces u a at s k)) (begins (expr_pieces a (unary_loose u) k) s (l.stands (unary_loose u) k f));
  left = l.left;
}

-- PRIMARIES

pub law_number : (F : List Token → List Token → Expr → Type 0) → ((q : Token) (z : List Token) → IsNumber (token_class q) → F (q ∷ z) z (expr.Number (number_of q.text) (kind_of q.text) q.at)) →
    (t : Token) (z : List Token) → is_token t.text ≡ true → IsNumber (token_class t) → AreTokens z → Law F z (expr.Number (number_of t.text) (kind_of t.text) t.at)
law_number F make t z real h left =
    let n : ℕ = number_of t.text in
    let k : Option Kind = kind_of t.text in
    let small : n < 2 ^ 63 = number_in_range t real h in
    record {
      again = λ s ks ws e.
          let c = cut ws (number_text n k) (piece_texts ks) (e ∙ ap piece_texts (number_pieces n k t.at s ks)) in
          record {
            rest = c.others;
            tree = expr.Number (number_of c.first.text) (kind_of c.first.text) c.first.at;
            is = subst (λ y. F y c.others (expr.Number (number_of c.first.text) (kind_of c.first.text) c.first.at)) (sym c.is) (make c.first c.others (number_class_is c.first n k small c.text));
            same = same_number (number_of c.first.text) n (kind_of c.first.text) k c.first.at t.at (ap number_of c.text ∙ number_back n k small) (ap kind_of c.text ∙ kind_back n t.text small);
            have = c.have;
          };
      stands = λ s ks f. subst Starts (sym (number_pieces n k t.at s ks)) (small, refl, ends_follow (Number n k) ks refl f);
      left = left;
    }

truth_starts : (s b : Bool) (k : List Piece) → Follows k → Starts (sign s (truth_mark b) k)
truth_starts s true k f = (tt, refl, ends_follow (Sign mark.True) k refl f)
truth_starts s false k f = (tt, refl, ends_follow (Sign mark.False) k refl f)

pub law_truth : (F : List Token → List Token → Expr → Type 0) → ((q : Token) (z : List Token) → token_class q ≡ class.Truth → F (q ∷ z) z (expr.Truth (bytes_eq q.text (codes ".true.")) q.at)) → (b : Bool) (at : Place) (z : List Token) → AreTokens z → Law F z (expr.Truth b at)
law_truth F make b at z left = record {
  again = λ s ks ws e.
      let c = cut ws (mark_text (truth_mark b)) (piece_texts ks) (e ∙ ap piece_texts (truth_pieces b at s ks)) in
      record {
        rest = c.others;
        tree = expr.Truth (bytes_eq c.first.text (codes ".true.")) c.first.at;
        is = subst (λ y. F y c.others (expr.Truth (bytes_eq c.first.text (codes ".true.")) c.first.at)) (sym c.is) (make c.first c.others (truth_class_is c.first b c.text));
        same = same_truth (bytes_eq c.first.text (codes ".true.")) b c.first.at at (ap (λ x. bytes_eq x (codes ".true.")) c.text ∙ truths_back b);
        have = c.have;
      };
  stands = λ s ks f. subst Starts (sym (truth_pieces b at s ks)) (truth_starts s b ks f);
  left = left;
}

law_paren : (at : Place) (q : Token) (z : List Token) (a : Expr) → Law IsExpr (q ∷ z) a → Law IsPrimary z (expr.Paren a at)
law_paren at q z a l = record {
  again = λ s ks ws e.
      let c = cut ws (mark_text mark.Open) (piece_texts (expr_pieces a false (sign false mark.Close ks))) (e ∙ ap piece_texts (paren_pieces a at s ks)) in
      let v = l.again false (sign false mark.Close ks) c.others c.have in
      let d = cut v.rest (mark_text mark.Close) (piece_texts ks) v.have in
      record {
        rest = d.others;
        tree = expr.Paren v.tree c.first.at;
        is = subst (λ y. IsPrimary y d.others (expr.Paren v.tree c.first.at)) (sym c.is)
            (g.paren c.first d.first (open_class_is c.first c.text) (subst (λ y. IsExpr c.others y v.tree) d.is v.is) (close_class_is d.first d.text));
        same = same_paren v.tree a c.first.at at v.same;
        have = d.have;
      };
  stands = λ s ks f.
      subst Starts (sym (paren_pieces a at s ks))
      (tt, refl, mark_starts mark.Open (expr_pieces a false (sign false mark.Close ks)) (l.stands false (sign false mark.Close ks) (tt, refl, ends_follow (Sign mark.Close) ks refl f)));
  left = real_rest q z l.left;
}

-- SUBSCRIPTS

pub record SubAgain (x : Sub) (ws : List Token) (k : List Piece) : Type 0 where
  pub rest : List Token
  pub tree : Sub
  pub is : IsSub ws rest tree
  pub same : unplaced_sub tree ≡ unplaced_sub x
  pub have : texts rest ≡ piece_texts k

-- what stands before an item of a list
abbrev pub leads : Mark → Bool
leads mark.Open = true
leads mark.Comma = true
leads _ = false

pub record SubLaw (z : List Token) (x : Sub) : Type 0 where
  pub again : (s : Bool) (k : List Piece) (ws : List Token) → texts ws ≡ piece_texts (sub_pieces x s k) → SubAgain x ws k
  pub behind : (m : Mark) → leads m ≡ true → (s : Bool) (k : List Piece) → Closed k → AreBehind (Sign m) (sub_pieces x s k)
  pub left : AreTokens z

law_alone : (z : List Token) (a : Expr) → Law IsExpr z a → SubLaw z (sub.One a)
law_alone z a l = record {
  again = λ s k ws e.
      let v = l.again s k ws (e ∙ ap piece_texts (alone_pieces a s k)) in
      record { rest = v.rest; tree = sub.One v.tree; is = g.single v.is; same = same_alone v.tree a v.same; have = v.have };
  behind = λ m h s k c. subst (AreBehind (Sign m)) (sym (alone_pieces a s k)) (mark_starts m (expr_pieces a s k) (l.stands s k (closed_follows k c)));
  left = l.left;
}

pub record BoundAgain (b : Option Expr) (ws : List Token) (ts : List (List ℕ)) : Type 0 where
  pub rest : List Token
  pub tree : Option Expr
  pub is : IsBound ws rest tree
  pub same : option_map unplaced tree ≡ option_map unplaced b
  pub have : texts rest ≡ ts

pub record BoundLaw (z : List Token) (b : Option Expr) : Type 0 where
  pub below : (s : Bool) (k : List Piece) (ws : List Token) → texts ws ≡ piece_texts (lower (bound_pieces b) s k) → BoundAgain b ws (mark_text mark.Colon ∷ piece_texts k)
  pub above : (k : List Piece) (ws : List Token) → texts ws ≡ piece_texts (or_none (bound_pieces b) false k) → BoundAgain b ws (piece_texts k)
  pub lower_behind : (m : Mark) → leads m ≡ true → (s : Bool) (k : List Piece) → AreBehind (Sign mark.Colon) k → AreBehind (Sign m) (lower (bound_pieces b) s k)
  pub upper_behind : (k : List Piece) → Closed k → AreBehind (Sign mark.Colon) (or_none (bound_pieces b) false k)
  pub left : AreTokens z

colon_behind : (m : Mark) → leads m ≡ true → (s : Bool) (k : List Piece) → AreBehind (Sign mark.Colon) k → AreBehind (Sign m) (sign s mark.Colon k)
colon_behind mark.Open h s k b = (tt, or_sign s, b)
colon_behind mark.Comma h s k b = (tt, or_sign s, b)
colon_behind _ h s k b = absurd (true≢false (sym h))

law_absent : (z : List Token) → AreTokens z → BoundLaw z None
law_absent z left = record {
  below = λ s k ws e. record { rest = ws; tree = None; is = g.absent; same = refl; have = e };
  above = λ k ws e. record { rest = ws; tree = None; is = g.absent; same = refl; have = e };
  lower_behind = colon_behind;
  upper_behind = λ k c. closed (Sign mark.Colon) k c;
  left = left;
}

law_present : (z : List Token) (a : Expr) → Law IsExpr z a → BoundLaw z (Some a)
law_present z a l = record {
  below = λ s k ws e. let v = l.again s (sign false mark.Colon k) ws e in record { rest = v.rest; tree = Some v.tree; is = g.present v.is; same = ap (λ x. Some x) v.same; have = v.have };
  above = λ k ws e. let v = l.again false k ws e in record { rest = v.rest; tree = Some v.tree; is = g.present v.is; same = ap (λ x. Some x) v.same; have = v.have };
  lower_behind = λ m h s k b. mark_starts m (expr_pieces a s (sign false mark.Colon k)) (l.stands s (sign false mark.Colon k) (tt, refl, b));
  upper_behind = λ k c. mark_starts mark.Colon (expr_pieces a false k) (l.stands false k (closed_follows k c));
  left = l.left;
}

law_section : (at : Place) (c : Token) (x z : List Token) (a b : Option Expr) → BoundLaw (c ∷ x) a → BoundLaw z b → SubLaw z (sub.Range a b at)
law_section at c x z a b l r = record {
  again = λ s k ws e.
      let u = l.below s (or_none (bound_pieces b) false k) ws (e ∙ ap piece_texts (range_pieces a b at s k)) in
      let d = cut u.rest (mark_text mark.Colon) (piece_texts (or_none (bound_pieces b) false k)) u.have in
      let v = r.above k d.others d.have in
      record {
        rest = v.rest;
        tree = sub.Range u.tree v.tree (front_place ws);
        is = g.section d.first (subst (λ y. IsBound ws y u.tree) d.is u.is) (colon_class_is d.first d.text) v.is;
        same = same_range u.tree v.tree a b (front_place ws) at u.same v.same;
        have = v.have;
      };
  behind = λ m h s k c. subst (AreBehind (Sign m)) (sym (range_pieces a b at s k)) (l.lower_behind m h s (or_none (bound_pieces b) false k) (r.upper_behind k c));
  left = r.left;
}

-- LISTS

pub record ListAgain (Is : List Token → List Token → List Sub → Type 0) (l : List Sub) (ws : List Token) (k : List Piece) : Type 0 where
  pub rest : List Token
  pub trees : List Sub
  pub is : Is ws rest trees
  pub same : map unplaced_sub trees ≡ map unplaced_sub l
  pub have : texts rest ≡ piece_texts k

abbrev pub sub_items : Bool → List Sub → Bool → List Piece → List Piece
sub_items gap l s k = items gap (map sub_pieces l) s k

pub record ListLaw (z : List Token) (l : List Sub) : Type 0 where
  pub first : Sub
  pub others : List Sub
  pub some : l ≡ first ∷ others
  pub again : (gap s : Bool) (k : List Piece) (ws : List Token) → texts ws ≡ piece_texts (sub_items gap l s k) → ListAgain IsList l ws k
  pub behind : (m : Mark) → leads m ≡ true → (gap s : Bool) (k : List Piece) → Closed k → AreBehind (Sign m) (sub_items gap l s k)
  pub left : AreTokens z

law_first : (z : List Token) (x : Sub) → SubLaw z x → ListLaw z (x ∷ [])
law_first z x l = record {
  first = x;
  others = [];
  some = refl;
  again = λ gap s k ws e. let v = l.again s k ws e in record { rest = v.rest; trees = v.tree ∷ []; is = g.one v.is; same = ap (λ y. y ∷ []) v.same; have = v.have };
  behind = λ m h gap s k c. l.behind m h s k c;
  left = l.left;
}

map_append : (f : Sub → Spelling) (l : List Sub) (x : Sub) → map f (l ++ x ∷ []) ≡ map f l ++ f x ∷ []
map_append f [] x = refl
map_append f (y ∷ l) x = ap (λ q. f y ∷ q) (map_append f l x)

items_more : (gap : Bool) (l : List Sub) (x first : Sub) (others : List Sub) (s : Bool) (k : List Piece) → l ≡ first ∷ others → sub_items gap (l ++ x ∷ []) s k ≡ sub_items gap l s (sign false mark.Comma (sub_pieces x gap k))
items_more gap l x first others s k e =
    ap (λ q. sub_items gap (q ++ x ∷ []) s k) e ∙ ap (λ q. items gap (sub_pieces first ∷ q) s k) (map_append sub_pieces others x) ∙ items_one gap (sub_pieces first) (map sub_pieces others) (sub_pieces x) s k
    ∙ ap (λ q. sub_items gap q s (sign false mark.Comma (sub_pieces x gap k))) (sym e)

law_next : (c : Token) (y z : List Token) (l : List Sub) (x : Sub) → ListLaw (c ∷ y) l → SubLaw z x → ListLaw z (l ++ x ∷ [])
law_next c y z l x a b = record {
  first = a.first;
  others = a.others ++ x ∷ [];
  some = ap (λ q. q ++ x ∷ []) a.some;
  again = λ gap s k ws e.
      let more : List Piece = sign false mark.Comma (sub_pieces x gap k) in
      let u = a.again gap s more ws (e ∙ ap piece_texts (items_more gap l x a.first a.others s k a.some)) in
      let d = cut u.rest (mark_text mark.Comma) (piece_texts (sub_pieces x gap k)) u.have in
      let v = b.again gap k d.others d.have in
      record {
        rest = v.rest;
        trees = u.trees ++ v.tree ∷ [];
        is = g.more d.first (subst (λ q. IsList ws q u.trees) d.is u.is) (comma_class_is d.first d.text) v.is;
        same = same_append u.trees (v.tree ∷ []) l (x ∷ []) u.same (ap (λ q. q ∷ []) v.same);
        have = v.have;
      };
  behind = λ m h gap s k c.
      subst (AreBehind (Sign m)) (sym (items_more gap l x a.first a.others s k a.some))
      (a.behind m h gap s (sign false mark.Comma (sub_pieces x gap k)) (refl, b.behind mark.Comma refl gap k c));
  left = b.left;
}

-- none, or a list
pub record SubsLaw (z : List Token) (l : List Sub) : Type 0 where
  pub again : (gap s : Bool) (k : List Piece) (ws : List Token) → texts ws ≡ piece_texts (sub_items gap l s k) → ListAgain IsSubs l ws k
  pub behind : (gap s : Bool) (k : List Piece) → Closed k → AreBehind (Sign mark.Open) (sub_items gap l s k)
  pub left : AreTokens z

law_none : (z : List Token) → AreTokens z → SubsLaw z []
law_none z left = record {
  again = λ gap s k ws e. record { rest = ws; trees = []; is = g.none; same = refl; have = e };
  behind = λ gap s k c. closed (Sign mark.Open) k c;
  left = left;
}

law_some : (z : List Token) (l : List Sub) → ListLaw z l → SubsLaw z l
law_some z l a = record {
  again = λ gap s k ws e. let u = a.again gap s k ws e in record { rest = u.rest; trees = u.trees; is = g.some u.is; same = u.same; have = u.have };
  behind = λ gap s k c. a.behind mark.Open refl gap s k c;
  left = a.left;
}

-- REFERENCES

pub record RefAgain (q : Token) (e : Expr) (ws : List Token) (k : List Piece) : Type 0 where
  pub rest : List Token
  pub tree : Expr
  pub is : IsRef q ws rest tree
  pub same : unplaced tree ≡ unplaced e
  pub have : texts rest ≡ piece_texts k

-- the law of what stands behind a name
pub record RefLaw (t : Token) (z : List Token) (e : Expr) : Type 0 where
  pub behind : List Piece → List Piece
  pub is : (s : Bool) (k : List Piece) → expr_pieces e s k ≡ word s (lowercase t.text) (behind k)
  pub again : (q : Token) → lowercase q.text ≡ lowercase t.text → (k : List Piece) (ws : List Token) → texts ws ≡ piece_texts (behind k) → RefAgain q e ws k
  pub stands : (u : Spelled) → ends u ≡ true → (k : List Piece) → Follows k → AreBehind u (behind k)
  pub left : AreTokens z

pub law_bare : (t : Token) (z : List Token) → AreTokens z → RefLaw t z (expr.Ref (lowercase t.text) None t.at)
law_bare t z left = record {
  behind = λ k. k;
  is = λ s k. name_pieces (lowercase t.text) t.at s k;
  again = λ q e k ws h. record { rest = ws; tree = expr.Ref (lowercase q.text) None q.at; is = g.bare; same = same_name (lowercase q.text) (lowercase t.text) q.at t.at e; have = h };
  stands = λ u h k f. ends_follow u k h f;
  left = left;
}

open_follows : (u : Spelled) (k : List Piece) → ends u ≡ true → AreBehind (Sign mark.Open) k → AreBehind u (sign false mark.Open k)
open_follows u k h b = ends_follow u (sign false mark.Open k) h (tt, refl, b)

close_closed : (k : List Piece) → Follows k → Closed (sign false mark.Close k)
close_closed k f = (refl, ends_follow (Sign mark.Close) k refl f)

law_subscripted : (t q : Token) (z : List Token) (l : List Sub) → SubsLaw (q ∷ z) l → RefLaw t z (expr.Ref (lowercase t.text) (Some l) t.at)
law_subscripted t q z l a = record {
  behind = λ k. bracketed false (map sub_pieces l) false k;
  is = λ s k. ref_pieces (lowercase t.text) l t.at s k;
  again = λ n e k ws h.
      let c = cut ws (mark_text mark.Open) (piece_texts (sub_items false l false (sign false mark.Close k))) h in
      let u = a.again false false (sign false mark.Close k) c.others c.have in
      let d = cut u.rest (mark_text mark.Close) (piece_texts k) u.have in
      record {
        rest = d.others;
        tree = expr.Ref (lowercase n.text) (Some u.trees) n.at;
        is = subst (λ y. IsRef n y d.others (expr.Ref (lowercase n.text) (Some u.trees) n.at)) (sym c.is)
            (g.subscripted c.first d.first (open_class_is c.first c.text) (subst (λ y. IsSubs c.others y u.trees) d.is u.is) (close_class_is d.first d.text));
        same = same_ref (lowercase n.text) (lowercase t.text) u.trees l n.at t.at e u.same;
        have = d.have;
      };
  stands = λ u h k f. open_follows u (sub_items false l false (sign false mark.Close k)) h (a.behind false false (sign false mark.Close k) (close_closed k f));
  left = real_rest q z a.left;
}

-- a name and what stands behind it
pub law_named : (F : List Token → List Token → Expr → Type 0) (t : Token) (z : List Token) (e : Expr) →
    ((q : Token) (w z : List Token) (e : Expr) → IsReferred (token_class q) → IsRef q w z e → F (q ∷ w) z e) →
    is_token t.text ≡ true → IsReferred (token_class t) → RefLaw t z e → Law F z e
law_named F t z e make real h l =
    let lower : lowercase t.text ≡ t.text = real_lower t.text real in
    let name : IsName (lowercase t.text) = record { form = ap is_name lower ∙ referred-name t.text h; lower = ap lowercase lower } in
    record {
      again = λ s k ws x.
          let c = cut ws (lowercase t.text) (piece_texts (l.behind k)) (x ∙ ap piece_texts (l.is s k)) in
          let v = l.again c.first (ap lowercase c.text ∙ ap lowercase lower) k c.others c.have in
          record {
            rest = v.rest;
            tree = v.tree;
            is = subst (λ y. F y v.rest v.tree) (sym c.is) (make c.first c.others v.rest v.tree (subst IsReferred (ap text_class (sym lower ∙ sym c.text)) h) v.is);
            same = v.same;
            have = v.have;
          };
      stands = λ s k f. subst Starts (sym (l.is s k)) (name, refl, l.stands (Word (lowercase t.text)) refl k f);
      left = l.left;
    }

-- ALL EXPRESSIONS

sign_kept : (o q : Token) → IsSign (token_class o) → q.text ≡ mark_text (op_mark (operator_of o.text)) → IsSign (token_class q)
sign_kept o q (g.a_plus e) h = g.a_plus (operator_class o q class.Plus e refl h)
sign_kept o q (g.a_minus e) h = g.a_minus (operator_class o q class.Minus e refl h)

multiply_kept : (o q : Token) → IsMultiply (token_class o) → q.text ≡ mark_text (op_mark (operator_of o.text)) → IsMultiply (token_class q)
multiply_kept o q (g.a_star e) h = g.a_star (operator_class o q class.Star e refl h)
multiply_kept o q (g.a_slash e) h = g.a_slash (operator_class o q class.Slash e refl h)

mutual
  pub law_expr : {w z : List Token} {e : Expr} → IsExpr w z e → AreTokens w → Law IsExpr z e
  law_expr (g.disj {z = z} {e = e} d) r = lift IsDisj IsExpr z e (λ w z e h. g.disj h) (law_disj d r)
  law_expr (g.eqv {x = x} {z = z} {a = a} {b = b} o l c d) r =
      let u = law_expr l r in
      law_two IsExpr IsDisj IsExpr (λ q. token_class q ≡ class.Equivalence) o x z a b (λ q h. operator_class o q class.Equivalence c refl h) (λ w x z a b q i c j. g.eqv q i c j) u (law_disj d (real_rest o x u.left))

  pub law_disj : {w z : List Token} {e : Expr} → IsDisj w z e → AreTokens w → Law IsDisj z e
  law_disj (g.conj {z = z} {e = e} d) r = lift IsConj IsDisj z e (λ w z e h. g.conj h) (law_conj d r)
  law_disj (g.or {x = x} {z = z} {a = a} {b = b} o l c d) r =
      let u = law_disj l r in
      law_two IsDisj IsConj IsDisj (λ q. token_class q ≡ class.Or) o x z a b (λ q h. operator_class o q class.Or c refl h) (λ w x z a b q i c j. g.or q i c j) u (law_conj d (real_rest o x u.left))

  pub law_conj : {w z : List Token} {e : Expr} → IsConj w z e → AreTokens w → Law IsConj z e
  law_conj (g.neg {z = z} {e = e} d) r = lift IsNeg IsConj z e (λ w z e h. g.neg h) (law_neg d r)
  law_conj (g.and {x = x} {z = z} {a = a} {b = b} o l c d) r =
      let u = law_conj l r in
      law_two IsConj IsNeg IsConj (λ q. token_class q ≡ class.And) o x z a b (λ q h. operator_class o q class.And c refl h) (λ w x z a b q i c j. g.and q i c j) u (law_neg d (real_rest o x u.left))

  pub law_neg : {w z : List Token} {e : Expr} → IsNeg w z e → AreTokens w → Law IsNeg z e
  law_neg (g.rel {z = z} {e = e} d) r = lift IsRel IsNeg z e (λ w z e h. g.rel h) (law_rel d r)
  law_neg (g.not {w = w} {z = z} {a = a} o c d) r =
      law_one IsRel IsNeg unary.Not o.at z a (λ q w z a e i. g.not q (not_class_is q e) i) (λ k s i. (tt, refl, mark_starts mark.Not k i)) (law_rel d (real_rest o w r))

  pub law_rel : {w z : List Token} {e : Expr} → IsRel w z e → AreTokens w → Law IsRel z e
  law_rel (g.sum {z = z} {e = e} d) r = lift IsSum IsRel z e (λ w z e h. g.sum h) (law_sum d r)
  law_rel (g.relation {x = x} {z = z} {a = a} {b = b} o l c d) r =
      let u = law_sum l r in
      law_two IsSum IsSum IsRel (λ q. token_class q ≡ class.Relation) o x z a b (λ q h. operator_class o q class.Relation c refl h) (λ w x z a b q i c j. g.relation q i c j) u (law_sum d (real_rest o x u.left))

  pub law_sum : {w z : List Token} {e : Expr} → IsSum w z e → AreTokens w → Law IsSum z e
  law_sum (g.term {z = z} {e = e} d) r = lift IsTerm IsSum z e (λ w z e h. g.term h) (law_term d r)
  law_sum (g.plus {w = w} {z = z} {a = a} o c d) r =
      law_one IsTerm IsSum unary.Plus o.at z a (λ q w z a e i. g.plus q (plus_class_is q e) i) (λ k s i. (tt, refl, mark_starts mark.Plus k i)) (law_term d (real_rest o w r))
  law_sum (g.minus {w = w} {z = z} {a = a} o c d) r =
      law_one IsTerm IsSum unary.Minus o.at z a (λ q w z a e i. g.minus q (minus_class_is q e) i) (λ k s i. (tt, refl, mark_starts mark.Minus k i)) (law_term d (real_rest o w r))
  law_sum (g.add {x = x} {z = z} {a = a} {b = b} o l c d) r =
      let u = law_sum l r in
      law_two IsSum IsTerm IsSum (λ q. IsSign (token_class q)) o x z a b (λ q h. sign_kept o q c h) (λ w x z a b q i c j. g.add q i c j) u (law_term d (real_rest o x u.left))

  pub law_term : {w z : List Token} {e : Expr} → IsTerm w z e → AreTokens w → Law IsTerm z e
  law_term (g.factor {z = z} {e = e} d) r = lift IsFactor IsTerm z e (λ w z e h. g.factor h) (law_factor d r)
  law_term (g.times {x = x} {z = z} {a = a} {b = b} o l c d) r =
      let u = law_term l r in
      law_two IsTerm IsFactor IsTerm (λ q. IsMultiply (token_class q)) o x z a b (λ q h. multiply_kept o q c h) (λ w x z a b q i c j. g.times q i c j) u (law_factor d (real_rest o x u.left))

  pub law_factor : {w z : List Token} {e : Expr} → IsFactor w z e → AreTokens w → Law IsFactor z e
  law_factor (g.primary {z = z} {e = e} d) r = lift IsPrimary IsFactor z e (λ w z e h. g.primary h) (law_primary d r)
  law_factor (g.power {x = x} {z = z} {a = a} {b = b} o l c d) r =
      let u = law_primary l r in
      law_two IsPrimary IsFactor IsFactor (λ q. token_class q ≡ class.Power) o x z a b (λ q h. operator_class o q class.Power c refl h) (λ w x z a b q i c j. g.power q i c j) u (law_factor d (real_rest o x u.left))

  pub law_primary : {w z : List Token} {e : Expr} → IsPrimary w z e → AreTokens w → Law IsPrimary z e
  law_primary (g.number {z = z} t h) r = law_number IsPrimary (λ q z h. g.number q h) t z (real_first t z r) h (real_rest t z r)
  law_primary (g.truth {z = z} t h) r = law_truth IsPrimary (λ q z h. g.truth q h) (bytes_eq t.text (codes ".true.")) t.at z (real_rest t z r)
  law_primary (g.ref {w = w} {z = z} {e = e} t h d) r = law_named IsPrimary t z e (λ q w z e h i. g.ref q h i) (real_first t w r) h (law_ref d (real_rest t w r))
  law_primary (g.paren {w = w} {z = z} {e = e} p q h d c) r = law_paren p.at q z e (law_expr d (real_rest p w r))

  pub law_ref : {t : Token} {w z : List Token} {e : Expr} → IsRef t w z e → AreTokens w → RefLaw t z e
  law_ref (g.bare {z = z} {t = t}) r = law_bare t z r
  law_ref (g.subscripted {w = w} {z = z} {l = l} {t = t} p q h d c) r = law_subscripted t q z l (law_subs d (real_rest p w r))

  pub law_subs : {w z : List Token} {l : List Sub} → IsSubs w z l → AreTokens w → SubsLaw z l
  law_subs (g.none {z = z}) r = law_none z r
  law_subs (g.some {z = z} {l = l} d) r = law_some z l (law_list d r)

  pub law_list : {w z : List Token} {l : List Sub} → IsList w z l → AreTokens w → ListLaw z l
  law_list (g.one {z = z} {s = s} d) r = law_first z s (law_sub d r)
  law_list (g.more {x = x} {z = z} {l = l} {s = s} c i h d) r = let u = law_list i r in law_next c x z l s u (law_sub d (real_rest c x u.left))

  pub law_sub : {w z : List Token} {s : Sub} → IsSub w z s → AreTokens w → SubLaw z s
  law_sub (g.single {z = z} {e = e} d) r = law_alone z e (law_expr d r)
  law_sub (g.section {w = w} {x = x} {z = z} {a = a} {b = b} c l h d) r = let u = law_bound l r in law_section (front_place w) c x z a b u (law_bound d (real_rest c x u.left))

  pub law_bound : {w z : List Token} {b : Option Expr} → IsBound w z b → AreTokens w → BoundLaw z b
  law_bound (g.absent {z = z}) r = law_absent z r
  law_bound (g.present {z = z} {e = e} d) r = law_present z e (law_expr d r)

-- WHOLE EXPRESSIONS

pub starts_pieces : (k : List Piece) → Starts k → ArePieces k
starts_pieces [] s = absurd s
starts_pieces (p ∷ ps) s = (s.0, s.2)

pub expression_apart : {w z : List Token} (e : Expr) → IsExpr w z e → ArePieces (expr_pieces e false [])
expression_apart {w = w} e d = starts_pieces (expr_pieces e false []) ((law_expr d (all_real w)).stands false [] tt)

pub all_read : (ts : List Token) → texts ts ≡ [] → ts ≡ []
all_read [] e = refl
all_read (t ∷ ts) e = absurd cc

pub expression_read : {w z : List Token} (e : Expr) (ws : List Token) → IsExpr w z e → texts ws ≡ piece_texts (expr_pieces e false []) → AreExpression ws e
expression_read {w = w} e ws d s =
    let a = (law_expr d (all_real w)).again false [] ws s in
    record { tree = a.tree; derive = subst (λ y. IsExpr ws y a.tree) (all_read a.rest a.have) a.is; same = a.same }
