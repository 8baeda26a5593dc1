-- Names, dimensions and ranges in their lists, arguments, and the rest of a loop's head.
use Rattle.std.proofs.Common.{◌≡◌, ℕ, List, [], ◌∷◌, ◌++◌, Option, None, Some, Bool, true, false, ◌||◌, map, option_map, refl, sym, ap, ◌∙◌, subst}
use Rattle.std.proofs.lemmas.Bool.{true≢false}
use Rattle.fort_tree.specs.declared.statement.Token.{Token}
use Rattle.fort_tree.specs.declared.expr.Expr.{Expr}
use Rattle.fort_tree.specs.declared.expr.Sub.{Sub}
use Rattle.fort_tree.specs.declared.stmt.Named.{Named}
use Rattle.fort_tree.specs.declared.stmt.Range.{Range}
use Rattle.fort_tree.specs.declared.stmt.Range.TheVariants as range
use Rattle.fort_tree.specs.declared.unit.Bound.{Bound}
use Rattle.fort_tree.specs.Unplaced.{unplaced}
use Rattle.fort_grammar.specs.declared.class.Class.TheVariants as class
use Rattle.fort_grammar.specs.Token.{token_class}
use Rattle.fort_expr.specs.Expression.{IsSubs}
use Rattle.fort_stmt.specs.Form as f
use Rattle.fort_stmt.specs.Form.{named_of, IsNames, IsNamesOption, IsBound, IsBoundOption, IsDimension, IsShape, IsValue, IsValueOption, IsRange, IsRanges, IsArguments, IsStep}
use Rattle.fort_spell.specs.declared.mark.Mark.{Mark}
use Rattle.fort_spell.specs.declared.mark.Mark.TheVariants as mark
use Rattle.fort_spell.specs.Text.{mark_text}
use Rattle.fort_spell.specs.Pieces.{Word, Sign, Piece, word, sign, bracketed, or_none, items}
use Rattle.fort_spell.specs.Expressions.{expr_pieces, sub_pieces, bound_pieces}
use Rattle.fort_spell.specs.Statements.{argument_pieces, step_pieces, range_pieces}
use Rattle.fort_spell.specs.Units.{named_pieces, dimension_pieces}
use Rattle.layout_reading.specs.Readable.{AreBehind}
use Rattle.layout_reading.specs.Tokens.{texts, piece_texts, AreTokens}
use Rattle.layout_reading.specs.Statements.{bare_bound, bare_range}
use Rattle.layout_reading.proofs.Classes.{comma_class_is, colon_class_is, open_class_is, close_class_is}
use Rattle.layout_reading.proofs.Gaps.{Follows, Closed, mark_starts, ends_follow, closed, closed_follows}
use Rattle.layout_reading.proofs.Expressions.{cut, real_first, real_rest, law_expr, law_subs, ListAgain, SubsLaw, leads, sub_items}
use Rattle.layout_reading.proofs.Keywords.{keyword, Free, token_free, free_lower}
use Rattle.layout_reading.proofs.Parts.{Fit, fit, law_bound, law_value, ItemAgain, ItemFit, AllFit, fit_more, items_again, items_behind}

or_sign : (s : Bool) → (s || true) ≡ true
or_sign true = refl
or_sign false = refl

-- NAMES

pub data IsNamed : List Token → List Token → Named → Type 0 where
  a_named : {z : List Token} (t : Token) → token_class t ≡ class.Name → IsNamed (t ∷ z) z (named_of t)

abbrev pub name_of : Named → List ℕ
name_of n = n.name

abbrev pub NameFit : Named → Type 0
NameFit n = ItemFit Named (List ℕ) IsNamed name_of named_pieces Follows n

pub first_name : (w z : List Token) (n : Named) → IsNamed w z n → IsNames w z (n ∷ [])
first_name w z n (a_named t h) = f.first_name t h

pub next_name : (w x z : List Token) (l : List Named) (n : Named) (c : Token) → IsNames w (c ∷ x) l → token_class c ≡ class.Comma → IsNamed x z n → IsNames w z (l ++ n ∷ [])
next_name w x z l n c d h (a_named t e) = f.next_name c t d h e

pub comma_follows : (k : List Piece) → AreBehind (Sign mark.Comma) k → Follows (sign false mark.Comma k)
comma_follows k b = (tt, refl, b)

abbrev pub NamesFit : List Named → Type 0
NamesFit l = AllFit Named (List ℕ) IsNamed IsNames name_of named_pieces Follows first_name next_name comma_follows l

pub name_fit : (n : Named) → Free n.name → NameFit n
name_fit n free = record {
  again = λ s k ws e.
      let c = cut ws n.name (piece_texts k) e in
      record {
        rest = c.others;
        item = named_of c.first;
        is = subst (λ y. IsNamed y c.others (named_of c.first)) (sym c.is) (a_named c.first (keyword c.first n.name class.Name free c.text));
        same = free_lower c.first n.name free c.text;
        have = c.have;
      };
  behind = λ m h s k e. mark_starts m (word s n.name k) (free.is_name, refl, ends_follow (Word n.name) k refl e);
}

pub names_fit : {w z : List Token} {l : List Named} → IsNames w z l → AreTokens w → NamesFit l × AreTokens z
names_fit (f.first_name {z = z} t h) r = ((name_fit (named_of t) (token_free t (real_first t z r) h), tt), real_rest t z r)
names_fit (f.next_name {z = z} {l = l} c t d h e) r =
    let u = names_fit d r in
    let r' = real_rest c (t ∷ z) u.1 in
    (fit_more Named (List ℕ) IsNamed IsNames name_of named_pieces Follows first_name next_name comma_follows l (named_of t) u.0 (name_fit (named_of t) (token_free t (real_first t z r') e)), real_rest t z r')

pub names_option_fit : {w z : List Token} {l : List Named} → IsNamesOption w z l → AreTokens w → NamesFit l × AreTokens z
names_option_fit (f.no_names {z = z}) r = (tt, r)
names_option_fit (f.some_names d) r = names_fit d r

pub names_again : (s : Bool) (l : List Named) (k : List Piece) (ws : List Token) → NamesFit l → texts ws ≡ piece_texts (items true (map named_pieces l) s k) →
    ItemAgain (List Named) (List (List ℕ)) IsNamesOption (map name_of) l ws k
names_again s [] k ws a h = record { rest = ws; item = []; is = f.no_names; same = refl; have = h }
names_again s (n ∷ l) k ws a h =
    let v = items_again Named (List ℕ) IsNamed IsNames name_of named_pieces Follows first_name next_name comma_follows true s n l k ws a h in
    record { rest = v.rest; item = v.item; is = f.some_names v.is; same = v.same; have = v.have }

pub names_behind : (l : List Named) (k : List Piece) → NamesFit l → Closed k → AreBehind (Sign mark.Open) (items true (map named_pieces l) false k)
names_behind [] k a c = closed (Sign mark.Open) k c
names_behind (n ∷ l) k a c = items_behind Named (List ℕ) IsNamed IsNames name_of named_pieces Follows first_name next_name comma_follows mark.Open refl true false n l k a (closed_follows k c)

-- the names at the end of a USE line
pub names_end : (l : List Named) → NamesFit l → AreBehind (Sign mark.Colon) (items true (map named_pieces l) true [])
names_end [] a = tt
names_end (n ∷ l) a = let b = items_behind Named (List ℕ) IsNamed IsNames name_of named_pieces Follows first_name next_name comma_follows mark.Comma refl true true n l [] a tt in (b.0, refl, b.2)

-- BOUNDS AND VALUES THAT MAY BE MISSING

pub record OptionAgain (Is : List Token → List Token → Option Expr → Type 0) (b : Option Expr) (ws : List Token) (k : List Piece) : Type 0 where
  pub rest : List Token
  pub tree : Option Expr
  pub is : Is ws rest tree
  pub same : option_map unplaced tree ≡ option_map unplaced b
  pub have : texts rest ≡ piece_texts k

pub record OptionFit (Is : List Token → List Token → Option Expr → Type 0) (b : Option Expr) : Type 0 where
  pub again : (k : List Piece) (ws : List Token) → texts ws ≡ piece_texts (or_none (bound_pieces b) false k) → OptionAgain Is b ws k
  pub behind : (k : List Piece) → Closed k → AreBehind (Sign mark.Colon) (or_none (bound_pieces b) false k)

option_none : (Is : List Token → List Token → Option Expr → Type 0) → ((z : List Token) → Is z z None) → OptionFit Is None
option_none Is make = record { again = λ k ws h. record { rest = ws; tree = None; is = make ws; same = refl; have = h }; behind = λ k c. closed (Sign mark.Colon) k c }

option_some : (Is : List Token → List Token → Option Expr → Type 0) (F : List Token → List Token → Expr → Type 0) (e : Expr) → ((w z : List Token) (e : Expr) → F w z e → Is w z (Some e)) → Fit F e → OptionFit Is (Some e)
option_some Is F e make l = record {
  again = λ k ws h. let v = l.again false k ws h in record { rest = v.rest; tree = Some v.tree; is = make ws v.rest v.tree v.is; same = ap (λ x. Some x) v.same; have = v.have };
  behind = λ k c. mark_starts mark.Colon (expr_pieces e false k) (l.stands false k (closed_follows k c));
}

-- DIMENSIONS

pub comma_closed : (k : List Piece) → AreBehind (Sign mark.Comma) k → Closed (sign false mark.Comma k)
comma_closed k b = (refl, b)

abbrev pub DimensionFit : Bound → Type 0
DimensionFit b = ItemFit Bound Bound IsDimension bare_bound dimension_pieces Closed b

pub next_dimension : (w x z : List Token) (l : List Bound) (b : Bound) (c : Token) → IsShape w (c ∷ x) l → token_class c ≡ class.Comma → IsDimension x z b → IsShape w z (l ++ b ∷ [])
next_dimension w x z l b c d h e = f.next_dimension c d h e

pub first_dimension : (w z : List Token) (b : Bound) → IsDimension w z b → IsShape w z (b ∷ [])
first_dimension w z b d = f.first_dimension d

abbrev pub ShapeFit : List Bound → Type 0
ShapeFit l = AllFit Bound Bound IsDimension IsShape bare_bound dimension_pieces Closed first_dimension next_dimension comma_closed l

colon_lead : (m : Mark) → leads m ≡ true → (s : Bool) (k : List Piece) → AreBehind (Sign mark.Colon) k → AreBehind (Sign m) (sign s mark.Colon k)
colon_lead mark.Open h s k b = (tt, or_sign s, b)
colon_lead mark.Comma h s k b = (tt, or_sign s, b)
colon_lead _ h s k b = absurd (true≢false (sym h))

fit_assumed : DimensionFit (record { lower = None; upper = None })
fit_assumed = record {
  again = λ s k ws h.
      let c = cut ws (mark_text mark.Colon) (piece_texts k) h in
      record {
        rest = c.others;
        item = record { lower = None; upper = None };
        is = subst (λ y. IsDimension y c.others (record { lower = None; upper = None })) (sym c.is) (f.assumed c.first (colon_class_is c.first c.text));
        same = refl;
        have = c.have;
      };
  behind = λ m h s k c. colon_lead m h s k (closed (Sign mark.Colon) k c);
}

fit_upper : (e : Expr) → Fit IsBound e → DimensionFit (record { lower = None; upper = Some e })
fit_upper e l = record {
  again = λ s k ws h.
      let v = l.again s k ws h in
      record { rest = v.rest; item = record { lower = None; upper = Some v.tree }; is = f.upper_only v.is; same = ap (λ x. record { lower = None; upper = Some x }) v.same; have = v.have };
  behind = λ m h s k c. mark_starts m (expr_pieces e s k) (l.stands s k (closed_follows k c));
}

fit_bounds : (e : Expr) (b : Option Expr) → Fit IsBound e → OptionFit IsBoundOption b → DimensionFit (record { lower = Some e; upper = b })
fit_bounds e b l r = record {
  again = λ s k ws h.
      let u = l.again s (sign false mark.Colon (or_none (bound_pieces b) false k)) ws h in
      let d = cut u.rest (mark_text mark.Colon) (piece_texts (or_none (bound_pieces b) false k)) u.have in
      let v = r.again k d.others d.have in
      record {
        rest = v.rest;
        item = record { lower = Some u.tree; upper = v.tree };
        is = f.bounds d.first (subst (λ y. IsBound ws y u.tree) d.is u.is) (colon_class_is d.first d.text) v.is;
        same = ap (λ x. record { lower = Some x; upper = option_map unplaced v.tree }) u.same ∙ ap (λ x. record { lower = Some (unplaced e); upper = x }) v.same;
        have = v.have;
      };
  behind = λ m h s k c. mark_starts m (expr_pieces e s (sign false mark.Colon (or_none (bound_pieces b) false k))) (l.stands s (sign false mark.Colon (or_none (bound_pieces b) false k)) (tt, refl, r.behind k c));
}

bound_option_fit : {w z : List Token} {b : Option Expr} → IsBoundOption w z b → AreTokens w → OptionFit IsBoundOption b × AreTokens z
bound_option_fit (f.no_bound {z = z}) r = (option_none IsBoundOption (λ z. f.no_bound), r)
bound_option_fit (f.some_bound {z = z} {e = e} d) r = let l = law_bound d r in (option_some IsBoundOption IsBound e (λ w z e h. f.some_bound h) (fit IsBound z e l), l.left)

pub dimension_fit : {w z : List Token} {b : Bound} → IsDimension w z b → AreTokens w → DimensionFit b × AreTokens z
dimension_fit (f.assumed {z = z} c h) r = (fit_assumed, real_rest c z r)
dimension_fit (f.upper_only {z = z} {e = e} d) r = let l = law_bound d r in (fit_upper e (fit IsBound z e l), l.left)
dimension_fit (f.bounds {x = x} {e = e} {b = b} c d h o) r =
    let l = law_bound d r in
    let u = bound_option_fit o (real_rest c x l.left) in (fit_bounds e b (fit IsBound (c ∷ x) e l) u.0, u.1)

pub shape_fit : {w z : List Token} {l : List Bound} → IsShape w z l → AreTokens w → ShapeFit l × AreTokens z
shape_fit (f.first_dimension d) r = let u = dimension_fit d r in ((u.0, tt), u.1)
shape_fit (f.next_dimension {x = x} {l = l} {b = b} c d h e) r =
    let u = shape_fit d r in
    let v = dimension_fit e (real_rest c x u.1) in
    (fit_more Bound Bound IsDimension IsShape bare_bound dimension_pieces Closed first_dimension next_dimension comma_closed l b u.0 v.0, v.1)

pub shape_again : (s : Bool) (b : Bound) (l : List Bound) (k : List Piece) (ws : List Token) → ShapeFit (b ∷ l) → texts ws ≡ piece_texts (items false (map dimension_pieces (b ∷ l)) s k) →
    ItemAgain (List Bound) (List Bound) IsShape (map bare_bound) (b ∷ l) ws k
shape_again s b l k ws a h = items_again Bound Bound IsDimension IsShape bare_bound dimension_pieces Closed first_dimension next_dimension comma_closed false s b l k ws a h

pub shape_behind : (b : Bound) (l : List Bound) (k : List Piece) → ShapeFit (b ∷ l) → Closed k → AreBehind (Sign mark.Open) (items false (map dimension_pieces (b ∷ l)) false k)
shape_behind b l k a c = items_behind Bound Bound IsDimension IsShape bare_bound dimension_pieces Closed first_dimension next_dimension comma_closed mark.Open refl false false b l k a c

-- RANGES

abbrev pub RangeFit : Range → Type 0
RangeFit b = ItemFit Range Range IsRange bare_range range_pieces Closed b

pub next_range : (w x z : List Token) (l : List Range) (b : Range) (c : Token) → IsRanges w (c ∷ x) l → token_class c ≡ class.Comma → IsRange x z b → IsRanges w z (l ++ b ∷ [])
next_range w x z l b c d h e = f.next_range c d h e

pub first_range : (w z : List Token) (b : Range) → IsRange w z b → IsRanges w z (b ∷ [])
first_range w z b d = f.first_range d

abbrev pub RangesFit : List Range → Type 0
RangesFit l = AllFit Range Range IsRange IsRanges bare_range range_pieces Closed first_range next_range comma_closed l

fit_one : (e : Expr) → Fit IsValue e → RangeFit (range.One e)
fit_one e l = record {
  again = λ s k ws h.
      let v = l.again s k ws h in
      record { rest = v.rest; item = range.One v.tree; is = f.one_value v.is; same = ap range.One v.same; have = v.have };
  behind = λ m h s k c. mark_starts m (expr_pieces e s k) (l.stands s k (closed_follows k c));
}

fit_to : (e : Expr) → Fit IsValue e → RangeFit (range.Span None (Some e))
fit_to e l = record {
  again = λ s k ws h.
      let d = cut ws (mark_text mark.Colon) (piece_texts (expr_pieces e false k)) h in
      let v = l.again false k d.others d.have in
      record {
        rest = v.rest;
        item = range.Span None (Some v.tree);
        is = subst (λ y. IsRange y v.rest (range.Span None (Some v.tree))) (sym d.is) (f.to_value d.first (colon_class_is d.first d.text) v.is);
        same = ap (λ x. range.Span None (Some x)) v.same;
        have = v.have;
      };
  behind = λ m h s k c. colon_lead m h s (expr_pieces e false k) (mark_starts mark.Colon (expr_pieces e false k) (l.stands false k (closed_follows k c)));
}

fit_span : (e : Expr) (b : Option Expr) → Fit IsValue e → OptionFit IsValueOption b → RangeFit (range.Span (Some e) b)
fit_span e b l r = record {
  again = λ s k ws h.
      let u = l.again s (sign false mark.Colon (or_none (bound_pieces b) false k)) ws h in
      let d = cut u.rest (mark_text mark.Colon) (piece_texts (or_none (bound_pieces b) false k)) u.have in
      let v = r.again k d.others d.have in
      record {
        rest = v.rest;
        item = range.Span (Some u.tree) v.tree;
        is = f.span d.first (subst (λ y. IsValue ws y u.tree) d.is u.is) (colon_class_is d.first d.text) v.is;
        same = ap (λ x. range.Span (Some x) (option_map unplaced v.tree)) u.same ∙ ap (λ x. range.Span (Some (unplaced e)) x) v.same;
        have = v.have;
      };
  behind = λ m h s k c. mark_starts m (expr_pieces e s (sign false mark.Colon (or_none (bound_pieces b) false k))) (l.stands s (sign false mark.Colon (or_none (bound_pieces b) false k)) (tt, refl, r.behind k c));
}

value_option_fit : {w z : List Token} {b : Option Expr} → IsValueOption w z b → AreTokens w → OptionFit IsValueOption b × AreTokens z
value_option_fit (f.no_value {z = z}) r = (option_none IsValueOption (λ z. f.no_value), r)
value_option_fit (f.some_value {z = z} {e = e} d) r = let l = law_value d r in (option_some IsValueOption IsValue e (λ w z e h. f.some_value h) (fit IsValue z e l), l.left)

pub range_fit : {w z : List Token} {b : Range} → IsRange w z b → AreTokens w → RangeFit b × AreTokens z
range_fit (f.one_value {z = z} {e = e} d) r = let l = law_value d r in (fit_one e (fit IsValue z e l), l.left)
range_fit (f.to_value {w = w} {z = z} {e = e} c h d) r = let l = law_value d (real_rest c w r) in (fit_to e (fit IsValue z e l), l.left)
range_fit (f.span {x = x} {e = e} {b = b} c d h o) r =
    let l = law_value d r in
    let u = value_option_fit o (real_rest c x l.left) in (fit_span e b (fit IsValue (c ∷ x) e l) u.0, u.1)

pub ranges_fit : {w z : List Token} {l : List Range} → IsRanges w z l → AreTokens w → RangesFit l × AreTokens z
ranges_fit (f.first_range d) r = let u = range_fit d r in ((u.0, tt), u.1)
ranges_fit (f.next_range {x = x} {l = l} {r = b} c d h e) r =
    let u = ranges_fit d r in
    let v = range_fit e (real_rest c x u.1) in
    (fit_more Range Range IsRange IsRanges bare_range range_pieces Closed first_range next_range comma_closed l b u.0 v.0, v.1)

pub ranges_again : (s : Bool) (b : Range) (l : List Range) (k : List Piece) (ws : List Token) → RangesFit (b ∷ l) → texts ws ≡ piece_texts (items true (map range_pieces (b ∷ l)) s k) →
    ItemAgain (List Range) (List Range) IsRanges (map bare_range) (b ∷ l) ws k
ranges_again s b l k ws a h = items_again Range Range IsRange IsRanges bare_range range_pieces Closed first_range next_range comma_closed true s b l k ws a h

pub ranges_behind : (b : Range) (l : List Range) (k : List Piece) → RangesFit (b ∷ l) → Closed k → AreBehind (Sign mark.Open) (items true (map range_pieces (b ∷ l)) false k)
ranges_behind b l k a c = items_behind Range Range IsRange IsRanges bare_range range_pieces Closed first_range next_range comma_closed mark.Open refl true false b l k a c

-- ARGUMENTS

pub record ArgumentsFit (l : List Sub) : Type 0 where
  pub again : (k : List Piece) (ws : List Token) → texts ws ≡ piece_texts (argument_pieces l k) → ListAgain IsArguments l ws k
  pub stands : (name : List ℕ) (k : List Piece) → Follows k → AreBehind (Word name) (argument_pieces l k)

bracketed_fit : (q : Token) (z : List Token) (l : List Sub) → SubsLaw (q ∷ z) l → ArgumentsFit l
bracketed_fit q z [] a = record { again = λ k ws h. record { rest = ws; trees = []; is = f.no_arguments; same = refl; have = h }; stands = λ name k i. ends_follow (Word name) k refl i }
bracketed_fit q z (x ∷ l) a = record {
  again = λ k ws h.
      let c = cut ws (mark_text mark.Open) (piece_texts (sub_items true (x ∷ l) false (sign false mark.Close k))) h in
      let u = a.again true false (sign false mark.Close k) c.others c.have in
      let d = cut u.rest (mark_text mark.Close) (piece_texts k) u.have in
      record {
        rest = d.others;
        trees = u.trees;
        is = subst (λ y. IsArguments y d.others u.trees) (sym c.is) (f.arguments c.first d.first (open_class_is c.first c.text) (subst (λ y. IsSubs c.others y u.trees) d.is u.is) (close_class_is d.first d.text));
        same = u.same;
        have = d.have;
      };
  stands = λ name k i. ends_follow (Word name) (bracketed true (map sub_pieces (x ∷ l)) false k) refl (tt, refl, a.behind true false (sign false mark.Close k) (refl, ends_follow (Sign mark.Close) k refl i));
}

pub arguments_fit : {w z : List Token} {l : List Sub} → IsArguments w z l → AreTokens w → ArgumentsFit l
arguments_fit f.no_arguments r = record { again = λ k ws h. record { rest = ws; trees = []; is = f.no_arguments; same = refl; have = h }; stands = λ name k i. ends_follow (Word name) k refl i }
arguments_fit (f.arguments {w = w} {z = z} {l = l} p q h d e) r = bracketed_fit q z l (law_subs d (real_rest p w r))

-- A LOOP'S STEP

pub record StepFit (o : Option Expr) : Type 0 where
  pub again : (k : List Piece) (ws : List Token) → texts ws ≡ piece_texts (step_pieces o k) → OptionAgain IsStep o ws k
  pub follows : (k : List Piece) → Follows k → Follows (step_pieces o k)

pub step_fit : {w z : List Token} {o : Option Expr} → IsStep w z o → AreTokens w → StepFit o
step_fit f.no_step r = record { again = λ k ws h. record { rest = ws; tree = None; is = f.no_step; same = refl; have = h }; follows = λ k i. i }
step_fit (f.some_step {w = w} {z = z} {e = e} c h d) r =
    let l = law_expr d (real_rest c w r) in
    record {
      again = λ k ws h.
          let u = cut ws (mark_text mark.Comma) (piece_texts (expr_pieces e true k)) h in
          let v = l.again true k u.others u.have in
          record {
            rest = v.rest;
            tree = Some v.tree;
            is = subst (λ y. IsStep y v.rest (Some v.tree)) (sym u.is) (f.some_step u.first (comma_class_is u.first u.text) v.is);
            same = ap (λ x. Some x) v.same;
            have = v.have;
          };
      follows = λ k i. (tt, refl, mark_starts mark.Comma (expr_pieces e true k) (l.stands true k i));
    }
