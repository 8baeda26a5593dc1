-- Declarations and headers are read as they are written.
use Rattle.std.proofs.Common.{◌≡◌, ℕ, ◌+◌, ◌<◌, ◌^◌, List, [], ◌∷◌, ◌++◌, Option, None, Some, Bool, true, false, map, refl, sym, ap, ◌∙◌, subst, codes, arith}
use Rattle.std.specs.Prelude.{⊤}
use Rattle.std.proofs.lemmas.Fmt.{decimal_digit}
use Rattle.fort_arith.specs.declared.kind.Kind.{Kind}
use Rattle.fort_arith.specs.declared.kind.Kind.TheVariants as kind
use Rattle.fort_tree.specs.declared.place.Place.{Place}
use Rattle.fort_tree.specs.declared.statement.Token.{Token}
use Rattle.fort_tree.specs.declared.expr.Expr.{Expr}
use Rattle.fort_tree.specs.declared.stmt.Named.{Named}
use Rattle.fort_tree.specs.declared.unit.Bound.{Bound}
use Rattle.fort_tree.specs.declared.unit.Decl.{Decl}
use Rattle.fort_tree.specs.declared.unit.Intent.{Intent}
use Rattle.fort_tree.specs.declared.unit.Intent.TheVariants as intent
use Rattle.fort_tree.specs.Name.{IsName, lowercase}
use Rattle.fort_tree.specs.Unplaced.{nowhere, unplaced}
use Rattle.fort_grammar.specs.declared.class.Class.TheVariants as class
use Rattle.fort_grammar.specs.Token.{text_class}
use Rattle.fort_stmt.specs.declared.value.Entity.{Entity}
use Rattle.fort_stmt.specs.Form as f
use Rattle.fort_stmt.specs.Form.{named_of, kind_by_text, IsKind, IsType, IsShape, IsOwnShape, IsInitial, IsEntity, IsEntities, IsConstant, IsConstants, IsIntent, IsIntentAttribute, IsDimensionAttribute, IsAttributes, IsDeclaration, shape_or, declared, IsWords, IsNamesOption, IsDummies, IsResult}
use Rattle.fort_spell.specs.declared.mark.Mark.TheVariants as mark
use Rattle.fort_spell.specs.Text.{mark_text}
use Rattle.fort_spell.specs.Pieces.{Word, Number, Sign, Piece, text_of, word, number, sign, bracketed, items}
use Rattle.fort_spell.specs.Expressions.{expr_pieces}
use Rattle.fort_spell.specs.Units.{bytes_pieces, kind_pieces, intent_word, intent_pieces, dimension_pieces, shape_pieces, decl_pieces}
use Rattle.layout_reading.specs.Readable.{AreBehind, ArePieces}
use Rattle.layout_reading.specs.Tokens.{texts, piece_texts, AreTokens}
use Rattle.layout_reading.specs.Statements.{bare_bound, bare_decl}
use Rattle.layout_reading.proofs.Classes.{comma_class_is, open_class_is, close_class_is, colons_class_is, equals_class_is}
use Rattle.layout_reading.proofs.Gaps.{Follows, mark_starts, ends_follow}
use Rattle.layout_reading.proofs.Expressions.{cut, all_read, real_first, real_rest}
use Rattle.layout_reading.proofs.Keywords.{keyword, Free, token_free, free_lower, k_integer, k_logical, k_parameter, k_intent, k_in, k_out, k_inout}
use Rattle.layout_reading.proofs.Parts.{Fit, fit, law_initial}
use Rattle.layout_reading.proofs.Lists.{NamesFit, names_option_fit, ShapeFit, shape_fit, shape_again, shape_behind}

-- LISTS

abbrev pub Each : {A : Type 0} → (A → Type 0) → List A → Type 0
Each P [] = ⊤
Each P (x ∷ l) = P x × Each P l

pub each_more : {A : Type 0} (P : A → Type 0) (l : List A) (x : A) → Each P l → P x → Each P (l ++ x ∷ [])
each_more P [] x a b = (b, tt)
each_more P (y ∷ l) x a b = (a.0, each_more P l x a.1 b)

pub each_map : {A B : Type 0} (P : A → Type 0) (Q : B → Type 0) (g : A → B) → ((x : A) → P x → Q (g x)) → (l : List A) → Each P l → Each Q (map g l)
each_map P Q g h [] a = tt
each_map P Q g h (x ∷ l) a = (h x a.0, each_map P Q g h l a.1)

-- TYPES

pub record KindAgain (k : Kind) (ws : List Token) (ks : List Piece) : Type 0 where
  pub rest : List Token
  pub is : IsType ws rest k
  pub have : texts rest ≡ piece_texts ks

-- a kind's number
record Digit (n : ℕ) (k : Kind) : Type 0 where
  small : n < 10
  class_is : text_class ((48 + n) ∷ []) ≡ class.KindNumber
  kind_is : kind_by_text ((48 + n) ∷ []) ≡ k

digit_1 : Digit 1 kind.I1
unfolding text_class
digit_1 = record { small = omega arith; class_is = refl; kind_is = refl }

digit_2 : Digit 2 kind.I2
unfolding text_class
digit_2 = record { small = omega arith; class_is = refl; kind_is = refl }

digit_8 : Digit 8 kind.I8
unfolding text_class
digit_8 = record { small = omega arith; class_is = refl; kind_is = refl }

bytes_again : (n : ℕ) (k : Kind) (s : Bool) (ks : List Piece) (ws : List Token) → Digit n k → texts ws ≡ piece_texts (bytes_pieces n s ks) → KindAgain k ws ks
bytes_again n k s ks ws d h =
    let a = cut ws (codes "integer") (piece_texts (sign false mark.Open (number false n None (sign false mark.Close ks)))) h in
    let b = cut a.others (mark_text mark.Open) (piece_texts (number false n None (sign false mark.Close ks))) a.have in
    let c = cut b.others (text_of (Number n None)) (piece_texts (sign false mark.Close ks)) b.have in
    let e = cut c.others (mark_text mark.Close) (piece_texts ks) c.have in
    let t : c.first.text ≡ (48 + n) ∷ [] = c.text ∙ ap (λ x. x ++ []) (decimal_digit n d.small) in
    let rest : IsKind (b.first ∷ c.first ∷ e.first ∷ e.others) e.others (kind_by_text c.first.text) =
    f.a_kind b.first c.first e.first (open_class_is b.first b.text) (ap text_class t ∙ d.class_is) (close_class_is e.first e.text) in
    let all : ws ≡ a.first ∷ b.first ∷ c.first ∷ e.first ∷ e.others =
    a.is ∙ ap (λ y. a.first ∷ y) (b.is ∙ ap (λ y. b.first ∷ y) (c.is ∙ ap (λ y. c.first ∷ y) e.is)) in
    record {
      rest = e.others;
      is = subst (λ y. IsType y e.others k) (sym all) (f.integer a.first (keyword a.first (codes "integer") class.Integer k_integer a.text) (subst (λ y. IsKind (b.first ∷ c.first ∷ e.first ∷ e.others) e.others y) (ap kind_by_text t ∙ d.kind_is) rest));
      have = e.have;
    }

pub kind_again : (k : Kind) (s : Bool) (ks : List Piece) (ws : List Token) → texts ws ≡ piece_texts (kind_pieces k s ks) → KindAgain k ws ks
kind_again kind.I1 s ks ws h = bytes_again 1 kind.I1 s ks ws digit_1 h
kind_again kind.I2 s ks ws h = bytes_again 2 kind.I2 s ks ws digit_2 h
kind_again kind.I4 s ks ws h =
    let a = cut ws (codes "integer") (piece_texts ks) h in
    record { rest = a.others; is = subst (λ y. IsType y a.others kind.I4) (sym a.is) (f.integer a.first (keyword a.first (codes "integer") class.Integer k_integer a.text) f.no_kind); have = a.have }
kind_again kind.I8 s ks ws h = bytes_again 8 kind.I8 s ks ws digit_8 h
kind_again kind.Logical s ks ws h =
    let a = cut ws (codes "logical") (piece_texts ks) h in
    record { rest = a.others; is = subst (λ y. IsType y a.others kind.Logical) (sym a.is) (f.logical a.first (keyword a.first (codes "logical") class.Logical k_logical a.text)); have = a.have }

bytes_stand : (n : ℕ) (s : Bool) (ks : List Piece) → n < 2 ^ 63 → Follows ks → ArePieces (bytes_pieces n s ks)
bytes_stand n s ks h i = (
  k_integer.is_name,
  ends_follow (Word (codes "integer")) (sign false mark.Open (number false n None (sign false mark.Close ks))) refl
      (tt, refl, mark_starts mark.Open (number false n None (sign false mark.Close ks)) (h, refl, ends_follow (Number n None) (sign false mark.Close ks) refl (tt, refl, ends_follow (Sign mark.Close) ks refl i))),
)

kind_stands : (k : Kind) (s : Bool) (ks : List Piece) → Follows ks → ArePieces (kind_pieces k s ks)
kind_stands kind.I1 s ks i = bytes_stand 1 s ks (omega arith) i
kind_stands kind.I2 s ks i = bytes_stand 2 s ks (omega arith) i
kind_stands kind.I4 s ks i = (k_integer.is_name, ends_follow (Word (codes "integer")) ks refl i)
kind_stands kind.I8 s ks i = bytes_stand 8 s ks (omega arith) i
kind_stands kind.Logical s ks i = (k_logical.is_name, ends_follow (Word (codes "logical")) ks refl i)

kind_left : {w z : List Token} {k : Kind} → IsKind w z k → AreTokens w → AreTokens z
kind_left f.no_kind r = r
kind_left (f.a_kind {z = z} p t q a b c) r = real_rest q z (real_rest t (q ∷ z) (real_rest p (t ∷ q ∷ z) r))
kind_left (f.keyword_kind {z = z} p k e t q a b c d g) r = real_rest q z (real_rest t (q ∷ z) (real_rest e (t ∷ q ∷ z) (real_rest k (e ∷ t ∷ q ∷ z) (real_rest p (k ∷ e ∷ t ∷ q ∷ z) r))))

type_left : {w z : List Token} {k : Kind} → IsType w z k → AreTokens w → AreTokens z
type_left (f.integer {w = w} t h d) r = kind_left d (real_rest t w r)
type_left (f.logical {z = z} t h) r = real_rest t z r

-- SHAPES

pub own_shape_fit : {w z : List Token} {l : List Bound} → IsOwnShape w z l → AreTokens w → ShapeFit l × AreTokens z
own_shape_fit f.no_shape r = (tt, r)
own_shape_fit (f.some_shape {w = w} {z = z} p q a d c) r = let u = shape_fit d (real_rest p w r) in (u.0, real_rest q z u.1)

record ShapeAgain (l : List Bound) (ws : List Token) (ks : List Piece) : Type 0 where
  rest : List Token
  shape : List Bound
  is : IsOwnShape ws rest shape
  same : map bare_bound shape ≡ map bare_bound l
  have : texts rest ≡ piece_texts ks

own_shape_again : (l : List Bound) (ks : List Piece) (ws : List Token) → ShapeFit l → texts ws ≡ piece_texts (shape_pieces l ks) → ShapeAgain l ws ks
own_shape_again [] ks ws a h = record { rest = ws; shape = []; is = f.no_shape; same = refl; have = h }
own_shape_again (b ∷ l) ks ws a h =
    let c = cut ws (mark_text mark.Open) (piece_texts (items false (map dimension_pieces (b ∷ l)) false (sign false mark.Close ks))) h in
    let u = shape_again false b l (sign false mark.Close ks) c.others a c.have in
    let d = cut u.rest (mark_text mark.Close) (piece_texts ks) u.have in
    record {
      rest = d.others;
      shape = u.item;
      is = subst (λ y. IsOwnShape y d.others u.item) (sym c.is) (f.some_shape c.first d.first (open_class_is c.first c.text) (subst (λ y. IsShape c.others y u.item) d.is u.is) (close_class_is d.first d.text));
      same = u.same;
      have = d.have;
    }

own_shape_stands : (name : List ℕ) (l : List Bound) → ShapeFit l → AreBehind (Word name) (shape_pieces l [])
own_shape_stands name [] a = tt
own_shape_stands name (b ∷ l) a = ends_follow (Word name) (bracketed false (map dimension_pieces (b ∷ l)) false []) refl (tt, refl, shape_behind b l (sign false mark.Close []) a (refl, tt))

intent_left : {w z : List Token} {i : Intent} → IsIntent w z i → AreTokens w → AreTokens z
intent_left (f.intent_in {z = z} t h) r = real_rest t z r
intent_left (f.intent_out {z = z} t h) r = real_rest t z r
intent_left (f.intent_in_out (f.apart {z = z} t u a b)) r = real_rest u z (real_rest t (u ∷ z) r)
intent_left (f.intent_in_out (f.together {z = z} t a)) r = real_rest t z r

intent_attribute_left : {w z : List Token} {i : Intent} → IsIntentAttribute w z i → AreTokens w → AreTokens z
intent_attribute_left (f.an_intent {w = w} {z = z} c t p q a b g d e) r = real_rest q z (intent_left d (real_rest p w (real_rest t (p ∷ w) (real_rest c (t ∷ p ∷ w) r))))

dimension_attribute_fit : {w z : List Token} {l : List Bound} → IsDimensionAttribute w z l → AreTokens w → ShapeFit l × AreTokens z
dimension_attribute_fit (f.a_dimension {w = w} {z = z} c t p q a b g d e) r = let u = shape_fit d (real_rest p w (real_rest t (p ∷ w) (real_rest c (t ∷ p ∷ w) r))) in (u.0, real_rest q z u.1)

attributes_fit : {w z : List Token} {i : Option Intent} {l : List Bound} → IsAttributes w z i l → AreTokens w → ShapeFit l × AreTokens z
attributes_fit f.no_attribute r = (tt, r)
attributes_fit (f.no_attribute_colons {z = z} d h) r = (tt, real_rest d z r)
attributes_fit (f.intent_alone {z = z} d a h) r = (tt, real_rest d z (intent_attribute_left a r))
attributes_fit (f.dimension_alone {z = z} d a h) r = let u = dimension_attribute_fit a r in (u.0, real_rest d z u.1)
attributes_fit (f.intent_dimension {z = z} d a b h) r = let u = dimension_attribute_fit b (intent_attribute_left a r) in (u.0, real_rest d z u.1)
attributes_fit (f.dimension_intent {z = z} d a b h) r = let u = dimension_attribute_fit a r in (u.0, real_rest d z (intent_attribute_left b u.1))

-- ENTITIES

data EntityFit : Entity → Type 0 where
  a_variable : {name : List ℕ} {at : Place} {shape : List Bound} → Free name → ShapeFit shape → EntityFit (record { name = name; at = at; shape = shape; value = None })
  a_constant : {name : List ℕ} {at : Place} {e : Expr} → Free name → Fit IsInitial e → EntityFit (record { name = name; at = at; shape = []; value = Some e })

data ConstantFit : Entity → Type 0 where
  of_value : {name : List ℕ} {at : Place} {e : Expr} → Free name → Fit IsInitial e → ConstantFit (record { name = name; at = at; shape = []; value = Some e })

data VariableFit : Entity → Type 0 where
  of_shape : {name : List ℕ} {at : Place} {shape : List Bound} → Free name → ShapeFit shape → VariableFit (record { name = name; at = at; shape = shape; value = None })

entity_fit : {w z : List Token} {d : Entity} → IsEntity w z d → AreTokens w → VariableFit d × AreTokens z
entity_fit (f.entity {w = w} t h s) r = let u = own_shape_fit s (real_rest t w r) in (of_shape (token_free t (real_first t w r) h) u.0, u.1)

entities_fit : {w z : List Token} {l : List Entity} → IsEntities w z l → AreTokens w → Each VariableFit l × AreTokens z
entities_fit (f.first_entity d) r = let u = entity_fit d r in ((u.0, tt), u.1)
entities_fit (f.next_entity {x = x} {l = l} {d = d} c e h i) r =
    let u = entities_fit e r in
    let v = entity_fit i (real_rest c x u.1) in (each_more VariableFit l d u.0 v.0, v.1)

constant_fit : {w z : List Token} {d : Entity} → IsConstant w z d → AreTokens w → ConstantFit d × AreTokens z
constant_fit (f.constant {w = w} {z = z} {e = e} t q h i d) r =
    let l = law_initial d (real_rest q w (real_rest t (q ∷ w) r)) in (of_value (token_free t (real_first t (q ∷ w) r) h) (fit IsInitial z e l), l.left)

constants_fit : {w z : List Token} {l : List Entity} → IsConstants w z l → AreTokens w → Each ConstantFit l × AreTokens z
constants_fit (f.first_constant d) r = let u = constant_fit d r in ((u.0, tt), u.1)
constants_fit (f.next_constant {x = x} {l = l} {d = d} c e h i) r =
    let u = constants_fit e r in
    let v = constant_fit i (real_rest c x u.1) in (each_more ConstantFit l d u.0 v.0, v.1)

-- DECLARATIONS

-- a declaration that can be written: of a variable, or of a constant that is a scalar
pub data DeclFit : Decl → Type 0 where
  variable : {name : List ℕ} {at : Place} {k : Kind} {i : Option Intent} {shape : List Bound} → Free name → ShapeFit shape →
      DeclFit (record { name = name; at = at; kind = k; intent = i; shape = shape; value = None })
  constant : {name : List ℕ} {at : Place} {k : Kind} {e : Expr} → Free name → Fit IsInitial e →
      DeclFit (record { name = name; at = at; kind = k; intent = None; shape = []; value = Some e })

shape_or_fit : (l m : List Bound) → ShapeFit l → ShapeFit m → ShapeFit (shape_or l m)
shape_or_fit [] m a b = b
shape_or_fit (x ∷ l) m a b = a

variable_declared : (k : Kind) (i : Option Intent) (l : List Bound) → ShapeFit l → (d : Entity) → VariableFit d → DeclFit (declared k i l d)
variable_declared k i l s d (of_shape {shape = shape} free a) = variable free (shape_or_fit shape l a s)

constant_declared : (k : Kind) (d : Entity) → ConstantFit d → DeclFit (declared k None [] d)
constant_declared k d (of_value free a) = constant free a

pub declaration_fit : {w z : List Token} {l : List Decl} → IsDeclaration w z l → AreTokens w → Each DeclFit l
declaration_fit (f.variables {k = k} {i = i} {l = l} {d = d} t a e) r =
    let u = attributes_fit a (type_left t r) in
    each_map VariableFit DeclFit (declared k i l) (variable_declared k i l u.0) d (entities_fit e u.1).0
declaration_fit (f.constants {x = x} {k = k} {d = d} c p b t h i j e) r =
    let r' = real_rest b x (real_rest p (b ∷ x) (real_rest c (p ∷ b ∷ x) (type_left t r))) in
    each_map ConstantFit DeclFit (declared k None []) (constant_declared k) d (constants_fit e r').0

-- an attribute
record IntentAgain (i : Option Intent) (ws : List Token) (ks : List Piece) : Type 0 where
  rest : List Token
  is : IsAttributes ws rest i []
  have : texts rest ≡ piece_texts ks

intent_word_again : (i : Intent) (q : Token) (z : List Token) → q.text ≡ intent_word i → IsIntent (q ∷ z) z i
intent_word_again intent.In q z e = f.intent_in q (keyword q (codes "in") class.In k_in e)
intent_word_again intent.Out q z e = f.intent_out q (keyword q (codes "out") class.Out k_out e)
intent_word_again intent.InOut q z e = f.intent_in_out (f.together q (keyword q (codes "inout") class.Inout k_inout e))

intent_again : (i : Option Intent) (ks : List Piece) (ws : List Token) → texts ws ≡ piece_texts (intent_pieces i (sign true mark.Colons ks)) → IntentAgain i ws ks
intent_again None ks ws h =
    let a = cut ws (mark_text mark.Colons) (piece_texts ks) h in
    record { rest = a.others; is = subst (λ y. IsAttributes y a.others None []) (sym a.is) (f.no_attribute_colons a.first (colons_class_is a.first a.text)); have = a.have }
intent_again (Some i) ks ws h =
    let k1 : List Piece = sign true mark.Colons ks in
    let k2 : List Piece = sign false mark.Close k1 in
    let k3 : List Piece = word false (intent_word i) k2 in
    let k4 : List Piece = sign false mark.Open k3 in
    let a = cut ws (mark_text mark.Comma) (piece_texts (word true (codes "intent") k4)) h in
    let b = cut a.others (codes "intent") (piece_texts k4) a.have in
    let c = cut b.others (mark_text mark.Open) (piece_texts k3) b.have in
    let d = cut c.others (intent_word i) (piece_texts k2) c.have in
    let e = cut d.others (mark_text mark.Close) (piece_texts k1) d.have in
    let g = cut e.others (mark_text mark.Colons) (piece_texts ks) e.have in
    let all : ws ≡ a.first ∷ b.first ∷ c.first ∷ d.first ∷ e.first ∷ g.first ∷ g.others =
    a.is ∙ ap (λ y. a.first ∷ y) (b.is ∙ ap (λ y. b.first ∷ y) (c.is ∙ ap (λ y. c.first ∷ y) (d.is ∙ ap (λ y. d.first ∷ y) (e.is ∙ ap (λ y. e.first ∷ y) g.is)))) in
    let attribute : IsIntentAttribute (a.first ∷ b.first ∷ c.first ∷ d.first ∷ e.first ∷ g.first ∷ g.others) (g.first ∷ g.others) i =
    f.an_intent a.first b.first c.first e.first (comma_class_is a.first a.text) (keyword b.first (codes "intent") class.Intent k_intent b.text) (open_class_is c.first c.text)
    (intent_word_again i d.first (e.first ∷ g.first ∷ g.others) d.text) (close_class_is e.first e.text) in
    record { rest = g.others; is = subst (λ y. IsAttributes y g.others (Some i) []) (sym all) (f.intent_alone g.first attribute (colons_class_is g.first g.text)); have = g.have }

-- what a declaration is read as again
pub record DeclAgain (d : Decl) (ws : List Token) : Type 0 where
  pub decl : Decl
  pub is : IsDeclaration ws [] (decl ∷ [])
  pub same : bare_decl decl ≡ bare_decl d

shape_or_none : (l : List Bound) → shape_or l [] ≡ l
shape_or_none [] = refl
shape_or_none (b ∷ l) = refl

same_decl : (m n : List ℕ) (k : Kind) (i : Option Intent) (l s : List Bound) (a b : Option Expr) → m ≡ n → l ≡ s → a ≡ b →
    ◌≡◌ {A = Decl} (record { name = m; at = nowhere; kind = k; intent = i; shape = l; value = a }) (record { name = n; at = nowhere; kind = k; intent = i; shape = s; value = b })
same_decl m n k i l s a b e g h =
    ap (λ x. record { name = x; at = nowhere; kind = k; intent = i; shape = l; value = a }) e
    ∙ ap (λ x. record { name = n; at = nowhere; kind = k; intent = i; shape = x; value = a }) g
    ∙ ap (λ x. record { name = n; at = nowhere; kind = k; intent = i; shape = s; value = x }) h

pub decl_again : (d : Decl) (ws : List Token) → DeclFit d → texts ws ≡ piece_texts (decl_pieces d false []) → DeclAgain d ws
decl_again d ws (variable {name = name} {k = k} {i = i} {shape = shape} free a) h =
    let t = kind_again k false (intent_pieces i (sign true mark.Colons (word true name (shape_pieces shape [])))) ws h in
    let u = intent_again i (word true name (shape_pieces shape [])) t.rest t.have in
    let c = cut u.rest name (piece_texts (shape_pieces shape [])) u.have in
    let s = own_shape_again shape [] c.others a c.have in
    let entity : Entity = record { name = lowercase c.first.text; at = c.first.at; shape = s.shape; value = None } in
    let e : IsEntity u.rest s.rest entity = subst (λ y. IsEntity y s.rest entity) (sym c.is) (f.entity c.first (keyword c.first name class.Name free c.text) s.is) in
    record {
      decl = declared k i [] entity;
      is = subst (λ y. IsDeclaration ws y (declared k i [] entity ∷ [])) (all_read s.rest s.have) (f.variables t.is u.is (f.first_entity e));
      same = same_decl (lowercase c.first.text) name k i (map bare_bound (shape_or s.shape [])) (map bare_bound shape) None None (free_lower c.first name free c.text) (ap (map bare_bound) (shape_or_none s.shape) ∙ s.same) refl;
    }
decl_again d ws (constant {name = name} {k = k} {e = e} free l) h =
    let k1 : List Piece = expr_pieces e true [] in
    let k2 : List Piece = sign true mark.Assign k1 in
    let k3 : List Piece = word true name k2 in
    let k4 : List Piece = sign true mark.Colons k3 in
    let k5 : List Piece = word true (codes "parameter") k4 in
    let t = kind_again k false (sign false mark.Comma k5) ws h in
    let a = cut t.rest (mark_text mark.Comma) (piece_texts k5) t.have in
    let b = cut a.others (codes "parameter") (piece_texts k4) a.have in
    let c = cut b.others (mark_text mark.Colons) (piece_texts k3) b.have in
    let n = cut c.others name (piece_texts k2) c.have in
    let q = cut n.others (mark_text mark.Assign) (piece_texts k1) n.have in
    let v = l.again true [] q.others q.have in
    let entity : Entity = record { name = lowercase n.first.text; at = n.first.at; shape = []; value = Some v.tree } in
    let whole : IsConstant (n.first ∷ q.first ∷ q.others) v.rest entity = f.constant n.first q.first (keyword n.first name class.Name free n.text) (equals_class_is q.first q.text) v.is in
    let begins : IsType ws (a.first ∷ b.first ∷ c.first ∷ n.first ∷ q.first ∷ q.others) k =
    subst (λ y. IsType ws y k) (a.is ∙ ap (λ y. a.first ∷ y) (b.is ∙ ap (λ y. b.first ∷ y) (c.is ∙ ap (λ y. c.first ∷ y) (n.is ∙ ap (λ y. n.first ∷ y) q.is)))) t.is in
    record {
      decl = declared k None [] entity;
      is = subst (λ y. IsDeclaration ws y (declared k None [] entity ∷ [])) (all_read v.rest v.have)
          (f.constants a.first b.first c.first begins (comma_class_is a.first a.text) (keyword b.first (codes "parameter") class.Parameter k_parameter b.text) (colons_class_is c.first c.text) (f.first_constant whole));
      same = same_decl (lowercase n.first.text) name k None [] [] (Some (unplaced v.tree)) (Some (unplaced e)) (free_lower n.first name free n.text) refl (ap (λ x. Some x) v.same);
    }

intent_name : (i : Intent) → IsName (intent_word i)
intent_name intent.In = k_in.is_name
intent_name intent.Out = k_out.is_name
intent_name intent.InOut = k_inout.is_name

intent_follows : (i : Option Intent) (ks : List Piece) → Follows ks → Follows (intent_pieces i ks)
intent_follows None ks h = h
intent_follows (Some i) ks h = (
  tt,
  refl,
  (
    k_intent.is_name,
    refl,
    ends_follow (Word (codes "intent")) (sign false mark.Open (word false (intent_word i) (sign false mark.Close ks))) refl
        (tt, refl, mark_starts mark.Open (word false (intent_word i) (sign false mark.Close ks)) (intent_name i, refl, ends_follow (Word (intent_word i)) (sign false mark.Close ks) refl (tt, refl, ends_follow (Sign mark.Close) ks refl h))),
  ),
)

pub decl_stands : (d : Decl) → DeclFit d → ArePieces (decl_pieces d false [])
decl_stands d (variable {name = name} {k = k} {i = i} {shape = shape} free a) =
    let tail : List Piece = sign true mark.Colons (word true name (shape_pieces shape [])) in
    kind_stands k false (intent_pieces i tail) (intent_follows i tail (tt, refl, (free.is_name, refl, own_shape_stands name shape a)))
decl_stands d (constant {name = name} {k = k} {e = e} free l) =
    kind_stands k false (sign false mark.Comma (word true (codes "parameter") (sign true mark.Colons (word true name (sign true mark.Assign (expr_pieces e true []))))))
    (tt, refl, (k_parameter.is_name, refl, (tt, refl, (free.is_name, refl, (tt, refl, mark_starts mark.Assign (expr_pieces e true []) (l.stands true [] tt))))))

-- HEADERS

pub dummies_fit : {w z : List Token} {l : List Named} → IsDummies w z l → AreTokens w → NamesFit l × AreTokens z
dummies_fit f.no_dummies r = (tt, r)
dummies_fit (f.dummies {w = w} {z = z} p q a d b) r = let u = names_option_fit d (real_rest p w r) in (u.0, real_rest q z u.1)

abbrev pub OptionFree : Option Named → Type 0
OptionFree None = ⊤
OptionFree (Some n) = Free n.name

pub result_fit : {w z : List Token} {r : Option Named} → IsResult w z r → AreTokens w → OptionFree r
result_fit f.no_result r = tt
result_fit (f.some_result {z = z} a p t q b c d e) r =
    let r' = real_rest p (t ∷ q ∷ z) (real_rest a (p ∷ t ∷ q ∷ z) r) in token_free t (real_first t (q ∷ z) r') d

pub record FunctionFit (h : f.Header) : Type 0 where
  pub name : Free h.name.name
  pub dummies : NamesFit h.dummies
  pub result : OptionFree h.result

pub function_fit : {w z : List Token} {h : f.Header} → f.IsFunction w z h → AreTokens w → FunctionFit h
function_fit (f.a_function {w = w} {x = x} t p q a b d e c) r =
    let u = names_option_fit d (real_rest p w (real_rest t (p ∷ w) r)) in
    record { name = token_free t (real_first t (p ∷ w) r) a; dummies = u.0; result = result_fit c (real_rest q x u.1) }

pub function_left : {w z : List Token} {k : Kind} → IsType w z k → AreTokens w → AreTokens z
function_left d r = type_left d r
