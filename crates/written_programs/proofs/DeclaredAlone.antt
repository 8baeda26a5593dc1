-- Each declaration of a line is one by itself: its type, its attributes and its entity alone are a line.
use Rattle.std.proofs.Common.{◌≡◌, List, [], ◌∷◌, Option, None}
use Rattle.std.specs.List.{AllByRecursion}
use Rattle.fort_arith.specs.declared.kind.Kind.{Kind}
use Rattle.fort_tree.specs.declared.expr.Expr.{Expr}
use Rattle.fort_tree.specs.declared.statement.Token.{Token}
use Rattle.fort_tree.specs.declared.unit.Bound.{Bound}
use Rattle.fort_tree.specs.declared.unit.Decl.{Decl}
use Rattle.fort_tree.specs.declared.unit.Intent.{Intent}
use Rattle.fort_tree.specs.Name.{lowercase}
use Rattle.fort_grammar.specs.declared.class.Class.TheVariants as class
use Rattle.fort_grammar.specs.declared.class.Class.{Class}
use Rattle.fort_grammar.specs.Token.{token_class}
use Rattle.fort_stmt.specs.Form as f
use Rattle.fort_stmt.specs.Form.{IsWords, IsKind, IsType, IsBound, IsBoundOption, IsDimension, IsShape, IsOwnShape, IsInitial, IsEntity, IsEntities, IsConstant, IsConstants, IsIntent, IsIntentAttribute, IsDimensionAttribute, IsAttributes, IsDeclaration, declared}
use Rattle.fort_stmt.specs.declared.value.Entity.{Entity}
use Rattle.layout_reading.specs.WideUnits.{IsFreeName}
use Rattle.layout_reading.proofs.Elements.{each_append, each_mapped}
use Rattle.layout_reading.proofs.FreeNames.{HasFreeName, token_free}

-- Tokens that are this before any others
pub record Alone {A : Type 0} (R : List Token → List Token → A → Type 0) (a : A) : Type 0 where
  pub put : List Token → List Token
  pub is : (z : List Token) → R (put z) z a

-- tokens with no value
record Before (R : List Token → List Token → Type 0) : Type 0 where
  put : List Token → List Token
  is : (z : List Token) → R (put z) z

words_alone : {a b c : Class} {w z : List Token} → IsWords a b c w z → Before (IsWords a b c)
words_alone (f.apart t u h k) = record { put = λ y. t ∷ u ∷ y; is = λ y. f.apart t u h k }
words_alone (f.together t h) = record { put = λ y. t ∷ y; is = λ y. f.together t h }

kind_alone : {w z : List Token} {k : Kind} → IsKind w z k → Alone IsKind k
kind_alone f.no_kind = record { put = λ y. y; is = λ y. f.no_kind }
kind_alone (f.a_kind p t q a b c) = record { put = λ y. p ∷ t ∷ q ∷ y; is = λ y. f.a_kind p t q a b c }
kind_alone (f.keyword_kind p k e t q a b c d g) = record { put = λ y. p ∷ k ∷ e ∷ t ∷ q ∷ y; is = λ y. f.keyword_kind p k e t q a b c d g }

pub type_alone : {w z : List Token} {k : Kind} → IsType w z k → Alone IsType k
type_alone (f.integer t h k) = let a = kind_alone k in record { put = λ y. t ∷ a.put y; is = λ y. f.integer t h (a.is y) }
type_alone (f.logical t h) = record { put = λ y. t ∷ y; is = λ y. f.logical t h }

bound_alone : {w z : List Token} {e : Expr} → IsBound w z e → Alone IsBound e
bound_alone (f.bound_number t h) = record { put = λ y. t ∷ y; is = λ y. f.bound_number t h }
bound_alone (f.bound_negative m t h k) = record { put = λ y. m ∷ t ∷ y; is = λ y. f.bound_negative m t h k }
bound_alone (f.bound_name n h) = record { put = λ y. n ∷ y; is = λ y. f.bound_name n h }
bound_alone (f.bound_plus n o t h k l) = record { put = λ y. n ∷ o ∷ t ∷ y; is = λ y. f.bound_plus n o t h k l }
bound_alone (f.bound_minus n o t h k l) = record { put = λ y. n ∷ o ∷ t ∷ y; is = λ y. f.bound_minus n o t h k l }

bound_option_alone : {w z : List Token} {e : Option Expr} → IsBoundOption w z e → Alone IsBoundOption e
bound_option_alone f.no_bound = record { put = λ y. y; is = λ y. f.no_bound }
bound_option_alone (f.some_bound b) = let a = bound_alone b in record { put = a.put; is = λ y. f.some_bound (a.is y) }

dimension_alone : {w z : List Token} {b : Bound} → IsDimension w z b → Alone IsDimension b
dimension_alone (f.assumed c h) = record { put = λ y. c ∷ y; is = λ y. f.assumed c h }
dimension_alone (f.upper_only b) = let a = bound_alone b in record { put = a.put; is = λ y. f.upper_only (a.is y) }
dimension_alone (f.bounds c b h o) =
    let a = bound_alone b in let u = bound_option_alone o in record { put = λ y. a.put (c ∷ u.put y); is = λ y. f.bounds c (a.is (c ∷ u.put y)) h (u.is y) }

shape_alone : {w z : List Token} {l : List Bound} → IsShape w z l → Alone IsShape l
shape_alone (f.first_dimension d) = let a = dimension_alone d in record { put = a.put; is = λ y. f.first_dimension (a.is y) }
shape_alone (f.next_dimension c s h d) =
    let a = shape_alone s in let b = dimension_alone d in record { put = λ y. a.put (c ∷ b.put y); is = λ y. f.next_dimension c (a.is (c ∷ b.put y)) h (b.is y) }

own_shape_alone : {w z : List Token} {l : List Bound} → IsOwnShape w z l → Alone IsOwnShape l
own_shape_alone f.no_shape = record { put = λ y. y; is = λ y. f.no_shape }
own_shape_alone (f.some_shape p q h s k) = let a = shape_alone s in record { put = λ y. p ∷ a.put (q ∷ y); is = λ y. f.some_shape p q h (a.is (q ∷ y)) k }

initial_alone : {w z : List Token} {e : Expr} → IsInitial w z e → Alone IsInitial e
initial_alone (f.initial_number t h) = record { put = λ y. t ∷ y; is = λ y. f.initial_number t h }
initial_alone (f.initial_negative m t h k) = record { put = λ y. m ∷ t ∷ y; is = λ y. f.initial_negative m t h k }
initial_alone (f.initial_truth t h) = record { put = λ y. t ∷ y; is = λ y. f.initial_truth t h }

entity_alone : {w z : List Token} {d : Entity} → IsEntity w z d → Alone IsEntity d
entity_alone (f.entity t h s) = let a = own_shape_alone s in record { put = λ y. t ∷ a.put y; is = λ y. f.entity t h (a.is y) }

constant_alone : {w z : List Token} {d : Entity} → IsConstant w z d → Alone IsConstant d
constant_alone (f.constant t q h k i) = let a = initial_alone i in record { put = λ y. t ∷ q ∷ a.put y; is = λ y. f.constant t q h k (a.is y) }

intent_alone : {w z : List Token} {i : Intent} → IsIntent w z i → Alone IsIntent i
intent_alone (f.intent_in t h) = record { put = λ y. t ∷ y; is = λ y. f.intent_in t h }
intent_alone (f.intent_out t h) = record { put = λ y. t ∷ y; is = λ y. f.intent_out t h }
intent_alone (f.intent_in_out w) = let a = words_alone w in record { put = a.put; is = λ y. f.intent_in_out (a.is y) }

intent_attribute_alone : {w z : List Token} {i : Intent} → IsIntentAttribute w z i → Alone IsIntentAttribute i
intent_attribute_alone (f.an_intent c t p q h k l i m) =
    let a = intent_alone i in record { put = λ y. c ∷ t ∷ p ∷ a.put (q ∷ y); is = λ y. f.an_intent c t p q h k l (a.is (q ∷ y)) m }

dimension_attribute_alone : {w z : List Token} {l : List Bound} → IsDimensionAttribute w z l → Alone IsDimensionAttribute l
dimension_attribute_alone (f.a_dimension c t p q h k l s m) =
    let a = shape_alone s in record { put = λ y. c ∷ t ∷ p ∷ a.put (q ∷ y); is = λ y. f.a_dimension c t p q h k l (a.is (q ∷ y)) m }

abbrev Attributes : Option Intent → List Bound → Type 0
Attributes i l = Before (λ w z. IsAttributes w z i l)

attributes_alone : {w z : List Token} {i : Option Intent} {l : List Bound} → IsAttributes w z i l → Attributes i l
attributes_alone f.no_attribute = record { put = λ y. y; is = λ y. f.no_attribute }
attributes_alone (f.no_attribute_colons d h) = record { put = λ y. d ∷ y; is = λ y. f.no_attribute_colons d h }
attributes_alone (f.intent_alone d i h) = let a = intent_attribute_alone i in record { put = λ y. a.put (d ∷ y); is = λ y. f.intent_alone d (a.is (d ∷ y)) h }
attributes_alone (f.dimension_alone d s h) = let a = dimension_attribute_alone s in record { put = λ y. a.put (d ∷ y); is = λ y. f.dimension_alone d (a.is (d ∷ y)) h }
attributes_alone (f.intent_dimension d i s h) =
    let a = intent_attribute_alone i in let b = dimension_attribute_alone s in
    record { put = λ y. a.put (b.put (d ∷ y)); is = λ y. f.intent_dimension d (a.is (b.put (d ∷ y))) (b.is (d ∷ y)) h }
attributes_alone (f.dimension_intent d s i h) =
    let a = dimension_attribute_alone s in let b = intent_attribute_alone i in
    record { put = λ y. a.put (b.put (d ∷ y)); is = λ y. f.dimension_intent d (a.is (b.put (d ∷ y))) (b.is (d ∷ y)) h }

-- Tokens that are the declaration alone
abbrev pub IsAlone : Decl → Type 0
IsAlone d = Alone IsDeclaration (d ∷ [])

one_variable : {k : Kind} {i : Option Intent} {l : List Bound} {e : Entity} → Alone IsType k → Attributes i l → Alone IsEntity e → IsAlone (declared k i l e)
one_variable t a e = record { put = λ y. t.put (a.put (e.put y)); is = λ y. f.variables (t.is (a.put (e.put y))) (a.is (e.put y)) (f.first_entity (e.is y)) }

one_constant : {k : Kind} {e : Entity} (c p b : Token) → Alone (λ w z (n : Kind). IsType w (c ∷ p ∷ b ∷ z) n) k → token_class c ≡ class.Comma → token_class p ≡ class.Parameter → token_class b ≡ class.DoubleColon → Alone IsConstant e →
    IsAlone (declared k None [] e)
one_constant c p b t h i j e = record { put = λ y. t.put (e.put y); is = λ y. f.constants c p b (t.is (e.put y)) h i j (f.first_constant (e.is y)) }

before_attributes : {k : Kind} (c p b : Token) → Alone IsType k → Alone (λ w z (n : Kind). IsType w (c ∷ p ∷ b ∷ z) n) k
before_attributes c p b t = record { put = λ y. t.put (c ∷ p ∷ b ∷ y); is = λ y. t.is (c ∷ p ∷ b ∷ y) }

entities_alone : {w z : List Token} {l : List Entity} → IsEntities w z l → AllByRecursion (Alone IsEntity) l
entities_alone (f.first_entity e) = (entity_alone e, tt)
entities_alone (f.next_entity {l = l} {d = d} c es h e) = each_append (Alone IsEntity) l (d ∷ []) (entities_alone es) (entity_alone e, tt)

constants_alone : {w z : List Token} {l : List Entity} → IsConstants w z l → AllByRecursion (Alone IsConstant) l
constants_alone (f.first_constant e) = (constant_alone e, tt)
constants_alone (f.next_constant {l = l} {d = d} c es h e) = each_append (Alone IsConstant) l (d ∷ []) (constants_alone es) (constant_alone e, tt)

pub declarations_alone : {w z : List Token} {l : List Decl} → IsDeclaration w z l → AllByRecursion IsAlone l
declarations_alone (f.variables {k = k} {i = i} {l = l} {d = d} t a e) =
    each_mapped (Alone IsEntity) IsAlone (declared k i l) d (λ x h. one_variable (type_alone t) (attributes_alone a) h) (entities_alone e)
declarations_alone (f.constants {k = k} {d = d} c p b t h i j e) =
    each_mapped (Alone IsConstant) IsAlone (declared k None []) d (λ x g. one_constant c p b (before_attributes c p b (type_alone t)) h i j g) (constants_alone e)

-- a type before FUNCTION, with the name of the result
pub result_alone : {w z : List Token} {k : Kind} (n : Token) → IsType w z k → token_class n ≡ class.Name → IsAlone (declared k None [] (record { name = lowercase n.text; at = n.at; shape = []; value = None }))
result_alone n t h = one_variable (type_alone t) (record { put = λ y. y; is = λ y. f.no_attribute }) (record { put = λ y. n ∷ y; is = λ y. f.entity n h f.no_shape })

-- ---- Names

abbrev EntityFree : Entity → Type 0
EntityFree e = IsFreeName e.name

entity_free : {w z : List Token} {d : Entity} → IsEntity w z d → EntityFree d
entity_free (f.entity t h s) = token_free t h

constant_free : {w z : List Token} {d : Entity} → IsConstant w z d → EntityFree d
constant_free (f.constant t q h k i) = token_free t h

entities_free : {w z : List Token} {l : List Entity} → IsEntities w z l → AllByRecursion EntityFree l
entities_free (f.first_entity e) = (entity_free e, tt)
entities_free (f.next_entity {l = l} {d = d} c es h e) = each_append EntityFree l (d ∷ []) (entities_free es) (entity_free e, tt)

constants_free : {w z : List Token} {l : List Entity} → IsConstants w z l → AllByRecursion EntityFree l
constants_free (f.first_constant e) = (constant_free e, tt)
constants_free (f.next_constant {l = l} {d = d} c es h e) = each_append EntityFree l (d ∷ []) (constants_free es) (constant_free e, tt)

pub declarations_free : {w z : List Token} {l : List Decl} → IsDeclaration w z l → AllByRecursion HasFreeName l
declarations_free (f.variables {k = k} {i = i} {l = l} {d = d} t a e) = each_mapped EntityFree HasFreeName (declared k i l) d (λ x h. h) (entities_free e)
declarations_free (f.constants {k = k} {d = d} c p b t h i j e) = each_mapped EntityFree HasFreeName (declared k None []) d (λ x h. h) (constants_free e)
