-- What the grammar derives of a statement's start is a statement.
use Rattle.std.proofs.Common.{◌≡◌, ℕ, Bool, true, false, ◌&&◌, List, [], ◌∷◌, ◌++◌, map, Option, None, Some, refl, sym, ◌∙◌, ap, subst}
use Rattle.std.proofs.lemmas.Bool.{true≢false, and_parts}
use Rattle.fort_arith.specs.declared.kind.Kind.{Kind}
use Rattle.fort_arith.specs.declared.op.Op.TheVariants as op
use Rattle.fort_tree.specs.declared.expr.Expr.{Expr}
use Rattle.fort_tree.specs.declared.expr.Expr.TheVariants as expr
use Rattle.fort_tree.specs.declared.expr.Sub as subscript
use Rattle.fort_tree.specs.declared.statement.EndWord.TheVariants as word_of_end
use Rattle.fort_tree.specs.declared.statement.Statement.{Statement}
use Rattle.fort_tree.specs.declared.statement.Statement.TheVariants as statement
use Rattle.fort_tree.specs.declared.statement.Token.{Token}
use Rattle.fort_tree.specs.declared.stmt.Named.{Named}
use Rattle.fort_tree.specs.declared.stmt.Range.{Range}
use Rattle.fort_tree.specs.declared.stmt.Range.TheVariants as range
use Rattle.fort_tree.specs.declared.unit.Bound.{Bound}
use Rattle.fort_tree.specs.declared.unit.Intent.{Intent}
use Rattle.fort_tree.specs.Name.{lowercase}
use Rattle.fort_grammar.specs.declared.class.Class.{Class}
use Rattle.fort_grammar.specs.declared.class.Class.TheVariants as class
use Rattle.fort_grammar.specs.declared.table.Action.{Action}
use Rattle.fort_grammar.specs.declared.table.Action.TheVariants as act
use Rattle.fort_grammar.specs.declared.table.Part.{Part}
use Rattle.fort_grammar.specs.declared.table.Part.TheVariants as part
use Rattle.fort_grammar.specs.declared.table.Symbol.{Symbol}
use Rattle.fort_grammar.specs.declared.table.Symbol.TheVariants.{Take, Call, Build}
use Rattle.fort_grammar.specs.Derives.{In, here, there}
use Rattle.fort_grammar.specs.Derives as derives
use Rattle.fort_grammar.specs.Table.{Choice, table}
use Rattle.fort_grammar.specs.Token.{token_class}
use Rattle.fort_expr.specs.declared.value.Value.{Value}
use Rattle.fort_expr.specs.declared.value.Value.TheVariants as value
use Rattle.fort_expr.specs.Expression.{IsExpr, IsReferred, IsNumber, a_name, an_intrinsic, a_number, a_kind_number}
use Rattle.fort_expr.specs.Values.{apply, builds_expression, word_of}
use Rattle.fort_expr.specs.Words.{front_place}
use Rattle.fort_expr.proofs.Names.{named}
use Rattle.fort_expr.proofs.Sound as within
use Rattle.fort_expr.proofs.Sound.{Part-means, whole, listed, Referring, referring, row-mean}
use Rattle.fort_stmt.specs.declared.value.Draft.{Draft}
use Rattle.fort_stmt.specs.declared.value.Entity.{Entity}
use Rattle.fort_stmt.specs.Form as form
use Rattle.fort_stmt.specs.Form.{named_of, number_of_token, kind_by_text, declared, Header, IsWords, IsEndName, IsNames, IsNamesOption, IsDummies, IsResult, IsFunction, IsKind, IsType, IsBound, IsBoundOption, IsDimension, IsShape, IsOwnShape, IsInitial, IsEntity, IsEntities, IsConstant, IsConstants, IsIntent, IsIntentAttribute, IsDimensionAttribute, IsDeclaration, IsValue, IsValueOption, IsRange, IsRanges, IsTarget, IsArguments, IsAssignment, IsAction, IsStep, IsForm}
use Rattle.fort_stmt.specs.Form.{apart, together, no_name, some_name, first_name, next_name, no_names, some_names, no_dummies, dummies, no_result, some_result, a_function, no_kind, a_kind, keyword_kind, integer, logical, bound_number, bound_negative, bound_name, bound_plus, bound_minus, no_bound, some_bound, assumed, upper_only, bounds, first_dimension, next_dimension, no_shape, some_shape, initial_number, initial_negative, initial_truth, entity, first_entity, next_entity, constant, first_constant, next_constant, intent_in, intent_out, intent_in_out, an_intent, a_dimension, no_attribute, no_attribute_colons, intent_alone, dimension_alone, intent_dimension, dimension_intent, variables, constants, value_number, value_negative, value_name, no_value, some_value, one_value, to_value, span, first_range, next_range, target, no_arguments, arguments, assign, assignment, exit, cycle, return, no_step, some_step, a_module, contains, end_bare, end_module, end_subroutine, end_function, subroutine, function, prefixed, use_all, use_only, implicit_none, declare, action, if_then, if_action, else_if, else_bare, end_if, a_do, end_do, select, end_select, case_default}
use Rattle.fort_stmt.specs.Values.{act_on, take_in, with_values, top_shape}
use Rattle.fort_stmt.proofs.Complete.{act-expr, named_word, Drafted}

-- What a part does to the draft: its tokens are an X, which is put into the draft.
data Makes (A : Type 0) (Is : List Token → List Token → A → Type 0) (f : A → List Token → Draft → Draft) : List Token → List Token → Draft → Draft → Type 0 where
  makes : {w z : List Token} {p : Draft} {a : A} → Is w z a → Makes A Is f w z p (f a w p)

-- a part of an expression changes the values alone
data Inner (n : Part) : List Token → List Token → Draft → Draft → Type 0 where
  inner : {w z : List Token} {p : Draft} {u : List Value} → Part-means n w z p.values u → Inner n w z p (with_values u p)

-- an INTENT leaves words among the values
data IntentMade : List Token → List Token → Draft → Draft → Type 0 where
  an_intent_body : {w z : List Token} {p : Draft} {i : Intent} {v : List Value} → IsIntent w z i → IntentMade w z p (record p { intent = i; values = v })

abbrev ent : List ℕ → Token → List Bound → Option Expr → Entity
ent n t l b = record { name = n; at = t.at; shape = l; value = b }

abbrev entity_in : Token → List Bound → Option Expr → Draft → Draft
entity_in t l b p = record p { values = value.Bound b ∷ value.Written (word_of t) ∷ p.values; shapes = l ∷ p.shapes }

data EntityMade (Is : List Token → List Token → Entity → Type 0) : List Token → List Token → Draft → Draft → Type 0 where
  an_entity : {w z : List Token} {p : Draft} {l : List Bound} {b : Option Expr} (t : Token) → token_class t ≡ class.Name → Is (t ∷ w) z (ent (lowercase t.text) t l b) → EntityMade Is (t ∷ w) z p (entity_in t l b p)

data IsDigits : List Token → List Token → Expr → Type 0 where
  a_digits : {z : List Token} (t : Token) → IsNumber (token_class t) → IsDigits (t ∷ z) z (number_of_token t)

data IsKindBody : List Token → List Token → Kind → Type 0 where
  plain_kind : {z : List Token} (t : Token) → token_class t ≡ class.KindNumber → IsKindBody (t ∷ z) z (kind_by_text t.text)
  keyword : {z : List Token} (n e t : Token) → token_class n ≡ class.Kind → token_class e ≡ class.Equals → token_class t ≡ class.KindNumber → IsKindBody (n ∷ e ∷ t ∷ z) z (kind_by_text t.text)

abbrev end_name_of : Option (List ℕ) → List Token → Draft → Draft
end_name_of n w p = record p { end_name = n }

abbrev names_of : List Named → List Token → Draft → Draft
names_of l w p = record p { names = l }

abbrev result_of : Option Named → List Token → Draft → Draft
result_of r w p = record p { result = r }

abbrev header_of : Header → List Token → Draft → Draft
header_of h w p = record p { statement = statement.Function None h.name h.dummies h.result; names = []; result = h.result }

abbrev acted : Statement → List Token → Draft → Draft
acted s w p = record p { statement = s; at = front_place w }

abbrev operand_of : Expr → List Token → Draft → Draft
operand_of e w p = with_values (value.Operand e (front_place w) ∷ p.values) p

abbrev arguments_of : List subscript.Sub → List Token → Draft → Draft
arguments_of l w p = with_values (value.Subscripts l ∷ p.values) p

abbrev bound_of : Option Expr → List Token → Draft → Draft
bound_of b w p = with_values (value.Bound b ∷ p.values) p

abbrev ranges_of : List Range → List Token → Draft → Draft
ranges_of l w p = record p { ranges = l }

abbrev range_values : Range → List Token → List Value → List Value
range_values (range.One e) w v = value.Operand e (front_place w) ∷ v
range_values (range.Span a b) w v = value.Bound b ∷ value.Bound a ∷ v

abbrev range_of : Range → List Token → Draft → Draft
range_of r w p = with_values (range_values r w p.values) p

abbrev type_of : Kind → List Token → Draft → Draft
type_of k w p = record p { kind = k; type_at = front_place w }

abbrev kind_of : Kind → List Token → Draft → Draft
kind_of k w p = record p { kind = k }

abbrev entities_of : List Entity → List Token → Draft → Draft
entities_of l w p = record p { entities = l }

abbrev shape_of : List Bound → List Token → Draft → Draft
shape_of l w p = record p { shapes = l ∷ p.shapes }

abbrev dimension_of : Bound → List Token → Draft → Draft
dimension_of b w p = with_values (value.Bound b.upper ∷ value.Bound b.lower ∷ p.values) p

abbrev Stated : List Token → List Token → Draft → Type 0
Stated w z q = (s : Statement) × IsForm w z s × (q.statement ≡ s)

abbrev Meant : Part → List Token → List Token → Draft → Draft → Type 0
Meant part.Statement w z p q = Stated w z q
Meant part.EndRest w z p q = (t : Token) → token_class t ≡ class.End → Stated (t ∷ w) z q
Meant part.NameOption w z p q = Makes (Option (List ℕ)) IsEndName end_name_of w z p q
Meant part.DummiesOption w z p q = Makes (List Named) IsDummies names_of w z p q
Meant part.NamesOption w z p q = Makes (List Named) IsNamesOption names_of w z p q
Meant part.Names w z p q = Makes (List Named) IsNames names_of w z p q
Meant part.NamesTail w z p q = (x : List Token) (l : List Named) (p0 : Draft) → IsNames x w l → p ≡ names_of l x p0 → Makes (List Named) IsNames names_of x z p0 q
Meant part.FunctionRest w z p q = Makes Header IsFunction header_of w z p q
Meant part.ResultOption w z p q = Makes (Option Named) IsResult result_of w z p q
Meant part.UseRest w z p q = (u n : Token) (p0 : Draft) → token_class u ≡ class.Use → token_class n ≡ class.Name → p ≡ take_in n p0 → Stated (u ∷ n ∷ w) z q
Meant part.Assignment w z p q = Makes Statement IsAssignment acted w z p q
Meant part.Target w z p q = Makes Expr IsTarget operand_of w z p q
Meant part.ArgumentsOption w z p q = Makes (List subscript.Sub) IsArguments arguments_of w z p q
Meant part.IfRest w z p q = (i o c : Token) (x : List Token) (e : Expr) (p0 : Draft) → token_class i ≡ class.If → token_class o ≡ class.Open → IsExpr x (c ∷ w) e → token_class c ≡ class.Close →
    p ≡ take_in c (operand_of e x p0) → Stated (i ∷ o ∷ x) z q
Meant part.Action w z p q = Makes Statement IsAction acted w z p q
Meant part.ElseRest w z p q = (t : Token) → token_class t ≡ class.Else → Stated (t ∷ w) z q
Meant part.StepOption w z p q = Makes (Option Expr) IsStep bound_of w z p q
Meant part.CaseRest w z p q = (t : Token) → token_class t ≡ class.Case → Stated (t ∷ w) z q
Meant part.Ranges w z p q = Makes (List Range) IsRanges ranges_of w z p q
Meant part.RangesTail w z p q = (x : List Token) (l : List Range) (p0 : Draft) → IsRanges x w l → p ≡ ranges_of l x p0 → Makes (List Range) IsRanges ranges_of x z p0 q
Meant part.Range w z p q = Makes Range IsRange range_of w z p q
Meant part.RangeRest w z p q = (x : List Token) (e : Expr) (p0 : Draft) → IsValue x w e → p ≡ operand_of e x p0 → Makes Range IsRange range_of x z p0 q
Meant part.ValueOption w z p q = Makes (Option Expr) IsValueOption bound_of w z p q
Meant part.Value w z p q = Makes Expr IsValue operand_of w z p q
Meant part.Digits w z p q = Makes Expr IsDigits operand_of w z p q
Meant part.TypeSpec w z p q = Makes Kind IsType type_of w z p q
Meant part.KindOption w z p q = Makes Kind IsKind kind_of w z p q
Meant part.KindBody w z p q = Makes Kind IsKindBody kind_of w z p q
Meant part.AfterType w z p q = (x : List Token) (k : Kind) → IsType x w k → p.kind ≡ k → p.type_at ≡ front_place x → Stated x z q
Meant part.Attribute w z p q = (x : List Token) (k : Kind) (c : Token) → IsType x (c ∷ w) k → token_class c ≡ class.Comma → p.kind ≡ k → Stated x z q
Meant part.AfterIntent w z p q = (x y : List Token) (k : Kind) (i : Intent) → IsType x y k → IsIntentAttribute y w i → p.kind ≡ k → p.intent ≡ i → Stated x z q
Meant part.AfterDimension w z p q = (x y : List Token) (k : Kind) (l : List Bound) (g : List (List Bound)) → IsType x y k → IsDimensionAttribute y w l → p.kind ≡ k → p.shapes ≡ l ∷ g → Stated x z q
Meant part.IntentBody w z p q = IntentMade w z p q
Meant part.OutOption w z p q = (t : Token) → token_class t ≡ class.In → IntentMade (t ∷ w) z p q
Meant part.Entities w z p q = Makes (List Entity) IsEntities entities_of w z p q
Meant part.EntitiesTail w z p q = (x : List Token) (l : List Entity) (p0 : Draft) → IsEntities x w l → p ≡ entities_of l x p0 → Makes (List Entity) IsEntities entities_of x z p0 q
Meant part.Entity w z p q = EntityMade IsEntity w z p q
Meant part.ShapeOption w z p q = Makes (List Bound) IsOwnShape shape_of w z p q
Meant part.Constants w z p q = Makes (List Entity) IsConstants entities_of w z p q
Meant part.ConstantsTail w z p q = (x : List Token) (l : List Entity) (p0 : Draft) → IsConstants x w l → p ≡ entities_of l x p0 → Makes (List Entity) IsConstants entities_of x z p0 q
Meant part.Constant w z p q = EntityMade IsConstant w z p q
Meant part.Initial w z p q = Makes Expr IsInitial operand_of w z p q
Meant part.Shape w z p q = Makes (List Bound) IsShape shape_of w z p q
Meant part.ShapeTail w z p q = (x : List Token) (l : List Bound) (p0 : Draft) → IsShape x w l → p ≡ shape_of l x p0 → Makes (List Bound) IsShape shape_of x z p0 q
Meant part.Dimension w z p q = Makes Bound IsDimension dimension_of w z p q
Meant part.DimensionRest w z p q = (x : List Token) (e : Expr) (p0 : Draft) → IsBound x w e → p ≡ operand_of e x p0 → Makes Bound IsDimension dimension_of x z p0 q
Meant part.BoundOption w z p q = Makes (Option Expr) IsBoundOption bound_of w z p q
Meant part.Bound w z p q = Makes Expr IsBound operand_of w z p q
Meant part.BoundOffset w z p q = (n : Token) (p0 : Draft) → token_class n ≡ class.Name → p ≡ take_in n p0 → Makes Expr IsBound operand_of (n ∷ w) z p0 q
Meant n w z p q = Inner n w z p q

-- what symbols mean, one behind the other
data Means : List Symbol → List Token → List Token → Draft → Draft → Type 0 where
  done : {w : List Token} {p : Draft} → Means [] w w p p
  take : {c : Class} {ss : List Symbol} {x z : List Token} {p q : Draft} (t : Token) → token_class t ≡ c → Means ss x z (take_in t p) q → Means (Take c ∷ ss) (t ∷ x) z p q
  build : {a : Action} {ss : List Symbol} {w z : List Token} {p q : Draft} → Means ss w z (act_on a p) q → Means (Build a ∷ ss) w z p q
  call : {n : Part} {ss : List Symbol} {w y z : List Token} {p m q : Draft} → Meant n w y p m → Means ss y z m q → Means (Call n ∷ ss) w z p q

split : (xs ys : List Symbol) (w z : List Token) (p q : Draft) → Means (xs ++ ys) w z p q → (y : List Token) × (m : Draft) × Means xs w y p m × Means ys y z m q
split [] ys w z p q h = (w, p, done, h)
split (Take c ∷ xs) ys w z p q (take {x = x} t e h) = let k = split xs ys x z (take_in t p) q h in (k.0, k.1, take t e k.2, k.3)
split (Build a ∷ xs) ys w z p q (build h) = let k = split xs ys w z (act_on a p) q h in (k.0, k.1, build k.2, k.3)
split (Call n ∷ xs) ys w z p q (call {y = y} {m = m} j h) = let k = split xs ys y z m q h in (k.0, k.1, call j k.2, k.3)

Row : Part → Type 0
Row n = (r : Choice) → In r (table n) → (w z : List Token) (p q : Draft) → Means r.symbols w z p q → Meant n w z p q

Rows-mean : Type 0
Rows-mean = (n : Part) → Row n

means : Rows-mean → {ss : List Symbol} {w : List Token} {p q : Draft} → Drafted ss w p q → Means ss w [] p q
unfolding Rows-mean Row
means f derives.done = done
means f (derives.take t e d) = take t e (means f d)
means f (derives.build d) = build (means f d)
means f (derives.row {n = n} {rest = ss} {w = w} {v = p} {u = q} r i d) =
    let k = split r.symbols ss w [] p q (means f d) in
    call (f n r i w k.0 p k.1 k.2) k.3

-- The parts of expressions: what they do to the values is known already.

abbrev is_inner : Part → Bool
is_inner part.Expr = true
is_inner part.EqvTail = true
is_inner part.Disj = true
is_inner part.OrTail = true
is_inner part.Conj = true
is_inner part.AndTail = true
is_inner part.Neg = true
is_inner part.Rel = true
is_inner part.RelTail = true
is_inner part.Sum = true
is_inner part.AddTail = true
is_inner part.Term = true
is_inner part.MulTail = true
is_inner part.Factor = true
is_inner part.PowTail = true
is_inner part.Primary = true
is_inner part.RefTail = true
is_inner part.Subs = true
is_inner part.SubTail = true
is_inner part.Sub = true
is_inner part.SubRest = true
is_inner part.Upper = true
is_inner _ = false

abbrev all_inner : List Symbol → Bool
all_inner [] = true
all_inner (Take c ∷ ss) = all_inner ss
all_inner (Build x ∷ ss) = builds_expression x && all_inner ss
all_inner (Call n ∷ ss) = is_inner n && all_inner ss

abbrev rows_inner : List Choice → Bool
rows_inner [] = true
rows_inner (r ∷ rs) = all_inner r.symbols && rows_inner rs

inner-table : (n : Part) → is_inner n ≡ true → rows_inner (table n) ≡ true
inner-table part.Expr h = refl
inner-table part.EqvTail h = refl
inner-table part.Disj h = refl
inner-table part.OrTail h = refl
inner-table part.Conj h = refl
inner-table part.AndTail h = refl
inner-table part.Neg h = refl
inner-table part.Rel h = refl
inner-table part.RelTail h = refl
inner-table part.Sum h = refl
inner-table part.AddTail h = refl
inner-table part.Term h = refl
inner-table part.MulTail h = refl
inner-table part.Factor h = refl
inner-table part.PowTail h = refl
inner-table part.Primary h = refl
inner-table part.RefTail h = refl
inner-table part.Subs h = refl
inner-table part.SubTail h = refl
inner-table part.Sub h = refl
inner-table part.SubRest h = refl
inner-table part.Upper h = refl
inner-table _ h = absurd (true≢false (sym h))

inner-row : (rs : List Choice) (r : Choice) → In r rs → rows_inner rs ≡ true → all_inner r.symbols ≡ true
inner-row [] r i h = elim i [ ]
inner-row (s ∷ rs) r here h = (and_parts (all_inner s.symbols) (rows_inner rs) h).0
inner-row (s ∷ rs) r (there i) h = inner-row rs r i (and_parts (all_inner s.symbols) (rows_inner rs) h).1

as-inner : (n : Part) → is_inner n ≡ true → (w z : List Token) (p q : Draft) → Meant n w z p q → Inner n w z p q
as-inner part.Expr h w z p q d = d
as-inner part.EqvTail h w z p q d = d
as-inner part.Disj h w z p q d = d
as-inner part.OrTail h w z p q d = d
as-inner part.Conj h w z p q d = d
as-inner part.AndTail h w z p q d = d
as-inner part.Neg h w z p q d = d
as-inner part.Rel h w z p q d = d
as-inner part.RelTail h w z p q d = d
as-inner part.Sum h w z p q d = d
as-inner part.AddTail h w z p q d = d
as-inner part.Term h w z p q d = d
as-inner part.MulTail h w z p q d = d
as-inner part.Factor h w z p q d = d
as-inner part.PowTail h w z p q d = d
as-inner part.Primary h w z p q d = d
as-inner part.RefTail h w z p q d = d
as-inner part.Subs h w z p q d = d
as-inner part.SubTail h w z p q d = d
as-inner part.Sub h w z p q d = d
as-inner part.SubRest h w z p q d = d
as-inner part.Upper h w z p q d = d
as-inner _ h w z p q d = absurd (true≢false (sym h))

called : (n : Part) (ss : List Symbol) (w y z : List Token) (p m q : Draft) → Inner n w y p m → (u : List Value) → within.Means ss y z m.values u → q ≡ with_values u m →
    (k : List Value) × within.Means (Call n ∷ ss) w z p.values k × (q ≡ with_values k p)
called n ss w y z p m q (inner i) u d h = (u, within.call i d, h)

project : (ss : List Symbol) → all_inner ss ≡ true → (w z : List Token) (p q : Draft) → Means ss w z p q → (u : List Value) × within.Means ss w z p.values u × (q ≡ with_values u p)
project [] h w z p q done = (p.values, within.done, refl)
project (Take c ∷ ss) h w z p q (take {x = x} t e d) = let k = project ss h x z (take_in t p) q d in (k.0, within.take t e k.1, k.2)
project (Build x ∷ ss) h w z p q (build d) =
    let a = and_parts (builds_expression x) (all_inner ss) h in
    let k = project ss a.1 w z (with_values (apply x p.values) p) q (subst (λ r. Means ss w z r q) (sym (act-expr x a.0 p.values p)) d) in
    (k.0, within.build k.1, k.2)
project (Call n ∷ ss) h w z p q (call {y = y} {m = m} j d) =
    let a = and_parts (is_inner n) (all_inner ss) h in
    let i = as-inner n a.0 w y p m j in
    let k = project ss a.1 y z m q d in
    called n ss w y z p m q i k.0 k.1 k.2

row-inner : (n : Part) → is_inner n ≡ true → (r : Choice) → In r (table n) → (w z : List Token) (p q : Draft) → Means r.symbols w z p q → Inner n w z p q
row-inner n h r i w z p q d =
    let k = project r.symbols (inner-row (table n) r i (inner-table n h)) w z p q d in
    subst (λ x. Inner n w z p x) (sym k.2) (inner (row-mean n r i w z p.values k.0 k.1))

-- The rows of statements.

stated : {x w z : List Token} {p q : Draft} → Means [] w z p q → Stated x w p → Stated x z q
stated done h = h

made : {A : Type 0} {Is : List Token → List Token → A → Type 0} {f : A → List Token → Draft → Draft} {x w z : List Token} {p q r : Draft} → Means [] w z p q → Makes A Is f x w r p → Makes A Is f x z r q
made done h = h

intent_made : {x w z : List Token} {p q r : Draft} → Means [] w z p q → IntentMade x w r p → IntentMade x z r q
intent_made done h = h

entity_made : {Is : List Token → List Token → Entity → Type 0} {x w z : List Token} {p q r : Draft} → Means [] w z p q → EntityMade Is x w r p → EntityMade Is x z r q
entity_made done h = h

put : {A : Type 0} {Is : List Token → List Token → A → Type 0} {f : A → List Token → Draft → Draft} {w z : List Token} {p q : Draft} (a : A) → Is w z a → q ≡ f a w p → Makes A Is f w z p q
put {A} {Is} {f} {w} {z} {p} {q} a d h = subst (λ r. Makes A Is f w z p r) (sym h) (makes d)

settle : {w z : List Token} {p q : Draft} (t : Token) → IntentMade w z (take_in t p) q → IntentMade w z p q
settle t (an_intent_body {v = v} d) = an_intent_body {v = v} d

refer : (t : Token) (w z : List Token) (p : Draft) (u : List Value) → IsReferred (token_class t) → Referring t w z p.values u → Makes Expr IsTarget operand_of (t ∷ w) z p (with_values u p)
refer t w z p u r (referring d) = makes (target t r d)

first-range : (b : Range) (w : List Token) (p : Draft) → act_on act.FirstRange (range_of b w p) ≡ ranges_of (b ∷ []) w p
unfolding act_on
first-range (range.One e) w p = refl
first-range (range.Span a b) w p = refl

next-range : (b : Range) (w x : List Token) (c : Token) (l : List Range) (p : Draft) → act_on act.NextRange (range_of b w (take_in c (ranges_of l x p))) ≡ ranges_of (l ++ b ∷ []) x p
unfolding act_on
next-range (range.One e) w x c l p = refl
next-range (range.Span a b) w x c l p = refl

row_Statement : Row part.Statement
unfolding act_on apply Row
row_Statement r here w z p q (take m e (take n f (build k))) = stated k ((statement.Module (named_of n), a_module m n e f, ap statement.Module (sym (named_word n f))))
row_Statement r (there here) w z p q (take t e (call c k)) = stated k (c t e)
row_Statement r (there (there here)) w z p q (take t e (build k)) = stated k ((statement.EndDo, end_do (together t e), refl))
row_Statement r (there (there (there here))) w z p q (take t e (build k)) = stated k ((statement.EndIf, end_if (together t e), refl))
row_Statement r (there (there (there (there here)))) w z p q (take t e (build k)) = stated k ((statement.EndSelect, end_select (together t e), refl))
row_Statement r (there (there (there (there (there here))))) w z p q (take t e (call (makes {a = n} d) (build k))) = stated k ((statement.End (Some word_of_end.Module) n, end_module (together t e) d, refl))
row_Statement r (there (there (there (there (there (there here)))))) w z p q (take t e (call (makes {a = n} d) (build k))) = stated k ((statement.End (Some word_of_end.Subroutine) n, end_subroutine (together t e) d, refl))
row_Statement r (there (there (there (there (there (there (there here))))))) w z p q (take t e (call (makes {a = n} d) (build k))) = stated k ((statement.End (Some word_of_end.Function) n, end_function (together t e) d, refl))
row_Statement r (there (there (there (there (there (there (there (there here)))))))) w z p q (take t e (build k)) = stated k ((statement.Contains, contains t e, refl))
row_Statement r (there (there (there (there (there (there (there (there (there here))))))))) w z p q (take s e (take n f (call (makes {a = l} d) (build k)))) = stated k ((statement.Subroutine (named_of n) l, subroutine s n e f d, ap (λ y. statement.Subroutine y l) (sym (named_word n f))))
row_Statement r (there (there (there (there (there (there (there (there (there (there here)))))))))) w z p q (call (makes {a = a} y) (call c k)) = stated k (c w a y refl refl)
row_Statement r (there (there (there (there (there (there (there (there (there (there (there here))))))))))) w z p q (take o e (call (makes {a = h} d) k)) = stated k ((statement.Function None h.name h.dummies h.result, function o e d, refl))
row_Statement r (there (there (there (there (there (there (there (there (there (there (there (there here)))))))))))) w z p q (take u e (take n f (call c k))) = stated k (c u n (take_in u p) e f refl)
row_Statement r (there (there (there (there (there (there (there (there (there (there (there (there (there here))))))))))))) w z p q (take i e (take n f (build k))) = stated k ((statement.ImplicitNone, implicit_none i n e f, refl))
row_Statement r (there (there (there (there (there (there (there (there (there (there (there (there (there (there here)))))))))))))) w z p q (call (makes {a = s} d) k) = stated k ((s, action (assignment d), refl))
row_Statement r (there (there (there (there (there (there (there (there (there (there (there (there (there (there (there here))))))))))))))) w z p q (take c e (take n f (call (makes {a = l} d) (build k)))) = stated k ((statement.Call (named_of n) l, action (form.call c n e f d), ap (λ y. statement.Call y l) (sym (named_word n f))))
row_Statement r (there (there (there (there (there (there (there (there (there (there (there (there (there (there (there (there here)))))))))))))))) w z p q (take i e (take {x = x} o f (call (inner (whole {e = a} d)) (build (take c h (call j k)))))) = stated k (j i o c x a (take_in o (take_in i p)) e f d h refl)
row_Statement r (there (there (there (there (there (there (there (there (there (there (there (there (there (there (there (there (there here))))))))))))))))) w z p q (take t e (call c k)) = stated k (c t e)
row_Statement r (there (there (there (there (there (there (there (there (there (there (there (there (there (there (there (there (there (there here)))))))))))))))))) w z p q (take a m (take o e (call (inner (whole {e = y} d)) (build (take c f (take t h (build k))))))) = stated k ((statement.ElseIf y, else_if o c t (together a m) e d f h, refl))
row_Statement r (there (there (there (there (there (there (there (there (there (there (there (there (there (there (there (there (there (there (there here))))))))))))))))))) w z p q (take d e (take n f (take o h (call (inner (whole {e = a} m)) (build (take c i (call (inner (whole {e = b} y)) (build (call (makes {a = s} j) (build k)))))))))) = stated k ((statement.Do (record { var = lowercase n.text; at = n.at; from = a; to = b; step = s }), a_do d n o c e f h m i y j, ap (λ x. statement.Do (record { var = x; at = n.at; from = a; to = b; step = s })) (named n (a_name f))))
row_Statement r (there (there (there (there (there (there (there (there (there (there (there (there (there (there (there (there (there (there (there (there here)))))))))))))))))))) w z p q (take t e (build k)) = stated k ((statement.Exit, action (exit t e), refl))
row_Statement r (there (there (there (there (there (there (there (there (there (there (there (there (there (there (there (there (there (there (there (there (there here))))))))))))))))))))) w z p q (take t e (build k)) = stated k ((statement.Cycle, action (cycle t e), refl))
row_Statement r (there (there (there (there (there (there (there (there (there (there (there (there (there (there (there (there (there (there (there (there (there (there here)))))))))))))))))))))) w z p q (take t e (build k)) = stated k ((statement.Return, action (return t e), refl))
row_Statement r (there (there (there (there (there (there (there (there (there (there (there (there (there (there (there (there (there (there (there (there (there (there (there here))))))))))))))))))))))) w z p q (take a m (take b n (take o e (call (inner (whole {e = y} d)) (build (take c f (build k))))))) = stated k ((statement.Select y, select o c (apart a b m n) e d f, refl))
row_Statement r (there (there (there (there (there (there (there (there (there (there (there (there (there (there (there (there (there (there (there (there (there (there (there (there here)))))))))))))))))))))))) w z p q (take a m (take o e (call (inner (whole {e = y} d)) (build (take c f (build k)))))) = stated k ((statement.Select y, select o c (together a m) e d f, refl))
row_Statement r (there (there (there (there (there (there (there (there (there (there (there (there (there (there (there (there (there (there (there (there (there (there (there (there (there here))))))))))))))))))))))))) w z p q (take t e (call c k)) = stated k (c t e)
row_Statement r (there (there (there (there (there (there (there (there (there (there (there (there (there (there (there (there (there (there (there (there (there (there (there (there (there (there i)))))))))))))))))))))))))) w z p q h = elim i [ ]

row_EndRest : Row part.EndRest
unfolding act_on apply Row
row_EndRest r here w z p q (take u f (call (makes {a = n} d) (build k))) t e = stated k ((statement.End (Some word_of_end.Module) n, end_module (apart t u e f) d, refl))
row_EndRest r (there here) w z p q (take u f (call (makes {a = n} d) (build k))) t e = stated k ((statement.End (Some word_of_end.Subroutine) n, end_subroutine (apart t u e f) d, refl))
row_EndRest r (there (there here)) w z p q (take u f (call (makes {a = n} d) (build k))) t e = stated k ((statement.End (Some word_of_end.Function) n, end_function (apart t u e f) d, refl))
row_EndRest r (there (there (there here))) w z p q (take u f (build k)) t e = stated k ((statement.EndDo, end_do (apart t u e f), refl))
row_EndRest r (there (there (there (there here)))) w z p q (take u f (build k)) t e = stated k ((statement.EndIf, end_if (apart t u e f), refl))
row_EndRest r (there (there (there (there (there here))))) w z p q (take u f (build k)) t e = stated k ((statement.EndSelect, end_select (apart t u e f), refl))
row_EndRest r (there (there (there (there (there (there here)))))) w z p q (build k) t e = stated k ((statement.End None None, end_bare t e, refl))
row_EndRest r (there (there (there (there (there (there (there i))))))) w z p q h h0 h1 = elim i [ ]

row_NameOption : Row part.NameOption
unfolding act_on apply Row
row_NameOption r here w z p q (take t e (build k)) = made k (put _ (some_name t e) (ap (λ n. end_name_of (Some n) [] p) (named t (a_name e))))
row_NameOption r (there here) w z p q (build k) = made k (put _ no_name refl)
row_NameOption r (there (there i)) w z p q h = elim i [ ]

row_DummiesOption : Row part.DummiesOption
unfolding act_on apply Row
row_DummiesOption r here w z p q (take o e (call (makes d) (take c f (build k)))) = made k (put _ (dummies o c e d f) refl)
row_DummiesOption r (there here) w z p q (build k) = made k (put _ no_dummies refl)
row_DummiesOption r (there (there i)) w z p q h = elim i [ ]

row_NamesOption : Row part.NamesOption
unfolding act_on apply Row
row_NamesOption r here w z p q (call (makes d) k) = made k (put _ (some_names d) refl)
row_NamesOption r (there here) w z p q (build k) = made k (put _ no_names refl)
row_NamesOption r (there (there i)) w z p q h = elim i [ ]

row_Names : Row part.Names
unfolding act_on apply Row
row_Names r here w z p q (take t e (build (call j k))) = made k (j _ (named_of t ∷ []) p (first_name t e) (ap (λ n. names_of (n ∷ []) [] p) (sym (named_word t e))))
row_Names r (there i) w z p q h = elim i [ ]

row_NamesTail : Row part.NamesTail
unfolding act_on apply Row
row_NamesTail r here w z p q (take c e (take t f (build (call j k)))) x l p0 d h = made k (j x (l ++ named_of t ∷ []) p0 (next_name c t d e f) (ap (λ a. act_on act.NextName (take_in t (take_in c a))) h ∙ ap (λ n. names_of (l ++ n ∷ []) x p0) (sym (named_word t f))))
row_NamesTail r (there here) w z p q k x l p0 d h = made k (put _ d h)
row_NamesTail r (there (there i)) w z p q h h0 h1 h2 h3 h4 = elim i [ ]

row_FunctionRest : Row part.FunctionRest
unfolding act_on apply Row
row_FunctionRest r here w z p q (take t e (take o f (call (makes {a = l} d) (take c h (call (makes {a = b} j) (build k)))))) = made k (put _ (a_function t o c e f d h j) (ap (λ n. header_of (record { name = n; dummies = l; result = b }) [] p) (sym (named_word t e))))
row_FunctionRest r (there i) w z p q h = elim i [ ]

row_ResultOption : Row part.ResultOption
unfolding act_on apply Row
row_ResultOption r here w z p q (take b e (take o f (take t h (take c j (build k))))) = made k (put _ (some_result b o t c e f h j) (ap (λ n. result_of (Some n) [] p) (sym (named_word t h))))
row_ResultOption r (there here) w z p q (build k) = made k (put _ no_result refl)
row_ResultOption r (there (there i)) w z p q h = elim i [ ]

row_UseRest : Row part.UseRest
unfolding act_on apply Row
row_UseRest r here w z p q (take c a (take o b (take s d (call (makes {a = l} j) (build k))))) u n p0 e f h = stated k ((statement.Using (record { name = lowercase n.text; only = Some l; at = n.at }), use_only u n c o s e f a b d j, ap (λ x. (act_on act.Only (names_of l [] (take_in s (take_in o (take_in c x))))).statement) h ∙ ap (λ y. statement.Using (record { name = y; only = Some l; at = n.at })) (named n (a_name f))))
row_UseRest r (there here) w z p q (build k) u n p0 e f h = stated k ((statement.Using (record { name = lowercase n.text; only = None; at = n.at }), use_all u n e f, ap (λ x. (act_on act.All x).statement) h ∙ ap (λ y. statement.Using (record { name = y; only = None; at = n.at })) (named n (a_name f))))
row_UseRest r (there (there i)) w z p q h h0 h1 h2 h3 h4 h5 = elim i [ ]

row_Assignment : Row part.Assignment
unfolding act_on apply Row
row_Assignment r here w z p q (call (makes {a = a} d) (take o f (call (inner (whole {e = b} x)) (build (build k))))) = made k (put _ (assign o d f x) refl)
row_Assignment r (there i) w z p q h = elim i [ ]

row_Target : Row part.Target
unfolding act_on apply Row
row_Target r here w z p q (take t e (call (inner j) (build k))) = made k (refer t _ _ p _ (a_name e) (j t p.values (a_name e) refl))
row_Target r (there here) w z p q (take t e (call (inner j) (build k))) = made k (refer t _ _ p _ (an_intrinsic e) (j t p.values (an_intrinsic e) refl))
row_Target r (there (there i)) w z p q h = elim i [ ]

row_ArgumentsOption : Row part.ArgumentsOption
unfolding act_on apply Row
row_ArgumentsOption r here w z p q (take o e (call (inner (listed {l = l} d)) (take c f (build k)))) = made k (put _ (arguments o c e d f) refl)
row_ArgumentsOption r (there here) w z p q (build k) = made k (put _ no_arguments refl)
row_ArgumentsOption r (there (there i)) w z p q h = elim i [ ]

row_IfRest : Row part.IfRest
unfolding act_on apply Row
row_IfRest r here w z p q (take t j (build k)) i o c x e p0 a b d f h = stated k ((statement.IfThen e, if_then i o c t a b d f j, ap (λ y. (act_on act.IfThen (take_in t y)).statement) h))
row_IfRest r (there here) w z p q (call (makes {a = s} j) (build k)) i o c x e p0 a b d f h = stated k ((statement.IfAction e (front_place w) s, if_action i o c a b d f j, ap (λ y. (act_on act.IfAction (acted s w y)).statement) h))
row_IfRest r (there (there i)) w z p q h h0 h1 h2 h3 h4 h5 h6 h7 h8 h9 h10 = elim i [ ]

row_Action : Row part.Action
unfolding act_on apply Row
row_Action r here w z p q (call (makes d) k) = made k (put _ (assignment d) refl)
row_Action r (there here) w z p q (take c e (take n f (call (makes {a = l} d) (build k)))) = made k (put _ (form.call c n e f d) (ap (λ y. acted (statement.Call y l) (c ∷ []) p) (sym (named_word n f))))
row_Action r (there (there here)) w z p q (take t e (build k)) = made k (put _ (exit t e) refl)
row_Action r (there (there (there here))) w z p q (take t e (build k)) = made k (put _ (cycle t e) refl)
row_Action r (there (there (there (there here)))) w z p q (take t e (build k)) = made k (put _ (return t e) refl)
row_Action r (there (there (there (there (there i))))) w z p q h = elim i [ ]

row_ElseRest : Row part.ElseRest
unfolding act_on apply Row
row_ElseRest r here w z p q (take a m (take o f (call (inner (whole {e = y} d)) (build (take c h (take b j (build k))))))) t e = stated k ((statement.ElseIf y, else_if o c b (apart t a e m) f d h j, refl))
row_ElseRest r (there here) w z p q (build k) t e = stated k ((statement.Else, else_bare t e, refl))
row_ElseRest r (there (there i)) w z p q h h0 h1 = elim i [ ]

row_StepOption : Row part.StepOption
unfolding act_on apply Row
row_StepOption r here w z p q (take c e (call (inner (whole d)) (build (build k)))) = made k (put _ (some_step c e d) refl)
row_StepOption r (there here) w z p q (build k) = made k (put _ no_step refl)
row_StepOption r (there (there i)) w z p q h = elim i [ ]

row_CaseRest : Row part.CaseRest
unfolding act_on apply Row
row_CaseRest r here w z p q (take o f (call (makes {a = l} d) (take c h (build k)))) t e = stated k ((statement.Case l, form.case t o c e f d h, refl))
row_CaseRest r (there here) w z p q (take d f (build k)) t e = stated k ((statement.CaseDefault, case_default t d e f, refl))
row_CaseRest r (there (there i)) w z p q h h0 h1 = elim i [ ]

row_Ranges : Row part.Ranges
unfolding act_on apply Row
row_Ranges r here w z p q (call (makes {a = b} d) (build (call j k))) = made k (j w (b ∷ []) p (first_range d) (first-range b w p))
row_Ranges r (there i) w z p q h = elim i [ ]

row_RangesTail : Row part.RangesTail
unfolding act_on apply Row
row_RangesTail r here w z p q (take {x = y} c e (call (makes {a = b} i) (build (call j k)))) x l p0 d h = made k (j x (l ++ b ∷ []) p0 (next_range c d e i) (ap (λ a. act_on act.NextRange (range_of b y (take_in c a))) h ∙ next-range b y x c l p0))
row_RangesTail r (there here) w z p q k x l p0 d h = made k (put _ d h)
row_RangesTail r (there (there i)) w z p q h h0 h1 h2 h3 h4 = elim i [ ]

row_Range : Row part.Range
unfolding act_on apply Row
row_Range r here w z p q (take c e (call (makes d) (build k))) = made k (put _ (to_value c e d) refl)
row_Range r (there here) w z p q (call (makes {a = e} d) (call j k)) = made k (j w e p d refl)
row_Range r (there (there i)) w z p q h = elim i [ ]

row_RangeRest : Row part.RangeRest
unfolding act_on apply Row
row_RangeRest r here w z p q (take c f (call (makes {a = b} i) (build k))) x e p0 d h = made k (put _ (span c d f i) (ap (λ a. act_on act.Span (bound_of b [] (take_in c a))) h))
row_RangeRest r (there here) w z p q (build k) x e p0 d h = made k (put _ (one_value d) h)
row_RangeRest r (there (there i)) w z p q h h0 h1 h2 h3 h4 = elim i [ ]

row_ValueOption : Row part.ValueOption
unfolding act_on apply Row
row_ValueOption r here w z p q (call (makes d) (build k)) = made k (put _ (some_value d) refl)
row_ValueOption r (there here) w z p q (build k) = made k (put _ no_value refl)
row_ValueOption r (there (there i)) w z p q h = elim i [ ]

row_Value : Row part.Value
unfolding act_on apply Row
row_Value r here w z p q (take m e (call (makes (a_digits t f)) (build k))) = made k (put _ (value_negative m t e f) refl)
row_Value r (there here) w z p q (call (makes (a_digits t f)) (build k)) = made k (put _ (value_number t f) refl)
row_Value r (there (there here)) w z p q (take n e (build k)) = made k (put _ (value_name n e) (ap (λ y. operand_of (expr.Ref y None n.at) (n ∷ []) p) (named n (a_name e))))
row_Value r (there (there (there i))) w z p q h = elim i [ ]

row_Digits : Row part.Digits
unfolding act_on apply Row
row_Digits r here w z p q (take t e (build k)) = made k (put _ (a_digits t (a_number e)) refl)
row_Digits r (there here) w z p q (take t e (build k)) = made k (put _ (a_digits t (a_kind_number e)) refl)
row_Digits r (there (there i)) w z p q h = elim i [ ]

row_TypeSpec : Row part.TypeSpec
unfolding act_on apply Row
row_TypeSpec r here w z p q (take t e (call (makes d) (build k))) = made k (put _ (integer t e d) refl)
row_TypeSpec r (there here) w z p q (take t e (build k)) = made k (put _ (logical t e) refl)
row_TypeSpec r (there (there i)) w z p q h = elim i [ ]

row_KindOption : Row part.KindOption
unfolding act_on apply Row
row_KindOption r here w z p q (take o e (call (makes (plain_kind t f)) (take c h (build k)))) = made k (put _ (a_kind o t c e f h) refl)
row_KindOption r here w z p q (take o e (call (makes (keyword n s t f i j)) (take c h (build k)))) = made k (put _ (keyword_kind o n s t c e f i j h) refl)
row_KindOption r (there here) w z p q (build k) = made k (put _ no_kind refl)
row_KindOption r (there (there i)) w z p q h = elim i [ ]

row_KindBody : Row part.KindBody
unfolding act_on apply Row
row_KindBody r here w z p q (take n e (take s f (take t h (build k)))) = made k (put _ (keyword n s t e f h) refl)
row_KindBody r (there here) w z p q (take t e (build k)) = made k (put _ (plain_kind t e) refl)
row_KindBody r (there (there i)) w z p q h = elim i [ ]

row_AfterType : Row part.AfterType
unfolding act_on apply Row
row_AfterType r here w z p q (take o i (call (makes {a = h} d) (build k))) x a y e f = stated k ((statement.Function (Some (a, front_place x)) h.name h.dummies h.result, prefixed o y i d, ap (λ b. statement.Function (Some (b, p.type_at)) h.name h.dummies h.result) e ∙ ap (λ b. statement.Function (Some (a, b)) h.name h.dummies h.result) f))
row_AfterType r (there here) w z p q (take c i (call j k)) x a y e f = stated k (j x a c y i e)
row_AfterType r (there (there here)) w z p q (take d i (call (makes {a = l} n) (build k))) x a y e f = stated k ((statement.Declare (map (declared a None []) l), declare (variables y (no_attribute_colons d i) n), ap (λ b. statement.Declare (map (declared b None []) l)) e))
row_AfterType r (there (there (there here))) w z p q (call (makes {a = l} n) (build k)) x a y e f = stated k ((statement.Declare (map (declared a None []) l), declare (variables y no_attribute n), ap (λ b. statement.Declare (map (declared b None []) l)) e))
row_AfterType r (there (there (there (there i)))) w z p q h h0 h1 h2 h3 h4 = elim i [ ]

row_Attribute : Row part.Attribute
unfolding act_on apply Row
row_Attribute r here w z p q (take o f (take b h (call (makes {a = l} n) (build k)))) x a c y i e = stated k ((statement.Declare (map (declared a None []) l), declare (constants c o b y i f h n), ap (λ b. statement.Declare (map (declared b None []) l)) e))
row_Attribute r (there here) w z p q (take t f (take o h (call (an_intent_body {i = b} d) (take s m (call j k))))) x a c y i e = stated k (j x _ a b y (an_intent c t o s i f h d m) e refl)
row_Attribute r (there (there here)) w z p q (take t f (take o h (call (makes {a = l} d) (take s m (call j k))))) x a c y i e = stated k (j x _ a l p.shapes y (a_dimension c t o s i f h d m) e refl)
row_Attribute r (there (there (there i))) w z p q h h0 h1 h2 h3 h4 h5 = elim i [ ]

row_AfterIntent : Row part.AfterIntent
unfolding act_on apply Row
row_AfterIntent r here w z p q (take c i (take s f (take o h (call (makes {a = l} d) (take v2 m (take u n (call (makes {a = l2} j) (build k)))))))) x y a b t v e g = stated k ((statement.Declare (map (declared a (Some b) l) l2), declare (variables t (intent_dimension u v (a_dimension c s o v2 i f h d m) n) j), ap (λ q. statement.Declare (map (declared q (Some p.intent) l) l2)) e ∙ ap (λ q. statement.Declare (map (declared a (Some q) l) l2)) g))
row_AfterIntent r (there here) w z p q (take u n (call (makes {a = l2} j) (build k))) x y a b t v e g = stated k ((statement.Declare (map (declared a (Some b) []) l2), declare (variables t (intent_alone u v n) j), ap (λ q. statement.Declare (map (declared q (Some p.intent) []) l2)) e ∙ ap (λ q. statement.Declare (map (declared a (Some q) []) l2)) g))
row_AfterIntent r (there (there i)) w z p q h h0 h1 h2 h3 h4 h5 h6 h7 = elim i [ ]

row_AfterDimension : Row part.AfterDimension
unfolding act_on apply Row
row_AfterDimension r here w z p q (take c i (take s2 f (take o h (call (an_intent_body {i = b} d) (take v2 m (take u n (call (makes {a = l2} j) (build k)))))))) x y a l s t v e g = stated k ((statement.Declare (map (declared a (Some b) l) l2), declare (variables t (dimension_intent u v (an_intent c s2 o v2 i f h d m) n) j), ap (λ q. statement.Declare (map (declared q (Some b) (top_shape p.shapes)) l2)) e ∙ ap (λ q. statement.Declare (map (declared a (Some b) (top_shape q)) l2)) g))
row_AfterDimension r (there here) w z p q (take u n (call (makes {a = l2} j) (build k))) x y a l s t v e g = stated k ((statement.Declare (map (declared a None l) l2), declare (variables t (dimension_alone u v n) j), ap (λ q. statement.Declare (map (declared q None (top_shape p.shapes)) l2)) e ∙ ap (λ q. statement.Declare (map (declared a None (top_shape q)) l2)) g))
row_AfterDimension r (there (there i)) w z p q h h0 h1 h2 h3 h4 h5 h6 h7 h8 = elim i [ ]

row_IntentBody : Row part.IntentBody
unfolding act_on apply Row
row_IntentBody r here w z p q (take t e (call j k)) = intent_made k (settle t (j t e))
row_IntentBody r (there here) w z p q (take t e (build k)) = intent_made k (an_intent_body (intent_out t e))
row_IntentBody r (there (there here)) w z p q (take t e (build k)) = intent_made k (an_intent_body (intent_in_out (together t e)))
row_IntentBody r (there (there (there i))) w z p q h = elim i [ ]

row_OutOption : Row part.OutOption
unfolding act_on apply Row
row_OutOption r here w z p q (take u f (build k)) t e = intent_made k (an_intent_body (intent_in_out (apart t u e f)))
row_OutOption r (there here) w z p q (build k) t e = intent_made k (an_intent_body (intent_in t e))
row_OutOption r (there (there i)) w z p q h h0 h1 = elim i [ ]

row_Entities : Row part.Entities
unfolding act_on apply Row
row_Entities r here w z p q (call (an_entity {l = l} {b = b} t e d) (build (call j k))) = made k (j _ (ent (lowercase t.text) t l b ∷ []) p (first_entity d) (ap (λ n. entities_of (ent n t l b ∷ []) [] p) (named t (a_name e))))
row_Entities r (there i) w z p q h = elim i [ ]

row_EntitiesTail : Row part.EntitiesTail
unfolding act_on apply Row
row_EntitiesTail r here w z p q (take c f (call (an_entity {l = m} {b = b} t e i) (build (call j k)))) x l p0 d h = made k (j x (l ++ ent (lowercase t.text) t m b ∷ []) p0 (next_entity c d f i) (ap (λ a. act_on act.NextEntity (entity_in t m b (take_in c a))) h ∙ ap (λ n. entities_of (l ++ ent n t m b ∷ []) x p0) (named t (a_name e))))
row_EntitiesTail r (there here) w z p q k x l p0 d h = made k (put _ d h)
row_EntitiesTail r (there (there i)) w z p q h h0 h1 h2 h3 h4 = elim i [ ]

row_Constants : Row part.Constants
unfolding act_on apply Row
row_Constants r here w z p q (call (an_entity {l = l} {b = b} t e d) (build (call j k))) = made k (j _ (ent (lowercase t.text) t l b ∷ []) p (first_constant d) (ap (λ n. entities_of (ent n t l b ∷ []) [] p) (named t (a_name e))))
row_Constants r (there i) w z p q h = elim i [ ]

row_ConstantsTail : Row part.ConstantsTail
unfolding act_on apply Row
row_ConstantsTail r here w z p q (take c f (call (an_entity {l = m} {b = b} t e i) (build (call j k)))) x l p0 d h = made k (j x (l ++ ent (lowercase t.text) t m b ∷ []) p0 (next_constant c d f i) (ap (λ a. act_on act.NextEntity (entity_in t m b (take_in c a))) h ∙ ap (λ n. entities_of (l ++ ent n t m b ∷ []) x p0) (named t (a_name e))))
row_ConstantsTail r (there here) w z p q k x l p0 d h = made k (put _ d h)
row_ConstantsTail r (there (there i)) w z p q h h0 h1 h2 h3 h4 = elim i [ ]

row_Entity : Row part.Entity
unfolding act_on apply Row
row_Entity r here w z p q (take t e (call (makes {a = l} d) (build k))) = entity_made k (an_entity t e (entity t e d))
row_Entity r (there i) w z p q h = elim i [ ]

row_Constant : Row part.Constant
unfolding act_on apply Row
row_Constant r here w z p q (take t e (take o f (call (makes {a = x} d) (build k)))) = entity_made k (an_entity t e (constant t o e f d))
row_Constant r (there i) w z p q h = elim i [ ]

row_Initial : Row part.Initial
unfolding act_on apply Row
row_Initial r here w z p q (take m e (call (makes (a_digits t f)) (build k))) = made k (put _ (initial_negative m t e f) refl)
row_Initial r (there here) w z p q (call (makes (a_digits t f)) (build k)) = made k (put _ (initial_number t f) refl)
row_Initial r (there (there here)) w z p q (take t e (build k)) = made k (put _ (initial_truth t e) refl)
row_Initial r (there (there (there i))) w z p q h = elim i [ ]

row_Shape : Row part.Shape
unfolding act_on apply Row
row_Shape r here w z p q (call (makes {a = b} d) (build (call j k))) = made k (j w (b ∷ []) p (first_dimension d) refl)
row_Shape r (there i) w z p q h = elim i [ ]

row_ShapeTail : Row part.ShapeTail
unfolding act_on apply Row
row_ShapeTail r here w z p q (take c e (call (makes {a = b} i) (build (call j k)))) x l p0 d h = made k (j x (l ++ b ∷ []) p0 (next_dimension c d e i) (ap (λ a. act_on act.NextDimension (dimension_of b [] (take_in c a))) h))
row_ShapeTail r (there here) w z p q k x l p0 d h = made k (put _ d h)
row_ShapeTail r (there (there i)) w z p q h h0 h1 h2 h3 h4 = elim i [ ]

row_ShapeOption : Row part.ShapeOption
unfolding act_on apply Row
row_ShapeOption r here w z p q (take o e (call (makes d) (take c f (build k)))) = made k (put _ (some_shape o c e d f) refl)
row_ShapeOption r (there here) w z p q (build k) = made k (put _ no_shape refl)
row_ShapeOption r (there (there i)) w z p q h = elim i [ ]

row_Dimension : Row part.Dimension
unfolding act_on apply Row
row_Dimension r here w z p q (take c e (build k)) = made k (put _ (assumed c e) refl)
row_Dimension r (there here) w z p q (call (makes {a = e} d) (call j k)) = made k (j w e p d refl)
row_Dimension r (there (there i)) w z p q h = elim i [ ]

row_DimensionRest : Row part.DimensionRest
unfolding act_on apply Row
row_DimensionRest r here w z p q (take c f (call (makes {a = b} i) (build k))) x e p0 d h = made k (put _ (bounds c d f i) (ap (λ a. act_on act.Bounds (bound_of b [] (take_in c a))) h))
row_DimensionRest r (there here) w z p q (build k) x e p0 d h = made k (put _ (upper_only d) (ap (λ a. act_on act.UpperOnly a) h))
row_DimensionRest r (there (there i)) w z p q h h0 h1 h2 h3 h4 = elim i [ ]

row_BoundOption : Row part.BoundOption
unfolding act_on apply Row
row_BoundOption r here w z p q (call (makes d) (build k)) = made k (put _ (some_bound d) refl)
row_BoundOption r (there here) w z p q (build k) = made k (put _ no_bound refl)
row_BoundOption r (there (there i)) w z p q h = elim i [ ]

row_Bound : Row part.Bound
unfolding act_on apply Row
row_Bound r here w z p q (take m e (call (makes (a_digits t f)) (build k))) = made k (put _ (bound_negative m t e f) refl)
row_Bound r (there here) w z p q (call (makes (a_digits t f)) (build k)) = made k (put _ (bound_number t f) refl)
row_Bound r (there (there here)) w z p q (take n e (call j k)) = made k (j n p e refl)
row_Bound r (there (there (there i))) w z p q h = elim i [ ]

row_BoundOffset : Row part.BoundOffset
unfolding act_on apply Row
row_BoundOffset r here w z p q (take o f (call (makes (a_digits t i)) (build k))) n p0 e h = made k (put _ (bound_plus n o t e f i) (ap (λ a. act_on act.BoundPlus (operand_of (number_of_token t) (t ∷ []) (take_in o a))) h ∙ ap (λ y. operand_of (expr.Two op.Add (expr.Ref y None n.at) (number_of_token t)) (n ∷ []) p0) (named n (a_name e))))
row_BoundOffset r (there here) w z p q (take o f (call (makes (a_digits t i)) (build k))) n p0 e h = made k (put _ (bound_minus n o t e f i) (ap (λ a. act_on act.BoundMinus (operand_of (number_of_token t) (t ∷ []) (take_in o a))) h ∙ ap (λ y. operand_of (expr.Two op.Sub (expr.Ref y None n.at) (number_of_token t)) (n ∷ []) p0) (named n (a_name e))))
row_BoundOffset r (there (there here)) w z p q (build k) n p0 e h = made k (put _ (bound_name n e) (ap (λ a. act_on act.BoundName a) h ∙ ap (λ y. operand_of (expr.Ref y None n.at) (n ∷ []) p0) (named n (a_name e))))
row_BoundOffset r (there (there (there i))) w z p q h h0 h1 h2 h3 = elim i [ ]

row-meant : (n : Part) (r : Choice) → In r (table n) → (w z : List Token) (p q : Draft) → Means r.symbols w z p q → Meant n w z p q
unfolding Row
row-meant part.Statement = row_Statement
row-meant part.EndRest = row_EndRest
row-meant part.NameOption = row_NameOption
row-meant part.DummiesOption = row_DummiesOption
row-meant part.NamesOption = row_NamesOption
row-meant part.Names = row_Names
row-meant part.NamesTail = row_NamesTail
row-meant part.FunctionRest = row_FunctionRest
row-meant part.ResultOption = row_ResultOption
row-meant part.UseRest = row_UseRest
row-meant part.Assignment = row_Assignment
row-meant part.Target = row_Target
row-meant part.ArgumentsOption = row_ArgumentsOption
row-meant part.IfRest = row_IfRest
row-meant part.Action = row_Action
row-meant part.ElseRest = row_ElseRest
row-meant part.StepOption = row_StepOption
row-meant part.CaseRest = row_CaseRest
row-meant part.Ranges = row_Ranges
row-meant part.RangesTail = row_RangesTail
row-meant part.Range = row_Range
row-meant part.RangeRest = row_RangeRest
row-meant part.ValueOption = row_ValueOption
row-meant part.Value = row_Value
row-meant part.Digits = row_Digits
row-meant part.TypeSpec = row_TypeSpec
row-meant part.KindOption = row_KindOption
row-meant part.KindBody = row_KindBody
row-meant part.AfterType = row_AfterType
row-meant part.Attribute = row_Attribute
row-meant part.AfterIntent = row_AfterIntent
row-meant part.AfterDimension = row_AfterDimension
row-meant part.IntentBody = row_IntentBody
row-meant part.OutOption = row_OutOption
row-meant part.Entities = row_Entities
row-meant part.EntitiesTail = row_EntitiesTail
row-meant part.Constants = row_Constants
row-meant part.ConstantsTail = row_ConstantsTail
row-meant part.Entity = row_Entity
row-meant part.Constant = row_Constant
row-meant part.Initial = row_Initial
row-meant part.Shape = row_Shape
row-meant part.ShapeTail = row_ShapeTail
row-meant part.ShapeOption = row_ShapeOption
row-meant part.Dimension = row_Dimension
row-meant part.DimensionRest = row_DimensionRest
row-meant part.BoundOption = row_BoundOption
row-meant part.Bound = row_Bound
row-meant part.BoundOffset = row_BoundOffset
row-meant part.Expr = λ r i w z p q h. row-inner part.Expr refl r i w z p q h
row-meant part.EqvTail = λ r i w z p q h. row-inner part.EqvTail refl r i w z p q h
row-meant part.Disj = λ r i w z p q h. row-inner part.Disj refl r i w z p q h
row-meant part.OrTail = λ r i w z p q h. row-inner part.OrTail refl r i w z p q h
row-meant part.Conj = λ r i w z p q h. row-inner part.Conj refl r i w z p q h
row-meant part.AndTail = λ r i w z p q h. row-inner part.AndTail refl r i w z p q h
row-meant part.Neg = λ r i w z p q h. row-inner part.Neg refl r i w z p q h
row-meant part.Rel = λ r i w z p q h. row-inner part.Rel refl r i w z p q h
row-meant part.RelTail = λ r i w z p q h. row-inner part.RelTail refl r i w z p q h
row-meant part.Sum = λ r i w z p q h. row-inner part.Sum refl r i w z p q h
row-meant part.AddTail = λ r i w z p q h. row-inner part.AddTail refl r i w z p q h
row-meant part.Term = λ r i w z p q h. row-inner part.Term refl r i w z p q h
row-meant part.MulTail = λ r i w z p q h. row-inner part.MulTail refl r i w z p q h
row-meant part.Factor = λ r i w z p q h. row-inner part.Factor refl r i w z p q h
row-meant part.PowTail = λ r i w z p q h. row-inner part.PowTail refl r i w z p q h
row-meant part.Primary = λ r i w z p q h. row-inner part.Primary refl r i w z p q h
row-meant part.RefTail = λ r i w z p q h. row-inner part.RefTail refl r i w z p q h
row-meant part.Subs = λ r i w z p q h. row-inner part.Subs refl r i w z p q h
row-meant part.SubTail = λ r i w z p q h. row-inner part.SubTail refl r i w z p q h
row-meant part.Sub = λ r i w z p q h. row-inner part.Sub refl r i w z p q h
row-meant part.SubRest = λ r i w z p q h. row-inner part.SubRest refl r i w z p q h
row-meant part.Upper = λ r i w z p q h. row-inner part.Upper refl r i w z p q h

ends-form : {w : List Token} {p q : Draft} → Means (Call part.Statement ∷ []) w [] p q → (s : Statement) × IsForm w [] s × (q.statement ≡ s)
ends-form (call h k) = stated k h

-- what the grammar derives is a statement
pub form-derived : (w : List Token) (p q : Draft) → Drafted (Call part.Statement ∷ []) w p q → (s : Statement) × IsForm w [] s × (q.statement ≡ s)
unfolding Rows-mean Row
form-derived w p q d = ends-form (means row-meant d)
