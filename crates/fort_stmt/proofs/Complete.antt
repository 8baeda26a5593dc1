-- The tokens of a statement derive it.
use Rattle.std.proofs.Common.{◌≡◌, ℕ, true, List, [], ◌∷◌, ◌++◌, Option, None, Some, refl, sym, ap, subst}
use Rattle.std.proofs.lemmas.Bool.{true≢false}
use Rattle.fort_arith.specs.declared.op.Op.TheVariants as op
use Rattle.fort_tree.specs.declared.expr.Expr.{Expr}
use Rattle.fort_tree.specs.declared.expr.Expr.TheVariants as expr
use Rattle.fort_tree.specs.declared.expr.Sub as subscript
use Rattle.fort_tree.specs.declared.statement.Statement.{Statement}
use Rattle.fort_tree.specs.declared.statement.Statement.TheVariants as statement
use Rattle.fort_tree.specs.declared.statement.Token.{Token}
use Rattle.fort_tree.specs.declared.stmt.Named.{Named}
use Rattle.fort_tree.specs.declared.stmt.Range.{Range}
use Rattle.fort_tree.specs.declared.unit.Bound.{Bound}
use Rattle.fort_tree.specs.declared.unit.Decl.{Decl}
use Rattle.fort_tree.specs.declared.unit.Intent.{Intent}
use Rattle.fort_arith.specs.declared.kind.Kind.{Kind}
use Rattle.fort_grammar.specs.declared.class.Class.{Class}
use Rattle.fort_grammar.specs.declared.class.Class.TheVariants as class
use Rattle.fort_grammar.specs.declared.table.Action.{Action}
use Rattle.fort_grammar.specs.declared.table.Action.TheVariants as act
use Rattle.fort_grammar.specs.declared.table.Part.{Part}
use Rattle.fort_grammar.specs.declared.table.Part.TheVariants as part
use Rattle.fort_grammar.specs.declared.table.Symbol.{Symbol}
use Rattle.fort_grammar.specs.declared.table.Symbol.TheVariants.{Take, Call, Build}
use Rattle.fort_grammar.specs.Derives.{In, here, there}
use Rattle.fort_grammar.specs.Derives as derives
use Rattle.fort_grammar.specs.Table.{Choice, table}
use Rattle.fort_grammar.specs.Token.{token_class}
use Rattle.fort_expr.specs.declared.value.Value.{Value}
use Rattle.fort_expr.specs.declared.value.Value.TheVariants as value
use Rattle.fort_expr.specs.Expression.{IsExpr, IsReferred, IsRef, IsSubs, IsNumber, a_name, an_intrinsic, a_number, a_kind_number}
use Rattle.fort_expr.specs.Values.{apply, builds_expression, word_of}
use Rattle.fort_expr.specs.Words.{front_place}
use Rattle.fort_expr.proofs.Complete.{Grows, expr_tail, subs_whole, ref_whole}
use Rattle.fort_expr.proofs.Names.{named}
use Rattle.fort_stmt.specs.declared.value.Draft.{Draft}
use Rattle.fort_stmt.specs.declared.value.Entity.{Entity}
use Rattle.fort_stmt.specs.Form.{named_of, number_of_token, Header, IsEndName, IsNames, IsNamesOption, IsDummies, IsResult, IsFunction, IsKind, IsType, IsBound, IsBoundOption, IsDimension, IsShape, IsOwnShape, IsInitial, IsEntities, IsConstants, IsIntent, IsDeclaration, IsValue, IsValueOption, IsRanges, IsArguments, IsAssignment, IsAction, IsStep, IsForm}
use Rattle.fort_stmt.specs.Form.{apart, together, no_name, some_name, first_name, next_name, no_names, some_names, no_dummies, dummies, no_result, some_result, a_function, no_kind, a_kind, keyword_kind, integer, logical, bound_number, bound_negative, bound_name, bound_plus, bound_minus, no_bound, some_bound, assumed, upper_only, bounds, first_dimension, next_dimension, no_shape, some_shape, initial_number, initial_negative, initial_truth, entity, first_entity, next_entity, constant, first_constant, next_constant, intent_in, intent_out, intent_in_out, an_intent, a_dimension, no_attribute, no_attribute_colons, intent_alone, dimension_alone, intent_dimension, dimension_intent, variables, constants, value_number, value_negative, value_name, no_value, some_value, one_value, to_value, span, first_range, next_range, target, no_arguments, arguments, assign, assignment, call, exit, cycle, return, no_step, some_step, a_module, contains, end_bare, end_module, end_subroutine, end_function, subroutine, function, prefixed, use_all, use_only, implicit_none, declare, action, if_then, if_action, else_if, else_bare, end_if, a_do, end_do, select, end_select, case, case_default}
use Rattle.fort_stmt.specs.Values as values
use Rattle.fort_stmt.specs.Values.{act_on, take_in, with_values}

-- D ss w p: the tokens w are derived from the symbols ss and the draft p, among whatever else is known. It grows as derivations do.
pub record Closed (D : List Symbol → List Token → Draft → Type 0) : Type 0 where
  pub row : {n : Part} {ss : List Symbol} {w : List Token} {p : Draft} (r : Choice) → In r (table n) → D (r.symbols ++ ss) w p → D (Call n ∷ ss) w p
  pub take : {c : Class} {ss : List Symbol} {w : List Token} {p : Draft} (t : Token) → token_class t ≡ c → D ss w (take_in t p) → D (Take c ∷ ss) (t ∷ w) p
  pub build : {x : Action} {ss : List Symbol} {w : List Token} {p : Draft} → D ss w (act_on x p) → D (Build x ∷ ss) w p

-- an expression's action builds of the values alone
pub act-expr : (x : Action) → builds_expression x ≡ true → (v : List Value) (p : Draft) → with_values (apply x v) p ≡ act_on x (with_values v p)
unfolding act_on
act-expr act.Number h v p = refl
act-expr act.Truth h v p = refl
act-expr act.Bare h v p = refl
act-expr act.Subscripted h v p = refl
act-expr act.Paren h v p = refl
act-expr act.Not h v p = refl
act-expr act.Plus h v p = refl
act-expr act.Minus h v p = refl
act-expr act.Two h v p = refl
act-expr act.NoSubs h v p = refl
act-expr act.FirstSub h v p = refl
act-expr act.NextSub h v p = refl
act-expr act.OneSub h v p = refl
act-expr act.Section h v p = refl
act-expr act.FromStart h v p = refl
act-expr act.Present h v p = refl
act-expr act.Absent h v p = refl
act-expr _ h v p = absurd (true≢false (sym h))

pub named_word : (t : Token) → token_class t ≡ class.Name → named_of t ≡ values.named (Some (word_of t))
named_word t e = ap (λ n. let r : Named = record { name = n; at = t.at } in r) (sym (named t (a_name e)))

module _ (D : List Symbol → List Token → Draft → Type 0) (g : Closed D) where
  grow_build : (x : Action) (ss : List Symbol) (w : List Token) (v : List Value) (p : Draft) → builds_expression x ≡ true → D ss w (with_values (apply x v) p) → D (Build x ∷ ss) w (with_values v p)
  grow_build x ss w v p h k = g.build (subst (λ q. D ss w q) (act-expr x h v p) k)

  grows : (p : Draft) → Grows (λ ss w v. D ss w (with_values v p))
  grows p = record { by_row = λ r i k. g.row r i k; by_take = λ t e k. g.take t e k; by_build = λ h k. grow_build _ _ _ _ p h k }

  expr_whole : {w z : List Token} {e : Expr} {ss : List Symbol} {p : Draft} → IsExpr w z e → D ss z (with_values (value.Operand e (front_place w) ∷ p.values) p) → D (Call part.Expr ∷ ss) w p
  expr_whole {ss = ss} {p = p} d k = expr_tail (λ ss w v. D ss w (with_values v p)) (grows p) d ss p.values (g.row _ (there here) k)

  subs : {w z : List Token} {l : List subscript.Sub} {ss : List Symbol} {p : Draft} → IsSubs w z l → D ss z (with_values (value.Subscripts l ∷ p.values) p) → D (Call part.Subs ∷ ss) w p
  subs {ss = ss} {p = p} d k = subs_whole (λ ss w v. D ss w (with_values v p)) (grows p) d ss p.values k

  ref_rest : {w z : List Token} {e : Expr} {ss : List Symbol} {p : Draft} (t : Token) → IsReferred (token_class t) → IsRef t w z e → D ss z (with_values (value.Operand e t.at ∷ p.values) p) → D (Call part.RefTail ∷ ss) w (take_in t p)
  ref_rest {ss = ss} {p = p} t r d k = ref_whole (λ ss w v. D ss w (with_values v p)) (grows p) t r d ss p.values k

  end_name : {w z : List Token} {n : Option (List ℕ)} {ss : List Symbol} {p : Draft} → IsEndName w z n → D ss z (record p { end_name = n }) → D (Call part.NameOption ∷ ss) w p
  unfolding act_on
  end_name no_name k = g.row _ (there here) (g.build k)
  end_name {z = z} {ss = ss} {p = p} (some_name t e) k = g.row _ here (g.take t e (g.build (subst (λ n. D ss z (record p { end_name = Some n })) (sym (named t (a_name e))) k)))

  names_tail : {w z : List Token} {l : List Named} {ss : List Symbol} {p : Draft} → IsNames w z l → D (Call part.NamesTail ∷ ss) z (record p { names = l }) → D (Call part.Names ∷ ss) w p
  unfolding act_on
  names_tail {z = z} {ss = ss} {p = p} (first_name t e) k = g.row _ here (g.take t e (g.build (subst (λ n. D (Call part.NamesTail ∷ ss) z (record p { names = n ∷ [] })) (named_word t e) k)))
  names_tail {z = z} {ss = ss} {p = p} (next_name {l = l} c t d e f) k = names_tail d (g.row _ here (g.take c e (g.take t f (g.build (subst (λ n. D (Call part.NamesTail ∷ ss) z (record p { names = l ++ n ∷ [] })) (named_word t f) k)))))

  names_option : {w z : List Token} {l : List Named} {ss : List Symbol} {p : Draft} → IsNamesOption w z l → D ss z (record p { names = l }) → D (Call part.NamesOption ∷ ss) w p
  unfolding act_on
  names_option no_names k = g.row _ (there here) (g.build k)
  names_option (some_names d) k = g.row _ here (names_tail d (g.row _ (there here) k))

  dummies_option : {w z : List Token} {l : List Named} {ss : List Symbol} {p : Draft} → IsDummies w z l → D ss z (record p { names = l }) → D (Call part.DummiesOption ∷ ss) w p
  unfolding act_on
  dummies_option no_dummies k = g.row _ (there here) (g.build k)
  dummies_option (dummies o q e d f) k = g.row _ here (g.take o e (names_option d (g.take q f (g.build k))))

  result_option : {w z : List Token} {r : Option Named} {ss : List Symbol} {p : Draft} → IsResult w z r → D ss z (record p { result = r }) → D (Call part.ResultOption ∷ ss) w p
  unfolding act_on
  result_option no_result k = g.row _ (there here) (g.build k)
  result_option {z = z} {ss = ss} {p = p} (some_result r o t q e f h j) k = g.row _ here (g.take r e (g.take o f (g.take t h (g.take q j (g.build (subst (λ n. D ss z (record p { result = Some n })) (named_word t h) k))))))

  function_rest : {w z : List Token} {h : Header} {ss : List Symbol} {p : Draft} → IsFunction w z h → D ss z (record p { statement = statement.Function None h.name h.dummies h.result; names = []; result = h.result }) → D (Call part.FunctionRest ∷ ss) w p
  unfolding act_on
  function_rest {z = z} {ss = ss} {p = p} (a_function {l = l} {r = r} t o q e f d h j) k = g.row _ here (g.take t e (g.take o f (names_option d (g.take q h (result_option j (g.build
      (subst (λ n. D ss z (record p { statement = statement.Function None n l r; names = []; result = r })) (named_word t e) k)))))))

  kind_option : {w z : List Token} {k : Kind} {ss : List Symbol} {p : Draft} → IsKind w z k → D ss z (record p { kind = k }) → D (Call part.KindOption ∷ ss) w p
  unfolding act_on
  kind_option no_kind k = g.row _ (there here) (g.build k)
  kind_option (a_kind o t q e f h) k = g.row _ here (g.take o e (g.row _ (there here) (g.take t f (g.build (g.take q h (g.build k))))))
  kind_option (keyword_kind o n s t q e f h i j) k = g.row _ here (g.take o e (g.row _ here (g.take n f (g.take s h (g.take t i (g.build (g.take q j (g.build k))))))))

  type_spec : {w z : List Token} {k : Kind} {ss : List Symbol} {p : Draft} → IsType w z k → D ss z (record p { kind = k; type_at = front_place w }) → D (Call part.TypeSpec ∷ ss) w p
  unfolding act_on
  type_spec (integer t e d) k = g.row _ here (g.take t e (kind_option d (g.build k)))
  type_spec (logical t e) k = g.row _ (there here) (g.take t e (g.build k))

  digits : {z : List Token} {ss : List Symbol} {p : Draft} (t : Token) → IsNumber (token_class t) → D ss z (with_values (value.Operand (number_of_token t) t.at ∷ p.values) p) → D (Call part.Digits ∷ ss) (t ∷ z) p
  unfolding act_on apply
  digits t (a_number e) k = g.row _ here (g.take t e (g.build k))
  digits t (a_kind_number e) k = g.row _ (there here) (g.take t e (g.build k))

  bound_whole : {w z : List Token} {e : Expr} {ss : List Symbol} {p : Draft} → IsBound w z e → D ss z (with_values (value.Operand e (front_place w) ∷ p.values) p) → D (Call part.Bound ∷ ss) w p
  unfolding act_on apply
  bound_whole (bound_number t e) k = g.row _ (there here) (digits t e (g.build k))
  bound_whole (bound_negative m t e f) k = g.row _ here (g.take m e (digits t f (g.build k)))
  bound_whole {z = z} {ss = ss} {p = p} (bound_name n e) k = g.row _ (there (there here)) (g.take n e (g.row _ (there (there here)) (g.build (subst (λ q. D ss z (with_values (value.Operand (expr.Ref q None n.at) n.at ∷ p.values) p)) (sym (named n (a_name e))) k))))
  bound_whole {z = z} {ss = ss} {p = p} (bound_plus n o t e f h) k = g.row _ (there (there here)) (g.take n e (g.row _ here (g.take o f (digits t h (g.build
      (subst (λ q. D ss z (with_values (value.Operand (expr.Two op.Add (expr.Ref q None n.at) (number_of_token t)) n.at ∷ p.values) p)) (sym (named n (a_name e))) k))))))
  bound_whole {z = z} {ss = ss} {p = p} (bound_minus n o t e f h) k = g.row _ (there (there here)) (g.take n e (g.row _ (there here) (g.take o f (digits t h (g.build
      (subst (λ q. D ss z (with_values (value.Operand (expr.Two op.Sub (expr.Ref q None n.at) (number_of_token t)) n.at ∷ p.values) p)) (sym (named n (a_name e))) k))))))

  bound_option : {w z : List Token} {b : Option Expr} {ss : List Symbol} {p : Draft} → IsBoundOption w z b → D ss z (with_values (value.Bound b ∷ p.values) p) → D (Call part.BoundOption ∷ ss) w p
  unfolding act_on apply
  bound_option no_bound k = g.row _ (there here) (g.build k)
  bound_option (some_bound d) k = g.row _ here (bound_whole d (g.build k))

  dimension_whole : {w z : List Token} {b : Bound} {ss : List Symbol} {p : Draft} → IsDimension w z b → D ss z (with_values (value.Bound b.upper ∷ value.Bound b.lower ∷ p.values) p) → D (Call part.Dimension ∷ ss) w p
  unfolding act_on
  dimension_whole (assumed c e) k = g.row _ here (g.take c e (g.build k))
  dimension_whole (upper_only d) k = g.row _ (there here) (bound_whole d (g.row _ (there here) (g.build k)))
  dimension_whole (bounds c d e b) k = g.row _ (there here) (bound_whole d (g.row _ here (g.take c e (bound_option b (g.build k)))))

  shape_tail : {w z : List Token} {l : List Bound} {ss : List Symbol} {p : Draft} → IsShape w z l → D (Call part.ShapeTail ∷ ss) z (record p { shapes = l ∷ p.shapes }) → D (Call part.Shape ∷ ss) w p
  unfolding act_on
  shape_tail (first_dimension d) k = g.row _ here (dimension_whole d (g.build k))
  shape_tail (next_dimension c d e b) k = shape_tail d (g.row _ here (g.take c e (dimension_whole b (g.build k))))

  own_shape : {w z : List Token} {l : List Bound} {ss : List Symbol} {p : Draft} → IsOwnShape w z l → D ss z (record p { shapes = l ∷ p.shapes }) → D (Call part.ShapeOption ∷ ss) w p
  unfolding act_on
  own_shape no_shape k = g.row _ (there here) (g.build k)
  own_shape (some_shape o q e d f) k = g.row _ here (g.take o e (shape_tail d (g.row _ (there here) (g.take q f (g.build k)))))

  initial_whole : {w z : List Token} {e : Expr} {ss : List Symbol} {p : Draft} → IsInitial w z e → D ss z (with_values (value.Operand e (front_place w) ∷ p.values) p) → D (Call part.Initial ∷ ss) w p
  unfolding act_on apply
  initial_whole (initial_number t e) k = g.row _ (there here) (digits t e (g.build k))
  initial_whole (initial_negative m t e f) k = g.row _ here (g.take m e (digits t f (g.build k)))
  initial_whole (initial_truth t e) k = g.row _ (there (there here)) (g.take t e (g.build k))

  entities_tail : {w z : List Token} {l : List Entity} {ss : List Symbol} {p : Draft} → IsEntities w z l → D (Call part.EntitiesTail ∷ ss) z (record p { entities = l }) → D (Call part.Entities ∷ ss) w p
  unfolding act_on
  entities_tail {z = z} {ss = ss} {p = p} (first_entity (entity {l = l} t e o)) k = g.row _ here (g.row _ here (g.take t e (own_shape o (g.build (g.build
      (subst (λ n. D (Call part.EntitiesTail ∷ ss) z (record p { entities = record { name = n; at = t.at; shape = l; value = None } ∷ [] })) (sym (named t (a_name e))) k))))))
  entities_tail {z = z} {ss = ss} {p = p} (next_entity {l = m} c d f (entity {l = l} t e o)) k = entities_tail d (g.row _ here (g.take c f (g.row _ here (g.take t e (own_shape o (g.build (g.build
      (subst (λ n. D (Call part.EntitiesTail ∷ ss) z (record p { entities = m ++ record { name = n; at = t.at; shape = l; value = None } ∷ [] })) (sym (named t (a_name e))) k))))))))

  constants_tail : {w z : List Token} {l : List Entity} {ss : List Symbol} {p : Draft} → IsConstants w z l → D (Call part.ConstantsTail ∷ ss) z (record p { entities = l }) → D (Call part.Constants ∷ ss) w p
  unfolding act_on
  constants_tail {z = z} {ss = ss} {p = p} (first_constant (constant {e = x} t q e f i)) k = g.row _ here (g.row _ here (g.take t e (g.take q f (initial_whole i (g.build (g.build
      (subst (λ n. D (Call part.ConstantsTail ∷ ss) z (record p { entities = record { name = n; at = t.at; shape = []; value = Some x } ∷ [] })) (sym (named t (a_name e))) k)))))))
  constants_tail {z = z} {ss = ss} {p = p} (next_constant {l = m} c d h (constant {e = x} t q e f i)) k = constants_tail d (g.row _ here (g.take c h (g.row _ here (g.take t e (g.take q f (initial_whole i (g.build (g.build
      (subst (λ n. D (Call part.ConstantsTail ∷ ss) z (record p { entities = m ++ record { name = n; at = t.at; shape = []; value = Some x } ∷ [] })) (sym (named t (a_name e))) k)))))))))

  -- Words of an INTENT are left among the values.
  intent_body : {w z : List Token} {i : Intent} {ss : List Symbol} {p : Draft} → IsIntent w z i → ((v : List Value) → D ss z (record p { intent = i; values = v })) → D (Call part.IntentBody ∷ ss) w p
  unfolding act_on
  intent_body (intent_in t e) k = g.row _ here (g.take t e (g.row _ (there here) (g.build (k _))))
  intent_body (intent_out t e) k = g.row _ (there here) (g.take t e (g.build (k _)))
  intent_body (intent_in_out (apart t o e f)) k = g.row _ here (g.take t e (g.row _ here (g.take o f (g.build (k _)))))
  intent_body (intent_in_out (together t e)) k = g.row _ (there (there here)) (g.take t e (g.build (k _)))

  declaration : {w z : List Token} {l : List Decl} {ss : List Symbol} {p : Draft} → IsDeclaration w z l → ((q : Draft) → q.statement ≡ statement.Declare l → D ss z q) → D (Call part.TypeSpec ∷ Call part.AfterType ∷ ss) w p
  unfolding act_on
  declaration (variables y no_attribute n) k = type_spec y (g.row _ (there (there (there here))) (entities_tail n (g.row _ (there here) (g.build (k _ refl)))))
  declaration (variables y (no_attribute_colons d j) n) k = type_spec y (g.row _ (there (there here)) (g.take d j (entities_tail n (g.row _ (there here) (g.build (k _ refl))))))
  declaration (variables y (intent_alone d (an_intent c t o q e f h i m) j) n) k = type_spec y (g.row _ (there here) (g.take c e (g.row _ (there here) (g.take t f (g.take o h (intent_body i (λ v. g.take q m
      (g.row _ (there here) (g.take d j (entities_tail n (g.row _ (there here) (g.build (k _ refl)))))))))))))
  declaration (variables y (dimension_alone d (a_dimension c t o q e f h s m) j) n) k = type_spec y (g.row _ (there here) (g.take c e (g.row _ (there (there here)) (g.take t f (g.take o h (shape_tail s (g.row _ (there here) (g.take q m
      (g.row _ (there here) (g.take d j (entities_tail n (g.row _ (there here) (g.build (k _ refl))))))))))))))
  declaration (variables y (intent_dimension d (an_intent c t o q e f h i m) (a_dimension c2 t2 o2 q2 e2 f2 h2 s m2) j) n) k = type_spec y (g.row _ (there here) (g.take c e (g.row _ (there here) (g.take t f (g.take o h (intent_body i (λ v. g.take q m
      (g.row _ here (g.take c2 e2 (g.take t2 f2 (g.take o2 h2 (shape_tail s (g.row _ (there here) (g.take q2 m2 (g.take d j (entities_tail n (g.row _ (there here) (g.build (k _ refl)))))))))))))))))))
  declaration (variables y (dimension_intent d (a_dimension c t o q e f h s m) (an_intent c2 t2 o2 q2 e2 f2 h2 i m2) j) n) k = type_spec y (g.row _ (there here) (g.take c e (g.row _ (there (there here)) (g.take t f (g.take o h (shape_tail s (g.row _ (there here) (g.take q m
      (g.row _ here (g.take c2 e2 (g.take t2 f2 (g.take o2 h2 (intent_body i (λ v. g.take q2 m2 (g.take d j (entities_tail n (g.row _ (there here) (g.build (k _ refl)))))))))))))))))))
  declaration (constants c o b y e f h n) k = type_spec y (g.row _ (there here) (g.take c e (g.row _ here (g.take o f (g.take b h (constants_tail n (g.row _ (there here) (g.build (k _ refl)))))))))

  value_whole : {w z : List Token} {e : Expr} {ss : List Symbol} {p : Draft} → IsValue w z e → D ss z (with_values (value.Operand e (front_place w) ∷ p.values) p) → D (Call part.Value ∷ ss) w p
  unfolding act_on apply
  value_whole (value_number t e) k = g.row _ (there here) (digits t e (g.build k))
  value_whole (value_negative m t e f) k = g.row _ here (g.take m e (digits t f (g.build k)))
  value_whole {z = z} {ss = ss} {p = p} (value_name n e) k = g.row _ (there (there here)) (g.take n e (g.build (subst (λ q. D ss z (with_values (value.Operand (expr.Ref q None n.at) n.at ∷ p.values) p)) (sym (named n (a_name e))) k)))

  value_option : {w z : List Token} {b : Option Expr} {ss : List Symbol} {p : Draft} → IsValueOption w z b → D ss z (with_values (value.Bound b ∷ p.values) p) → D (Call part.ValueOption ∷ ss) w p
  unfolding act_on apply
  value_option no_value k = g.row _ (there here) (g.build k)
  value_option (some_value d) k = g.row _ here (value_whole d (g.build k))

  ranges_tail : {w z : List Token} {l : List Range} {ss : List Symbol} {p : Draft} → IsRanges w z l → D (Call part.RangesTail ∷ ss) z (record p { ranges = l }) → D (Call part.Ranges ∷ ss) w p
  unfolding act_on
  ranges_tail (first_range (one_value d)) k = g.row _ here (g.row _ (there here) (value_whole d (g.row _ (there here) (g.build (g.build k)))))
  ranges_tail (first_range (to_value c e d)) k = g.row _ here (g.row _ here (g.take c e (value_whole d (g.build (g.build k)))))
  ranges_tail (first_range (span c d e b)) k = g.row _ here (g.row _ (there here) (value_whole d (g.row _ here (g.take c e (value_option b (g.build (g.build k)))))))
  ranges_tail (next_range o l f (one_value d)) k = ranges_tail l (g.row _ here (g.take o f (g.row _ (there here) (value_whole d (g.row _ (there here) (g.build (g.build k)))))))
  ranges_tail (next_range o l f (to_value c e d)) k = ranges_tail l (g.row _ here (g.take o f (g.row _ here (g.take c e (value_whole d (g.build (g.build k)))))))
  ranges_tail (next_range o l f (span c d e b)) k = ranges_tail l (g.row _ here (g.take o f (g.row _ (there here) (value_whole d (g.row _ here (g.take c e (value_option b (g.build (g.build k)))))))))

  arguments_option : {w z : List Token} {l : List subscript.Sub} {ss : List Symbol} {p : Draft} → IsArguments w z l → D ss z (with_values (value.Subscripts l ∷ p.values) p) → D (Call part.ArgumentsOption ∷ ss) w p
  unfolding act_on apply
  arguments_option no_arguments k = g.row _ (there here) (g.build k)
  arguments_option (arguments o q e d f) k = g.row _ here (g.take o e (subs d (g.take q f (g.build k))))

  assignment_whole : {w z : List Token} {s : Statement} {ss : List Symbol} {p : Draft} → IsAssignment w z s → D ss z (record p { statement = s; at = front_place w }) → D (Call part.Assignment ∷ ss) w p
  unfolding act_on
  assignment_whole (assign o (target t (a_name e) d) f x) k = g.row _ here (g.row _ here (g.take t e (ref_rest t (a_name e) d (g.build (g.take o f (expr_whole x (g.build (g.build k))))))))
  assignment_whole (assign o (target t (an_intrinsic e) d) f x) k = g.row _ here (g.row _ (there here) (g.take t e (ref_rest t (an_intrinsic e) d (g.build (g.take o f (expr_whole x (g.build (g.build k))))))))

  call_rest : {w z : List Token} {l : List subscript.Sub} {ss : List Symbol} {p : Draft} (c n : Token) → token_class c ≡ class.Call → token_class n ≡ class.Name → IsArguments w z l →
      D ss z (record p { statement = statement.Call (named_of n) l; at = c.at }) → D (Take class.Call ∷ Take class.Name ∷ Call part.ArgumentsOption ∷ Build act.Call ∷ ss) (c ∷ n ∷ w) p
  unfolding act_on
  call_rest {z = z} {l = l} {ss = ss} {p = p} c n e f d k = g.take c e (g.take n f (arguments_option d (g.build (subst (λ q. D ss z (record p { statement = statement.Call q l; at = c.at })) (named_word n f) k))))

  action_whole : {w z : List Token} {s : Statement} {ss : List Symbol} {p : Draft} → IsAction w z s → D ss z (record p { statement = s; at = front_place w }) → D (Call part.Action ∷ ss) w p
  unfolding act_on
  action_whole (assignment d) k = g.row _ here (assignment_whole d k)
  action_whole (call c n e f d) k = g.row _ (there here) (call_rest c n e f d k)
  action_whole (exit t e) k = g.row _ (there (there here)) (g.take t e (g.build k))
  action_whole (cycle t e) k = g.row _ (there (there (there here))) (g.take t e (g.build k))
  action_whole (return t e) k = g.row _ (there (there (there (there here)))) (g.take t e (g.build k))

  step_option : {w z : List Token} {b : Option Expr} {ss : List Symbol} {p : Draft} → IsStep w z b → D ss z (with_values (value.Bound b ∷ p.values) p) → D (Call part.StepOption ∷ ss) w p
  unfolding act_on apply
  step_option no_step k = g.row _ (there here) (g.build k)
  step_option (some_step c e d) k = g.row _ here (g.take c e (expr_whole d (g.build (g.build k))))

  pub form_whole : {w z : List Token} {s : Statement} {ss : List Symbol} {p : Draft} → IsForm w z s → ((q : Draft) → q.statement ≡ s → D ss z q) → D (Call part.Statement ∷ ss) w p
  unfolding act_on
  form_whole (a_module m n e f) k = g.row _ here (g.take m e (g.take n f (g.build (k _ (ap statement.Module (sym (named_word n f)))))))
  form_whole (contains t e) k = g.row _ (there (there (there (there (there (there (there (there here)))))))) (g.take t e (g.build (k _ refl)))
  form_whole (end_bare t e) k = g.row _ (there here) (g.take t e (g.row _ (there (there (there (there (there (there here)))))) (g.build (k _ refl))))
  form_whole (end_module (apart t u e f) n) k = g.row _ (there here) (g.take t e (g.row _ here (g.take u f (end_name n (g.build (k _ refl))))))
  form_whole (end_module (together t e) n) k = g.row _ (there (there (there (there (there here))))) (g.take t e (end_name n (g.build (k _ refl))))
  form_whole (end_subroutine (apart t u e f) n) k = g.row _ (there here) (g.take t e (g.row _ (there here) (g.take u f (end_name n (g.build (k _ refl))))))
  form_whole (end_subroutine (together t e) n) k = g.row _ (there (there (there (there (there (there here)))))) (g.take t e (end_name n (g.build (k _ refl))))
  form_whole (end_function (apart t u e f) n) k = g.row _ (there here) (g.take t e (g.row _ (there (there here)) (g.take u f (end_name n (g.build (k _ refl))))))
  form_whole (end_function (together t e) n) k = g.row _ (there (there (there (there (there (there (there here))))))) (g.take t e (end_name n (g.build (k _ refl))))
  form_whole (subroutine {l = l} s n e f d) k = g.row _ (there (there (there (there (there (there (there (there (there here))))))))) (g.take s e (g.take n f (dummies_option d (g.build (k _ (ap (λ q. statement.Subroutine q l) (sym (named_word n f))))))))
  form_whole (function o e d) k = g.row _ (there (there (there (there (there (there (there (there (there (there (there here))))))))))) (g.take o e (function_rest d (k _ refl)))
  form_whole (prefixed o y e d) k = g.row _ (there (there (there (there (there (there (there (there (there (there here)))))))))) (type_spec y (g.row _ here (g.take o e (function_rest d (g.build (k _ refl))))))
  form_whole (use_all u n e f) k = g.row _ (there (there (there (there (there (there (there (there (there (there (there (there here)))))))))))) (g.take u e (g.take n f (g.row _ (there here) (g.build (k _ (ap (λ q. statement.Using (record { name = q; only = None; at = n.at })) (named n (a_name f))))))))
  form_whole (use_only {l = l} u n c o q e f h i j d) k = g.row _ (there (there (there (there (there (there (there (there (there (there (there (there here)))))))))))) (g.take u e (g.take n f (g.row _ here (g.take c h (g.take o i (g.take q j (names_option d (g.build
      (k _ (ap (λ x. statement.Using (record { name = x; only = Some l; at = n.at })) (named n (a_name f))))))))))))
  form_whole (implicit_none i n e f) k = g.row _ (there (there (there (there (there (there (there (there (there (there (there (there (there here))))))))))))) (g.take i e (g.take n f (g.build (k _ refl))))
  form_whole (declare d) k = g.row _ (there (there (there (there (there (there (there (there (there (there here)))))))))) (declaration d k)
  form_whole (action (assignment d)) k = g.row _ (there (there (there (there (there (there (there (there (there (there (there (there (there (there here)))))))))))))) (assignment_whole d (k _ refl))
  form_whole (action (call c n e f d)) k = g.row _ (there (there (there (there (there (there (there (there (there (there (there (there (there (there (there here))))))))))))))) (call_rest c n e f d (k _ refl))
  form_whole (action (exit t e)) k = g.row _ (there (there (there (there (there (there (there (there (there (there (there (there (there (there (there (there (there (there (there (there here)))))))))))))))))))) (g.take t e (g.build (k _ refl)))
  form_whole (action (cycle t e)) k = g.row _ (there (there (there (there (there (there (there (there (there (there (there (there (there (there (there (there (there (there (there (there (there here))))))))))))))))))))) (g.take t e (g.build (k _ refl)))
  form_whole (action (return t e)) k = g.row _ (there (there (there (there (there (there (there (there (there (there (there (there (there (there (there (there (there (there (there (there (there (there here)))))))))))))))))))))) (g.take t e (g.build (k _ refl)))
  form_whole (if_then i o q t e f d h j) k = g.row _ (there (there (there (there (there (there (there (there (there (there (there (there (there (there (there (there here)))))))))))))))) (g.take i e (g.take o f (expr_whole d (g.build (g.take q h (g.row _ here (g.take t j (g.build (k _ refl)))))))))
  form_whole (if_action i o q e f d h a) k = g.row _ (there (there (there (there (there (there (there (there (there (there (there (there (there (there (there (there here)))))))))))))))) (g.take i e (g.take o f (expr_whole d (g.build (g.take q h (g.row _ (there here) (action_whole a (g.build (k _ refl)))))))))
  form_whole (else_if o q t (apart a b m n) e d f h) k = g.row _ (there (there (there (there (there (there (there (there (there (there (there (there (there (there (there (there (there here))))))))))))))))) (g.take a m (g.row _ here (g.take b n (g.take o e (expr_whole d (g.build (g.take q f (g.take t h (g.build (k _ refl))))))))))
  form_whole (else_if o q t (together a m) e d f h) k = g.row _ (there (there (there (there (there (there (there (there (there (there (there (there (there (there (there (there (there (there here)))))))))))))))))) (g.take a m (g.take o e (expr_whole d (g.build (g.take q f (g.take t h (g.build (k _ refl))))))))
  form_whole (else_bare t e) k = g.row _ (there (there (there (there (there (there (there (there (there (there (there (there (there (there (there (there (there here))))))))))))))))) (g.take t e (g.row _ (there here) (g.build (k _ refl))))
  form_whole (end_if (apart t u e f)) k = g.row _ (there here) (g.take t e (g.row _ (there (there (there (there here)))) (g.take u f (g.build (k _ refl)))))
  form_whole (end_if (together t e)) k = g.row _ (there (there (there here))) (g.take t e (g.build (k _ refl)))
  form_whole (a_do {a = a} {b = b} {c = c} d n o q e f h x i y j) k = g.row _ (there (there (there (there (there (there (there (there (there (there (there (there (there (there (there (there (there (there (there here))))))))))))))))))) (g.take d e (g.take n f (g.take o h (expr_whole x (g.build (g.take q i (expr_whole y (g.build (step_option j (g.build
      (k _ (ap (λ m. statement.Do (record { var = m; at = n.at; from = a; to = b; step = c })) (named n (a_name f))))))))))))))
  form_whole (end_do (apart t u e f)) k = g.row _ (there here) (g.take t e (g.row _ (there (there (there here))) (g.take u f (g.build (k _ refl)))))
  form_whole (end_do (together t e)) k = g.row _ (there (there here)) (g.take t e (g.build (k _ refl)))
  form_whole (select o q (apart a b m n) e d f) k = g.row _ (there (there (there (there (there (there (there (there (there (there (there (there (there (there (there (there (there (there (there (there (there (there (there here))))))))))))))))))))))) (g.take a m (g.take b n (g.take o e (expr_whole d (g.build (g.take q f (g.build (k _ refl))))))))
  form_whole (select o q (together a m) e d f) k = g.row _ (there (there (there (there (there (there (there (there (there (there (there (there (there (there (there (there (there (there (there (there (there (there (there (there here)))))))))))))))))))))))) (g.take a m (g.take o e (expr_whole d (g.build (g.take q f (g.build (k _ refl)))))))
  form_whole (end_select (apart t u e f)) k = g.row _ (there here) (g.take t e (g.row _ (there (there (there (there (there here))))) (g.take u f (g.build (k _ refl)))))
  form_whole (end_select (together t e)) k = g.row _ (there (there (there (there here)))) (g.take t e (g.build (k _ refl)))
  form_whole (case c o q e f d h) k = g.row _ (there (there (there (there (there (there (there (there (there (there (there (there (there (there (there (there (there (there (there (there (there (there (there (there (there here))))))))))))))))))))))))) (g.take c e (g.row _ here (g.take o f (ranges_tail d (g.row _ (there here) (g.take q h (g.build (k _ refl))))))))
  form_whole (case_default c d e f) k = g.row _ (there (there (there (there (there (there (there (there (there (there (there (there (there (there (there (there (there (there (there (there (there (there (there (there (there here))))))))))))))))))))))))) (g.take c e (g.row _ (there here) (g.take d f (g.build (k _ refl)))))

abbrev pub Drafted : List Symbol → List Token → Draft → Draft → Type 0
Drafted ss w p u = derives.Derives Draft take_in act_on ss w p u

abbrev Leads : Statement → List Symbol → List Token → Draft → Type 0
Leads s ss w p = (u : Draft) × Drafted ss w p u × (u.statement ≡ s)

closed : (s : Statement) → Closed (Leads s)
closed s = record {
  row = λ r i k. (k.0, derives.row r i k.1, k.2);
  take = λ t e k. (k.0, derives.take t e k.1, k.2);
  build = λ k. (k.0, derives.build k.1, k.2);
}

-- a statement's tokens derive it
pub derives-form : {w : List Token} {s : Statement} → IsForm w [] s → (p : Draft) → (u : Draft) × Drafted (Call part.Statement ∷ []) w p u × (u.statement ≡ s)
derives-form {s = s} d p = form_whole (Leads s) (closed s) d (λ q h. (q, derives.done, h))
