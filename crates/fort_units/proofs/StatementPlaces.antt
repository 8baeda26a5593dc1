-- All places of a statement are places of its tokens.
use Rattle.std.proofs.Common.{◌≡◌, List, [], ◌∷◌, map, Option, None, Some, sym, subst}
use Rattle.std.specs.List.{AllByRecursion}
use Rattle.std.specs.Prelude.{codes, ⊤}
use Rattle.std.specs.Str.{bytes_eq}
use Rattle.fort_arith.specs.declared.kind.Kind.{Kind}
use Rattle.fort_arith.specs.declared.op.Op.TheVariants.{Add, Sub}
use Rattle.fort_tree.specs.declared.expr.Expr.{Expr}
use Rattle.fort_tree.specs.declared.expr.Expr.TheVariants as expr
use Rattle.fort_tree.specs.declared.expr.Sub as subscript
use Rattle.fort_tree.specs.declared.expr.Unary.TheVariants.{Minus}
use Rattle.fort_tree.specs.declared.place.Place.{Place}
use Rattle.fort_tree.specs.declared.statement.EndWord.TheVariants as word
use Rattle.fort_tree.specs.declared.statement.Statement.{Statement, out-Statement}
use Rattle.fort_tree.specs.declared.statement.Statement.TheOpen.{Statement-F}
use Rattle.fort_tree.specs.declared.statement.Statement.TheVariants as statement
use Rattle.fort_tree.specs.declared.statement.Statement.TheViews.{roll-Statement, out-roll-Statement}
use Rattle.fort_tree.specs.declared.statement.Token.{Token}
use Rattle.fort_tree.specs.declared.stmt.Head.{Head}
use Rattle.fort_tree.specs.declared.stmt.Named.{Named}
use Rattle.fort_tree.specs.declared.stmt.Range.{Range}
use Rattle.fort_tree.specs.declared.unit.Bound.{Bound}
use Rattle.fort_tree.specs.declared.unit.Decl.{Decl}
use Rattle.fort_tree.specs.declared.unit.Intent.{Intent}
use Rattle.fort_tree.specs.declared.unit.Use.{Use}
use Rattle.fort_tree.specs.Name.{lowercase}
use Rattle.fort_grammar.specs.declared.class.Class.{Class}
use Rattle.sound_programs.specs.Placing.{placed_subs, placed_option, placed_head, placed_range, placed_bound, placed_decl}
use Rattle.sound_programs.specs.Within.{InOption, AllInSubscripts, AllInOption, AllInDimension, AllInDecl, AllInHead, AllInRange, AtNamed, AllInUse}
use Rattle.fort_expr.specs.Words.{number_of, kind_of, front_place}
use Rattle.fort_stmt.specs.declared.value.Entity.{Entity}
use Rattle.fort_stmt.specs.Form.{named_of, IsWords, apart, together, IsNames, first_name, next_name, IsNamesOption, no_names, some_names, IsDummies, no_dummies, dummies, IsResult, no_result, some_result, Header, IsFunction, a_function, IsKind, no_kind, a_kind, keyword_kind, IsType, integer, logical, number_of_token, name_of_token, IsBound, bound_number, bound_negative, bound_name, bound_plus, bound_minus, IsBoundOption, no_bound, some_bound, IsDimension, assumed, upper_only, bounds, IsShape, first_dimension, next_dimension, IsOwnShape, no_shape, some_shape, IsInitial, initial_number, initial_negative, initial_truth, IsEntity, entity, IsEntities, first_entity, next_entity, IsConstant, constant, IsConstants, first_constant, next_constant, shape_or, declared, IsDeclaration, variables, constants, IsIntent, intent_in, intent_out, intent_in_out, IsIntentAttribute, an_intent, IsDimensionAttribute, a_dimension, IsAttributes, no_attribute, no_attribute_colons, intent_alone, dimension_alone, intent_dimension, dimension_intent}
use Rattle.fort_stmt.specs.Form.{IsValue, value_number, value_negative, value_name, IsValueOption, no_value, some_value, IsRange, one_value, to_value, span, IsRanges, first_range, next_range, IsTarget, target, IsArguments, no_arguments, arguments, IsAssignment, assign, IsAction, assignment, call, exit, cycle, return, IsStep, no_step, some_step}
use Rattle.fort_stmt.specs.Form.{IsForm, a_module, contains, end_bare, end_module, end_subroutine, end_function, subroutine, function, prefixed, use_all, use_only, implicit_none, declare, action, if_then, if_action, else_if, else_bare, end_if, a_do, end_do, select, end_select, case, case_default}
use Rattle.fort_units.proofs.ExpressionPlaces.{all_push, all_map, AtTokens, AtExpr, at_number, at_truth, at_name, at_sign, at_operation, at_subs, Gives, expr_at, ref_at, subs_at}

module _ (P : Place → Type 0) where
  -- ---- names

  names_at : {w z : List Token} {l : List Named} → AtTokens P w → IsNames w z l → Gives P (AllByRecursion (AtNamed P) l) z
  names_at h (first_name t c) = record { it = (h.0, tt); behind = h.1 }
  names_at h (next_name {l = l} c t a d e) = let f = names_at h a in record { it = all_push (AtNamed P) l (named_of t) f.it f.behind.1.0; behind = f.behind.1.1 }

  names_option_at : {w z : List Token} {l : List Named} → AtTokens P w → IsNamesOption w z l → Gives P (AllByRecursion (AtNamed P) l) z
  names_option_at h no_names = record { it = tt; behind = h }
  names_option_at h (some_names a) = names_at h a

  dummies_at : {w z : List Token} {l : List Named} → AtTokens P w → IsDummies w z l → AllByRecursion (AtNamed P) l
  dummies_at h no_dummies = tt
  dummies_at h (dummies p q c a d) = (names_option_at h.1 a).it

  result_at : {w z : List Token} {r : Option Named} → AtTokens P w → IsResult w z r → InOption (AtNamed P) r
  result_at h no_result = tt
  result_at h (some_result r p t q c d e f) = h.1.1.0

  record HeaderAt (h : Header) : Type 0 where
    name : P h.name.at
    dummies : AllByRecursion (AtNamed P) h.dummies
    result : InOption (AtNamed P) h.result

  function_at : {w z : List Token} {f : Header} → AtTokens P w → IsFunction w z f → HeaderAt f
  function_at h (a_function t p q c d a e b) = let n = names_option_at h.1.1 a in record { name = h.0; dummies = n.it; result = result_at n.behind.1 b }

  words_at : {a b c : Class} {w z : List Token} → AtTokens P w → IsWords a b c w z → AtTokens P z
  words_at h (apart t u c d) = h.1.1
  words_at h (together t c) = h.1

  -- ---- types

  kind_at : {w z : List Token} {k : Kind} → AtTokens P w → IsKind w z k → AtTokens P z
  kind_at h no_kind = h
  kind_at h (a_kind p t q c d e) = h.1.1.1
  kind_at h (keyword_kind p k e t q c d f g i) = h.1.1.1.1.1

  type_at : {w z : List Token} {k : Kind} → AtTokens P w → IsType w z k → Gives P (P (front_place w)) z
  type_at h (integer t c a) = record { it = h.0; behind = kind_at h.1 a }
  type_at h (logical t c) = record { it = h.0; behind = h.1 }

  -- ---- shapes

  number_at : (t : Token) → P t.at → AtExpr P (number_of_token t)
  number_at t h = at_number P (number_of t.text) (kind_of t.text) t.at h

  negative_at : (m t : Token) → P m.at → P t.at → AtExpr P (expr.One Minus (number_of_token t) m.at)
  negative_at m t h k = at_sign P Minus (number_of_token t) m.at h (number_at t k)

  name_at : (t : Token) → P t.at → AtExpr P (name_of_token t)
  name_at t h = at_name P (lowercase t.text) t.at h

  bound_at : {w z : List Token} {e : Expr} → AtTokens P w → IsBound w z e → Gives P (AtExpr P e) z
  bound_at h (bound_number t c) = record { it = number_at t h.0; behind = h.1 }
  bound_at h (bound_negative m t c d) = record { it = negative_at m t h.0 h.1.0; behind = h.1.1 }
  bound_at h (bound_name n c) = record { it = name_at n h.0; behind = h.1 }
  bound_at h (bound_plus n o t c d e) = record { it = at_operation P Add (name_of_token n) (number_of_token t) (name_at n h.0) (number_at t h.1.1.0); behind = h.1.1.1 }
  bound_at h (bound_minus n o t c d e) = record { it = at_operation P Sub (name_of_token n) (number_of_token t) (name_at n h.0) (number_at t h.1.1.0); behind = h.1.1.1 }

  abbrev pub AtOption : Option Expr → Type 0
  AtOption e = AllInOption P (placed_option e)

  abbrev pub AtDimension : Bound → Type 0
  AtDimension b = AllInDimension P (placed_bound b)

  bound_option_at : {w z : List Token} {e : Option Expr} → AtTokens P w → IsBoundOption w z e → Gives P (AtOption e) z
  bound_option_at h no_bound = record { it = tt; behind = h }
  bound_option_at h (some_bound a) = let b = bound_at h a in record { it = b.it; behind = b.behind }

  dimension_at : {w z : List Token} {b : Bound} → AtTokens P w → IsDimension w z b → Gives P (AtDimension b) z
  dimension_at h (assumed c d) = record { it = (tt, tt); behind = h.1 }
  dimension_at h (upper_only a) = let b = bound_at h a in record { it = (tt, b.it); behind = b.behind }
  dimension_at h (bounds c a d b) = let l = bound_at h a in let u = bound_option_at l.behind.1 b in record { it = (l.it, u.it); behind = u.behind }

  shape_at : {w z : List Token} {l : List Bound} → AtTokens P w → IsShape w z l → Gives P (AllByRecursion AtDimension l) z
  shape_at h (first_dimension a) = let d = dimension_at h a in record { it = (d.it, tt); behind = d.behind }
  shape_at h (next_dimension {l = l} {b = b} c a d e) = let f = shape_at h a in let n = dimension_at f.behind.1 e in record { it = all_push AtDimension l b f.it n.it; behind = n.behind }

  own_shape_at : {w z : List Token} {l : List Bound} → AtTokens P w → IsOwnShape w z l → Gives P (AllByRecursion AtDimension l) z
  own_shape_at h no_shape = record { it = tt; behind = h }
  own_shape_at h (some_shape p q c a d) = let s = shape_at h.1 a in record { it = s.it; behind = s.behind.1 }

  -- ---- declarations

  abbrev pub AtDecl : Decl → Type 0
  AtDecl d = AllInDecl P (placed_decl d)

  record EntityAt (d : Entity) : Type 0 where
    at : P d.at
    shape : AllByRecursion AtDimension d.shape
    value : AtOption d.value

  initial_at : {w z : List Token} {e : Expr} → AtTokens P w → IsInitial w z e → Gives P (AtExpr P e) z
  initial_at h (initial_number t c) = record { it = number_at t h.0; behind = h.1 }
  initial_at h (initial_negative m t c d) = record { it = negative_at m t h.0 h.1.0; behind = h.1.1 }
  initial_at h (initial_truth t c) = record { it = at_truth P (bytes_eq t.text (codes ".true.")) t.at h.0; behind = h.1 }

  entity_at : {w z : List Token} {d : Entity} → AtTokens P w → IsEntity w z d → Gives P (EntityAt d) z
  entity_at h (entity t c a) = let s = own_shape_at h.1 a in record { it = record { at = h.0; shape = s.it; value = tt }; behind = s.behind }

  entities_at : {w z : List Token} {l : List Entity} → AtTokens P w → IsEntities w z l → Gives P (AllByRecursion EntityAt l) z
  entities_at h (first_entity a) = let d = entity_at h a in record { it = (d.it, tt); behind = d.behind }
  entities_at h (next_entity {l = l} {d = d} c a e b) = let f = entities_at h a in let n = entity_at f.behind.1 b in record { it = all_push EntityAt l d f.it n.it; behind = n.behind }

  constant_at : {w z : List Token} {d : Entity} → AtTokens P w → IsConstant w z d → Gives P (EntityAt d) z
  constant_at h (constant t q c d a) = let v = initial_at h.1.1 a in record { it = record { at = h.0; shape = tt; value = v.it }; behind = v.behind }

  constants_at : {w z : List Token} {l : List Entity} → AtTokens P w → IsConstants w z l → Gives P (AllByRecursion EntityAt l) z
  constants_at h (first_constant a) = let d = constant_at h a in record { it = (d.it, tt); behind = d.behind }
  constants_at h (next_constant {l = l} {d = d} c a e b) = let f = constants_at h a in let n = constant_at f.behind.1 b in record { it = all_push EntityAt l d f.it n.it; behind = n.behind }

  intent_at : {w z : List Token} {i : Intent} → AtTokens P w → IsIntent w z i → AtTokens P z
  intent_at h (intent_in t c) = h.1
  intent_at h (intent_out t c) = h.1
  intent_at h (intent_in_out a) = words_at h a

  intent_attribute_at : {w z : List Token} {i : Intent} → AtTokens P w → IsIntentAttribute w z i → AtTokens P z
  intent_attribute_at h (an_intent c t p q d e f a g) = (intent_at h.1.1.1 a).1

  dimension_attribute_at : {w z : List Token} {l : List Bound} → AtTokens P w → IsDimensionAttribute w z l → Gives P (AllByRecursion AtDimension l) z
  dimension_attribute_at h (a_dimension c t p q d e f a g) = let s = shape_at h.1.1.1 a in record { it = s.it; behind = s.behind.1 }

  attributes_at : {w z : List Token} {i : Option Intent} {l : List Bound} → AtTokens P w → IsAttributes w z i l → Gives P (AllByRecursion AtDimension l) z
  attributes_at h no_attribute = record { it = tt; behind = h }
  attributes_at h (no_attribute_colons d c) = record { it = tt; behind = h.1 }
  attributes_at h (intent_alone d a c) = record { it = tt; behind = (intent_attribute_at h a).1 }
  attributes_at h (dimension_alone d a c) = let s = dimension_attribute_at h a in record { it = s.it; behind = s.behind.1 }
  attributes_at h (intent_dimension d a b c) = let s = dimension_attribute_at (intent_attribute_at h a) b in record { it = s.it; behind = s.behind.1 }
  attributes_at h (dimension_intent d a b c) = let s = dimension_attribute_at h a in record { it = s.it; behind = (intent_attribute_at s.behind b).1 }

  own_or : (own l : List Bound) → AllByRecursion AtDimension own → AllByRecursion AtDimension l → AllByRecursion AtDimension (shape_or own l)
  own_or [] l h k = k
  own_or (b ∷ bs) l h k = h

  declared_at : (k : Kind) (i : Option Intent) (l : List Bound) (ds : List Entity) → AllByRecursion AtDimension l → AllByRecursion EntityAt ds → AllByRecursion AtDecl (map (declared k i l) ds)
  declared_at k i l [] h g = tt
  declared_at k i l (d ∷ ds) h g =
      ((g.0.at, (all_map (AllInDimension P) placed_bound (shape_or d.shape l) (own_or d.shape l g.0.shape h), g.0.value)), declared_at k i l ds h g.1)

  declaration_at : {w z : List Token} {l : List Decl} → AtTokens P w → IsDeclaration w z l → AllByRecursion AtDecl l
  declaration_at h (variables {k = k} {i = i} {l = l} {d = d} a b c) =
      let t = type_at h a in let s = attributes_at t.behind b in let e = entities_at s.behind c in declared_at k i l d s.it e.it
  declaration_at h (constants {k = k} {d = d} c p b a e f g i) = let t = type_at h a in let v = constants_at t.behind.1.1.1 i in declared_at k None [] d tt v.it

  -- ---- CASE

  abbrev pub AtRange : Range → Type 0
  AtRange r = AllInRange P (placed_range r)

  value_at : {w z : List Token} {e : Expr} → AtTokens P w → IsValue w z e → Gives P (AtExpr P e) z
  value_at h (value_number t c) = record { it = number_at t h.0; behind = h.1 }
  value_at h (value_negative m t c d) = record { it = negative_at m t h.0 h.1.0; behind = h.1.1 }
  value_at h (value_name n c) = record { it = name_at n h.0; behind = h.1 }

  value_option_at : {w z : List Token} {e : Option Expr} → AtTokens P w → IsValueOption w z e → Gives P (AtOption e) z
  value_option_at h no_value = record { it = tt; behind = h }
  value_option_at h (some_value a) = let v = value_at h a in record { it = v.it; behind = v.behind }

  range_at : {w z : List Token} {r : Range} → AtTokens P w → IsRange w z r → Gives P (AtRange r) z
  range_at h (one_value a) = let v = value_at h a in record { it = v.it; behind = v.behind }
  range_at h (to_value c d a) = let v = value_at h.1 a in record { it = (tt, v.it); behind = v.behind }
  range_at h (span c a d b) = let v = value_at h a in let u = value_option_at v.behind.1 b in record { it = (v.it, u.it); behind = u.behind }

  ranges_at : {w z : List Token} {l : List Range} → AtTokens P w → IsRanges w z l → Gives P (AllByRecursion AtRange l) z
  ranges_at h (first_range a) = let r = range_at h a in record { it = (r.it, tt); behind = r.behind }
  ranges_at h (next_range {l = l} {r = r} c a d b) = let f = ranges_at h a in let n = range_at f.behind.1 b in record { it = all_push AtRange l r f.it n.it; behind = n.behind }

  -- ---- statements

  abbrev pub AtHead : Head → Type 0
  AtHead h = AllInHead P (placed_head h)

  abbrev pub AtArguments : List subscript.Sub → Type 0
  AtArguments l = AllInSubscripts P (placed_subs l)

  -- the places of an action, which has the place of a line or of its own first token
  abbrev pub AtAction : Statement-F Statement → Type 0
  AtAction (Statement-F.Assign a b) = AtExpr P a × AtExpr P b
  AtAction (Statement-F.Call name args) = P name.at × AtArguments args
  AtAction other = ⊤

  -- those of a statement
  abbrev pub AtLevel : Statement-F Statement → Type 0
  AtLevel (Statement-F.Module name) = P name.at
  AtLevel (Statement-F.Subroutine name names) = P name.at × AllByRecursion (AtNamed P) names
  AtLevel (Statement-F.Function prefix name names result) =
      InOption (λ (p : Kind × Place). P p.1) prefix × (P name.at × (AllByRecursion (AtNamed P) names × InOption (AtNamed P) result))
  AtLevel (Statement-F.Using line) = AllInUse P line
  AtLevel (Statement-F.Declare line) = AllByRecursion AtDecl line
  AtLevel (Statement-F.Assign a b) = AtExpr P a × AtExpr P b
  AtLevel (Statement-F.Call name args) = P name.at × AtArguments args
  AtLevel (Statement-F.IfAction test at s) = AtExpr P test × (P at × AtAction (out-Statement s))
  AtLevel (Statement-F.IfThen test) = AtExpr P test
  AtLevel (Statement-F.ElseIf test) = AtExpr P test
  AtLevel (Statement-F.Do head) = AtHead head
  AtLevel (Statement-F.Select on) = AtExpr P on
  AtLevel (Statement-F.Case ranges) = AllByRecursion AtRange ranges
  AtLevel other = ⊤

  stated : {s : Statement} (l : Statement-F Statement) → roll-Statement l ≡ s → AtLevel l → AtLevel (out-Statement s)
  stated l is h = subst (λ s. AtLevel (out-Statement s)) is (subst AtLevel (sym (out-roll-Statement l)) h)

  record ActionAt (w : List Token) (s : Statement) : Type 0 where
    front : P (front_place w)
    action : AtAction (out-Statement s)
    level : AtLevel (out-Statement s)

  acted : {w : List Token} {s : Statement} (l : Statement-F Statement) → roll-Statement l ≡ s → P (front_place w) → AtAction l → AtLevel l → ActionAt w s
  acted l is f h k = record { front = f; action = subst (λ s. AtAction (out-Statement s)) is (subst AtAction (sym (out-roll-Statement l)) h); level = stated l is k }

  record TargetAt (w z : List Token) (e : Expr) : Type 0 where
    front : P (front_place w)
    it : AtExpr P e
    behind : AtTokens P z

  target_at : {w z : List Token} {e : Expr} → AtTokens P w → IsTarget w z e → TargetAt w z e
  target_at h (target t c a) = let r = ref_at P h.0 h.1 a in record { front = h.0; it = r.it; behind = r.behind }

  arguments_at : {w z : List Token} {l : List subscript.Sub} → AtTokens P w → IsArguments w z l → AtArguments l
  arguments_at h no_arguments = tt
  arguments_at h (arguments {l = l} p q c a d) = at_subs P l (subs_at P h.1 a).it

  assignment_at : {w z : List Token} {s : Statement} → AtTokens P w → IsAssignment w z s → ActionAt w s
  assignment_at h (assign {a = a} {b = b} e c d f) =
      let l = target_at h c in let r = expr_at P l.behind.1 f in acted (Statement-F.Assign a b) (statement.rolls-Assign a b) l.front (l.it, r.tree) (l.it, r.tree)

  action_at : {w z : List Token} {s : Statement} → AtTokens P w → IsAction w z s → ActionAt w s
  action_at h (assignment a) = assignment_at h a
  action_at h (call {l = l} c n d e a) = let r = arguments_at h.1.1 a in acted (Statement-F.Call (named_of n) l) (statement.rolls-Call (named_of n) l) h.0 (h.1.0, r) (h.1.0, r)
  action_at h (exit t c) = acted Statement-F.Exit statement.rolls-Exit h.0 tt tt
  action_at h (cycle t c) = acted Statement-F.Cycle statement.rolls-Cycle h.0 tt tt
  action_at h (return t c) = acted Statement-F.Return statement.rolls-Return h.0 tt tt

  step_at : {w z : List Token} {e : Option Expr} → AtTokens P w → IsStep w z e → AtOption e
  step_at h no_step = tt
  step_at h (some_step c d a) = (expr_at P h.1 a).tree

  pub form_at : {w z : List Token} {s : Statement} → AtTokens P w → IsForm w z s → AtLevel (out-Statement s)
  form_at h (a_module m n c d) = stated (Statement-F.Module (named_of n)) (statement.rolls-Module (named_of n)) h.1.0
  form_at h (contains t c) = stated Statement-F.Contains statement.rolls-Contains tt
  form_at h (end_bare t c) = stated (Statement-F.End None None) (statement.rolls-End None None) tt
  form_at h (end_module {n = n} a b) = stated (Statement-F.End (Some word.Module) n) (statement.rolls-End (Some word.Module) n) tt
  form_at h (end_subroutine {n = n} a b) = stated (Statement-F.End (Some word.Subroutine) n) (statement.rolls-End (Some word.Subroutine) n) tt
  form_at h (end_function {n = n} a b) = stated (Statement-F.End (Some word.Function) n) (statement.rolls-End (Some word.Function) n) tt
  form_at h (subroutine {l = l} s n c d a) = stated (Statement-F.Subroutine (named_of n) l) (statement.rolls-Subroutine (named_of n) l) (h.1.0, dummies_at h.1.1 a)
  form_at h (function {h = k} f c a) =
      let r = function_at h.1 a in stated (Statement-F.Function None k.name k.dummies k.result) (statement.rolls-Function None k.name k.dummies k.result) (tt, (r.name, (r.dummies, r.result)))
  form_at h (prefixed {w = w} {k = i} {h = k} f a c b) =
      let t = type_at h a in let r = function_at t.behind.1 b in
      stated (Statement-F.Function (Some (i, front_place w)) k.name k.dummies k.result) (statement.rolls-Function (Some (i, front_place w)) k.name k.dummies k.result) (t.it, (r.name, (r.dummies, r.result)))
  form_at h (use_all u n c d) =
      let line : Use = record { name = lowercase n.text; only = None; at = n.at } in stated (Statement-F.Using line) (statement.rolls-Using line) (h.1.0, tt)
  form_at h (use_only {l = l} u n c o k d e f g i a) =
      let line : Use = record { name = lowercase n.text; only = Some l; at = n.at } in stated (Statement-F.Using line) (statement.rolls-Using line) (h.1.0, (names_option_at h.1.1.1.1.1 a).it)
  form_at h (implicit_none i n c d) = stated Statement-F.ImplicitNone statement.rolls-ImplicitNone tt
  form_at h (declare {l = l} a) = stated (Statement-F.Declare l) (statement.rolls-Declare l) (declaration_at h a)
  form_at h (action a) = (action_at h a).level
  form_at h (if_then {e = e} i p q t c d a f g) = stated (Statement-F.IfThen e) (statement.rolls-IfThen e) (expr_at P h.1.1 a).tree
  form_at h (if_action {x = x} {e = e} {s = s} i p q c d a f b) =
      let l = expr_at P h.1.1 a in let k = action_at l.behind.1 b in
      stated (Statement-F.IfAction e (front_place x) s) (statement.rolls-IfAction e (front_place x) s) (l.tree, (k.front, k.action))
  form_at h (else_if {e = e} p q t a c b d f) = stated (Statement-F.ElseIf e) (statement.rolls-ElseIf e) (expr_at P (words_at h a).1 b).tree
  form_at h (else_bare t c) = stated Statement-F.Else statement.rolls-Else tt
  form_at h (end_if a) = stated Statement-F.EndIf statement.rolls-EndIf tt
  form_at h (a_do {a = a} {b = b} {c = c} d n e o f g i j k l m) =
      let first = expr_at P h.1.1.1 j in let last = expr_at P first.behind.1 l in let step = step_at last.behind m in
      let head : Head = record { var = lowercase n.text; at = n.at; from = a; to = b; step = c } in
      stated (Statement-F.Do head) (statement.rolls-Do head) (h.1.0, (first.tree, (last.tree, step)))
  form_at h (end_do a) = stated Statement-F.EndDo statement.rolls-EndDo tt
  form_at h (select {e = e} p q a c b d) = stated (Statement-F.Select e) (statement.rolls-Select e) (expr_at P (words_at h a).1 b).tree
  form_at h (end_select a) = stated Statement-F.EndSelect statement.rolls-EndSelect tt
  form_at h (case {l = l} c p q d e a f) = stated (Statement-F.Case l) (statement.rolls-Case l) (ranges_at h.1.1 a).it
  form_at h (case_default c d e f) = stated Statement-F.CaseDefault statement.rolls-CaseDefault tt
