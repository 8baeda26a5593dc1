-- What actions build of the parts of a statement.
use Rattle.std.specs.Prelude.{ℕ, List, [], ◌∷◌, ◌++◌, map, Option, None, Some}
use Rattle.fort_arith.specs.declared.kind.Kind.{Kind}
use Rattle.fort_arith.specs.declared.kind.Kind.TheVariants as kinds
use Rattle.fort_arith.specs.declared.op.Op.TheVariants as op
use Rattle.fort_tree.specs.declared.expr.Expr.TheVariants as expr
use Rattle.fort_tree.specs.declared.place.Place.{Place}
use Rattle.fort_tree.specs.declared.statement.EndWord.TheVariants as word_of_end
use Rattle.fort_tree.specs.declared.statement.Statement.{Statement}
use Rattle.fort_tree.specs.declared.statement.Statement.TheVariants as statements
use Rattle.fort_tree.specs.declared.statement.Token.{Token}
use Rattle.fort_tree.specs.declared.stmt.Head.{Head}
use Rattle.fort_tree.specs.declared.stmt.Named.{Named}
use Rattle.fort_tree.specs.declared.stmt.Range.{Range}
use Rattle.fort_tree.specs.declared.stmt.Range.TheVariants as ranges_of
use Rattle.fort_tree.specs.declared.unit.Bound.{Bound}
use Rattle.fort_tree.specs.declared.unit.Intent.{Intent}
use Rattle.fort_tree.specs.declared.unit.Intent.TheVariants as intents
use Rattle.fort_tree.specs.Unplaced.{nowhere}
use Rattle.fort_grammar.specs.declared.table.Action.{Action}
use Rattle.fort_grammar.specs.declared.table.Action.TheVariants as act
use Rattle.fort_expr.specs.declared.value.Value.{Value}
use Rattle.fort_expr.specs.declared.value.Value.TheVariants as value
use Rattle.fort_expr.specs.declared.value.Word.{Word}
use Rattle.fort_expr.specs.Values.{rest, word, operand, operand_place, bound, subscripts, name, word_place, reference, shift, apply}
use Rattle.fort_stmt.specs.declared.parsing.Outcome.{Outcome}
use Rattle.fort_stmt.specs.declared.parsing.Outcome.TheVariants as outcomes
use Rattle.fort_stmt.specs.declared.value.Draft.{Draft}
use Rattle.fort_stmt.specs.declared.value.Entity.{Entity}
use Rattle.fort_stmt.specs.Form.{declared, kind_by_text}

abbrev pub top_shape : List (List Bound) → List Bound
top_shape [] = []
top_shape (l ∷ g) = l

abbrev pub below : List (List Bound) → List (List Bound)
below [] = []
below (l ∷ g) = g

-- What words are.

abbrev pub named : Option Word → Named
named w = record { name = name w; at = word_place w }

abbrev pub kind_in : Option Word → Kind
kind_in None = kinds.I4
kind_in (Some w) = kind_by_text w.text

-- the header of a FUNCTION with a type before it
abbrev pub with_prefix : Kind → Place → Statement → Statement
with_prefix k at (statements.Function p n d r) = statements.Function (Some (k, at)) n d r
with_prefix k at s = s

abbrev pub rest_two : List Value → List Value
rest_two v = rest (rest v)

abbrev pub rest_three : List Value → List Value
rest_three v = rest (rest (rest v))

abbrev pub rest_four : List Value → List Value
rest_four v = rest (rest (rest (rest v)))

abbrev pub rest_five : List Value → List Value
rest_five v = rest (rest (rest (rest (rest v))))

-- the dimension whose bounds stand on top, the upper one last
abbrev pub dimension : List Value → Bound
dimension v = record { lower = bound (rest v); upper = bound v }

-- the entity of a name and a value, if it has one, which stands last
abbrev pub entity : List Value → List Bound → Entity
entity v l = record { name = name (word (rest v)); at = word_place (word (rest v)); shape = l; value = bound v }

-- the range of one value, or of two bounds, the upper one last
abbrev pub range : List Value → Range
range (value.Operand e at ∷ v) = ranges_of.One e
range v = ranges_of.Span (bound (rest v)) (bound v)

abbrev pub range_rest : List Value → List Value
range_rest (value.Operand e at ∷ v) = v
range_rest v = rest (rest v)

abbrev pub with_values : List Value → Draft → Draft
with_values v p = record p { values = v }

abbrev pub states : Statement → List Value → Draft → Draft
states s v p = record p { statement = s; values = v }

abbrev pub acts : Statement → Place → List Value → Draft → Draft
acts s at v p = record p { statement = s; at = at; values = v }

-- the head of a DO: its variable, `=`, the start, a comma, the end and the step, which stands last
abbrev pub head : List Value → Head
head v = record {
  var = name (word (rest_five v));
  at = word_place (word (rest_five v));
  from = operand (rest_three v);
  to = operand (rest v);
  step = bound v;
}

-- the declaration of the entities with the line's type and attributes
abbrev pub declares : Option Intent → List Bound → Draft → Draft
declares i l p = record p { statement = statements.Declare (map (declared p.kind i l) p.entities); entities = [] }

-- What an action makes of the draft, by kinds of statements: each goes on to the next. Words that nothing asks for any more may be left.

-- expressions
abbrev pub expression_on : Action → Draft → Draft
expression_on x p = with_values (apply x p.values) p

-- what begins, divides and ends IF, DO and SELECT
abbrev pub block_on : Action → Draft → Draft
block_on act.IfThen p = states (statements.IfThen (operand (rest_two p.values))) (rest_three p.values) p
block_on act.IfAction p = states (statements.IfAction (operand (rest p.values)) p.at p.statement) (rest_two p.values) p
block_on act.ElseIf p = states (statements.ElseIf (operand (rest_two p.values))) (rest_three p.values) p
block_on act.Else p = states statements.Else p.values p
block_on act.EndIf p = states statements.EndIf p.values p
block_on act.Do p = states (statements.Do (head p.values)) (rest (rest_five p.values)) p
block_on act.SomeStep p = with_values (value.Bound (Some (operand p.values)) ∷ rest_two p.values) p
block_on act.NoStep p = with_values (apply act.Absent p.values) p
block_on act.EndDo p = states statements.EndDo p.values p
block_on act.Select p = states (statements.Select (operand (rest p.values))) (rest_two p.values) p
block_on act.EndSelect p = states statements.EndSelect p.values p
block_on x p = expression_on x p

-- actions, which can stand behind IF
abbrev pub action_on : Action → Draft → Draft
action_on act.Whole p = p
action_on act.Assign p = acts (statements.Assign (operand (rest_two p.values)) (operand p.values)) (operand_place (rest_two p.values)) (rest_three p.values) p
action_on act.Arguments p = with_values (value.Subscripts (subscripts (rest p.values)) ∷ rest_three p.values) p
action_on act.NoArguments p = with_values (apply act.NoSubs p.values) p
action_on act.Call p = acts (statements.Call (named (word (rest p.values))) (subscripts p.values)) (word_place (word (rest_two p.values))) (rest_three p.values) p
action_on act.Exit p = acts statements.Exit (word_place (word p.values)) (rest p.values) p
action_on act.Cycle p = acts statements.Cycle (word_place (word p.values)) (rest p.values) p
action_on act.Return p = acts statements.Return (word_place (word p.values)) (rest p.values) p
action_on x p = block_on x p

-- the ranges of CASE
abbrev pub range_on : Action → Draft → Draft
range_on act.OneValue p = p
range_on act.ToValue p = with_values (value.Bound (Some (operand p.values)) ∷ value.Bound None ∷ rest_two p.values) p
range_on act.Span p = with_values (value.Bound (bound p.values) ∷ value.Bound (Some (operand (rest_two p.values))) ∷ rest_three p.values) p
range_on act.FirstRange p = record p { ranges = range p.values ∷ []; values = range_rest p.values }
range_on act.NextRange p = record p { ranges = p.ranges ++ range p.values ∷ []; values = rest (range_rest p.values) }
range_on act.CaseRanges p = record p { statement = statements.Case p.ranges; ranges = [] }
range_on act.CaseDefault p = states statements.CaseDefault p.values p
range_on x p = action_on x p

-- values of PARAMETERs and of CASE
abbrev pub value_on : Action → Draft → Draft
value_on act.NamedValue p = with_values (apply act.Bare p.values) p
value_on act.Digits p = with_values (apply act.Number p.values) p
value_on act.Negative p = with_values (apply act.Minus p.values) p
value_on act.Positive p = p
value_on act.TruthValue p = with_values (apply act.Truth p.values) p
value_on act.SomeValue p = with_values (apply act.Present p.values) p
value_on act.NoValue p = with_values (apply act.Absent p.values) p
value_on x p = range_on x p

-- shapes and their bounds
abbrev pub shape_on : Action → Draft → Draft
shape_on act.SomeShape p = with_values (rest_two p.values) p
shape_on act.NoShape p = record p { shapes = [] ∷ p.shapes }
shape_on act.FirstDimension p = record p { shapes = (dimension p.values ∷ []) ∷ p.shapes; values = rest_two p.values }
shape_on act.NextDimension p = record p { shapes = (top_shape p.shapes ++ dimension p.values ∷ []) ∷ below p.shapes; values = rest_three p.values }
shape_on act.Assumed p = with_values (value.Bound None ∷ value.Bound None ∷ rest p.values) p
shape_on act.UpperOnly p = with_values (value.Bound (Some (operand p.values)) ∷ value.Bound None ∷ rest p.values) p
shape_on act.Bounds p = with_values (value.Bound (bound p.values) ∷ value.Bound (Some (operand (rest_two p.values))) ∷ rest_three p.values) p
shape_on act.SomeBound p = with_values (apply act.Present p.values) p
shape_on act.NoBound p = with_values (apply act.Absent p.values) p
shape_on act.BoundPlus p = with_values (value.Operand (expr.Two op.Add (reference (word (rest_two p.values)) None) (operand p.values)) (word_place (word (rest_two p.values))) ∷ rest_three p.values) p
shape_on act.BoundMinus p = with_values (value.Operand (expr.Two op.Sub (reference (word (rest_two p.values)) None) (operand p.values)) (word_place (word (rest_two p.values))) ∷ rest_three p.values) p
shape_on act.BoundName p = with_values (apply act.Bare p.values) p
shape_on x p = value_on x p

-- declarations and their entities
abbrev pub declaration_on : Action → Draft → Draft
declaration_on act.Declare p = declares None [] p
declaration_on act.DeclareParameter p = declares None [] p
declaration_on act.DeclareIntent p = declares (Some p.intent) [] p
declaration_on act.DeclareShape p = declares None (top_shape p.shapes) (record p { shapes = below p.shapes })
declaration_on act.DeclareIntentShape p = declares (Some p.intent) (top_shape p.shapes) (record p { shapes = below p.shapes })
declaration_on act.DeclareShapeIntent p = declares (Some p.intent) (top_shape p.shapes) (record p { shapes = below p.shapes })
declaration_on act.FirstEntity p = record p { entities = entity p.values (top_shape p.shapes) ∷ []; shapes = below p.shapes; values = rest_two p.values }
declaration_on act.NextEntity p = record p { entities = p.entities ++ entity p.values (top_shape p.shapes) ∷ []; shapes = below p.shapes; values = rest_three p.values }
declaration_on act.Entity p = with_values (value.Bound None ∷ p.values) p
declaration_on act.Constant p = record p { shapes = [] ∷ p.shapes; values = value.Bound (Some (operand p.values)) ∷ rest_two p.values }
declaration_on x p = shape_on x p

-- types and intents
abbrev pub type_on : Action → Draft → Draft
type_on act.Integer p = record p { type_at = word_place (word p.values); values = rest p.values }
type_on act.Logical p = record p { kind = kinds.Logical; type_at = word_place (word p.values); values = rest p.values }
type_on act.SomeKind p = with_values (rest_two p.values) p
type_on act.NoKind p = record p { kind = kinds.I4 }
type_on act.KeywordKind p = record p { kind = kind_in (word p.values); values = rest_three p.values }
type_on act.Kind p = record p { kind = kind_in (word p.values); values = rest p.values }
type_on act.In p = record p { intent = intents.In }
type_on act.Out p = record p { intent = intents.Out }
type_on act.InOut p = record p { intent = intents.InOut }
type_on act.Inout p = record p { intent = intents.InOut }
type_on x p = declaration_on x p

-- names in headers and ends
abbrev pub name_on : Action → Draft → Draft
name_on act.SomeName p = record p { end_name = Some (name (word p.values)); values = rest p.values }
name_on act.NoName p = record p { end_name = None }
name_on act.Dummies p = with_values (rest_two p.values) p
name_on act.NoDummies p = record p { names = [] }
name_on act.NoNames p = record p { names = [] }
name_on act.FirstName p = record p { names = named (word p.values) ∷ []; values = rest p.values }
name_on act.NextName p = record p { names = p.names ++ named (word p.values) ∷ []; values = rest_two p.values }
name_on act.SomeResult p = record p { result = Some (named (word (rest p.values))); values = rest_four p.values }
name_on act.NoResult p = record p { result = None }
name_on x p = type_on x p

-- a unit's header, its end and what stands before its declarations
abbrev pub unit_on : Action → Draft → Draft
unit_on act.Module p = states (statements.Module (named (word p.values))) (rest p.values) p
unit_on act.Contains p = states statements.Contains p.values p
unit_on act.End p = states (statements.End None None) p.values p
unit_on act.EndModule p = states (statements.End (Some word_of_end.Module) p.end_name) p.values p
unit_on act.EndSubroutine p = states (statements.End (Some word_of_end.Subroutine) p.end_name) p.values p
unit_on act.EndFunction p = states (statements.End (Some word_of_end.Function) p.end_name) p.values p
unit_on act.Subroutine p = record p { statement = statements.Subroutine (named (word p.values)) p.names; names = []; values = rest p.values }
unit_on act.Function p = record p { statement = statements.Function None (named (word (rest_two p.values))) p.names p.result; names = []; values = rest_three p.values }
unit_on act.Prefixed p = record p { statement = with_prefix p.kind p.type_at p.statement }
unit_on act.Only p = record p {
  statement = statements.Using (record { name = name (word (rest_three p.values)); only = Some p.names; at = word_place (word (rest_three p.values)) });
  names = [];
  values = rest_four p.values;
}
unit_on act.All p = states (statements.Using (record { name = name (word p.values); only = None; at = word_place (word p.values) })) (rest p.values) p
unit_on act.ImplicitNone p = states statements.ImplicitNone p.values p
unit_on x p = name_on x p

unfoldable pub act_on : Action → Draft → Draft
act_on x p = unit_on x p

abbrev pub take_in : Token → Draft → Draft
take_in t p = with_values (shift t p.values) p

-- before any token
abbrev pub blank : Draft
blank = record {
  values = [];
  statement = statements.Contains;
  at = nowhere;
  names = [];
  end_name = None;
  result = None;
  kind = kinds.I4;
  type_at = nowhere;
  intent = intents.In;
  shapes = [];
  entities = [];
  ranges = [];
}

-- what a reader gives: the draft's statement, or how many tokens can begin one
abbrev pub outcome : Option ℕ → Draft → Outcome
outcome None p = outcomes.Form p.statement
outcome (Some n) p = outcomes.Syntax n
