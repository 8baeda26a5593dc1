-- What stands in the statements of a unit, in the order of the text: its steps, each with the variables of the DOs around
-- it; the expressions in a step; the names in an expression; references to units with their actual arguments.
use Rattle.std.specs.Prelude.{ℕ, suc, List, [], ◌∷◌, ◌++◌, map, Option, Some, None, Bool, true, false, ◌&&◌, is_none, flat_map, if◌then◌else◌}
use Rattle.std.specs.List.{filter}
use Rattle.std.specs.Option.{option_to_list}
use Rattle.fort_tree.specs.declared.place.Place.{Place}
use Rattle.fort_tree.specs.declared.stmt.Named.{Named}
use Rattle.fort_tree.specs.declared.stmt.DirectiveWord.{DirectiveWord}
use Rattle.fort_tree.specs.declared.stmt.DirectiveWord.TheVariants.{OpenMpLoop, OpenAccLoop}
use Rattle.fort_tree.specs.Intrinsic.{intrinsic_named}
use Rattle.claw_meaning.specs.Syntax as plain
use Rattle.claw_meaning.specs.Syntax.{Text}
use Rattle.claw_meaning.specs.Scope.{Entity, decl_named}
use Rattle.sound_programs.specs.Scopes.{is_function, unit_of, is_written_intent}
use Rattle.sound_programs.specs.Placed.{Expr, Numeral, Boolean, Name, Reference, Signed, Binary, Paren, Subscripts, No_more, One, Section, Limit, Unbounded, Bounded, Dimension, Decl, Directive, Head, Range, Single, Span, Stmt, Assign, Call, If, Select, Do, Block, Piece, Exit, Cycle, Return, Stmts, Done, Then, Arms, No_arm, Arm, Cases, No_case, Case, Otherwise, Nothing_else, Else, Unit, first}

-- Steps: what a statement does by itself, the statements inside it set aside

pub data Step : Type 0 where
  Assigns : Expr → Expr → Step  -- the left side, the right side
  Calls : Named → Subscripts → Step
  Tests : Expr → Step  -- the test of an IF or ELSE IF
  Chooses : Expr → List Range → Step  -- the expression of a SELECT, and the ranges of all its cases
  Repeats : Head → Option Directive → Step  -- the head of a DO, and the directive or mark before it

-- a step, and the variables of the DOs in whose bodies it stands, the innermost first
pub record Stands : Type 0 where
  pub loops : List Text
  pub step : Step

abbrev pub stands : List Text → Step → Stands
stands loops step = record { loops = loops; step = step }

abbrev pub ranges_of : Cases → List Range
ranges_of No_case = []
ranges_of (Case ranges body rest) = ranges ++ ranges_of rest

abbrev mutual
  pub steps : List Text → Stmt → List Stands
  steps loops (Assign at left right) = stands loops (Assigns left right) ∷ []
  steps loops (Call at name args forward) = stands loops (Calls name args) ∷ []
  steps loops (If at arms other) = steps_in_arms loops arms ++ steps_in_otherwise loops other
  steps loops (Select at on cases other) = stands loops (Chooses on (ranges_of cases)) ∷ (steps_in_cases loops cases ++ steps_in_otherwise loops other)
  steps loops (Do at head body mark) = stands loops (Repeats head mark) ∷ steps_in (head.variable ∷ loops) body
  steps loops (Block at mark body) = steps_in loops body
  steps loops (Piece body) = steps_in loops body
  steps loops (Exit at) = []
  steps loops (Cycle at) = []
  steps loops (Return at) = []

  pub steps_in : List Text → Stmts → List Stands
  steps_in loops Done = []
  steps_in loops (Then s rest) = steps loops s ++ steps_in loops rest

  pub steps_in_arms : List Text → Arms → List Stands
  steps_in_arms loops No_arm = []
  steps_in_arms loops (Arm test body rest) = stands loops (Tests test) ∷ (steps_in loops body ++ steps_in_arms loops rest)

  pub steps_in_cases : List Text → Cases → List Stands
  steps_in_cases loops No_case = []
  steps_in_cases loops (Case ranges body rest) = steps_in loops body ++ steps_in_cases loops rest

  pub steps_in_otherwise : List Text → Otherwise → List Stands
  steps_in_otherwise loops Nothing_else = []
  steps_in_otherwise loops (Else body) = steps_in loops body

-- the steps of a unit
abbrev pub steps_of : Unit → List Stands
steps_of u = steps_in [] u.body

-- Expressions

abbrev pub in_limit : Limit → List Expr
in_limit Unbounded = []
in_limit (Bounded e) = e ∷ []

-- the whole expressions in subscripts or arguments, bounds of sections among them
abbrev pub in_subscripts : Subscripts → List Expr
in_subscripts No_more = []
in_subscripts (One e rest) = e ∷ in_subscripts rest
in_subscripts (Section lower upper at rest) = in_limit lower ++ (in_limit upper ++ in_subscripts rest)

-- the bounds of the sections in subscripts or arguments
abbrev pub section_bounds : Subscripts → List Expr
section_bounds No_more = []
section_bounds (One e rest) = section_bounds rest
section_bounds (Section lower upper at rest) = in_limit lower ++ (in_limit upper ++ section_bounds rest)

-- the subscripts or arguments that are no sections
abbrev pub single_subscripts : Subscripts → List Expr
single_subscripts No_more = []
single_subscripts (One e rest) = e ∷ single_subscripts rest
single_subscripts (Section lower upper at rest) = single_subscripts rest

-- the places of the sections
abbrev pub section_places : Subscripts → List Place
section_places No_more = []
section_places (One e rest) = section_places rest
section_places (Section lower upper at rest) = at ∷ section_places rest

abbrev pub count_of : Subscripts → ℕ
count_of No_more = 0
count_of (One e rest) = suc (count_of rest)
count_of (Section lower upper at rest) = suc (count_of rest)

-- what stands in parentheses behind the name of a left side
abbrev pub beside : Expr → List Expr
beside (Reference x subs at) = in_subscripts subs
beside other = []

abbrev pub in_range : Range → List Expr
in_range (Single e) = e ∷ []
in_range (Span lower upper) = option_to_list lower ++ option_to_list upper

abbrev pub in_head : Head → List Expr
in_head h = h.from ∷ (h.to ∷ option_to_list h.step)

-- the whole expressions that a step reads
abbrev pub read_by : Step → List Expr
read_by (Assigns left right) = beside left ++ right ∷ []
read_by (Calls name args) = in_subscripts args
read_by (Tests e) = e ∷ []
read_by (Chooses e ranges) = e ∷ flat_map in_range ranges
read_by (Repeats head mark) = in_head head

-- the left side of an assignment
abbrev pub left_of : Step → List Expr
left_of (Assigns left right) = left ∷ []
left_of (Calls name args) = []
left_of (Tests e) = []
left_of (Chooses e ranges) = []
left_of (Repeats head mark) = []

-- an expression and all its parts
abbrev mutual
  pub parts : Expr → List Expr
  parts (Numeral n kind at) = Numeral n kind at ∷ []
  parts (Boolean b at) = Boolean b at ∷ []
  parts (Name x at) = Name x at ∷ []
  parts (Reference x subs at) = Reference x subs at ∷ parts_in subs
  parts (Signed sign e at) = Signed sign e at ∷ parts e
  parts (Binary op a b) = Binary op a b ∷ (parts a ++ parts b)
  parts (Paren e at) = Paren e at ∷ parts e

  pub parts_in : Subscripts → List Expr
  parts_in No_more = []
  parts_in (One e rest) = parts e ++ parts_in rest
  parts_in (Section lower upper at rest) = parts_in_limit lower ++ (parts_in_limit upper ++ parts_in rest)

  pub parts_in_limit : Limit → List Expr
  parts_in_limit Unbounded = []
  parts_in_limit (Bounded e) = parts e

-- all that a step reads, part by part
abbrev pub parts_read : Step → List Expr
parts_read step = flat_map parts (read_by step)

-- the left side too
abbrev pub parts_of : Step → List Expr
parts_of step = left_of step ++ parts_read step

-- Names

abbrev pub named : Text → Place → Named
named x at = record { name = x; at = at }

-- the name that an expression is or refers to
abbrev pub name_in : Expr → List Named
name_in (Name x at) = named x at ∷ []
name_in (Reference x subs at) = named x at ∷ []
name_in other = []

-- a bare name
abbrev pub bare_name : Expr → List Named
bare_name (Name x at) = named x at ∷ []
bare_name other = []

-- a name with parentheses
abbrev pub name_before_parenthesis : Expr → List Named
name_before_parenthesis (Reference x subs at) = named x at ∷ []
name_before_parenthesis other = []

abbrev pub call_name : Step → List Named
call_name (Assigns left right) = []
call_name (Calls name args) = name ∷ []
call_name (Tests e) = []
call_name (Chooses e ranges) = []
call_name (Repeats head mark) = []

-- the variable of a DO, at its head
abbrev pub loop_variable : Step → List Named
loop_variable (Assigns left right) = []
loop_variable (Calls name args) = []
loop_variable (Tests e) = []
loop_variable (Chooses e ranges) = []
loop_variable (Repeats head mark) = named head.variable head.at ∷ []

-- the marks before a loop that have a private list
abbrev pub has_private_list : DirectiveWord → Bool
has_private_list OpenMpLoop = true
has_private_list OpenAccLoop = true
has_private_list other = false

abbrev pub names_of_mark : Option Directive → List Named
names_of_mark None = []
names_of_mark (Some d) = if has_private_list d.word then map (λ x. named x d.at) d.names else []

-- the names of a private list, each at the sentinel of its mark; a directive's names are no private list
abbrev pub private_names : Step → List Named
private_names (Assigns left right) = []
private_names (Calls name args) = []
private_names (Tests e) = []
private_names (Chooses e ranges) = []
private_names (Repeats head mark) = names_of_mark mark

-- the names in a step but for a DO's variable at its head and private lists
abbrev pub names_in : Step → List Named
names_in step = call_name step ++ flat_map name_in (parts_of step)

-- Bounds of declarations

abbrev pub bounds_of : Dimension → List Expr
bounds_of d = option_to_list d.lower ++ option_to_list d.upper

abbrev pub bounds_in : List Decl → List Expr
bounds_in decls = flat_map (λ d. flat_map bounds_of d.shape) decls

-- References to units

-- a CALL, or a reference to a function
pub record Site : Type 0 where
  pub name : Named
  pub args : Subscripts

abbrev pub site : Text → Place → Subscripts → Site
site x at args = record { name = named x at; args = args }

-- a reference with parentheses
abbrev pub reference : Expr → List Site
reference (Reference x subs at) = site x at subs ∷ []
reference other = []

abbrev pub call_site : Step → List Site
call_site (Assigns left right) = []
call_site (Calls name args) = record { name = name; args = args } ∷ []
call_site (Tests e) = []
call_site (Chooses e ranges) = []
call_site (Repeats head mark) = []

module _ (entity : Text → Entity) where
  -- the name is no intrinsic and is a function
  abbrev pub is_function_site : Site → Bool
  is_function_site s = is_none (intrinsic_named s.name.name) && is_function (entity s.name.name)

  -- the references to units in a step: its CALL, and those to functions
  abbrev pub sites : Step → List Site
  sites step = call_site step ++ filter is_function_site (flat_map reference (parts_read step))

-- An actual argument and its dummy's declaration, by position. A range by itself is no expression.
pub record Actual : Type 0 where
  pub expr : Option Expr
  pub at : Place
  pub dummy : Option plain.Decl

abbrev pub actual : Option Expr → Place → Option plain.Decl → Actual
actual expr at dummy = record { expr = expr; at = at; dummy = dummy }

abbrev pub matched : List Text → List plain.Decl → Subscripts → List Actual
matched [] decls args = []
matched (x ∷ xs) decls No_more = []
matched (x ∷ xs) decls (One e rest) = actual (Some e) (first e) (decl_named decls x) ∷ matched xs decls rest
matched (x ∷ xs) decls (Section lower upper at rest) = actual None at (decl_named decls x) ∷ matched xs decls rest

abbrev pub actuals_of : Option plain.Unit → Subscripts → List Actual
actuals_of None args = []
actuals_of (Some v) args = matched v.dummies v.decls args

abbrev pub is_written_decl : Option plain.Decl → Bool
is_written_decl None = false
is_written_decl (Some d) = is_written_intent d.intent

-- for an OUT or INOUT dummy
abbrev pub is_written : Actual → Bool
is_written a = is_written_decl a.dummy

-- the reference that an actual is
abbrev pub name_of_actual : Option Expr → List Named
name_of_actual None = []
name_of_actual (Some e) = name_in e

-- the actuals of a site, whose name is this unit
abbrev pub actuals : (Text → Entity) → Site → List Actual
actuals entity s = actuals_of (unit_of (entity s.name.name)) s.args
