-- What each form does to the file so far. Where the forms do not nest nothing is meant by it.
use Rattle.std.specs.Prelude.{ℕ, length, List, [], ◌∷◌, ◌++◌, Option, Some, None, option_map}
use Rattle.fort_arith.specs.declared.kind.Kind.{Kind}
use Rattle.fort_tree.specs.declared.expr.Expr.{Expr}
use Rattle.fort_tree.specs.declared.place.Place.{Place}
use Rattle.fort_tree.specs.declared.statement.Statement.{Statement, out-Statement}
use Rattle.fort_tree.specs.declared.statement.Statement.TheOpen.{Statement-F}
use Rattle.fort_tree.specs.declared.stmt.Directive.{Directive}
use Rattle.fort_tree.specs.declared.stmt.DirectiveWord.{DirectiveWord}
use Rattle.fort_tree.specs.declared.stmt.DirectiveWord.TheVariants.{Define, Parallelize, Forward, Fusion, Interchange, Hoist, EndHoist, Transform, EndTransform, Cache, OpenMpLoop, OpenAccLoop, Routine}
use Rattle.fort_tree.specs.declared.stmt.Named.{Named}
use Rattle.fort_tree.specs.declared.stmt.Stmt.{Stmt}
use Rattle.fort_tree.specs.declared.stmt.Stmt.TheVariants as tree
use Rattle.fort_tree.specs.declared.unit.Decl.{Decl}
use Rattle.fort_tree.specs.declared.unit.File.{File}
use Rattle.fort_tree.specs.declared.unit.Item.{Item}
use Rattle.fort_tree.specs.declared.unit.Item.TheVariants as item
use Rattle.fort_tree.specs.declared.unit.Module.{Module}
use Rattle.fort_tree.specs.declared.unit.Unit as unit
use Rattle.fort_tree.specs.declared.unit.Use.{Use}
use Rattle.form_nesting.specs.declared.construct.Construct.TheVariants as construct
use Rattle.form_nesting.specs.declared.construct.Heading.TheVariants as heading
use Rattle.form_nesting.specs.declared.nest.Nest.{Nest}
use Rattle.form_nesting.specs.declared.role.Role.{Role}
use Rattle.form_nesting.specs.declared.role.Role.TheVariants.{OfUnit, Before, Begins, Ends, Nowhere}
use Rattle.form_nesting.specs.declared.statements.Statements.{Statements}
use Rattle.form_nesting.specs.Statements.{begun, with_statement, within, next_arm, end_if, next_case, end_select, end_do, end_block, do_behind, call_behind, if_then, if_action, selects, simple}

abbrev pub start : Nest
start = record { file = record { modules = []; units = []; order = [] }; host = None; unit = None; statements = begun }

abbrev pub doing : Statements → Nest → Nest
doing ss n = record n { statements = ss }

abbrev pub trying : Option Statements → Nest → Option Nest
trying ss n = option_map (λ s. doing s n) ss

-- ---- Headers, and what stands behind them

-- the number of the module in which a unit stands that begins here
abbrev pub host_of : Nest → Option ℕ
host_of n = option_map (λ m. length n.file.modules) n.host

abbrev pub result_or_name : Named → Option Named → Named
result_or_name name None = name
result_or_name name (Some outcome) = outcome

abbrev pub prefix_decls : Named → Option (Kind × Place) → List Decl
prefix_decls of None = []
prefix_decls of (Some prefix) = record { name = of.name; at = prefix.1; kind = prefix.0; intent = None; shape = []; value = None } ∷ []

abbrev pub opened : Named → Nest → Nest
opened name n = record n { host = Some (record { name = name.name; at = name.at; uses = []; decls = [] }) }

abbrev pub subroutine_unit : Named → List Named → Option ℕ → unit.Unit
subroutine_unit name dummies host = record { name = name.name; at = name.at; dummies = dummies; result = None; uses = []; decls = []; marks = []; body = []; host = host }

abbrev pub subroutine : Named → List Named → Nest → Nest
subroutine name dummies n = record n { unit = Some (subroutine_unit name dummies (host_of n)) }

abbrev pub function_unit : Option (Kind × Place) → Named → List Named → Option Named → Option ℕ → unit.Unit
function_unit prefix name dummies outcome host = record {
  name = name.name;
  at = name.at;
  dummies = dummies;
  result = Some (result_or_name name outcome);
  uses = [];
  decls = prefix_decls (result_or_name name outcome) prefix;
  marks = [];
  body = [];
  host = host;
}

abbrev pub function : Option (Kind × Place) → Named → List Named → Option Named → Nest → Nest
function prefix name dummies outcome n = record n { unit = Some (function_unit prefix name dummies outcome (host_of n)) }

abbrev pub using_in : Use → Option unit.Unit → Option Module → Nest → Option Nest
using_in line (Some u) host n = Some (record n { unit = Some (record u { uses = u.uses ++ line ∷ [] }) })
using_in line None (Some m) n = Some (record n { host = Some (record m { uses = m.uses ++ line ∷ [] }) })
using_in line None None n = None

abbrev pub using_line : Use → Nest → Option Nest
using_line line n = using_in line n.unit n.host n

abbrev pub declaring_in : List Decl → Option unit.Unit → Option Module → Nest → Option Nest
declaring_in line (Some u) host n = Some (record n { unit = Some (record u { decls = u.decls ++ line }) })
declaring_in line None (Some m) n = Some (record n { host = Some (record m { decls = m.decls ++ line }) })
declaring_in line None None n = None

abbrev pub declaring : List Decl → Nest → Option Nest
declaring line n = declaring_in line n.unit n.host n

abbrev pub marking_in : Directive → Option unit.Unit → Nest → Option Nest
marking_in d (Some u) n = Some (record n { unit = Some (record u { marks = u.marks ++ d ∷ [] }) })
marking_in d None n = None

abbrev pub marking : Directive → Nest → Option Nest
marking d n = marking_in d n.unit n

-- ---- Ends

abbrev pub order_with_unit : Option ℕ → ℕ → List Item → List Item
order_with_unit None number order = order ++ item.Unit number ∷ []
order_with_unit (Some host) number order = order

abbrev pub with_unit : unit.Unit → File → File
with_unit u file = record { modules = file.modules; units = file.units ++ u ∷ []; order = order_with_unit u.host (length file.units) file.order }

abbrev pub with_module : Module → File → File
with_module m file = record { modules = file.modules ++ m ∷ []; units = file.units; order = file.order ++ item.Module (length file.modules) ∷ [] }

abbrev pub unit_ended : unit.Unit → Nest → Nest
unit_ended u n = record n { file = with_unit (record u { body = n.statements.body }) n.file; statements = record n.statements { body = [] } }

abbrev pub module_ended : Module → Nest → Nest
module_ended m n = record n { file = with_module m n.file }

abbrev pub ended_in : Option unit.Unit → Option Module → Nest → Option Nest
ended_in (Some u) host n = Some (unit_ended u (record n { unit = None }))
ended_in None (Some m) n = Some (module_ended m (record n { host = None }))
ended_in None None n = None

abbrev pub ended : Nest → Option Nest
ended n = ended_in n.unit n.host n

-- ---- Statements

abbrev pub add : Stmt → Nest → Option Nest
add s n = Some (doing (with_statement s n.statements) n)

abbrev pub act : Place → Expr → Option Stmt → Nest → Option Nest
act at test action n = option_map (λ s. doing (if_action at test s n.statements) n) action

abbrev pub say : Place → Statement-F Statement → Nest → Option Nest
say at (Statement-F.Module name) n = Some (opened name n)
say at Statement-F.Contains n = Some n
say at (Statement-F.End word name) n = ended n
say at (Statement-F.Subroutine name dummies) n = Some (subroutine name dummies n)
say at (Statement-F.Function prefix name dummies outcome) n = Some (function prefix name dummies outcome n)
say at (Statement-F.Using line) n = using_line line n
say at Statement-F.ImplicitNone n = Some n
say at (Statement-F.Declare line) n = declaring line n
say at (Statement-F.Assign left right) n = add (tree.Assign at left right) n
say at (Statement-F.Call name args) n = Some (doing (call_behind at name args n.statements) n)
say at (Statement-F.IfAction test place action) n = act at test (simple place (out-Statement action)) n
say at (Statement-F.IfThen test) n = Some (doing (if_then at test n.statements) n)
say at (Statement-F.ElseIf test) n = trying (next_arm (Some test) n.statements) n
say at Statement-F.Else n = trying (next_arm None n.statements) n
say at Statement-F.EndIf n = trying (end_if n.statements) n
say at (Statement-F.Do head) n = Some (doing (do_behind at head n.statements) n)
say at Statement-F.EndDo n = trying (end_do n.statements) n
say at Statement-F.Exit n = add (tree.Exit at) n
say at Statement-F.Cycle n = add (tree.Cycle at) n
say at Statement-F.Return n = add (tree.Return at) n
say at (Statement-F.Select on) n = Some (doing (selects at on n.statements) n)
say at Statement-F.EndSelect n = trying (end_select n.statements) n
say at (Statement-F.Case ranges) n = trying (next_case (heading.Ranges ranges) n.statements) n
say at Statement-F.CaseDefault n = trying (next_case heading.Default n.statements) n

-- ---- Directives and marks

abbrev pub role : DirectiveWord → Role
role Define = OfUnit
role Parallelize = OfUnit
role Routine = OfUnit
role Forward = Before
role Fusion = Before
role Interchange = Before
role Cache = Before
role OpenMpLoop = Before
role OpenAccLoop = Before
role Hoist = Begins
role Transform = Begins
role EndHoist = Ends
role EndTransform = Ends
role other = Nowhere

abbrev pub directed : Role → Directive → Nest → Option Nest
directed OfUnit d n = marking d n
directed Before d n = Some (doing (record n.statements { waiting = Some d }) n)
directed Begins d n = Some (doing (within (construct.Block d) n.statements) n)
directed Ends d n = trying (end_block n.statements) n
directed Nowhere d n = None

abbrev pub direct : Directive → Nest → Option Nest
direct d n = directed (role d.word) d n
