-- The plain tree of a value of the syntax tree: its places are left out, a list is its items, and a box is what it holds.
use Rattle.std.specs.Prelude.{ℕ, List, [], ◌∷◌, map, Option, Some, None}
use Rattle.std.specs.Option.{option_map}
use Rattle.fort_tree.specs.declared.expr.Expr.{Expr}
use Rattle.fort_tree.specs.declared.expr.Expr.TheOpen.{Expr-F, Sub-F}
use Rattle.fort_tree.specs.declared.expr.Expr.TheFolds.{fold-Expr, fold-Sub}
use Rattle.fort_tree.specs.declared.expr.Sub.{Sub}
use Rattle.fort_tree.specs.declared.stmt.Stmt.{Stmt}
use Rattle.fort_tree.specs.declared.stmt.Stmt.TheOpen.{Stmt-F, Arm-F, Case-F}
use Rattle.fort_tree.specs.declared.stmt.Stmt.TheFolds.{fold-Stmt}
use Rattle.fort_tree.specs.declared.stmt.Head.{Head}
use Rattle.fort_tree.specs.declared.stmt.Range.{Range}
use Rattle.fort_tree.specs.declared.stmt.Range.TheVariants as range
use Rattle.fort_tree.specs.declared.stmt.Directive.{Directive}
use Rattle.fort_tree.specs.declared.unit.Bound.{Bound}
use Rattle.fort_tree.specs.declared.unit.Decl.{Decl}
use Rattle.fort_tree.specs.declared.unit.Use.{Use}
use Rattle.fort_tree.specs.declared.unit.Unit as unit
use Rattle.fort_tree.specs.declared.unit.Module as host
use Rattle.fort_tree.specs.declared.unit.Item.{Item}
use Rattle.fort_tree.specs.declared.unit.Item.TheVariants as item
use Rattle.fort_tree.specs.declared.unit.File.{File}
use Rattle.claw_meaning.specs.Syntax as plain

-- Expressions

abbrev pub limit : Option plain.Expr → plain.Limit
limit None = plain.Unbounded
limit (Some e) = plain.Bounded e

-- a subscript before others
abbrev pub Before : Type 0
Before = plain.Subscripts → plain.Subscripts

abbrev pub chained : List Before → plain.Subscripts
chained [] = plain.No_more
chained (first ∷ rest) = first (chained rest)

abbrev pub referred : List ℕ → Option (List Before) → plain.Expr
referred name None = plain.Name name
referred name (Some subs) = plain.Reference name (chained subs)

abbrev pub expr_step : Expr-F plain.Expr Before → plain.Expr
expr_step (Expr-F.Number n kind at) = plain.Numeral n kind
expr_step (Expr-F.Truth b at) = plain.Boolean b
expr_step (Expr-F.Ref name subs at) = referred name subs
expr_step (Expr-F.«Expr::One» sign e at) = plain.Signed sign e
expr_step (Expr-F.Two op a b) = plain.Binary op a b
expr_step (Expr-F.Paren e at) = plain.Paren e

abbrev pub sub_step : Sub-F plain.Expr Before → Before
sub_step (Sub-F.«Sub::One» e) rest = plain.At e rest
sub_step (Sub-F.Range from to at) rest = plain.Section (limit from) (limit to) rest

abbrev pub plain_expr : Expr → plain.Expr
plain_expr = fold-Expr plain.Expr Before expr_step sub_step

abbrev pub plain_sub : Sub → Before
plain_sub = fold-Sub plain.Expr Before expr_step sub_step

abbrev pub plain_subs : List Sub → plain.Subscripts
plain_subs subs = chained (map plain_sub subs)

-- Statements

abbrev pub plain_names : List (List ℕ) → List plain.Text
plain_names names = names

abbrev pub plain_option : Option Expr → Option plain.Expr
plain_option e = option_map plain_expr e

abbrev pub plain_head : Head → plain.Head
plain_head h = record { variable = h.var; from = plain_expr h.from; to = plain_expr h.to; step = plain_option h.step }

abbrev pub plain_range : Range → plain.Range
plain_range (range.One e) = plain.Single (plain_expr e)
plain_range (range.Span lower upper) = plain.Span (plain_option lower) (plain_option upper)

abbrev pub plain_directive : Directive → plain.Directive
plain_directive d = record {
  word = d.word;
  names = d.names;
  over = d.over;
  number = d.number;
  group = d.group;
  init = d.init;
  lower = plain_option d.lower;
  upper = plain_option d.upper;
}

abbrev pub in_a_row : List plain.Stmt → plain.Stmts
in_a_row [] = plain.Done
in_a_row (s ∷ rest) = plain.Then s (in_a_row rest)

abbrev pub arms_of : List (plain.Arms → plain.Arms) → plain.Arms
arms_of [] = plain.No_arm
arms_of (first ∷ rest) = first (arms_of rest)

abbrev pub cases_of : List (plain.Cases → plain.Cases) → plain.Cases
cases_of [] = plain.No_case
cases_of (first ∷ rest) = first (cases_of rest)

abbrev pub otherwise : Option (List plain.Stmt) → plain.Otherwise
otherwise None = plain.Nothing_else
otherwise (Some body) = plain.Else (in_a_row body)

abbrev pub stmt_step : Stmt-F plain.Stmt (plain.Arms → plain.Arms) (plain.Cases → plain.Cases) → plain.Stmt
stmt_step (Stmt-F.Assign at left right) = plain.Assign (plain_expr left) (plain_expr right)
stmt_step (Stmt-F.Call at name args forward) = plain.Call name.name (plain_subs args) forward
stmt_step (Stmt-F.If at arms other) = plain.If (arms_of arms) (otherwise other)
stmt_step (Stmt-F.Select at on arms other) = plain.Select (plain_expr on) (cases_of arms) (otherwise other)
stmt_step (Stmt-F.Loop at head body mark) = plain.Do (plain_head head) (in_a_row body) (option_map plain_directive mark)
stmt_step (Stmt-F.Block at mark body) = plain.Block (plain_directive mark) (in_a_row body)
stmt_step (Stmt-F.Piece body) = plain.Piece (in_a_row body)
stmt_step (Stmt-F.Exit at) = plain.Exit
stmt_step (Stmt-F.Cycle at) = plain.Cycle
stmt_step (Stmt-F.Return at) = plain.Return

abbrev pub arm_step : Arm-F plain.Stmt (plain.Arms → plain.Arms) (plain.Cases → plain.Cases) → plain.Arms → plain.Arms
arm_step arm rest = plain.Arm (plain_expr arm.test) (in_a_row arm.body) rest

abbrev pub case_step : Case-F plain.Stmt (plain.Arms → plain.Arms) (plain.Cases → plain.Cases) → plain.Cases → plain.Cases
case_step case rest = plain.Case (map plain_range case.ranges) (in_a_row case.body) rest

abbrev pub plain_stmt : Stmt → plain.Stmt
plain_stmt = fold-Stmt plain.Stmt (plain.Arms → plain.Arms) (plain.Cases → plain.Cases) stmt_step arm_step case_step

abbrev pub plain_stmts : List Stmt → plain.Stmts
plain_stmts body = in_a_row (map plain_stmt body)

-- Units

abbrev pub plain_bound : Bound → plain.Dimension
plain_bound b = record { lower = plain_option b.lower; upper = plain_option b.upper }

abbrev pub plain_decl : Decl → plain.Decl
plain_decl d = record { name = d.name; kind = d.kind; intent = d.intent; shape = map plain_bound d.shape; value = plain_option d.value }

abbrev pub plain_use : Use → plain.Use
plain_use u = record { name = u.name; only = option_map (map (λ n. n.name)) u.only }

abbrev pub plain_unit : unit.Unit → plain.Unit
plain_unit u = record {
  name = u.name;
  dummies = map (λ d. d.name) u.dummies;
  result = option_map (λ r. r.name) u.result;
  uses = map plain_use u.uses;
  decls = map plain_decl u.decls;
  marks = map plain_directive u.marks;
  body = plain_stmts u.body;
  host = u.host;
}

abbrev pub plain_module : host.Module → plain.Module
plain_module m = record { name = m.name; uses = map plain_use m.uses; decls = map plain_decl m.decls }

abbrev pub plain_item : Item → plain.Item
plain_item (item.Module n) = plain.A_module n
plain_item (item.Unit n) = plain.A_unit n

abbrev pub plain_file : File → plain.Program
plain_file f = record { modules = map plain_module f.modules; units = map plain_unit f.units; order = map plain_item f.order }
