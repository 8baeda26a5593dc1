-- The placed tree of a value of the syntax tree: a list is its items, and a box is what it holds.
use Rattle.std.specs.Prelude.{ℕ, List, [], ◌∷◌, map, Option, Some, None}
use Rattle.std.specs.Option.{option_map}
use Rattle.fort_tree.specs.declared.expr.Expr as tree_expr
use Rattle.fort_tree.specs.declared.expr.Expr.TheOpen.{Expr-F, Sub-F}
use Rattle.fort_tree.specs.declared.expr.Expr.TheFolds.{fold-Expr, fold-Sub}
use Rattle.fort_tree.specs.declared.expr.Sub as tree_sub
use Rattle.fort_tree.specs.declared.place.Place.{Place}
use Rattle.fort_tree.specs.declared.stmt.Stmt as tree_stmt
use Rattle.fort_tree.specs.declared.stmt.Stmt.TheOpen.{Stmt-F, Arm-F, Case-F}
use Rattle.fort_tree.specs.declared.stmt.Stmt.TheFolds.{fold-Stmt}
use Rattle.fort_tree.specs.declared.stmt.Head as tree_head
use Rattle.fort_tree.specs.declared.stmt.Range as tree_range
use Rattle.fort_tree.specs.declared.stmt.Range.TheVariants as range
use Rattle.fort_tree.specs.declared.stmt.Directive as tree_directive
use Rattle.fort_tree.specs.declared.unit.Bound.{Bound}
use Rattle.fort_tree.specs.declared.unit.Decl as tree_decl
use Rattle.fort_tree.specs.declared.unit.Unit as tree_unit
use Rattle.fort_tree.specs.declared.unit.Module as tree_module
use Rattle.fort_tree.specs.declared.unit.File.{File}
use Rattle.sound_programs.specs.Placed.{Expr, Numeral, Boolean, Name, Reference, Signed, Binary, Paren, Subscripts, No_more, One, Section, Limit, Unbounded, Bounded, Dimension, Decl, Directive, Head, Range, Single, Span, Stmt, Assign, Call, If, Select, Do, Block, Piece, Exit, Cycle, Return, Stmts, Done, Then, Arms, No_arm, Arm, Cases, No_case, Case, Otherwise, Nothing_else, Else, Unit, Module, Program}

-- Expressions

abbrev pub limit : Option Expr → Limit
limit None = Unbounded
limit (Some e) = Bounded e

-- a subscript before others
abbrev pub Before : Type 0
Before = Subscripts → Subscripts

abbrev pub chained : List Before → Subscripts
chained [] = No_more
chained (next ∷ rest) = next (chained rest)

abbrev pub referred : List ℕ → Option (List Before) → Place → Expr
referred name None at = Name name at
referred name (Some subs) at = Reference name (chained subs) at

abbrev pub expr_step : Expr-F Expr Before → Expr
expr_step (Expr-F.Number n kind at) = Numeral n kind at
expr_step (Expr-F.Truth b at) = Boolean b at
expr_step (Expr-F.Ref name subs at) = referred name subs at
expr_step (Expr-F.«Expr::One» sign e at) = Signed sign e at
expr_step (Expr-F.Two op a b) = Binary op a b
expr_step (Expr-F.Paren e at) = Paren e at

abbrev pub sub_step : Sub-F Expr Before → Before
sub_step (Sub-F.«Sub::One» e) rest = One e rest
sub_step (Sub-F.Range from to at) rest = Section (limit from) (limit to) at rest

abbrev pub placed_expr : tree_expr.Expr → Expr
placed_expr = fold-Expr Expr Before expr_step sub_step

abbrev pub placed_sub : tree_sub.Sub → Before
placed_sub = fold-Sub Expr Before expr_step sub_step

abbrev pub placed_subs : List tree_sub.Sub → Subscripts
placed_subs subs = chained (map placed_sub subs)

abbrev pub placed_option : Option tree_expr.Expr → Option Expr
placed_option e = option_map placed_expr e

-- Statements

abbrev pub placed_head : tree_head.Head → Head
placed_head h = record { variable = h.var; at = h.at; from = placed_expr h.from; to = placed_expr h.to; step = placed_option h.step }

abbrev pub placed_range : tree_range.Range → Range
placed_range (range.One e) = Single (placed_expr e)
placed_range (range.Span lower upper) = Span (placed_option lower) (placed_option upper)

abbrev pub placed_directive : tree_directive.Directive → Directive
placed_directive d = record {
  at = d.at;
  word = d.word;
  names = d.names;
  over = d.over;
  number = d.number;
  group = d.group;
  init = d.init;
  lower = placed_option d.lower;
  upper = placed_option d.upper;
}

abbrev pub in_a_row : List Stmt → Stmts
in_a_row [] = Done
in_a_row (s ∷ rest) = Then s (in_a_row rest)

abbrev pub arms_of : List (Arms → Arms) → Arms
arms_of [] = No_arm
arms_of (next ∷ rest) = next (arms_of rest)

abbrev pub cases_of : List (Cases → Cases) → Cases
cases_of [] = No_case
cases_of (next ∷ rest) = next (cases_of rest)

abbrev pub otherwise : Option (List Stmt) → Otherwise
otherwise None = Nothing_else
otherwise (Some body) = Else (in_a_row body)

abbrev pub stmt_step : Stmt-F Stmt (Arms → Arms) (Cases → Cases) → Stmt
stmt_step (Stmt-F.Assign at left right) = Assign at (placed_expr left) (placed_expr right)
stmt_step (Stmt-F.Call at name args forward) = Call at name (placed_subs args) forward
stmt_step (Stmt-F.If at arms other) = If at (arms_of arms) (otherwise other)
stmt_step (Stmt-F.Select at on arms other) = Select at (placed_expr on) (cases_of arms) (otherwise other)
stmt_step (Stmt-F.Loop at head body mark) = Do at (placed_head head) (in_a_row body) (option_map placed_directive mark)
stmt_step (Stmt-F.Block at mark body) = Block at (placed_directive mark) (in_a_row body)
stmt_step (Stmt-F.Piece body) = Piece (in_a_row body)
stmt_step (Stmt-F.Exit at) = Exit at
stmt_step (Stmt-F.Cycle at) = Cycle at
stmt_step (Stmt-F.Return at) = Return at

abbrev pub arm_step : Arm-F Stmt (Arms → Arms) (Cases → Cases) → Arms → Arms
arm_step arm rest = Arm (placed_expr arm.test) (in_a_row arm.body) rest

abbrev pub case_step : Case-F Stmt (Arms → Arms) (Cases → Cases) → Cases → Cases
case_step case rest = Case (map placed_range case.ranges) (in_a_row case.body) rest

abbrev pub placed_stmt : tree_stmt.Stmt → Stmt
placed_stmt = fold-Stmt Stmt (Arms → Arms) (Cases → Cases) stmt_step arm_step case_step

abbrev pub placed_stmts : List tree_stmt.Stmt → Stmts
placed_stmts body = in_a_row (map placed_stmt body)

-- Units

abbrev pub placed_bound : Bound → Dimension
placed_bound b = record { lower = placed_option b.lower; upper = placed_option b.upper }

abbrev pub placed_decl : tree_decl.Decl → Decl
placed_decl d = record { name = d.name; at = d.at; kind = d.kind; intent = d.intent; shape = map placed_bound d.shape; value = placed_option d.value }

abbrev pub placed_unit : tree_unit.Unit → Unit
placed_unit u = record {
  name = u.name;
  at = u.at;
  dummies = u.dummies;
  result = u.result;
  uses = u.uses;
  decls = map placed_decl u.decls;
  marks = map placed_directive u.marks;
  body = placed_stmts u.body;
  host = u.host;
}

abbrev pub placed_module : tree_module.Module → Module
placed_module m = record { name = m.name; at = m.at; uses = m.uses; decls = map placed_decl m.decls }

-- the program of a file, with its places
abbrev pub placed : File → Program
placed f = record { modules = map placed_module f.modules; units = map placed_unit f.units; order = f.order }
