-- The value of the syntax tree that a placed tree is: the way back. Small programs are given as placed trees, on which faults
-- are computed, and are files by this.
use Rattle.std.specs.Prelude.{List, [], ◌∷◌, map, Option, Some, None}
use Rattle.fort_tree.specs.declared.expr.Expr as tree_expr
use Rattle.fort_tree.specs.declared.expr.Expr.TheVariants as expr
use Rattle.fort_tree.specs.declared.expr.Sub as tree_sub
use Rattle.fort_tree.specs.declared.expr.Sub.TheVariants as sub
use Rattle.fort_tree.specs.declared.stmt.Arm as tree_arm
use Rattle.fort_tree.specs.declared.stmt.Case as tree_case
use Rattle.fort_tree.specs.declared.stmt.Stmt as tree_stmt
use Rattle.fort_tree.specs.declared.stmt.Stmt.TheVariants as stmt
use Rattle.fort_tree.specs.declared.stmt.Head as tree_head
use Rattle.fort_tree.specs.declared.stmt.Range as tree_range
use Rattle.fort_tree.specs.declared.stmt.Range.TheVariants as range
use Rattle.fort_tree.specs.declared.stmt.Directive as tree_directive
use Rattle.fort_tree.specs.declared.unit.Bound.{Bound}
use Rattle.fort_tree.specs.declared.unit.Decl as tree_decl
use Rattle.fort_tree.specs.declared.unit.Unit as tree_unit
use Rattle.fort_tree.specs.declared.unit.Module as tree_module
use Rattle.fort_tree.specs.declared.unit.File.{File}
use Rattle.sound_programs.specs.Nesting.{arm, case}
use Rattle.sound_programs.specs.Placed.{Expr, Numeral, Boolean, Name, Reference, Signed, Binary, Paren, Subscripts, No_more, One, Section, Limit, Unbounded, Bounded, Dimension, Decl, Directive, Head, Range, Single, Span, Stmt, Assign, Call, If, Select, Do, Block, Piece, Exit, Cycle, Return, Stmts, Done, Then, Arms, No_arm, Arm, Cases, No_case, Case, Otherwise, Nothing_else, Else, Unit, Module, Program}

abbrev mutual
  pub written : Expr → tree_expr.Expr
  written (Numeral n kind at) = expr.Number n kind at
  written (Boolean b at) = expr.Truth b at
  written (Name x at) = expr.Ref x None at
  written (Reference x subs at) = expr.Ref x (Some (written_subs subs)) at
  written (Signed sign e at) = expr.One sign (written e) at
  written (Binary op a b) = expr.Two op (written a) (written b)
  written (Paren e at) = expr.Paren (written e) at

  pub written_subs : Subscripts → List tree_sub.Sub
  written_subs No_more = []
  written_subs (One e rest) = sub.One (written e) ∷ written_subs rest
  written_subs (Section lower upper at rest) = sub.Range (written_limit lower) (written_limit upper) at ∷ written_subs rest

  pub written_limit : Limit → Option tree_expr.Expr
  written_limit Unbounded = None
  written_limit (Bounded e) = Some (written e)

abbrev pub written_option : Option Expr → Option tree_expr.Expr
written_option None = None
written_option (Some e) = Some (written e)

abbrev pub written_head : Head → tree_head.Head
written_head h = record { var = h.variable; at = h.at; from = written h.from; to = written h.to; step = written_option h.step }

abbrev pub written_range : Range → tree_range.Range
written_range (Single e) = range.One (written e)
written_range (Span lower upper) = range.Span (written_option lower) (written_option upper)

abbrev pub written_directive : Directive → tree_directive.Directive
written_directive d = record {
  at = d.at;
  word = d.word;
  names = d.names;
  over = d.over;
  number = d.number;
  group = d.group;
  init = d.init;
  lower = written_option d.lower;
  upper = written_option d.upper;
}

abbrev pub written_mark : Option Directive → Option tree_directive.Directive
written_mark None = None
written_mark (Some d) = Some (written_directive d)

abbrev mutual
  pub written_stmt : Stmt → tree_stmt.Stmt
  written_stmt (Assign at left right) = stmt.Assign at (written left) (written right)
  written_stmt (Call at name args forward) = stmt.Call at name (written_subs args) forward
  written_stmt (If at arms other) = stmt.If at (written_arms arms) (written_otherwise other)
  written_stmt (Select at on cases other) = stmt.Select at (written on) (written_cases cases) (written_otherwise other)
  written_stmt (Do at head body mark) = stmt.Loop at (written_head head) (written_stmts body) (written_mark mark)
  written_stmt (Block at mark body) = stmt.Block at (written_directive mark) (written_stmts body)
  written_stmt (Piece body) = stmt.Piece (written_stmts body)
  written_stmt (Exit at) = stmt.Exit at
  written_stmt (Cycle at) = stmt.Cycle at
  written_stmt (Return at) = stmt.Return at

  pub written_stmts : Stmts → List tree_stmt.Stmt
  written_stmts Done = []
  written_stmts (Then s rest) = written_stmt s ∷ written_stmts rest

  pub written_arms : Arms → List tree_arm.Arm
  written_arms No_arm = []
  written_arms (Arm test body rest) = arm (written test) (written_stmts body) ∷ written_arms rest

  pub written_cases : Cases → List tree_case.Case
  written_cases No_case = []
  written_cases (Case ranges body rest) = case (map written_range ranges) (written_stmts body) ∷ written_cases rest

  pub written_otherwise : Otherwise → Option (List tree_stmt.Stmt)
  written_otherwise Nothing_else = None
  written_otherwise (Else body) = Some (written_stmts body)

abbrev pub written_dimension : Dimension → Bound
written_dimension d = record { lower = written_option d.lower; upper = written_option d.upper }

abbrev pub written_decl : Decl → tree_decl.Decl
written_decl d = record { name = d.name; at = d.at; kind = d.kind; intent = d.intent; shape = map written_dimension d.shape; value = written_option d.value }

abbrev pub written_unit : Unit → tree_unit.Unit
written_unit u = record {
  name = u.name;
  at = u.at;
  dummies = u.dummies;
  result = u.result;
  uses = u.uses;
  decls = map written_decl u.decls;
  marks = map written_directive u.marks;
  body = written_stmts u.body;
  host = u.host;
}

abbrev pub written_module : Module → tree_module.Module
written_module m = record { name = m.name; at = m.at; uses = m.uses; decls = map written_decl m.decls }

-- the file that a placed program is
abbrev pub file_of : Program → File
file_of p = record { modules = map written_module p.modules; units = map written_unit p.units; order = p.order }
