-- The tree of a program with its places, as the plain tree of its meaning has none. A list is its items, and a box is what
-- it holds. The faults of a program are defined on it, and a plain tree is what is left when the places are forgotten.
use Rattle.std.specs.Prelude.{ℕ, List, map, Option, Bool}
use Rattle.std.specs.Option.{option_map}
use Rattle.fort_arith.specs.declared.kind.Kind.{Kind}
use Rattle.fort_arith.specs.declared.op.Op.{Op}
use Rattle.fort_tree.specs.declared.place.Place.{Place}
use Rattle.fort_tree.specs.declared.expr.Unary.{Unary}
use Rattle.fort_tree.specs.declared.stmt.Named.{Named}
use Rattle.fort_tree.specs.declared.stmt.DirectiveWord.{DirectiveWord}
use Rattle.fort_tree.specs.declared.unit.Intent.{Intent}
use Rattle.fort_tree.specs.declared.unit.Use.{Use}
use Rattle.fort_tree.specs.declared.unit.Item.{Item}
use Rattle.fort_tree.specs.declared.unit.Item.TheVariants as item
use Rattle.claw_meaning.specs.Syntax as plain
use Rattle.claw_meaning.specs.Syntax.{Text}

mutual
  pub data Expr : Type 0 where
    Numeral : ℕ → Option Kind → Place → Expr
    Boolean : Bool → Place → Expr
    Name : Text → Place → Expr
    Reference : Text → Subscripts → Place → Expr
    Signed : Unary → Expr → Place → Expr
    Binary : Op → Expr → Expr → Expr
    Paren : Expr → Place → Expr

  -- subscripts of an element or a section, or the arguments of a reference or a CALL; the place of a section is that of its
  -- first token
  pub data Subscripts : Type 0 where
    No_more : Subscripts
    One : Expr → Subscripts → Subscripts
    Section : Limit → Limit → Place → Subscripts → Subscripts

  pub data Limit : Type 0 where
    Unbounded : Limit
    Bounded : Expr → Limit

pub record Dimension : Type 0 where
  pub lower : Option Expr
  pub upper : Option Expr

pub record Decl : Type 0 where
  pub name : Text
  pub at : Place
  pub kind : Kind
  pub intent : Option Intent
  pub shape : List Dimension
  pub value : Option Expr  -- of a PARAMETER alone

pub record Directive : Type 0 where
  pub at : Place
  pub word : DirectiveWord
  pub names : List Text
  pub over : Option (List (Option Text))
  pub number : Option ℕ
  pub group : Option Text
  pub init : Bool
  pub lower : Option Expr
  pub upper : Option Expr

pub record Head : Type 0 where
  pub variable : Text
  pub at : Place
  pub from : Expr
  pub to : Expr
  pub step : Option Expr

pub data Range : Type 0 where
  Single : Expr → Range
  Span : Option Expr → Option Expr → Range

mutual
  pub data Stmt : Type 0 where
    Assign : Place → Expr → Expr → Stmt
    Call : Place → Named → Subscripts → Bool → Stmt  -- true: under `parallelize forward`
    If : Place → Arms → Otherwise → Stmt
    Select : Place → Expr → Cases → Otherwise → Stmt
    Do : Place → Head → Stmts → Option Directive → Stmt
    Block : Place → Directive → Stmts → Stmt
    Piece : Stmts → Stmt
    Exit : Place → Stmt
    Cycle : Place → Stmt
    Return : Place → Stmt

  pub data Stmts : Type 0 where
    Done : Stmts
    Then : Stmt → Stmts → Stmts

  pub data Arms : Type 0 where
    No_arm : Arms
    Arm : Expr → Stmts → Arms → Arms

  pub data Cases : Type 0 where
    No_case : Cases
    Case : List Range → Stmts → Cases → Cases

  pub data Otherwise : Type 0 where
    Nothing_else : Otherwise
    Else : Stmts → Otherwise

pub record Unit : Type 0 where
  pub name : Text
  pub at : Place
  pub dummies : List Named
  pub result : Option Named  -- of a FUNCTION alone
  pub uses : List Use
  pub decls : List Decl
  pub marks : List Directive
  pub body : Stmts
  pub host : Option ℕ  -- the number of its module

pub record Module : Type 0 where
  pub name : Text
  pub at : Place
  pub uses : List Use
  pub decls : List Decl

pub record Program : Type 0 where
  pub modules : List Module
  pub units : List Unit
  pub order : List Item  -- the top level, in the order of the text

-- The place of an expression is that of its first token.
abbrev pub first : Expr → Place
first (Numeral n kind at) = at
first (Boolean b at) = at
first (Name x at) = at
first (Reference x subs at) = at
first (Signed sign e at) = at
first (Binary op a b) = first a
first (Paren e at) = at

-- the subscripts or arguments behind the first
abbrev pub after_first : Subscripts → Subscripts
after_first No_more = No_more
after_first (One e rest) = rest
after_first (Section lower upper at rest) = rest

-- Forgetting the places

abbrev mutual
  pub bare : Expr → plain.Expr
  bare (Numeral n kind at) = plain.Numeral n kind
  bare (Boolean b at) = plain.Boolean b
  bare (Name x at) = plain.Name x
  bare (Reference x subs at) = plain.Reference x (bare_subs subs)
  bare (Signed sign e at) = plain.Signed sign (bare e)
  bare (Binary op a b) = plain.Binary op (bare a) (bare b)
  bare (Paren e at) = plain.Paren (bare e)

  pub bare_subs : Subscripts → plain.Subscripts
  bare_subs No_more = plain.No_more
  bare_subs (One e rest) = plain.At (bare e) (bare_subs rest)
  bare_subs (Section lower upper at rest) = plain.Section (bare_limit lower) (bare_limit upper) (bare_subs rest)

  pub bare_limit : Limit → plain.Limit
  bare_limit Unbounded = plain.Unbounded
  bare_limit (Bounded e) = plain.Bounded (bare e)

abbrev pub bare_option : Option Expr → Option plain.Expr
bare_option e = option_map bare e

abbrev pub bare_dimension : Dimension → plain.Dimension
bare_dimension d = record { lower = bare_option d.lower; upper = bare_option d.upper }

abbrev pub bare_decl : Decl → plain.Decl
bare_decl d = record { name = d.name; kind = d.kind; intent = d.intent; shape = map bare_dimension d.shape; value = bare_option d.value }

abbrev pub bare_directive : Directive → plain.Directive
bare_directive d = record {
  word = d.word;
  names = d.names;
  over = d.over;
  number = d.number;
  group = d.group;
  init = d.init;
  lower = bare_option d.lower;
  upper = bare_option d.upper;
}

abbrev pub bare_head : Head → plain.Head
bare_head h = record { variable = h.variable; from = bare h.from; to = bare h.to; step = bare_option h.step }

abbrev pub bare_range : Range → plain.Range
bare_range (Single e) = plain.Single (bare e)
bare_range (Span lower upper) = plain.Span (bare_option lower) (bare_option upper)

abbrev mutual
  pub bare_stmt : Stmt → plain.Stmt
  bare_stmt (Assign at left right) = plain.Assign (bare left) (bare right)
  bare_stmt (Call at name args forward) = plain.Call name.name (bare_subs args) forward
  bare_stmt (If at arms other) = plain.If (bare_arms arms) (bare_otherwise other)
  bare_stmt (Select at on cases other) = plain.Select (bare on) (bare_cases cases) (bare_otherwise other)
  bare_stmt (Do at head body mark) = plain.Do (bare_head head) (bare_stmts body) (option_map bare_directive mark)
  bare_stmt (Block at mark body) = plain.Block (bare_directive mark) (bare_stmts body)
  bare_stmt (Piece body) = plain.Piece (bare_stmts body)
  bare_stmt (Exit at) = plain.Exit
  bare_stmt (Cycle at) = plain.Cycle
  bare_stmt (Return at) = plain.Return

  pub bare_stmts : Stmts → plain.Stmts
  bare_stmts Done = plain.Done
  bare_stmts (Then s rest) = plain.Then (bare_stmt s) (bare_stmts rest)

  pub bare_arms : Arms → plain.Arms
  bare_arms No_arm = plain.No_arm
  bare_arms (Arm test body rest) = plain.Arm (bare test) (bare_stmts body) (bare_arms rest)

  pub bare_cases : Cases → plain.Cases
  bare_cases No_case = plain.No_case
  bare_cases (Case ranges body rest) = plain.Case (map bare_range ranges) (bare_stmts body) (bare_cases rest)

  pub bare_otherwise : Otherwise → plain.Otherwise
  bare_otherwise Nothing_else = plain.Nothing_else
  bare_otherwise (Else body) = plain.Else (bare_stmts body)

abbrev pub bare_use : Use → plain.Use
bare_use u = record { name = u.name; only = option_map (map (λ n. n.name)) u.only }

abbrev pub bare_unit : Unit → plain.Unit
bare_unit u = record {
  name = u.name;
  dummies = map (λ d. d.name) u.dummies;
  result = option_map (λ r. r.name) u.result;
  uses = map bare_use u.uses;
  decls = map bare_decl u.decls;
  marks = map bare_directive u.marks;
  body = bare_stmts u.body;
  host = u.host;
}

abbrev pub bare_module : Module → plain.Module
bare_module m = record { name = m.name; uses = map bare_use m.uses; decls = map bare_decl m.decls }

abbrev pub bare_item : Item → plain.Item
bare_item (item.Module n) = plain.A_module n
bare_item (item.Unit n) = plain.A_unit n

-- the plain tree of a program
abbrev pub bare_program : Program → plain.Program
bare_program p = record { modules = map bare_module p.modules; units = map bare_unit p.units; order = map bare_item p.order }
