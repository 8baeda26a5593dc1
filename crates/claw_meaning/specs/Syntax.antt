-- The plain tree of a program: what a value of the syntax tree holds, its places set aside. A list is its items, and a
-- box is what it holds. All definitions of what a program means, and all relations between programs, speak of it.
use Rattle.std.specs.Prelude.{ℕ, ℤ, List, Option, Bool}
use Rattle.fort_arith.specs.declared.kind.Kind.{Kind}
use Rattle.fort_arith.specs.declared.op.Op.{Op}
use Rattle.fort_tree.specs.declared.expr.Unary.{Unary}
use Rattle.fort_tree.specs.declared.unit.Intent.{Intent}
use Rattle.fort_tree.specs.declared.stmt.DirectiveWord.{DirectiveWord}

-- a name, in lower case
abbrev pub Text : Type 0
Text = List ℕ

mutual
  pub data Expr : Type 0 where
    Numeral : ℕ → Option Kind → Expr
    Boolean : Bool → Expr
    Name : Text → Expr
    Reference : Text → Subscripts → Expr
    Signed : Unary → Expr → Expr
    Binary : Op → Expr → Expr → Expr
    Paren : Expr → Expr

  -- subscripts of an element or a section, or the arguments of a reference or a CALL
  pub data Subscripts : Type 0 where
    No_more : Subscripts
    At : Expr → Subscripts → Subscripts
    Section : Limit → Limit → Subscripts → Subscripts
    -- a section whose bounds have been evaluated: in no program, only in what is left of a statement to evaluate
    Between : ℤ → ℤ → Subscripts → Subscripts

  pub data Limit : Type 0 where
    Unbounded : Limit
    Bounded : Expr → Limit

-- a dimension of a declared shape
pub record Dimension : Type 0 where
  pub lower : Option Expr
  pub upper : Option Expr

pub record Decl : Type 0 where
  pub name : Text
  pub kind : Kind
  pub intent : Option Intent
  pub shape : List Dimension
  pub value : Option Expr  -- of a PARAMETER alone

pub record Directive : Type 0 where
  pub word : DirectiveWord
  pub names : List Text
  pub over : Option (List (Option Text))
  pub number : Option ℕ
  pub group : Option Text
  pub init : Bool
  pub lower : Option Expr
  pub upper : Option Expr

pub record Head : Type 0 where
  pub variable : Text
  pub from : Expr
  pub to : Expr
  pub step : Option Expr

pub data Range : Type 0 where
  Single : Expr → Range
  Span : Option Expr → Option Expr → Range

mutual
  pub data Stmt : Type 0 where
    Assign : Expr → Expr → Stmt
    Call : Text → Subscripts → Bool → Stmt  -- true: under `parallelize forward`
    If : Arms → Otherwise → Stmt
    Select : Expr → Cases → Otherwise → Stmt
    Do : Head → Stmts → Option Directive → Stmt
    Block : Directive → Stmts → Stmt
    Piece : Stmts → Stmt
    Exit : Stmt
    Cycle : Stmt
    Return : Stmt

  pub data Stmts : Type 0 where
    Done : Stmts
    Then : Stmt → Stmts → Stmts

  pub data Arms : Type 0 where
    No_arm : Arms
    Arm : Expr → Stmts → Arms → Arms

  pub data Cases : Type 0 where
    No_case : Cases
    Case : List Range → Stmts → Cases → Cases

  pub data Otherwise : Type 0 where
    Nothing_else : Otherwise
    Else : Stmts → Otherwise

pub record Use : Type 0 where
  pub name : Text
  pub only : Option (List Text)

pub record Unit : Type 0 where
  pub name : Text
  pub dummies : List Text
  pub result : Option Text  -- of a FUNCTION alone
  pub uses : List Use
  pub decls : List Decl
  pub marks : List Directive
  pub body : Stmts
  pub host : Option ℕ  -- the number of its module

pub record Module : Type 0 where
  pub name : Text
  pub uses : List Use
  pub decls : List Decl

pub data Item : Type 0 where
  A_module : ℕ → Item
  A_unit : ℕ → Item

pub record Program : Type 0 where
  pub modules : List Module
  pub units : List Unit
  pub order : List Item  -- the top level, in the order of the text
