-- The plain tree of each form of a tree, one level at a time.
use Rattle.std.proofs.Common.{◌≡◌, ℕ, List, [], ◌∷◌, Option, None, Some, Bool, map, option_map, refl, sym, ap, ◌∙◌}
use Rattle.fort_arith.specs.declared.kind.Kind.{Kind}
use Rattle.fort_arith.specs.declared.op.Op.{Op}
use Rattle.fort_tree.specs.declared.place.Place.{Place}
use Rattle.fort_tree.specs.declared.expr.Unary.{Unary}
use Rattle.fort_tree.specs.declared.expr.Expr.{Expr}
use Rattle.fort_tree.specs.declared.expr.Sub.{Sub}
use Rattle.fort_tree.specs.declared.expr.Expr.TheOpen.{Expr-F, Sub-F}
use Rattle.fort_tree.specs.declared.expr.Expr.TheFolds.{fold-roll-Expr, fold-roll-Sub}
use Rattle.fort_tree.specs.declared.expr.Expr.TheVariants.{Number, Truth, Ref, One, Two, Paren, rolls-Number, rolls-Truth, rolls-Ref, rolls-One, rolls-Two, rolls-Paren}
use Rattle.fort_tree.specs.declared.expr.Sub.TheVariants.{One as Alone, rolls-One as rolls-Alone, Range, rolls-Range}
use Rattle.fort_tree.specs.declared.stmt.Head.{Head}
use Rattle.fort_tree.specs.declared.stmt.Directive.{Directive}
use Rattle.fort_tree.specs.declared.stmt.Arm.{Arm}
use Rattle.fort_tree.specs.declared.stmt.Stmt.{Stmt}
use Rattle.fort_tree.specs.declared.stmt.Stmt.TheOpen.{Stmt-F, Arm-F}
use Rattle.fort_tree.specs.declared.stmt.Stmt.TheFolds.{fold-Arm, fold-roll-Stmt, fold-roll-Arm}
use Rattle.fort_tree.specs.declared.stmt.Stmt.TheViews.{roll-Arm}
use Rattle.fort_tree.specs.declared.stmt.Stmt.TheVariants.{Assign, If, Loop, Return, rolls-Assign, rolls-If, rolls-Loop, rolls-Return}
use Rattle.claw_meaning.specs.Syntax as plain
use Rattle.claw_meaning.specs.Plain.{Before, expr_step, sub_step, plain_expr, plain_sub, plain_subs, limit, plain_head, plain_directive, in_a_row, arms_of, otherwise, stmt_step, arm_step, case_step, plain_stmt, plain_stmts}

-- Expressions

pub plain_number : (n : ℕ) (kind : Option Kind) (at : Place) → plain_expr (Number n kind at) ≡ plain.Numeral n kind
plain_number n kind at = ap plain_expr (sym (rolls-Number n kind at)) ∙ fold-roll-Expr plain.Expr Before expr_step sub_step (Expr-F.Number n kind at)

pub plain_truth : (b : Bool) (at : Place) → plain_expr (Truth b at) ≡ plain.Boolean b
plain_truth b at = ap plain_expr (sym (rolls-Truth b at)) ∙ fold-roll-Expr plain.Expr Before expr_step sub_step (Expr-F.Truth b at)

pub plain_name : (x : List ℕ) (at : Place) → plain_expr (Ref x None at) ≡ plain.Name x
plain_name x at = ap plain_expr (sym (rolls-Ref x None at)) ∙ fold-roll-Expr plain.Expr Before expr_step sub_step (Expr-F.Ref x None at)

pub plain_reference : (x : List ℕ) (subs : List Sub) (at : Place) → plain_expr (Ref x (Some subs) at) ≡ plain.Reference x (plain_subs subs)
plain_reference x subs at = ap plain_expr (sym (rolls-Ref x (Some subs) at)) ∙ fold-roll-Expr plain.Expr Before expr_step sub_step (Expr-F.Ref x (Some subs) at)

pub plain_one : (sign : Unary) (e : Expr) (at : Place) → plain_expr (One sign e at) ≡ plain.Signed sign (plain_expr e)
plain_one sign e at = ap plain_expr (sym (rolls-One sign e at)) ∙ fold-roll-Expr plain.Expr Before expr_step sub_step (Expr-F.«Expr::One» sign e at)

pub plain_two : (op : Op) (a b : Expr) → plain_expr (Two op a b) ≡ plain.Binary op (plain_expr a) (plain_expr b)
plain_two op a b = ap plain_expr (sym (rolls-Two op a b)) ∙ fold-roll-Expr plain.Expr Before expr_step sub_step (Expr-F.Two op a b)

pub plain_paren : (e : Expr) (at : Place) → plain_expr (Paren e at) ≡ plain.Paren (plain_expr e)
plain_paren e at = ap plain_expr (sym (rolls-Paren e at)) ∙ fold-roll-Expr plain.Expr Before expr_step sub_step (Expr-F.Paren e at)

pub plain_at : (e : Expr) (rest : plain.Subscripts) → plain_sub (Alone e) rest ≡ plain.At (plain_expr e) rest
plain_at e rest = ap (λ (f : Before). f rest) (ap plain_sub (sym (rolls-Alone e)) ∙ fold-roll-Sub plain.Expr Before expr_step sub_step (Sub-F.«Sub::One» e))

-- Statements

abbrev MoreArms : Type 0
MoreArms = plain.Arms → plain.Arms

abbrev MoreCases : Type 0
MoreCases = plain.Cases → plain.Cases

abbrev pub plain_arm : Arm → plain.Arms → plain.Arms
plain_arm = fold-Arm plain.Stmt (plain.Arms → plain.Arms) (plain.Cases → plain.Cases) stmt_step arm_step case_step

-- an arm of a test and what runs where it holds
abbrev pub arm : Expr → List Stmt → Arm
arm test body = roll-Arm (record { test = test; body = body })

pub plain_assign : (at : Place) (left right : Expr) → plain_stmt (Assign at left right) ≡ plain.Assign (plain_expr left) (plain_expr right)
plain_assign at left right = ap plain_stmt (sym (rolls-Assign at left right)) ∙ fold-roll-Stmt plain.Stmt MoreArms MoreCases stmt_step arm_step case_step (Stmt-F.Assign at left right)

pub plain_if : (at : Place) (arms : List Arm) → plain_stmt (If at arms None) ≡ plain.If (arms_of (map plain_arm arms)) plain.Nothing_else
plain_if at arms = ap plain_stmt (sym (rolls-If at arms None)) ∙ fold-roll-Stmt plain.Stmt MoreArms MoreCases stmt_step arm_step case_step (Stmt-F.If at arms None)

pub plain_loop : (at : Place) (head : Head) (body : List Stmt) (mark : Option Directive) → plain_stmt (Loop at head body mark) ≡ plain.Do (plain_head head) (plain_stmts body) (option_map plain_directive mark)
plain_loop at head body mark = ap plain_stmt (sym (rolls-Loop at head body mark)) ∙ fold-roll-Stmt plain.Stmt MoreArms MoreCases stmt_step arm_step case_step (Stmt-F.Loop at head body mark)

pub plain_return : (at : Place) → plain_stmt (Return at) ≡ plain.Return
plain_return at = ap plain_stmt (sym (rolls-Return at)) ∙ fold-roll-Stmt plain.Stmt MoreArms MoreCases stmt_step arm_step case_step (Stmt-F.Return at)

pub plain_an_arm : (test : Expr) (body : List Stmt) (rest : plain.Arms) → plain_arm (arm test body) rest ≡ plain.Arm (plain_expr test) (plain_stmts body) rest
plain_an_arm test body rest = ap (λ (f : plain.Arms → plain.Arms). f rest) (fold-roll-Arm plain.Stmt MoreArms MoreCases stmt_step arm_step case_step (record { test = test; body = body }))
