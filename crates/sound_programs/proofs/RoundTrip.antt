-- A placed tree, written as a value of the syntax tree, is the placed tree of that value.
use Rattle.std.proofs.Common.{◌≡◌, ℕ, List, [], ◌∷◌, Option, None, Some, Bool, map, option_map, refl, sym, ap, ◌∙◌}
use Rattle.fort_arith.specs.declared.kind.Kind.{Kind}
use Rattle.fort_arith.specs.declared.op.Op.{Op}
use Rattle.fort_tree.specs.declared.place.Place.{Place}
use Rattle.fort_tree.specs.declared.expr.Unary.{Unary}
use Rattle.fort_tree.specs.declared.expr.Expr as tree_expr
use Rattle.fort_tree.specs.declared.expr.Expr.TheOpen.{Expr-F, Sub-F}
use Rattle.fort_tree.specs.declared.expr.Expr.TheFolds.{fold-roll-Expr, fold-roll-Sub}
use Rattle.fort_tree.specs.declared.expr.Expr.TheVariants as expr
use Rattle.fort_tree.specs.declared.expr.Sub as tree_sub
use Rattle.fort_tree.specs.declared.expr.Sub.TheVariants as sub
use Rattle.fort_tree.specs.declared.stmt.Arm as tree_arm
use Rattle.fort_tree.specs.declared.stmt.Case as tree_case
use Rattle.fort_tree.specs.declared.stmt.Directive as tree_directive
use Rattle.fort_tree.specs.declared.stmt.Head as tree_head
use Rattle.fort_tree.specs.declared.stmt.Named.{Named}
use Rattle.fort_tree.specs.declared.stmt.Range as tree_range
use Rattle.fort_tree.specs.declared.stmt.Stmt as tree_stmt
use Rattle.fort_tree.specs.declared.stmt.Stmt.TheOpen.{Stmt-F}
use Rattle.fort_tree.specs.declared.stmt.Stmt.TheFolds.{fold-Arm, fold-Case, fold-roll-Stmt, fold-roll-Arm, fold-roll-Case}
use Rattle.fort_tree.specs.declared.stmt.Stmt.TheVariants as stmt
use Rattle.sound_programs.specs.Nesting.{arm, case}
use Rattle.sound_programs.specs.Placed.{Expr, Numeral, Boolean, Name, Reference, Signed, Binary, Paren, Subscripts, No_more, One, Section, Limit, Unbounded, Bounded, Dimension, Decl, Directive, Head, Range, Single, Span, Stmt, Assign, Call, If, Select, Do, Block, Piece, Exit, Cycle, Return, Stmts, Done, Then, Arms, No_arm, Arm, Cases, No_case, Case, Nothing_else, Else, Unit, Module, Program}
use Rattle.sound_programs.specs.Placing.{Before, expr_step, sub_step, limit, placed_expr, placed_sub, placed_subs, placed_option, placed_head, placed_range, placed_directive, arms_of, cases_of, stmt_step, arm_step, case_step, placed_stmt, placed_stmts, placed_bound, placed_decl, placed_unit, placed_module, placed}
use Rattle.sound_programs.specs.Writing.{written, written_subs, written_limit, written_option, written_head, written_range, written_directive, written_mark, written_stmt, written_stmts, written_arms, written_cases, written_dimension, written_decl, written_unit, written_module, file_of}

-- Expressions, one level at a time

of_number : (n : ℕ) (kind : Option Kind) (at : Place) → placed_expr (expr.Number n kind at) ≡ Numeral n kind at
of_number n kind at = ap placed_expr (sym (expr.rolls-Number n kind at)) ∙ fold-roll-Expr Expr Before expr_step sub_step (Expr-F.Number n kind at)

of_truth : (b : Bool) (at : Place) → placed_expr (expr.Truth b at) ≡ Boolean b at
of_truth b at = ap placed_expr (sym (expr.rolls-Truth b at)) ∙ fold-roll-Expr Expr Before expr_step sub_step (Expr-F.Truth b at)

of_name : (x : List ℕ) (at : Place) → placed_expr (expr.Ref x None at) ≡ Name x at
of_name x at = ap placed_expr (sym (expr.rolls-Ref x None at)) ∙ fold-roll-Expr Expr Before expr_step sub_step (Expr-F.Ref x None at)

of_reference : (x : List ℕ) (subs : List tree_sub.Sub) (at : Place) → placed_expr (expr.Ref x (Some subs) at) ≡ Reference x (placed_subs subs) at
of_reference x subs at = ap placed_expr (sym (expr.rolls-Ref x (Some subs) at)) ∙ fold-roll-Expr Expr Before expr_step sub_step (Expr-F.Ref x (Some subs) at)

of_sign : (sign : Unary) (e : tree_expr.Expr) (at : Place) → placed_expr (expr.One sign e at) ≡ Signed sign (placed_expr e) at
of_sign sign e at = ap placed_expr (sym (expr.rolls-One sign e at)) ∙ fold-roll-Expr Expr Before expr_step sub_step (Expr-F.«Expr::One» sign e at)

of_operation : (op : Op) (a b : tree_expr.Expr) → placed_expr (expr.Two op a b) ≡ Binary op (placed_expr a) (placed_expr b)
of_operation op a b = ap placed_expr (sym (expr.rolls-Two op a b)) ∙ fold-roll-Expr Expr Before expr_step sub_step (Expr-F.Two op a b)

of_paren : (e : tree_expr.Expr) (at : Place) → placed_expr (expr.Paren e at) ≡ Paren (placed_expr e) at
of_paren e at = ap placed_expr (sym (expr.rolls-Paren e at)) ∙ fold-roll-Expr Expr Before expr_step sub_step (Expr-F.Paren e at)

of_one : (e : tree_expr.Expr) (rest : Subscripts) → placed_sub (sub.One e) rest ≡ One (placed_expr e) rest
of_one e rest = ap (λ (f : Before). f rest) (ap placed_sub (sym (sub.rolls-One e)) ∙ fold-roll-Sub Expr Before expr_step sub_step (Sub-F.«Sub::One» e))

of_section : (lower upper : Option tree_expr.Expr) (at : Place) (rest : Subscripts) →
    placed_sub (sub.Range lower upper at) rest ≡ Section (limit (placed_option lower)) (limit (placed_option upper)) at rest
of_section None None at rest = ap (λ (f : Before). f rest) (ap placed_sub (sym (sub.rolls-Range None None at)) ∙ fold-roll-Sub Expr Before expr_step sub_step (Sub-F.Range None None at))
of_section None (Some b) at rest = ap (λ (f : Before). f rest) (ap placed_sub (sym (sub.rolls-Range None (Some b) at)) ∙ fold-roll-Sub Expr Before expr_step sub_step (Sub-F.Range None (Some b) at))
of_section (Some a) None at rest = ap (λ (f : Before). f rest) (ap placed_sub (sym (sub.rolls-Range (Some a) None at)) ∙ fold-roll-Sub Expr Before expr_step sub_step (Sub-F.Range (Some a) None at))
of_section (Some a) (Some b) at rest = ap (λ (f : Before). f rest) (ap placed_sub (sym (sub.rolls-Range (Some a) (Some b) at)) ∙ fold-roll-Sub Expr Before expr_step sub_step (Sub-F.Range (Some a) (Some b) at))

mutual
  of_written : (e : Expr) → placed_expr (written e) ≡ e
  of_written (Numeral n kind at) = of_number n kind at
  of_written (Boolean b at) = of_truth b at
  of_written (Name x at) = of_name x at
  of_written (Reference x subs at) = of_reference x (written_subs subs) at ∙ ap (λ s. Reference x s at) (of_written_subs subs)
  of_written (Signed sign e at) = of_sign sign (written e) at ∙ ap (λ a. Signed sign a at) (of_written e)
  of_written (Binary op a b) = of_operation op (written a) (written b) ∙ (ap (λ c. Binary op c (placed_expr (written b))) (of_written a) ∙ ap (Binary op a) (of_written b))
  of_written (Paren e at) = of_paren (written e) at ∙ ap (λ a. Paren a at) (of_written e)

  of_written_subs : (s : Subscripts) → placed_subs (written_subs s) ≡ s
  of_written_subs No_more = refl
  of_written_subs (One e rest) = of_one (written e) (placed_subs (written_subs rest)) ∙ (ap (λ a. One a (placed_subs (written_subs rest))) (of_written e) ∙ ap (One e) (of_written_subs rest))
  of_written_subs (Section lower upper at rest) =
      of_section (written_limit lower) (written_limit upper) at (placed_subs (written_subs rest))
      ∙ (ap (λ a. Section a (limit (placed_option (written_limit upper))) at (placed_subs (written_subs rest))) (of_written_limit lower)
      ∙ (ap (λ a. Section lower a at (placed_subs (written_subs rest))) (of_written_limit upper) ∙ ap (Section lower upper at) (of_written_subs rest)))

  of_written_limit : (l : Limit) → limit (placed_option (written_limit l)) ≡ l
  of_written_limit Unbounded = refl
  of_written_limit (Bounded e) = ap Bounded (of_written e)

of_written_option : (e : Option Expr) → placed_option (written_option e) ≡ e
of_written_option None = refl
of_written_option (Some e) = ap Some (of_written e)

-- Parts of statements

of_written_head : (h : Head) → placed_head (written_head h) ≡ h
of_written_head h =
    λ t. record { variable = h.variable; at = h.at; from = of_written h.from t; to = of_written h.to t; step = of_written_option h.step t }

of_written_range : (r : Range) → placed_range (written_range r) ≡ r
of_written_range (Single e) = ap Single (of_written e)
of_written_range (Span lower upper) = λ t. Span (of_written_option lower t) (of_written_option upper t)

of_written_ranges : (rs : List Range) → map placed_range (map written_range rs) ≡ rs
of_written_ranges [] = refl
of_written_ranges (r ∷ rs) = λ t. of_written_range r t ∷ of_written_ranges rs t

of_written_directive : (d : Directive) → placed_directive (written_directive d) ≡ d
of_written_directive d = λ t. record {
  at = d.at;
  word = d.word;
  names = d.names;
  over = d.over;
  number = d.number;
  group = d.group;
  init = d.init;
  lower = of_written_option d.lower t;
  upper = of_written_option d.upper t;
}

of_written_mark : (d : Option Directive) → option_map placed_directive (written_mark d) ≡ d
of_written_mark None = refl
of_written_mark (Some d) = ap Some (of_written_directive d)

of_written_directives : (ds : List Directive) → map placed_directive (map written_directive ds) ≡ ds
of_written_directives [] = refl
of_written_directives (d ∷ ds) = λ t. of_written_directive d t ∷ of_written_directives ds t

-- Statements, one level at a time

abbrev More_arms : Type 0
More_arms = Arms → Arms

abbrev More_cases : Type 0
More_cases = Cases → Cases

abbrev placed_arm : tree_arm.Arm → Arms → Arms
placed_arm = fold-Arm Stmt (Arms → Arms) (Cases → Cases) stmt_step arm_step case_step

abbrev placed_case : tree_case.Case → Cases → Cases
placed_case = fold-Case Stmt (Arms → Arms) (Cases → Cases) stmt_step arm_step case_step

of_assign : (at : Place) (left right : tree_expr.Expr) → placed_stmt (stmt.Assign at left right) ≡ Assign at (placed_expr left) (placed_expr right)
of_assign at left right = ap placed_stmt (sym (stmt.rolls-Assign at left right)) ∙ fold-roll-Stmt Stmt More_arms More_cases stmt_step arm_step case_step (Stmt-F.Assign at left right)

of_call : (at : Place) (name : Named) (args : List tree_sub.Sub) (forward : Bool) → placed_stmt (stmt.Call at name args forward) ≡ Call at name (placed_subs args) forward
of_call at name args forward = ap placed_stmt (sym (stmt.rolls-Call at name args forward)) ∙ fold-roll-Stmt Stmt More_arms More_cases stmt_step arm_step case_step (Stmt-F.Call at name args forward)

of_if : (at : Place) (arms : List tree_arm.Arm) → placed_stmt (stmt.If at arms None) ≡ If at (arms_of (map placed_arm arms)) Nothing_else
of_if at arms = ap placed_stmt (sym (stmt.rolls-If at arms None)) ∙ fold-roll-Stmt Stmt More_arms More_cases stmt_step arm_step case_step (Stmt-F.If at arms None)

of_if_else : (at : Place) (arms : List tree_arm.Arm) (other : List tree_stmt.Stmt) → placed_stmt (stmt.If at arms (Some other)) ≡ If at (arms_of (map placed_arm arms)) (Else (placed_stmts other))
of_if_else at arms other = ap placed_stmt (sym (stmt.rolls-If at arms (Some other))) ∙ fold-roll-Stmt Stmt More_arms More_cases stmt_step arm_step case_step (Stmt-F.If at arms (Some other))

of_select : (at : Place) (on : tree_expr.Expr) (cases : List tree_case.Case) → placed_stmt (stmt.Select at on cases None) ≡ Select at (placed_expr on) (cases_of (map placed_case cases)) Nothing_else
of_select at on cases = ap placed_stmt (sym (stmt.rolls-Select at on cases None)) ∙ fold-roll-Stmt Stmt More_arms More_cases stmt_step arm_step case_step (Stmt-F.Select at on cases None)

of_select_default : (at : Place) (on : tree_expr.Expr) (cases : List tree_case.Case) (other : List tree_stmt.Stmt) → placed_stmt (stmt.Select at on cases (Some other)) ≡ Select at (placed_expr on) (cases_of (map placed_case cases)) (Else (placed_stmts other))
of_select_default at on cases other = ap placed_stmt (sym (stmt.rolls-Select at on cases (Some other))) ∙ fold-roll-Stmt Stmt More_arms More_cases stmt_step arm_step case_step (Stmt-F.Select at on cases (Some other))

of_loop : (at : Place) (head : tree_head.Head) (body : List tree_stmt.Stmt) (mark : Option tree_directive.Directive) → placed_stmt (stmt.Loop at head body mark) ≡ Do at (placed_head head) (placed_stmts body) (option_map placed_directive mark)
of_loop at head body mark = ap placed_stmt (sym (stmt.rolls-Loop at head body mark)) ∙ fold-roll-Stmt Stmt More_arms More_cases stmt_step arm_step case_step (Stmt-F.Loop at head body mark)

of_block : (at : Place) (mark : tree_directive.Directive) (body : List tree_stmt.Stmt) → placed_stmt (stmt.Block at mark body) ≡ Block at (placed_directive mark) (placed_stmts body)
of_block at mark body = ap placed_stmt (sym (stmt.rolls-Block at mark body)) ∙ fold-roll-Stmt Stmt More_arms More_cases stmt_step arm_step case_step (Stmt-F.Block at mark body)

of_piece : (body : List tree_stmt.Stmt) → placed_stmt (stmt.Piece body) ≡ Piece (placed_stmts body)
of_piece body = ap placed_stmt (sym (stmt.rolls-Piece body)) ∙ fold-roll-Stmt Stmt More_arms More_cases stmt_step arm_step case_step (Stmt-F.Piece body)

of_exit : (at : Place) → placed_stmt (stmt.Exit at) ≡ Exit at
of_exit at = ap placed_stmt (sym (stmt.rolls-Exit at)) ∙ fold-roll-Stmt Stmt More_arms More_cases stmt_step arm_step case_step (Stmt-F.Exit at)

of_cycle : (at : Place) → placed_stmt (stmt.Cycle at) ≡ Cycle at
of_cycle at = ap placed_stmt (sym (stmt.rolls-Cycle at)) ∙ fold-roll-Stmt Stmt More_arms More_cases stmt_step arm_step case_step (Stmt-F.Cycle at)

of_return : (at : Place) → placed_stmt (stmt.Return at) ≡ Return at
of_return at = ap placed_stmt (sym (stmt.rolls-Return at)) ∙ fold-roll-Stmt Stmt More_arms More_cases stmt_step arm_step case_step (Stmt-F.Return at)

of_arm : (test : tree_expr.Expr) (body : List tree_stmt.Stmt) (rest : Arms) → placed_arm (arm test body) rest ≡ Arm (placed_expr test) (placed_stmts body) rest
of_arm test body rest = ap (λ (f : Arms → Arms). f rest) (fold-roll-Arm Stmt More_arms More_cases stmt_step arm_step case_step (record { test = test; body = body }))

of_case : (ranges : List tree_range.Range) (body : List tree_stmt.Stmt) (rest : Cases) → placed_case (case ranges body) rest ≡ Case (map placed_range ranges) (placed_stmts body) rest
of_case ranges body rest = ap (λ (f : Cases → Cases). f rest) (fold-roll-Case Stmt More_arms More_cases stmt_step arm_step case_step (record { ranges = ranges; body = body }))

mutual
  of_written_stmt : (s : Stmt) → placed_stmt (written_stmt s) ≡ s
  of_written_stmt (Assign at left right) = of_assign at (written left) (written right) ∙ (λ t. Assign at (of_written left t) (of_written right t))
  of_written_stmt (Call at name args forward) = of_call at name (written_subs args) forward ∙ (λ t. Call at name (of_written_subs args t) forward)
  of_written_stmt (If at arms Nothing_else) = of_if at (written_arms arms) ∙ (λ t. If at (of_written_arms arms t) Nothing_else)
  of_written_stmt (If at arms (Else body)) = of_if_else at (written_arms arms) (written_stmts body) ∙ (λ t. If at (of_written_arms arms t) (Else (of_written_stmts body t)))
  of_written_stmt (Select at on cases Nothing_else) = of_select at (written on) (written_cases cases) ∙ (λ t. Select at (of_written on t) (of_written_cases cases t) Nothing_else)
  of_written_stmt (Select at on cases (Else body)) = of_select_default at (written on) (written_cases cases) (written_stmts body) ∙ (λ t. Select at (of_written on t) (of_written_cases cases t) (Else (of_written_stmts body t)))
  of_written_stmt (Do at head body mark) = of_loop at (written_head head) (written_stmts body) (written_mark mark) ∙ (λ t. Do at (of_written_head head t) (of_written_stmts body t) (of_written_mark mark t))
  of_written_stmt (Block at mark body) = of_block at (written_directive mark) (written_stmts body) ∙ (λ t. Block at (of_written_directive mark t) (of_written_stmts body t))
  of_written_stmt (Piece body) = of_piece (written_stmts body) ∙ (λ t. Piece (of_written_stmts body t))
  of_written_stmt (Exit at) = of_exit at
  of_written_stmt (Cycle at) = of_cycle at
  of_written_stmt (Return at) = of_return at

  of_written_stmts : (s : Stmts) → placed_stmts (written_stmts s) ≡ s
  of_written_stmts Done = refl
  of_written_stmts (Then s rest) = λ t. Then (of_written_stmt s t) (of_written_stmts rest t)

  of_written_arms : (a : Arms) → arms_of (map placed_arm (written_arms a)) ≡ a
  of_written_arms No_arm = refl
  of_written_arms (Arm test body rest) =
      of_arm (written test) (written_stmts body) (arms_of (map placed_arm (written_arms rest))) ∙ (λ t. Arm (of_written test t) (of_written_stmts body t) (of_written_arms rest t))

  of_written_cases : (c : Cases) → cases_of (map placed_case (written_cases c)) ≡ c
  of_written_cases No_case = refl
  of_written_cases (Case ranges body rest) =
      of_case (map written_range ranges) (written_stmts body) (cases_of (map placed_case (written_cases rest))) ∙ (λ t. Case (of_written_ranges ranges t) (of_written_stmts body t) (of_written_cases rest t))

-- Units

of_written_dimensions : (ds : List Dimension) → map placed_bound (map written_dimension ds) ≡ ds
of_written_dimensions [] = refl
of_written_dimensions (d ∷ ds) = λ t. record { lower = of_written_option d.lower t; upper = of_written_option d.upper t } ∷ of_written_dimensions ds t

of_written_decls : (ds : List Decl) → map placed_decl (map written_decl ds) ≡ ds
of_written_decls [] = refl
of_written_decls (d ∷ ds) =
    λ t. record { name = d.name; at = d.at; kind = d.kind; intent = d.intent; shape = of_written_dimensions d.shape t; value = of_written_option d.value t } ∷ of_written_decls ds t

of_written_units : (us : List Unit) → map placed_unit (map written_unit us) ≡ us
of_written_units [] = refl
of_written_units (u ∷ us) = λ t. record {
  name = u.name;
  at = u.at;
  dummies = u.dummies;
  result = u.result;
  uses = u.uses;
  decls = of_written_decls u.decls t;
  marks = of_written_directives u.marks t;
  body = of_written_stmts u.body t;
  host = u.host;
} ∷ of_written_units us t

of_written_modules : (ms : List Module) → map placed_module (map written_module ms) ≡ ms
of_written_modules [] = refl
of_written_modules (m ∷ ms) = λ t. record { name = m.name; at = m.at; uses = m.uses; decls = of_written_decls m.decls t } ∷ of_written_modules ms t

-- the file of a placed program is that program with its places
pub placed-file_of : (p : Program) → placed (file_of p) ≡ p
placed-file_of p = λ t. record { modules = of_written_modules p.modules t; units = of_written_units p.units t; order = p.order }
