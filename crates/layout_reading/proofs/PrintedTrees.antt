-- The rows and the plain tree of each form of a statement.
use Rattle.std.proofs.Common.{◌≡◌, List, Option, None, Some, Bool, false, map, option_map, sym, ap, ◌∙◌, codes}
use Rattle.fort_tree.specs.declared.place.Place.{Place}
use Rattle.fort_tree.specs.declared.expr.Expr.{Expr}
use Rattle.fort_tree.specs.declared.expr.Sub.{Sub}
use Rattle.fort_tree.specs.declared.stmt.Arm.{Arm}
use Rattle.fort_tree.specs.declared.stmt.Case.{Case}
use Rattle.fort_tree.specs.declared.stmt.Directive.{Directive}
use Rattle.fort_tree.specs.declared.stmt.Head.{Head}
use Rattle.fort_tree.specs.declared.stmt.Named.{Named}
use Rattle.fort_tree.specs.declared.stmt.Range.{Range}
use Rattle.fort_tree.specs.declared.stmt.Stmt.{Stmt}
use Rattle.fort_tree.specs.declared.stmt.Stmt.TheOpen.{Stmt-F}
use Rattle.fort_tree.specs.declared.stmt.Stmt.TheFolds.{fold-Arm, fold-Case, fold-roll-Stmt, fold-roll-Arm, fold-roll-Case}
use Rattle.fort_tree.specs.declared.stmt.Stmt.TheVariants as stmt
use Rattle.fort_spell.specs.Pieces.{name_pieces}
use Rattle.fort_spell.specs.Statements.{Printed, PrintedArm, PrintedCase, printed, acts, assign_pieces, call_pieces, if_rows, select_rows, loop_rows, body_rows, lone, stmt_step, arm_step, case_step, print, print_arm, print_case}
use Rattle.claw_meaning.specs.Syntax as plain
use Rattle.claw_meaning.specs.Plain as p
use Rattle.sound_programs.specs.Nesting.{arm, case}

-- ROWS

pub print_assign : (at : Place) (l r : Expr) → print (stmt.Assign at l r) ≡ acts (assign_pieces l r)
print_assign at l r = ap print (sym (stmt.rolls-Assign at l r)) ∙ fold-roll-Stmt Printed PrintedArm PrintedCase stmt_step arm_step case_step (Stmt-F.Assign at l r)

pub print_call : (at : Place) (n : Named) (l : List Sub) → print (stmt.Call at n l false) ≡ acts (call_pieces n.name l)
print_call at n l = ap print (sym (stmt.rolls-Call at n l false)) ∙ fold-roll-Stmt Printed PrintedArm PrintedCase stmt_step arm_step case_step (Stmt-F.Call at n l false)

pub print_exit : (at : Place) → print (stmt.Exit at) ≡ acts (name_pieces (codes "exit"))
print_exit at = ap print (sym (stmt.rolls-Exit at)) ∙ fold-roll-Stmt Printed PrintedArm PrintedCase stmt_step arm_step case_step (Stmt-F.Exit at)

pub print_cycle : (at : Place) → print (stmt.Cycle at) ≡ acts (name_pieces (codes "cycle"))
print_cycle at = ap print (sym (stmt.rolls-Cycle at)) ∙ fold-roll-Stmt Printed PrintedArm PrintedCase stmt_step arm_step case_step (Stmt-F.Cycle at)

pub print_return : (at : Place) → print (stmt.Return at) ≡ acts (name_pieces (codes "return"))
print_return at = ap print (sym (stmt.rolls-Return at)) ∙ fold-roll-Stmt Printed PrintedArm PrintedCase stmt_step arm_step case_step (Stmt-F.Return at)

pub print_if : (at : Place) (l : List Arm) (o : Option (List Stmt)) → print (stmt.If at l o) ≡ printed (if_rows (map print_arm l) (option_map (map print) o)) None
print_if at l None = ap print (sym (stmt.rolls-If at l None)) ∙ fold-roll-Stmt Printed PrintedArm PrintedCase stmt_step arm_step case_step (Stmt-F.If at l None)
print_if at l (Some b) = ap print (sym (stmt.rolls-If at l (Some b))) ∙ fold-roll-Stmt Printed PrintedArm PrintedCase stmt_step arm_step case_step (Stmt-F.If at l (Some b))

pub print_select : (at : Place) (e : Expr) (l : List Case) (o : Option (List Stmt)) → print (stmt.Select at e l o) ≡ printed (select_rows e (map print_case l) (option_map (map print) o)) None
print_select at e l None = ap print (sym (stmt.rolls-Select at e l None)) ∙ fold-roll-Stmt Printed PrintedArm PrintedCase stmt_step arm_step case_step (Stmt-F.Select at e l None)
print_select at e l (Some b) = ap print (sym (stmt.rolls-Select at e l (Some b))) ∙ fold-roll-Stmt Printed PrintedArm PrintedCase stmt_step arm_step case_step (Stmt-F.Select at e l (Some b))

pub print_loop : (at : Place) (h : Head) (b : List Stmt) (o : Option Directive) → print (stmt.Loop at h b o) ≡ printed (loop_rows o h (map print b)) None
print_loop at h b o = ap print (sym (stmt.rolls-Loop at h b o)) ∙ fold-roll-Stmt Printed PrintedArm PrintedCase stmt_step arm_step case_step (Stmt-F.Loop at h b o)

pub print_an_arm : (e : Expr) (b : List Stmt) → print_arm (arm e b) ≡ record { test = e; rows = body_rows (map print b); action = lone (map print b) }
print_an_arm e b = fold-roll-Arm Printed PrintedArm PrintedCase stmt_step arm_step case_step (record { test = e; body = b })

pub print_a_case : (l : List Range) (b : List Stmt) → print_case (case l b) ≡ record { ranges = l; rows = body_rows (map print b) }
print_a_case l b = fold-roll-Case Printed PrintedArm PrintedCase stmt_step arm_step case_step (record { ranges = l; body = b })

-- PLAIN TREES

abbrev MoreArms : Type 0
MoreArms = plain.Arms → plain.Arms

abbrev MoreCases : Type 0
MoreCases = plain.Cases → plain.Cases

abbrev pub plain_arm : Arm → plain.Arms → plain.Arms
plain_arm = fold-Arm plain.Stmt (plain.Arms → plain.Arms) (plain.Cases → plain.Cases) p.stmt_step p.arm_step p.case_step

abbrev pub plain_case : Case → plain.Cases → plain.Cases
plain_case = fold-Case plain.Stmt (plain.Arms → plain.Arms) (plain.Cases → plain.Cases) p.stmt_step p.arm_step p.case_step

pub plain_assign : (at : Place) (l r : Expr) → p.plain_stmt (stmt.Assign at l r) ≡ plain.Assign (p.plain_expr l) (p.plain_expr r)
plain_assign at l r = ap p.plain_stmt (sym (stmt.rolls-Assign at l r)) ∙ fold-roll-Stmt plain.Stmt MoreArms MoreCases p.stmt_step p.arm_step p.case_step (Stmt-F.Assign at l r)

pub plain_call : (at : Place) (n : Named) (l : List Sub) (b : Bool) → p.plain_stmt (stmt.Call at n l b) ≡ plain.Call n.name (p.plain_subs l) b
plain_call at n l b = ap p.plain_stmt (sym (stmt.rolls-Call at n l b)) ∙ fold-roll-Stmt plain.Stmt MoreArms MoreCases p.stmt_step p.arm_step p.case_step (Stmt-F.Call at n l b)

pub plain_exit : (at : Place) → p.plain_stmt (stmt.Exit at) ≡ plain.Exit
plain_exit at = ap p.plain_stmt (sym (stmt.rolls-Exit at)) ∙ fold-roll-Stmt plain.Stmt MoreArms MoreCases p.stmt_step p.arm_step p.case_step (Stmt-F.Exit at)

pub plain_cycle : (at : Place) → p.plain_stmt (stmt.Cycle at) ≡ plain.Cycle
plain_cycle at = ap p.plain_stmt (sym (stmt.rolls-Cycle at)) ∙ fold-roll-Stmt plain.Stmt MoreArms MoreCases p.stmt_step p.arm_step p.case_step (Stmt-F.Cycle at)

pub plain_return : (at : Place) → p.plain_stmt (stmt.Return at) ≡ plain.Return
plain_return at = ap p.plain_stmt (sym (stmt.rolls-Return at)) ∙ fold-roll-Stmt plain.Stmt MoreArms MoreCases p.stmt_step p.arm_step p.case_step (Stmt-F.Return at)

pub plain_if : (at : Place) (l : List Arm) (o : Option (List Stmt)) → p.plain_stmt (stmt.If at l o) ≡ plain.If (p.arms_of (map plain_arm l)) (p.otherwise (option_map (map p.plain_stmt) o))
plain_if at l None = ap p.plain_stmt (sym (stmt.rolls-If at l None)) ∙ fold-roll-Stmt plain.Stmt MoreArms MoreCases p.stmt_step p.arm_step p.case_step (Stmt-F.If at l None)
plain_if at l (Some b) = ap p.plain_stmt (sym (stmt.rolls-If at l (Some b))) ∙ fold-roll-Stmt plain.Stmt MoreArms MoreCases p.stmt_step p.arm_step p.case_step (Stmt-F.If at l (Some b))

pub plain_select : (at : Place) (e : Expr) (l : List Case) (o : Option (List Stmt)) → p.plain_stmt (stmt.Select at e l o) ≡ plain.Select (p.plain_expr e) (p.cases_of (map plain_case l)) (p.otherwise (option_map (map p.plain_stmt) o))
plain_select at e l None = ap p.plain_stmt (sym (stmt.rolls-Select at e l None)) ∙ fold-roll-Stmt plain.Stmt MoreArms MoreCases p.stmt_step p.arm_step p.case_step (Stmt-F.Select at e l None)
plain_select at e l (Some b) = ap p.plain_stmt (sym (stmt.rolls-Select at e l (Some b))) ∙ fold-roll-Stmt plain.Stmt MoreArms MoreCases p.stmt_step p.arm_step p.case_step (Stmt-F.Select at e l (Some b))

pub plain_loop : (at : Place) (h : Head) (b : List Stmt) (o : Option Directive) → p.plain_stmt (stmt.Loop at h b o) ≡ plain.Do (p.plain_head h) (p.plain_stmts b) (option_map p.plain_directive o)
plain_loop at h b None = ap p.plain_stmt (sym (stmt.rolls-Loop at h b None)) ∙ fold-roll-Stmt plain.Stmt MoreArms MoreCases p.stmt_step p.arm_step p.case_step (Stmt-F.Loop at h b None)
plain_loop at h b (Some d) = ap p.plain_stmt (sym (stmt.rolls-Loop at h b (Some d))) ∙ fold-roll-Stmt plain.Stmt MoreArms MoreCases p.stmt_step p.arm_step p.case_step (Stmt-F.Loop at h b (Some d))

pub plain_an_arm : (e : Expr) (b : List Stmt) (rest : plain.Arms) → plain_arm (arm e b) rest ≡ plain.Arm (p.plain_expr e) (p.plain_stmts b) rest
plain_an_arm e b rest = ap (λ (f : MoreArms). f rest) (fold-roll-Arm plain.Stmt MoreArms MoreCases p.stmt_step p.arm_step p.case_step (record { test = e; body = b }))

pub plain_a_case : (l : List Range) (b : List Stmt) (rest : plain.Cases) → plain_case (case l b) rest ≡ plain.Case (map p.plain_range l) (p.plain_stmts b) rest
plain_a_case l b rest = ap (λ (f : MoreCases). f rest) (fold-roll-Case plain.Stmt MoreArms MoreCases p.stmt_step p.arm_step p.case_step (record { ranges = l; body = b }))

pub plain_block : (at : Place) (d : Directive) (b : List Stmt) → p.plain_stmt (stmt.Block at d b) ≡ plain.Block (p.plain_directive d) (p.plain_stmts b)
plain_block at d b = ap p.plain_stmt (sym (stmt.rolls-Block at d b)) ∙ fold-roll-Stmt plain.Stmt MoreArms MoreCases p.stmt_step p.arm_step p.case_step (Stmt-F.Block at d b)
