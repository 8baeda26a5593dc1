-- The rows of statements.
use Rattle.std.specs.Prelude.{ℕ, Bool, true, false, if◌then◌else◌, List, [], ◌∷◌, Option, None, Some, codes, map}
use Rattle.fort_tree.specs.declared.expr.Expr.{Expr}
use Rattle.fort_tree.specs.declared.expr.Sub.{Sub}
use Rattle.fort_tree.specs.declared.stmt.Stmt.{Stmt}
use Rattle.fort_tree.specs.declared.stmt.Arm.{Arm}
use Rattle.fort_tree.specs.declared.stmt.Case.{Case}
use Rattle.fort_tree.specs.declared.stmt.Head.{Head}
use Rattle.fort_tree.specs.declared.stmt.Range.{Range}
use Rattle.fort_tree.specs.declared.stmt.Range.TheVariants as range
use Rattle.fort_tree.specs.declared.stmt.Directive.{Directive}
use Rattle.fort_tree.specs.declared.stmt.DirectiveWord.{DirectiveWord}
use Rattle.fort_tree.specs.declared.stmt.DirectiveWord.TheVariants as directive
use Rattle.fort_tree.specs.declared.stmt.Stmt.TheOpen.{Stmt-F, Arm-F, Case-F}
use Rattle.fort_tree.specs.declared.stmt.Stmt.TheFolds.{fold-Stmt, fold-Arm, fold-Case}
use Rattle.fort_spell.specs.declared.mark.Mark.TheVariants as mark
use Rattle.fort_spell.specs.declared.line.Sentinel.TheVariants as sentinel
use Rattle.fort_spell.specs.Pieces.{Piece, Spelling, or_none, word, sign, bracketed, span, name_pieces, pair}
use Rattle.fort_spell.specs.Expressions.{expr_pieces, sub_pieces, bound_pieces}
use Rattle.fort_spell.specs.Rows.{Block, row, one_row, mark_row, all_rows, deeper}

-- PIECES

abbrev pub assign_pieces : Expr → Expr → Spelling
assign_pieces l r s k = expr_pieces l s (sign true mark.Assign (expr_pieces r true k))

abbrev pub argument_pieces : List Sub → List Piece → List Piece
argument_pieces [] k = k
argument_pieces (a ∷ more) k = bracketed true (map sub_pieces (a ∷ more)) false k

abbrev pub call_pieces : List ℕ → List Sub → Spelling
call_pieces name args s k = word s (codes "call") (word true name (argument_pieces args k))

abbrev pub if_pieces : Expr → Spelling
if_pieces test s k = word s (codes "if") (sign true mark.Open (expr_pieces test false (sign false mark.Close k)))

abbrev pub then_pieces : Expr → Spelling
then_pieces test s k = if_pieces test s (word true (codes "then") k)

abbrev pub else_if_pieces : Expr → Spelling
else_if_pieces test s k = word s (codes "else") (then_pieces test true k)

abbrev pub step_pieces : Option Expr → List Piece → List Piece
step_pieces None k = k
step_pieces (Some e) k = sign false mark.Comma (expr_pieces e true k)

abbrev pub do_pieces : Head → Spelling
do_pieces head s k =
    word s (codes "do") (word true head.var (sign true mark.Assign (expr_pieces head.from true (sign false mark.Comma (expr_pieces head.to true (step_pieces head.step k))))))

abbrev pub select_pieces : Expr → Spelling
select_pieces on s k = word s (codes "select") (word true (codes "case") (sign true mark.Open (expr_pieces on false (sign false mark.Close k))))

abbrev pub range_pieces : Range → Spelling
range_pieces (range.One e) s k = expr_pieces e s k
range_pieces (range.Span a b) s k = span (bound_pieces a) (bound_pieces b) s k

abbrev pub case_pieces : List Range → Spelling
case_pieces ranges s k = word s (codes "case") (bracketed true (map range_pieces ranges) true k)

-- MARKS

abbrev pub private_list : List (List ℕ) → List Piece → List Piece
private_list names k = word true (codes "private") (bracketed true (map name_pieces names) false k)

abbrev pub private_pieces : List (List ℕ) → List Piece → List Piece
private_pieces [] k = k
private_pieces (n ∷ ns) k = private_list (n ∷ ns) k

abbrev pub open_mp_pieces : List (List ℕ) → Spelling
open_mp_pieces names s k = word s (codes "parallel") (word true (codes "do") (private_pieces names k))

abbrev pub open_acc_pieces : List (List ℕ) → Spelling
open_acc_pieces names s k = word s (codes "parallel") (word true (codes "loop") (word true (codes "gang") (word true (codes "vector") (private_pieces names k))))

-- the mark line before a loop: other marks have none
abbrev pub loop_mark_rows : DirectiveWord → List (List ℕ) → Block
loop_mark_rows directive.OpenMpLoop names n rs = mark_row sentinel.OpenMp n (open_mp_pieces names false []) rs
loop_mark_rows directive.OpenAccLoop names n rs = mark_row sentinel.OpenAcc n (open_acc_pieces names false []) rs
loop_mark_rows _ names n rs = rs

abbrev pub mark_rows : Option Directive → Block
mark_rows None n rs = rs
mark_rows (Some d) n rs = loop_mark_rows d.word d.names n rs

-- STATEMENTS

-- How a statement is printed: its rows; and its pieces, where it may stand in a one-line IF.
pub record Printed : Type 0 where
  pub rows : Block
  pub action : Option Spelling

abbrev pub printed : Block → Option Spelling → Printed
printed rows action = record { rows = rows; action = action }

abbrev pub acts : Spelling → Printed
acts f = printed (one_row f) (Some f)

-- An arm of an IF: its test, its rows, and its action, where that is all.
pub record PrintedArm : Type 0 where
  pub test : Expr
  pub rows : Block
  pub action : Option Spelling

-- An arm of a SELECT.
pub record PrintedCase : Type 0 where
  pub ranges : List Range
  pub rows : Block

abbrev pub body_rows : List Printed → Block
body_rows ps = all_rows (map (λ (p : Printed). p.rows) ps)

-- the action of a block that is one action
abbrev pub lone : List Printed → Option Spelling
lone (p ∷ []) = p.action
lone _ = None

abbrev pub arm_step : Arm-F Printed PrintedArm PrintedCase → PrintedArm
arm_step arm = record { test = arm.test; rows = body_rows arm.body; action = lone arm.body }

abbrev pub case_step : Case-F Printed PrintedArm PrintedCase → PrintedCase
case_step case = record { ranges = case.ranges; rows = body_rows case.body }

abbrev pub else_if_rows : List PrintedArm → Block
else_if_rows [] n rs = rs
else_if_rows (a ∷ more) n rs = row n (else_if_pieces a.test false []) (a.rows (deeper n) (else_if_rows more n rs))

abbrev pub arm_rows : List PrintedArm → Block
arm_rows [] n rs = rs
arm_rows (a ∷ more) n rs = row n (then_pieces a.test false []) (a.rows (deeper n) (else_if_rows more n rs))

abbrev pub else_rows : Option (List Printed) → Block
else_rows None n rs = rs
else_rows (Some ps) n rs = row n (word false (codes "else") []) (body_rows ps (deeper n) rs)

abbrev pub block_rows : List PrintedArm → Option (List Printed) → Block
block_rows arms other n rs = arm_rows arms n (else_rows other n (row n (pair (codes "end") (codes "if") false []) rs))

-- the pieces of an IF before an action
abbrev pub short_if : Expr → Option Spelling → Spelling
short_if test action s k = if_pieces test s (or_none action true k)

abbrev pub is_some : Option Spelling → Bool
is_some None = false
is_some (Some f) = true

-- The form of an IF: one line for one arm, no ELSE, and a block that is one action.
abbrev pub is_one_line : List PrintedArm → Option (List Printed) → Bool
is_one_line (a ∷ []) None = is_some a.action
is_one_line _ _ = false

abbrev pub one_line_rows : List PrintedArm → Block
one_line_rows [] n rs = rs
one_line_rows (a ∷ more) n rs = one_row (short_if a.test a.action) n rs

abbrev pub if_rows : List PrintedArm → Option (List Printed) → Block
if_rows arms other n rs = if is_one_line arms other then one_line_rows arms n rs else block_rows arms other n rs

abbrev pub case_rows : List PrintedCase → Block
case_rows [] n rs = rs
case_rows (c ∷ cs) n rs = row n (case_pieces c.ranges false []) (c.rows (deeper n) (case_rows cs n rs))

abbrev pub default_rows : Option (List Printed) → Block
default_rows None n rs = rs
default_rows (Some ps) n rs = row n (pair (codes "case") (codes "default") false []) (body_rows ps (deeper n) rs)

abbrev pub select_rows : Expr → List PrintedCase → Option (List Printed) → Block
select_rows on arms other n rs = row n (select_pieces on false []) (case_rows arms n (default_rows other n (row n (pair (codes "end") (codes "select") false []) rs)))

abbrev pub loop_rows : Option Directive → Head → List Printed → Block
loop_rows mark head body n rs = mark_rows mark n (row n (do_pieces head false []) (body_rows body (deeper n) (row n (pair (codes "end") (codes "do") false []) rs)))

-- A CALL that a directive stands before is no action of a one-line IF.
abbrev pub call_printed : Bool → Spelling → Printed
call_printed true f = printed (one_row f) None
call_printed false f = acts f

abbrev pub stmt_step : Stmt-F Printed PrintedArm PrintedCase → Printed
stmt_step (Stmt-F.Assign at left right) = acts (assign_pieces left right)
stmt_step (Stmt-F.Call at name args forward) = call_printed forward (call_pieces name.name args)
stmt_step (Stmt-F.If at arms other) = printed (if_rows arms other) None
stmt_step (Stmt-F.Select at on arms other) = printed (select_rows on arms other) None
stmt_step (Stmt-F.Loop at head body mark) = printed (loop_rows mark head body) None
stmt_step (Stmt-F.Block at mark body) = printed (body_rows body) None
stmt_step (Stmt-F.Piece body) = printed (body_rows body) None
stmt_step (Stmt-F.Exit at) = acts (name_pieces (codes "exit"))
stmt_step (Stmt-F.Cycle at) = acts (name_pieces (codes "cycle"))
stmt_step (Stmt-F.Return at) = acts (name_pieces (codes "return"))

abbrev pub print : Stmt → Printed
print = fold-Stmt Printed PrintedArm PrintedCase stmt_step arm_step case_step

abbrev pub print_arm : Arm → PrintedArm
print_arm = fold-Arm Printed PrintedArm PrintedCase stmt_step arm_step case_step

abbrev pub print_case : Case → PrintedCase
print_case = fold-Case Printed PrintedArm PrintedCase stmt_step arm_step case_step

abbrev pub stmts_rows : List Stmt → Block
stmts_rows ss = body_rows (map print ss)
