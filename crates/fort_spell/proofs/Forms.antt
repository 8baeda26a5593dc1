-- The rows of each kind of statement.
use Rattle.std.proofs.Common.{drop-cons}
use Rattle.std.proofs.Common.{◌≡◌, ℕ, ◌+◌, ◌<◌, suc, length, drop, get_or, arith, Bool, false, if◌then◌else◌, List, [], ◌∷◌, refl, sym, ap, ◌∙◌, map, Some, None, codes}
use Rattle.std.specs.declared.option.Option.{Option}
use Rattle.fort_tree.specs.declared.place.Place.{Place}
use Rattle.fort_tree.specs.declared.expr.Expr.{Expr}
use Rattle.fort_tree.specs.declared.stmt.Stmt.{Stmt}
use Rattle.fort_tree.specs.declared.stmt.Stmt.TheVariants as stmt
use Rattle.fort_tree.specs.declared.stmt.Arm.{Arm}
use Rattle.fort_tree.specs.declared.stmt.Case.{Case}
use Rattle.fort_tree.specs.declared.stmt.Head.{Head}
use Rattle.fort_tree.specs.declared.stmt.Directive.{Directive}
use Rattle.fort_tree.specs.declared.stmt.Stmt.TheOpen.{Stmt-F}
use Rattle.fort_tree.specs.declared.stmt.Stmt.TheFolds.{fold-roll-Stmt, fold_out-Arm, fold_out-Case}
use Rattle.fort_tree.specs.declared.stmt.Range.{Range}
use Rattle.fort_spell.specs.Pieces.{pair}
use Rattle.fort_spell.specs.Rows.{Block, Row, deeper, one_row}
use Rattle.fort_spell.specs.Statements.{Printed, PrintedArm, PrintedCase, arm_rows, arm_step, block_rows, case_pieces, case_rows, case_step, default_rows, do_pieces, else_if_pieces, else_if_rows, else_rows, if_rows, is_one_line, mark_rows, one_line_rows, print, print_arm, print_case, select_pieces, stmt_step, stmts_rows, then_pieces}

-- A list, from the next item on.
pub dropped : {T : Type 0} (l : List T) (i : ℕ) (x : T) → i < length l → x ≡ get_or l i x → drop i l ≡ x ∷ drop (i + 1) l
dropped l i x h e =
    let m : suc i ≡ i + 1 = omega arith in
    drop-cons l i x h ∙ ap (λ q. q ∷ drop (suc i) l) (sym e) ∙ ap (λ j. x ∷ drop j l) m

never_short : (arms : List PrintedArm) (ps : List Printed) → is_one_line arms (Some ps) ≡ false
never_short [] ps = refl
never_short (a ∷ []) ps = refl
never_short (a ∷ b ∷ arms) ps = refl

block_of : (arms : List PrintedArm) (o : Option (List Printed)) (n : ℕ) → is_one_line arms o ≡ false → if_rows arms o n ≡ block_rows arms o n
block_of arms o n e =
    let chosen : Bool → List Row → List Row = λ b rs. if b then one_line_rows arms n rs else block_rows arms o n rs in
    ap chosen e

pub if_none_is : (x : Stmt) (p : Place) (arms : List Arm) (o : Option (List Stmt)) (l : List Arm) (n : ℕ) → x ≡ stmt.If p arms o → o ≡ None → l ≡ arms → is_one_line (map print_arm l) None ≡ false →
    (print x).rows n ≡ (λ rs. arm_rows (map print_arm l) n (one_row (pair (codes "end") (codes "if")) n rs))
if_none_is x p arms o l n e d a h =
    let same : x ≡ stmt.If p l None = e ∙ ap (λ q. stmt.If p arms q) d ∙ ap (λ q. stmt.If p q None) (sym a) in
    ap (λ q. (print q).rows n) (same ∙ sym (stmt.rolls-If p l None))
    ∙ ap (λ (q : Printed). q.rows n) (fold-roll-Stmt Printed PrintedArm PrintedCase stmt_step arm_step case_step (Stmt-F.If p l None))
    ∙ block_of (map print_arm l) None n h

pub if_some_is : (x : Stmt) (p : Place) (arms : List Arm) (o : Option (List Stmt)) (body : List Stmt) (l : List Arm) (b : List Stmt) (n : ℕ) → x ≡ stmt.If p arms o → o ≡ Some body → l ≡ arms → b ≡ body →
    (print x).rows n ≡ (λ rs. arm_rows (map print_arm l) n (else_rows (Some (map print b)) n (one_row (pair (codes "end") (codes "if")) n rs)))
if_some_is x p arms o body l b n e d a f =
    let same : x ≡ stmt.If p l (Some b) = e ∙ ap (λ q. stmt.If p arms q) d ∙ ap (λ q. stmt.If p q (Some body)) (sym a) ∙ ap (λ q. stmt.If p l (Some q)) (sym f) in
    ap (λ q. (print q).rows n) (same ∙ sym (stmt.rolls-If p l (Some b)))
    ∙ ap (λ (q : Printed). q.rows n) (fold-roll-Stmt Printed PrintedArm PrintedCase stmt_step arm_step case_step (Stmt-F.If p l (Some b)))
    ∙ block_of (map print_arm l) (Some (map print b)) n (never_short (map print_arm l) (map print b))

pub select_none_is : (x : Stmt) (p : Place) (on : Expr) (arms : List Case) (o : Option (List Stmt)) (l : List Case) (n : ℕ) → x ≡ stmt.Select p on arms o → o ≡ None → l ≡ arms →
    (print x).rows n ≡ (λ rs. one_row (select_pieces on) n (case_rows (map print_case l) n (one_row (pair (codes "end") (codes "select")) n rs)))
select_none_is x p on arms o l n e d a =
    let same : x ≡ stmt.Select p on l None = e ∙ ap (λ q. stmt.Select p on arms q) d ∙ ap (λ q. stmt.Select p on q None) (sym a) in
    ap (λ q. (print q).rows n) (same ∙ sym (stmt.rolls-Select p on l None))
    ∙ ap (λ (q : Printed). q.rows n) (fold-roll-Stmt Printed PrintedArm PrintedCase stmt_step arm_step case_step (Stmt-F.Select p on l None))

pub select_some_is : (x : Stmt) (p : Place) (on : Expr) (arms : List Case) (o : Option (List Stmt)) (body : List Stmt) (l : List Case) (b : List Stmt) (n : ℕ) → x ≡ stmt.Select p on arms o → o ≡ Some body → l ≡ arms → b ≡ body →
    (print x).rows n ≡ (λ rs. one_row (select_pieces on) n (case_rows (map print_case l) n (default_rows (Some (map print b)) n (one_row (pair (codes "end") (codes "select")) n rs))))
select_some_is x p on arms o body l b n e d a f =
    let same : x ≡ stmt.Select p on l (Some b) = e ∙ ap (λ q. stmt.Select p on arms q) d ∙ ap (λ q. stmt.Select p on q (Some body)) (sym a) ∙ ap (λ q. stmt.Select p on l (Some q)) (sym f) in
    ap (λ q. (print q).rows n) (same ∙ sym (stmt.rolls-Select p on l (Some b)))
    ∙ ap (λ (q : Printed). q.rows n) (fold-roll-Stmt Printed PrintedArm PrintedCase stmt_step arm_step case_step (Stmt-F.Select p on l (Some b)))

pub loop_is : (x : Stmt) (p : Place) (head : Head) (body : List Stmt) (mark : Option Directive) (b : List Stmt) (n : ℕ) → x ≡ stmt.Loop p head body mark → b ≡ body →
    (print x).rows n ≡ (λ rs. mark_rows mark n (one_row (do_pieces head) n (stmts_rows b (deeper n) (one_row (pair (codes "end") (codes "do")) n rs))))
loop_is x p head body mark b n e f =
    let same : x ≡ stmt.Loop p head b mark = e ∙ ap (λ q. stmt.Loop p head q mark) (sym f) in
    ap (λ q. (print q).rows n) (same ∙ sym (stmt.rolls-Loop p head b mark))
    ∙ ap (λ (q : Printed). q.rows n) (fold-roll-Stmt Printed PrintedArm PrintedCase stmt_step arm_step case_step (Stmt-F.Loop p head b mark))

-- The arms of an IF and of a SELECT.
arm_test : (a : Arm) → (print_arm a).test ≡ a.test
arm_test a = ap (λ (q : PrintedArm). q.test) (fold_out-Arm Printed PrintedArm PrintedCase stmt_step arm_step case_step a)

arm_body : (a : Arm) → (print_arm a).rows ≡ stmts_rows a.body
arm_body a = ap (λ (q : PrintedArm). q.rows) (fold_out-Arm Printed PrintedArm PrintedCase stmt_step arm_step case_step a)

case_ranges : (a : Case) → (print_case a).ranges ≡ a.ranges
case_ranges a = ap (λ (q : PrintedCase). q.ranges) (fold_out-Case Printed PrintedArm PrintedCase stmt_step arm_step case_step a)

case_body : (a : Case) → (print_case a).rows ≡ stmts_rows a.body
case_body a = ap (λ (q : PrintedCase). q.rows) (fold_out-Case Printed PrintedArm PrintedCase stmt_step arm_step case_step a)

pub arms_are : (l : List Arm) (a : Arm) (more : List Arm) (b : List Stmt) (n : ℕ) → l ≡ a ∷ more → b ≡ a.body →
    arm_rows (map print_arm l) n ≡ (λ rs. one_row (then_pieces a.test) n (stmts_rows b (deeper n) (else_if_rows (map print_arm more) n rs)))
arms_are l a more b n e f =
    let rows_of : Expr → Block → List Row → List Row = λ t r rs. one_row (then_pieces t) n (r (deeper n) (else_if_rows (map print_arm more) n rs)) in
    ap (λ q. arm_rows (map print_arm q) n) e ∙ ap (λ t. rows_of t (print_arm a).rows) (arm_test a) ∙ ap (rows_of a.test) (arm_body a ∙ ap stmts_rows (sym f))

pub else_ifs_are : (l : List Arm) (a : Arm) (more : List Arm) (b : List Stmt) (n : ℕ) → l ≡ a ∷ more → b ≡ a.body →
    else_if_rows (map print_arm l) n ≡ (λ rs. one_row (else_if_pieces a.test) n (stmts_rows b (deeper n) (else_if_rows (map print_arm more) n rs)))
else_ifs_are l a more b n e f =
    let rows_of : Expr → Block → List Row → List Row = λ t r rs. one_row (else_if_pieces t) n (r (deeper n) (else_if_rows (map print_arm more) n rs)) in
    ap (λ q. else_if_rows (map print_arm q) n) e ∙ ap (λ t. rows_of t (print_arm a).rows) (arm_test a) ∙ ap (rows_of a.test) (arm_body a ∙ ap stmts_rows (sym f))

pub cases_are : (l : List Case) (a : Case) (more : List Case) (r : List Range) (b : List Stmt) (n : ℕ) → l ≡ a ∷ more → r ≡ a.ranges → b ≡ a.body →
    case_rows (map print_case l) n ≡ (λ rs. one_row (case_pieces r) n (stmts_rows b (deeper n) (case_rows (map print_case more) n rs)))
cases_are l a more r b n e h f =
    let rows_of : List Range → Block → List Row → List Row = λ t r rs. one_row (case_pieces t) n (r (deeper n) (case_rows (map print_case more) n rs)) in
    ap (λ q. case_rows (map print_case q) n) e ∙ ap (λ t. rows_of t (print_case a).rows) (case_ranges a ∙ sym h) ∙ ap (rows_of r) (case_body a ∙ ap stmts_rows (sym f))
