-- The rows of a file are those of its plain tree: they don't depend on places.
use Rattle.std.proofs.Common.{◌≡◌, ℕ, List, [], ◌∷◌, Option, None, Some, Bool, true, false, cond, map, option_map, filter, slice_get, refl, sym, ap, ◌∙◌, subst, codes, bytes_eq, zero, suc, if◌then◌else◌}
use Rattle.fort_tree.specs.declared.expr.Expr.{Expr}
use Rattle.fort_tree.specs.declared.expr.Sub.{Sub, out-Sub}
use Rattle.fort_tree.specs.declared.expr.Expr.TheOpen.{Expr-F, Sub-F}
use Rattle.fort_tree.specs.declared.expr.Expr.TheFolds.{fold-roll-Expr, fold-roll-Sub, map-Expr, map-Sub, ind-Expr}
use Rattle.fort_tree.specs.declared.expr.Expr.TheViews.{roll-Expr, roll-Sub, roll-out-Sub}
use Rattle.fort_tree.specs.declared.stmt.Arm.{Arm}
use Rattle.fort_tree.specs.declared.stmt.Case.{Case}
use Rattle.fort_tree.specs.declared.stmt.Directive.{Directive}
use Rattle.fort_tree.specs.declared.stmt.Head.{Head}
use Rattle.fort_tree.specs.declared.stmt.Named.{Named}
use Rattle.fort_tree.specs.declared.stmt.Range.{Range}
use Rattle.fort_tree.specs.declared.stmt.Range.TheVariants as range
use Rattle.fort_tree.specs.declared.stmt.Stmt.{Stmt}
use Rattle.fort_tree.specs.declared.stmt.Stmt.TheOpen.{Stmt-F, Arm-F, Case-F}
use Rattle.fort_tree.specs.declared.stmt.Stmt.TheFolds.{fold-roll-Stmt, fold-roll-Arm, fold-roll-Case, map-Stmt, map-Arm, map-Case, ind-Stmt}
use Rattle.fort_tree.specs.declared.stmt.Stmt.TheViews.{roll-Stmt, roll-Arm, roll-Case}
use Rattle.fort_tree.specs.declared.unit.Bound.{Bound}
use Rattle.fort_tree.specs.declared.unit.Decl.{Decl}
use Rattle.fort_tree.specs.declared.unit.File.{File}
use Rattle.fort_tree.specs.declared.unit.Item.{Item}
use Rattle.fort_tree.specs.declared.unit.Item.TheVariants as item
use Rattle.fort_tree.specs.declared.unit.Module as tree_module
use Rattle.fort_tree.specs.declared.unit.Unit as tree_unit
use Rattle.fort_tree.specs.declared.unit.Use.{Use}
use Rattle.fort_spell.specs.Units.{named_pieces, only_pieces, use_pieces, kind_pieces, intent_pieces, parameter_pieces, dimension, dimension_pieces, shape_pieces, value_pieces, decl_pieces, result_clause, function_clause, unit_word, header_pieces, implicit_rows, own_implicit_rows, routine_rows, uses_rows, decls_rows, routines_rows, unit_parts, unit_rows, is_host, units_of, contained_rows, module_rows, listed_module, listed_unit, item_rows, file_rows}
use Rattle.fort_tree.specs.Unplaced.{nowhere}
use Rattle.fort_spell.specs.declared.mark.Mark.TheVariants as mark
use Rattle.fort_spell.specs.Pieces.{Piece, Spelling, word, sign, bracketed, span, or_none, items, name_pieces, pair, end_pieces}
use Rattle.fort_spell.specs.Expressions.{expr_step, sub_step, expr_pieces, sub_pieces, bound_pieces}
use Rattle.fort_spell.specs.Rows.{Row, Block, row, one_row, deeper, next_indent, all_rows}
use Rattle.fort_spell.specs.Statements.{Printed, PrintedArm, PrintedCase, printed, acts, call_printed, argument_pieces, call_pieces, then_pieces, else_if_pieces, step_pieces, do_pieces, select_pieces, range_pieces, case_pieces, loop_mark_rows, mark_rows, body_rows, lone, else_if_rows, arm_rows, else_rows, is_some, one_line_rows, if_rows, case_rows, default_rows, stmt_step, arm_step, case_step, print, print_arm, print_case, stmts_rows}
use Rattle.claw_meaning.specs.Syntax as plain
use Rattle.claw_meaning.specs.Plain as p
use Rattle.layout_reading.proofs.PrintedTrees.{plain_arm, plain_case}

-- EXPRESSIONS

mutual
  pe : plain.Expr → Spelling
  pe (plain.Numeral n k) = expr_step (Expr-F.Number n k nowhere)
  pe (plain.Boolean b) = expr_step (Expr-F.Truth b nowhere)
  pe (plain.Name x) = expr_step (Expr-F.Ref x None nowhere)
  pe (plain.Reference x l) = expr_step (Expr-F.Ref x (Some (psubs l)) nowhere)
  pe (plain.Signed o a) = expr_step (Expr-F.«Expr::One» o (pe a) nowhere)
  pe (plain.Binary o a b) = expr_step (Expr-F.Two o (pe a) (pe b))
  pe (plain.Paren a) = expr_step (Expr-F.Paren (pe a) nowhere)

  psubs : plain.Subscripts → List Spelling
  psubs plain.No_more = []
  psubs (plain.At e rest) = sub_step (Sub-F.«Sub::One» (pe e)) ∷ psubs rest
  psubs (plain.Section a b rest) = sub_step (Sub-F.Range (plimit a) (plimit b) nowhere) ∷ psubs rest
  psubs (plain.Between i j rest) = psubs rest

  plimit : plain.Limit → Option Spelling
  plimit plain.Unbounded = None
  plimit (plain.Bounded e) = Some (pe e)

abbrev ExprIs : Expr → Type 0
ExprIs e = pe (p.plain_expr e) ≡ expr_pieces e

abbrev SubIs : Sub → Type 0
SubIs x = (rest : plain.Subscripts) → psubs (p.plain_sub x rest) ≡ sub_pieces x ∷ psubs rest

abbrev KnownExpr : Type 0
KnownExpr = (e : Expr) × ExprIs e

abbrev KnownSub : Type 0
KnownSub = (x : Sub) × SubIs x

abbrev expr_part : Expr-F KnownExpr KnownSub → Expr-F Expr Sub
expr_part y = map-Expr KnownExpr KnownSub Expr Sub (λ e. e.0) (λ x. x.0) y

abbrev sub_part : Sub-F KnownExpr KnownSub → Sub-F Expr Sub
sub_part y = map-Sub KnownExpr KnownSub Expr Sub (λ e. e.0) (λ x. x.0) y

known_subs : (l : List KnownSub) → psubs (p.chained (map p.plain_sub (map (λ (x : KnownSub). x.0) l))) ≡ map sub_pieces (map (λ (x : KnownSub). x.0) l)
unfolding psubs
known_subs [] = refl
known_subs (x ∷ l) = x.1 (p.chained (map p.plain_sub (map (λ (x : KnownSub). x.0) l))) ∙ ap (λ y. sub_pieces x.0 ∷ y) (known_subs l)

expr_level : (y : Expr-F KnownExpr KnownSub) →
    pe (p.expr_step (map-Expr Expr Sub plain.Expr p.Before p.plain_expr p.plain_sub (expr_part y))) ≡ expr_step (map-Expr Expr Sub Spelling Spelling expr_pieces sub_pieces (expr_part y))
unfolding pe psubs plimit
expr_level (Expr-F.Number n k at) = refl
expr_level (Expr-F.Truth b at) = refl
expr_level (Expr-F.Ref x None at) = refl
expr_level (Expr-F.Ref x (Some l) at) = ap (λ q. expr_step (Expr-F.Ref x (Some q) nowhere)) (known_subs l)
expr_level (Expr-F.«Expr::One» o a at) = ap (λ q. expr_step (Expr-F.«Expr::One» o q nowhere)) a.1
expr_level (Expr-F.Two o a b) = λ t. expr_step (Expr-F.Two o (a.1 t) (b.1 t))
expr_level (Expr-F.Paren a at) = ap (λ q. expr_step (Expr-F.Paren q nowhere)) a.1

sub_level : (y : Sub-F KnownExpr KnownSub) (rest : plain.Subscripts) →
    psubs (p.sub_step (map-Sub Expr Sub plain.Expr p.Before p.plain_expr p.plain_sub (sub_part y)) rest) ≡ sub_step (map-Sub Expr Sub Spelling Spelling expr_pieces sub_pieces (sub_part y)) ∷ psubs rest
unfolding pe psubs plimit
sub_level (Sub-F.«Sub::One» a) rest = ap (λ q. sub_step (Sub-F.«Sub::One» q) ∷ psubs rest) a.1
sub_level (Sub-F.Range None None at) rest = refl
sub_level (Sub-F.Range None (Some b) at) rest = ap (λ q. sub_step (Sub-F.Range None (Some q) nowhere) ∷ psubs rest) b.1
sub_level (Sub-F.Range (Some a) None at) rest = ap (λ q. sub_step (Sub-F.Range (Some q) None nowhere) ∷ psubs rest) a.1
sub_level (Sub-F.Range (Some a) (Some b) at) rest = λ t. sub_step (Sub-F.Range (Some (a.1 t)) (Some (b.1 t)) nowhere) ∷ psubs rest

expr_known : (y : Expr-F KnownExpr KnownSub) → ExprIs (roll-Expr (expr_part y))
expr_known y =
    ap pe (fold-roll-Expr plain.Expr p.Before p.expr_step p.sub_step (expr_part y)) ∙ expr_level y ∙ sym (fold-roll-Expr Spelling Spelling expr_step sub_step (expr_part y))

sub_known : (y : Sub-F KnownExpr KnownSub) → SubIs (roll-Sub (sub_part y))
sub_known y rest =
    ap (λ (f : p.Before). psubs (f rest)) (fold-roll-Sub plain.Expr p.Before p.expr_step p.sub_step (sub_part y)) ∙ sub_level y rest
    ∙ ap (λ q. q ∷ psubs rest) (sym (fold-roll-Sub Spelling Spelling expr_step sub_step (sub_part y)))

expr_is : (e : Expr) → ExprIs e
expr_is e = ind-Expr ExprIs SubIs (λ x y is. subst (λ q. ExprIs (roll-Expr q)) is (expr_known y)) (λ x y is. subst (λ q. SubIs (roll-Sub q)) is (sub_known y)) e

known_sub : Sub-F Expr Sub → Sub-F KnownExpr KnownSub
known_sub (Sub-F.«Sub::One» a) = Sub-F.«Sub::One» (a, expr_is a)
known_sub (Sub-F.Range None None at) = Sub-F.Range None None at
known_sub (Sub-F.Range None (Some b) at) = Sub-F.Range None (Some (b, expr_is b)) at
known_sub (Sub-F.Range (Some a) None at) = Sub-F.Range (Some (a, expr_is a)) None at
known_sub (Sub-F.Range (Some a) (Some b) at) = Sub-F.Range (Some (a, expr_is a)) (Some (b, expr_is b)) at

known_sub_is : (x : Sub-F Expr Sub) → sub_part (known_sub x) ≡ x
unfolding known_sub
known_sub_is (Sub-F.«Sub::One» a) = refl
known_sub_is (Sub-F.Range None None at) = refl
known_sub_is (Sub-F.Range None (Some b) at) = refl
known_sub_is (Sub-F.Range (Some a) None at) = refl
known_sub_is (Sub-F.Range (Some a) (Some b) at) = refl

sub_is : (x : Sub) → SubIs x
sub_is x = subst SubIs (roll-out-Sub x) (subst (λ q. SubIs (roll-Sub q)) (known_sub_is (out-Sub x)) (sub_known (known_sub (out-Sub x))))

subs_are : (l : List Sub) → psubs (p.plain_subs l) ≡ map sub_pieces l
unfolding psubs
subs_are [] = refl
subs_are (x ∷ l) = sub_is x (p.plain_subs l) ∙ ap (λ y. sub_pieces x ∷ y) (subs_are l)

pub same_pieces : (a b : Expr) → p.plain_expr a ≡ p.plain_expr b → expr_pieces a ≡ expr_pieces b
same_pieces a b e = sym (expr_is a) ∙ ap pe e ∙ expr_is b

option_is : (o : Option Expr) → option_map pe (p.plain_option o) ≡ bound_pieces o
option_is None = refl
option_is (Some e) = ap (λ x. Some x) (expr_is e)

-- PARTS OF STATEMENTS, OF SPELLINGS

abbrev assign' : Spelling → Spelling → Spelling
assign' l r s k = l s (sign true mark.Assign (r true k))

abbrev arguments' : List Spelling → List Piece → List Piece
arguments' [] k = k
arguments' (a ∷ more) k = bracketed true (a ∷ more) false k

abbrev call' : List ℕ → List Spelling → Spelling
call' name args s k = word s (codes "call") (word true name (arguments' args k))

abbrev if' : Spelling → Spelling
if' t s k = word s (codes "if") (sign true mark.Open (t false (sign false mark.Close k)))

abbrev then' : Spelling → Spelling
then' t s k = if' t s (word true (codes "then") k)

abbrev else_if' : Spelling → Spelling
else_if' t s k = word s (codes "else") (then' t true k)

abbrev step' : Option Spelling → List Piece → List Piece
step' None k = k
step' (Some e) k = sign false mark.Comma (e true k)

abbrev do' : List ℕ → Spelling → Spelling → Option Spelling → Spelling
do' x a b c s k = word s (codes "do") (word true x (sign true mark.Assign (a true (sign false mark.Comma (b true (step' c k))))))

abbrev select' : Spelling → Spelling
select' t s k = word s (codes "select") (word true (codes "case") (sign true mark.Open (t false (sign false mark.Close k))))

abbrev range' : plain.Range → Spelling
range' (plain.Single e) = pe e
range' (plain.Span a b) = span (option_map pe a) (option_map pe b)

abbrev case' : List Spelling → Spelling
case' l s k = word s (codes "case") (bracketed true l true k)

arguments_same : (l : List Sub) (k : List Piece) → arguments' (map sub_pieces l) k ≡ argument_pieces l k
arguments_same [] k = refl
arguments_same (x ∷ l) k = refl

step_same : (o : Option Expr) (k : List Piece) → step' (bound_pieces o) k ≡ step_pieces o k
step_same None k = refl
step_same (Some e) k = refl

range_is : (r : Range) → range' (p.plain_range r) ≡ range_pieces r
range_is (range.One e) = expr_is e
range_is (range.Span a b) = λ t. span (option_is a t) (option_is b t)

ranges_are : (l : List Range) → map range' (map p.plain_range l) ≡ map range_pieces l
ranges_are [] = refl
ranges_are (r ∷ l) = λ t. range_is r t ∷ ranges_are l t

head_is : (h : Head) (s : Bool) (k : List Piece) → do' (p.plain_head h).variable (pe (p.plain_head h).from) (pe (p.plain_head h).to) (option_map pe (p.plain_head h).step) s k ≡ do_pieces h s k
head_is h s k =
    (λ t. do' h.var (expr_is h.from t) (expr_is h.to t) (option_is h.step t) s k)
    ∙ ap (λ y. word s (codes "do") (word true h.var (sign true mark.Assign (expr_pieces h.from true (sign false mark.Comma (expr_pieces h.to true y)))))) (step_same h.step k)

-- STATEMENTS

record PArm : Type 0 where
  test : Spelling
  rows : Block
  action : Option Spelling

record PCase : Type 0 where
  ranges : List Spelling
  rows : Block

abbrev else_if_rows' : List PArm → Block
else_if_rows' [] n rs = rs
else_if_rows' (a ∷ more) n rs = row n (else_if' a.test false []) (a.rows (deeper n) (else_if_rows' more n rs))

abbrev arm_rows' : List PArm → Block
arm_rows' [] n rs = rs
arm_rows' (a ∷ more) n rs = row n (then' a.test false []) (a.rows (deeper n) (else_if_rows' more n rs))

abbrev block_rows' : List PArm → Option (List Printed) → Block
block_rows' arms other n rs = arm_rows' arms n (else_rows other n (row n (pair (codes "end") (codes "if") false []) rs))

abbrev is_one_line' : List PArm → Option (List Printed) → Bool
is_one_line' (a ∷ []) None = is_some a.action
is_one_line' _ _ = false

abbrev one_line_rows' : List PArm → Block
one_line_rows' [] n rs = rs
one_line_rows' (a ∷ more) n rs = row n (if' a.test false (or_none a.action true [])) rs

abbrev if_rows' : List PArm → Option (List Printed) → Block
if_rows' arms other n rs = if is_one_line' arms other then one_line_rows' arms n rs else block_rows' arms other n rs

abbrev case_rows' : List PCase → Block
case_rows' [] n rs = rs
case_rows' (c ∷ cs) n rs = row n (case' c.ranges false []) (c.rows (deeper n) (case_rows' cs n rs))

abbrev select_rows' : Spelling → List PCase → Option (List Printed) → Block
select_rows' on arms other n rs = row n (select' on false []) (case_rows' arms n (default_rows other n (row n (pair (codes "end") (codes "select") false []) rs)))

abbrev mark_rows' : Option plain.Directive → Block
mark_rows' None n rs = rs
mark_rows' (Some d) n rs = loop_mark_rows d.word d.names n rs

abbrev head' : plain.Head → Spelling
head' h = do' h.variable (pe h.from) (pe h.to) (option_map pe h.step)

abbrev loop_rows' : Option plain.Directive → plain.Head → List Printed → Block
loop_rows' m h body n rs = mark_rows' m n (row n (head' h false []) (body_rows body (deeper n) (row n (pair (codes "end") (codes "do") false []) rs)))

mutual
  pst : plain.Stmt → Printed
  pst (plain.Assign l r) = acts (assign' (pe l) (pe r))
  pst (plain.Call x l b) = call_printed b (call' x (psubs l))
  pst (plain.If arms other) = printed (if_rows' (parms arms) (pother other)) None
  pst (plain.Select e cases other) = printed (select_rows' (pe e) (pcases cases) (pother other)) None
  pst (plain.Do h body m) = printed (loop_rows' m h (psts body)) None
  pst (plain.Block d body) = printed (body_rows (psts body)) None
  pst (plain.Piece body) = printed (body_rows (psts body)) None
  pst plain.Exit = acts (name_pieces (codes "exit"))
  pst plain.Cycle = acts (name_pieces (codes "cycle"))
  pst plain.Return = acts (name_pieces (codes "return"))

  psts : plain.Stmts → List Printed
  psts plain.Done = []
  psts (plain.Then s rest) = pst s ∷ psts rest

  parms : plain.Arms → List PArm
  parms plain.No_arm = []
  parms (plain.Arm e body rest) = record { test = pe e; rows = body_rows (psts body); action = lone (psts body) } ∷ parms rest

  pcases : plain.Cases → List PCase
  pcases plain.No_case = []
  pcases (plain.Case l body rest) = record { ranges = map range' l; rows = body_rows (psts body) } ∷ pcases rest

  pother : plain.Otherwise → Option (List Printed)
  pother plain.Nothing_else = None
  pother (plain.Else body) = Some (psts body)

-- the rows of an arm and a case, their tests as spellings
to_arm : PrintedArm → PArm
to_arm a = record { test = expr_pieces a.test; rows = a.rows; action = a.action }

to_case : PrintedCase → PCase
to_case c = record { ranges = map range_pieces c.ranges; rows = c.rows }

else_ifs_same : (l : List PrintedArm) (n : ℕ) (rs : List Row) → else_if_rows' (map to_arm l) n rs ≡ else_if_rows l n rs
unfolding to_arm
else_ifs_same [] n rs = refl
else_ifs_same (a ∷ l) n rs = ap (λ y. row n (else_if_pieces a.test false []) (a.rows (deeper n) y)) (else_ifs_same l n rs)

arms_same : (l : List PrintedArm) (n : ℕ) (rs : List Row) → arm_rows' (map to_arm l) n rs ≡ arm_rows l n rs
unfolding to_arm
arms_same [] n rs = refl
arms_same (a ∷ l) n rs = ap (λ y. row n (then_pieces a.test false []) (a.rows (deeper n) y)) (else_ifs_same l n rs)

ifs_same : (l : List PrintedArm) (o : Option (List Printed)) (n : ℕ) (rs : List Row) → if_rows' (map to_arm l) o n rs ≡ if_rows l o n rs
unfolding to_arm
ifs_same [] o n rs = refl
ifs_same (a ∷ []) None n rs = ap (λ y. if is_some a.action then one_line_rows (a ∷ []) n rs else y) (arms_same (a ∷ []) n (row n (pair (codes "end") (codes "if") false []) rs))
ifs_same (a ∷ []) (Some b) n rs = arms_same (a ∷ []) n (else_rows (Some b) n (row n (pair (codes "end") (codes "if") false []) rs))
ifs_same (a ∷ b ∷ l) o n rs = arms_same (a ∷ b ∷ l) n (else_rows o n (row n (pair (codes "end") (codes "if") false []) rs))

cases_same : (l : List PrintedCase) (n : ℕ) (rs : List Row) → case_rows' (map to_case l) n rs ≡ case_rows l n rs
unfolding to_case
cases_same [] n rs = refl
cases_same (c ∷ l) n rs = ap (λ y. row n (case_pieces c.ranges false []) (c.rows (deeper n) y)) (cases_same l n rs)

marks_same : (m : Option Directive) (n : ℕ) (rs : List Row) → mark_rows' (option_map p.plain_directive m) n rs ≡ mark_rows m n rs
marks_same None n rs = refl
marks_same (Some d) n rs = refl

abbrev StmtIs : Stmt → Type 0
StmtIs s = pst (p.plain_stmt s) ≡ print s

abbrev ArmIs : Arm → Type 0
ArmIs a = (rest : plain.Arms) → parms (plain_arm a rest) ≡ to_arm (print_arm a) ∷ parms rest

abbrev CaseIs : Case → Type 0
CaseIs c = (rest : plain.Cases) → pcases (plain_case c rest) ≡ to_case (print_case c) ∷ pcases rest

abbrev KnownStmt : Type 0
KnownStmt = (s : Stmt) × StmtIs s

abbrev KnownArm : Type 0
KnownArm = (a : Arm) × ArmIs a

abbrev KnownCase : Type 0
KnownCase = (c : Case) × CaseIs c

abbrev its_stmts : List KnownStmt → List Stmt
its_stmts l = map (λ (s : KnownStmt). s.0) l

abbrev its_arms : List KnownArm → List Arm
its_arms l = map (λ (a : KnownArm). a.0) l

abbrev its_cases : List KnownCase → List Case
its_cases l = map (λ (c : KnownCase). c.0) l

known_stmts : (l : List KnownStmt) → psts (p.plain_stmts (its_stmts l)) ≡ map print (its_stmts l)
unfolding psts
known_stmts [] = refl
known_stmts (s ∷ l) = λ t. s.1 t ∷ known_stmts l t

known_arms : (l : List KnownArm) → parms (p.arms_of (map plain_arm (its_arms l))) ≡ map to_arm (map print_arm (its_arms l))
unfolding parms
known_arms [] = refl
known_arms (a ∷ l) = a.1 (p.arms_of (map plain_arm (its_arms l))) ∙ ap (λ y. to_arm (print_arm a.0) ∷ y) (known_arms l)

known_cases : (l : List KnownCase) → pcases (p.cases_of (map plain_case (its_cases l))) ≡ map to_case (map print_case (its_cases l))
unfolding pcases
known_cases [] = refl
known_cases (c ∷ l) = c.1 (p.cases_of (map plain_case (its_cases l))) ∙ ap (λ y. to_case (print_case c.0) ∷ y) (known_cases l)

abbrev stmt_part : Stmt-F KnownStmt KnownArm KnownCase → Stmt-F Stmt Arm Case
stmt_part y = map-Stmt KnownStmt KnownArm KnownCase Stmt Arm Case (λ s. s.0) (λ a. a.0) (λ c. c.0) y

abbrev arm_part : Arm-F KnownStmt KnownArm KnownCase → Arm-F Stmt Arm Case
arm_part y = map-Arm KnownStmt KnownArm KnownCase Stmt Arm Case (λ s. s.0) (λ a. a.0) (λ c. c.0) y

abbrev case_part : Case-F KnownStmt KnownArm KnownCase → Case-F Stmt Arm Case
case_part y = map-Case KnownStmt KnownArm KnownCase Stmt Arm Case (λ s. s.0) (λ a. a.0) (λ c. c.0) y

abbrev MoreArms : Type 0
MoreArms = plain.Arms → plain.Arms

abbrev MoreCases : Type 0
MoreCases = plain.Cases → plain.Cases

call_same : (x : List ℕ) (l : List Sub) (s : Bool) (k : List Piece) → call' x (psubs (p.plain_subs l)) s k ≡ call_pieces x l s k
call_same x l s k = ap (λ q. call' x q s k) (subs_are l) ∙ ap (λ y. word s (codes "call") (word true x y)) (arguments_same l k)

stmt_level : (y : Stmt-F KnownStmt KnownArm KnownCase) →
    pst (p.stmt_step (map-Stmt Stmt Arm Case plain.Stmt MoreArms MoreCases p.plain_stmt plain_arm plain_case (stmt_part y))) ≡ stmt_step (map-Stmt Stmt Arm Case Printed PrintedArm PrintedCase print print_arm print_case (stmt_part y))
unfolding pst pother
stmt_level (Stmt-F.Assign at l r) = λ t. acts (assign' (expr_is l t) (expr_is r t))
stmt_level (Stmt-F.Call at name args b) = λ t. call_printed b (λ s k. call_same name.name args s k t)
stmt_level (Stmt-F.If at arms None) = (λ t. printed (if_rows' (known_arms arms t) None) None) ∙ (λ t. printed (λ n rs. ifs_same (map print_arm (its_arms arms)) None n rs t) None)
stmt_level (Stmt-F.If at arms (Some b)) =
    (λ t. printed (if_rows' (known_arms arms t) (Some (known_stmts b t))) None) ∙ (λ t. printed (λ n rs. ifs_same (map print_arm (its_arms arms)) (Some (map print (its_stmts b))) n rs t) None)
stmt_level (Stmt-F.Select at e cases None) =
    (λ t. printed (select_rows' (expr_is e t) (known_cases cases t) None) None)
    ∙ (λ t. printed (λ n rs. row n (select_pieces e false []) (cases_same (map print_case (its_cases cases)) n (row n (pair (codes "end") (codes "select") false []) rs) t)) None)
stmt_level (Stmt-F.Select at e cases (Some b)) =
    (λ t. printed (select_rows' (expr_is e t) (known_cases cases t) (Some (known_stmts b t))) None)
    ∙ (λ t. printed (λ n rs. row n (select_pieces e false []) (cases_same (map print_case (its_cases cases)) n (default_rows (Some (map print (its_stmts b))) n (row n (pair (codes "end") (codes "select") false []) rs)) t)) None)
stmt_level (Stmt-F.Loop at head body m) =
    (λ t. printed (λ n rs. marks_same m n (row n (head_is head false [] t) (body_rows (known_stmts body t) (deeper n) (row n (pair (codes "end") (codes "do") false []) rs))) t) None)
stmt_level (Stmt-F.Block at d body) = λ t. printed (body_rows (known_stmts body t)) None
stmt_level (Stmt-F.Piece body) = λ t. printed (body_rows (known_stmts body t)) None
stmt_level (Stmt-F.Exit at) = refl
stmt_level (Stmt-F.Cycle at) = refl
stmt_level (Stmt-F.Return at) = refl

stmt_known : (y : Stmt-F KnownStmt KnownArm KnownCase) → StmtIs (roll-Stmt (stmt_part y))
stmt_known y =
    ap pst (fold-roll-Stmt plain.Stmt MoreArms MoreCases p.stmt_step p.arm_step p.case_step (stmt_part y)) ∙ stmt_level y ∙ sym (fold-roll-Stmt Printed PrintedArm PrintedCase stmt_step arm_step case_step (stmt_part y))

arm_level : (e : Expr) (l : List KnownStmt) (rest : plain.Arms) →
    parms (plain.Arm (p.plain_expr e) (p.plain_stmts (its_stmts l)) rest) ≡ to_arm (record { test = e; rows = body_rows (map print (its_stmts l)); action = lone (map print (its_stmts l)) }) ∷ parms rest
unfolding parms to_arm
arm_level e l rest = λ t. record { test = expr_is e t; rows = body_rows (known_stmts l t); action = lone (known_stmts l t) } ∷ parms rest

arm_known : (y : Arm-F KnownStmt KnownArm KnownCase) → ArmIs (roll-Arm (arm_part y))
arm_known y rest =
    ap (λ (f : MoreArms). parms (f rest)) (fold-roll-Arm plain.Stmt MoreArms MoreCases p.stmt_step p.arm_step p.case_step (arm_part y)) ∙ arm_level y.test y.body rest
    ∙ ap (λ a. to_arm a ∷ parms rest) (sym (fold-roll-Arm Printed PrintedArm PrintedCase stmt_step arm_step case_step (arm_part y)))

case_level : (r : List Range) (l : List KnownStmt) (rest : plain.Cases) →
    pcases (plain.Case (map p.plain_range r) (p.plain_stmts (its_stmts l)) rest) ≡ to_case (record { ranges = r; rows = body_rows (map print (its_stmts l)) }) ∷ pcases rest
unfolding pcases to_case
case_level r l rest = λ t. record { ranges = ranges_are r t; rows = body_rows (known_stmts l t) } ∷ pcases rest

case_known : (y : Case-F KnownStmt KnownArm KnownCase) → CaseIs (roll-Case (case_part y))
case_known y rest =
    ap (λ (f : MoreCases). pcases (f rest)) (fold-roll-Case plain.Stmt MoreArms MoreCases p.stmt_step p.arm_step p.case_step (case_part y)) ∙ case_level y.ranges y.body rest
    ∙ ap (λ c. to_case c ∷ pcases rest) (sym (fold-roll-Case Printed PrintedArm PrintedCase stmt_step arm_step case_step (case_part y)))

stmt_is : (s : Stmt) → StmtIs s
stmt_is s =
    ind-Stmt StmtIs ArmIs CaseIs (λ x y is. subst (λ q. StmtIs (roll-Stmt q)) is (stmt_known y)) (λ x y is. subst (λ q. ArmIs (roll-Arm q)) is (arm_known y))
    (λ x y is. subst (λ q. CaseIs (roll-Case q)) is (case_known y)) s

stmts_are : (l : List Stmt) → psts (p.plain_stmts l) ≡ map print l
unfolding psts
stmts_are [] = refl
stmts_are (s ∷ l) = λ t. stmt_is s t ∷ stmts_are l t

-- Statements of one plain tree have the same rows.
pub same_stmts_rows : (k l : List Stmt) → p.plain_stmts k ≡ p.plain_stmts l → stmts_rows k ≡ stmts_rows l
same_stmts_rows k l e = ap body_rows (sym (stmts_are k) ∙ ap psts e ∙ stmts_are l)

-- USE AND DECLARATIONS

names_same : (l : List Named) → map name_pieces (map (λ (n : Named). n.name) l) ≡ map named_pieces l
names_same [] = refl
names_same (n ∷ l) = ap (λ y. named_pieces n ∷ y) (names_same l)

abbrev only' : Option (List (List ℕ)) → List Piece → List Piece
only' None k = k
only' (Some l) k = sign false mark.Comma (word true (codes "only") (sign false mark.Colon (items true (map name_pieces l) true k)))

abbrev use' : plain.Use → Spelling
use' u s k = word s (codes "use") (word true u.name (only' u.only k))

only_same : (o : Option (List Named)) (k : List Piece) → only' (option_map (map (λ (n : Named). n.name)) o) k ≡ only_pieces o k
only_same None k = refl
only_same (Some l) k = ap (λ y. sign false mark.Comma (word true (codes "only") (sign false mark.Colon (items true y true k)))) (names_same l)

use_same : (u : Use) (s : Bool) (k : List Piece) → use' (p.plain_use u) s k ≡ use_pieces u s k
use_same u s k = ap (λ y. word s (codes "use") (word true u.name y)) (only_same u.only k)

abbrev dimension' : plain.Dimension → Spelling
dimension' d = dimension (option_map pe d.lower) (option_map pe d.upper)

abbrev shape' : List plain.Dimension → List Piece → List Piece
shape' [] k = k
shape' (b ∷ bs) k = bracketed false (map dimension' (b ∷ bs)) false k

abbrev value' : Option plain.Expr → List Piece → List Piece
value' None k = k
value' (Some e) k = sign true mark.Assign (pe e true k)

abbrev parameter' : Option plain.Expr → List Piece → List Piece
parameter' None k = k
parameter' (Some e) k = sign false mark.Comma (word true (codes "parameter") k)

abbrev decl' : plain.Decl → Spelling
decl' d s k = kind_pieces d.kind s (parameter' d.value (intent_pieces d.intent (sign true mark.Colons (word true d.name (shape' d.shape (value' d.value k))))))

dimensions_are : (l : List Bound) → map dimension' (map p.plain_bound l) ≡ map dimension_pieces l
dimensions_are [] = refl
dimensions_are (b ∷ l) = λ t. dimension (option_is b.lower t) (option_is b.upper t) ∷ dimensions_are l t

shape_same : (l : List Bound) (k : List Piece) → shape' (map p.plain_bound l) k ≡ shape_pieces l k
shape_same [] k = refl
shape_same (b ∷ l) k = ap (λ y. bracketed false y false k) (dimensions_are (b ∷ l))

value_same : (o : Option Expr) (k : List Piece) → value' (p.plain_option o) k ≡ value_pieces o k
value_same None k = refl
value_same (Some e) k = λ t. sign true mark.Assign (expr_is e t true k)

parameter_same : (o : Option Expr) (k : List Piece) → parameter' (p.plain_option o) k ≡ parameter_pieces o k
parameter_same None k = refl
parameter_same (Some e) k = refl

decl_same : (d : Decl) (s : Bool) (k : List Piece) → decl' (p.plain_decl d) s k ≡ decl_pieces d s k
decl_same d s k =
    (λ t. kind_pieces d.kind s (parameter' (p.plain_option d.value) (intent_pieces d.intent (sign true mark.Colons (word true d.name (shape' (map p.plain_bound d.shape) (value_same d.value k t)))))))
    ∙ (λ t. kind_pieces d.kind s (parameter' (p.plain_option d.value) (intent_pieces d.intent (sign true mark.Colons (word true d.name (shape_same d.shape (value_pieces d.value k) t))))))
    ∙ (λ t. kind_pieces d.kind s (parameter_same d.value (intent_pieces d.intent (sign true mark.Colons (word true d.name (shape_pieces d.shape (value_pieces d.value k))))) t))

-- UNITS

all_same : {A B : Type 0} (f : A → Block) (g : B → Block) (h : A → B) → ((x : A) (n : ℕ) (rs : List Row) → g (h x) n rs ≡ f x n rs) → (l : List A) (n : ℕ) (rs : List Row) → all_rows (map g (map h l)) n rs ≡ all_rows (map f l) n rs
all_same f g h e [] n rs = refl
all_same f g h e (x ∷ l) n rs = ap (λ y. g (h x) n y) (all_same f g h e l n rs) ∙ e x n (all_rows (map f l) n rs)

abbrev uses_rows' : List plain.Use → Block
uses_rows' us = all_rows (map (λ u. one_row (use' u)) us)

abbrev decls_rows' : List plain.Decl → Block
decls_rows' ds = all_rows (map (λ d. one_row (decl' d)) ds)

abbrev routines_rows' : List plain.Directive → Block
routines_rows' ds = all_rows (map (λ (d : plain.Directive). routine_rows d.word) ds)

uses_same : (l : List Use) (n : ℕ) (rs : List Row) → uses_rows' (map p.plain_use l) n rs ≡ uses_rows l n rs
uses_same l n rs = all_same (λ u. one_row (use_pieces u)) (λ u. one_row (use' u)) p.plain_use (λ u n rs. ap (λ y. row n y rs) (use_same u false [])) l n rs

decls_same : (l : List Decl) (n : ℕ) (rs : List Row) → decls_rows' (map p.plain_decl l) n rs ≡ decls_rows l n rs
decls_same l n rs = all_same (λ d. one_row (decl_pieces d)) (λ d. one_row (decl' d)) p.plain_decl (λ d n rs. ap (λ y. row n y rs) (decl_same d false [])) l n rs

routines_same : (l : List Directive) (n : ℕ) (rs : List Row) → routines_rows' (map p.plain_directive l) n rs ≡ routines_rows l n rs
routines_same l n rs = all_same (λ (d : Directive). routine_rows d.word) (λ (d : plain.Directive). routine_rows d.word) p.plain_directive (λ d n rs. refl) l n rs

abbrev unit_word' : Option (List ℕ) → List ℕ
unit_word' None = codes "subroutine"
unit_word' (Some r) = codes "function"

abbrev function_clause' : List ℕ → Option (List ℕ) → List Piece → List Piece
function_clause' name None k = k
function_clause' name (Some r) k = result_clause (bytes_eq r name) r k

abbrev header' : plain.Unit → Spelling
header' u s k = word s (unit_word' u.result) (word true u.name (bracketed true (map name_pieces u.dummies) false (function_clause' u.name u.result k)))

abbrev unit_parts' : plain.Unit → Block
unit_parts' u n rs =
    let body : List Row = body_rows (psts u.body) n rs in
    uses_rows' u.uses n (own_implicit_rows u.host n (decls_rows' u.decls n (routines_rows' u.marks (next_indent body) body)))

abbrev unit_rows' : plain.Unit → Block
unit_rows' u n rs = row n (header' u false []) (unit_parts' u (deeper n) (row n (end_pieces (unit_word' u.result) u.name false []) rs))

word_same : (o : Option Named) → unit_word' (option_map (λ (n : Named). n.name) o) ≡ unit_word o
word_same None = refl
word_same (Some r) = refl

clause_same : (name : List ℕ) (o : Option Named) (k : List Piece) → function_clause' name (option_map (λ (n : Named). n.name) o) k ≡ function_clause name o k
clause_same name None k = refl
clause_same name (Some r) k = refl

header_same : (u : tree_unit.Unit) (s : Bool) (k : List Piece) → header' (p.plain_unit u) s k ≡ header_pieces u s k
header_same u s k =
    (λ t. word s (word_same u.result t) (word true u.name (bracketed true (map name_pieces (map (λ (n : Named). n.name) u.dummies)) false (clause_same u.name u.result k t))))
    ∙ (λ t. word s (unit_word u.result) (word true u.name (bracketed true (names_same u.dummies t) false (function_clause u.name u.result k))))

parts_same : (u : tree_unit.Unit) (n : ℕ) (rs : List Row) → unit_parts' (p.plain_unit u) n rs ≡ unit_parts u n rs
parts_same u n rs =
    let k1 : List Row = stmts_rows u.body n rs in
    let m : ℕ = next_indent k1 in
    let k2 : List Row = routines_rows u.marks m k1 in
    let k3 : List Row = decls_rows u.decls n k2 in
    (λ t. uses_rows' (map p.plain_use u.uses) n (own_implicit_rows u.host n (decls_rows' (map p.plain_decl u.decls) n (routines_rows' (map p.plain_directive u.marks) (next_indent (body_rows (stmts_are u.body t) n rs)) (body_rows (stmts_are u.body t) n rs)))))
    ∙ (λ t. uses_rows' (map p.plain_use u.uses) n (own_implicit_rows u.host n (decls_rows' (map p.plain_decl u.decls) n (routines_same u.marks m k1 t))))
    ∙ (λ t. uses_rows' (map p.plain_use u.uses) n (own_implicit_rows u.host n (decls_same u.decls n k2 t)))
    ∙ (λ t. uses_same u.uses n (own_implicit_rows u.host n k3) t)

unit_same : (u : tree_unit.Unit) (n : ℕ) (rs : List Row) → unit_rows' (p.plain_unit u) n rs ≡ unit_rows u n rs
unit_same u n rs =
    (λ t. row n (header_same u false [] t) (unit_parts' (p.plain_unit u) (deeper n) (row n (end_pieces (word_same u.result t) u.name false []) rs)))
    ∙ (λ t. row n (header_pieces u false []) (parts_same u (deeper n) (row n (end_pieces (unit_word u.result) u.name false []) rs) t))

-- MODULES AND FILES

abbrev contained_rows' : List plain.Unit → Block
contained_rows' [] n rs = rs
contained_rows' (u ∷ us) n rs = row n (name_pieces (codes "contains") false []) (all_rows (map unit_rows' (u ∷ us)) (deeper n) rs)

abbrev module_rows' : List plain.Unit → plain.Module → Block
module_rows' units m n rs =
    row n (pair (codes "module") m.name false [])
    (uses_rows' m.uses (deeper n) (implicit_rows (deeper n) (decls_rows' m.decls (deeper n) (contained_rows' units n (row n (end_pieces (codes "module") m.name false []) rs)))))

abbrev listed_module' : List plain.Unit → Option plain.Module → Block
listed_module' units None n rs = rs
listed_module' units (Some m) n rs = module_rows' units m n rs

abbrev listed_unit' : Option plain.Unit → Block
listed_unit' None n rs = rs
listed_unit' (Some u) n rs = unit_rows' u n rs

abbrev item_rows' : plain.Program → plain.Item → Block
item_rows' f (plain.A_module i) = listed_module' (filter (λ (u : plain.Unit). is_host i u.host) f.units) (slice_get f.modules i)
item_rows' f (plain.A_unit i) = listed_unit' (slice_get f.units i)

abbrev file_rows' : plain.Program → List Row
file_rows' f = all_rows (map (item_rows' f) f.order) 0 []

contained_same : (l : List tree_unit.Unit) (n : ℕ) (rs : List Row) → contained_rows' (map p.plain_unit l) n rs ≡ contained_rows l n rs
contained_same [] n rs = refl
contained_same (u ∷ l) n rs = ap (λ y. row n (name_pieces (codes "contains") false []) y) (all_same unit_rows unit_rows' p.plain_unit unit_same (u ∷ l) (deeper n) rs)

module_same : (l : List tree_unit.Unit) (m : tree_module.Module) (n : ℕ) (rs : List Row) → module_rows' (map p.plain_unit l) (p.plain_module m) n rs ≡ module_rows l m n rs
module_same l m n rs =
    let ends : List Row = row n (end_pieces (codes "module") m.name false []) rs in
    let head : List Piece = pair (codes "module") m.name false [] in
    (λ t. row n head (uses_rows' (map p.plain_use m.uses) (deeper n) (implicit_rows (deeper n) (decls_rows' (map p.plain_decl m.decls) (deeper n) (contained_same l n ends t)))))
    ∙ (λ t. row n head (uses_rows' (map p.plain_use m.uses) (deeper n) (implicit_rows (deeper n) (decls_same m.decls (deeper n) (contained_rows l n ends) t))))
    ∙ (λ t. row n head (uses_same m.uses (deeper n) (implicit_rows (deeper n) (decls_rows m.decls (deeper n) (contained_rows l n ends))) t))

hosted_at : (b : Bool) (u : tree_unit.Unit) (l : List tree_unit.Unit) → cond b (p.plain_unit u ∷ map p.plain_unit l) (map p.plain_unit l) ≡ map p.plain_unit (cond b (u ∷ l) l)
hosted_at true u l = refl
hosted_at false u l = refl

hosted_same : (i : ℕ) (l : List tree_unit.Unit) → filter (λ (u : plain.Unit). is_host i u.host) (map p.plain_unit l) ≡ map p.plain_unit (units_of i l)
hosted_same i [] = refl
hosted_same i (u ∷ l) = ap (λ y. cond (is_host i u.host) (p.plain_unit u ∷ y) y) (hosted_same i l) ∙ hosted_at (is_host i u.host) u (units_of i l)

get_same : {A B : Type 0} (f : A → B) (l : List A) (i : ℕ) → slice_get (map f l) i ≡ option_map f (slice_get l i)
get_same f [] i = refl
get_same f (x ∷ l) zero = refl
get_same f (x ∷ l) (suc i) = get_same f l i

listed_module_same : (l : List tree_unit.Unit) (o : Option tree_module.Module) (n : ℕ) (rs : List Row) → listed_module' (map p.plain_unit l) (option_map p.plain_module o) n rs ≡ listed_module l o n rs
listed_module_same l None n rs = refl
listed_module_same l (Some m) n rs = module_same l m n rs

listed_unit_same : (o : Option tree_unit.Unit) (n : ℕ) (rs : List Row) → listed_unit' (option_map p.plain_unit o) n rs ≡ listed_unit o n rs
listed_unit_same None n rs = refl
listed_unit_same (Some u) n rs = unit_same u n rs

item_same : (f : File) (i : Item) (n : ℕ) (rs : List Row) → item_rows' (p.plain_file f) (p.plain_item i) n rs ≡ item_rows f i n rs
item_same f (item.Module i) n rs =
    (λ t. listed_module' (hosted_same i f.units t) (get_same p.plain_module f.modules i t) n rs) ∙ listed_module_same (units_of i f.units) (slice_get f.modules i) n rs
item_same f (item.Unit i) n rs = (λ t. listed_unit' (get_same p.plain_unit f.units i t) n rs) ∙ listed_unit_same (slice_get f.units i) n rs

file_same : (f : File) → file_rows' (p.plain_file f) ≡ file_rows f
file_same f = all_same (item_rows f) (item_rows' (p.plain_file f)) p.plain_item (item_same f) f.order 0 []

-- Files of one plain tree have the same rows.
pub same_file_rows : (f g : File) → p.plain_file f ≡ p.plain_file g → file_rows f ≡ file_rows g
same_file_rows f g e = sym (file_same f) ∙ ap file_rows' e ∙ file_same g
