-- A placed tree without its places is the plain tree of its value.
use Rattle.std.proofs.Common.{◌≡◌, List, [], ◌∷◌, Option, None, Some, map, option_map, refl, sym, ap, subst, ◌∙◌}
use Rattle.fort_tree.specs.declared.expr.Expr as tree_expr
use Rattle.fort_tree.specs.declared.expr.Expr.TheOpen.{Expr-F, Sub-F}
use Rattle.fort_tree.specs.declared.expr.Expr.TheFolds.{fold-roll-Expr, fold-roll-Sub, map-Expr, map-Sub, ind-Expr, ind-Sub}
use Rattle.fort_tree.specs.declared.expr.Expr.TheViews.{roll-Expr, roll-Sub}
use Rattle.fort_tree.specs.declared.expr.Sub as tree_sub
use Rattle.fort_tree.specs.declared.stmt.Arm as tree_arm
use Rattle.fort_tree.specs.declared.stmt.Case as tree_case
use Rattle.fort_tree.specs.declared.stmt.Directive as tree_directive
use Rattle.fort_tree.specs.declared.stmt.Head as tree_head
use Rattle.fort_tree.specs.declared.stmt.Range as tree_range
use Rattle.fort_tree.specs.declared.stmt.Range.TheVariants as range
use Rattle.fort_tree.specs.declared.stmt.Stmt as tree_stmt
use Rattle.fort_tree.specs.declared.stmt.Stmt.TheOpen.{Stmt-F, Arm-F, Case-F}
use Rattle.fort_tree.specs.declared.stmt.Stmt.TheFolds.{fold-Arm, fold-Case, fold-roll-Stmt, fold-roll-Arm, fold-roll-Case, map-Stmt, map-Arm, map-Case, ind-Stmt}
use Rattle.fort_tree.specs.declared.stmt.Stmt.TheViews.{roll-Stmt, roll-Arm, roll-Case}
use Rattle.fort_tree.specs.declared.unit.Bound.{Bound}
use Rattle.fort_tree.specs.declared.unit.Decl as tree_decl
use Rattle.fort_tree.specs.declared.unit.File.{File}
use Rattle.fort_tree.specs.declared.unit.Item.{Item}
use Rattle.fort_tree.specs.declared.unit.Item.TheVariants as item
use Rattle.fort_tree.specs.declared.unit.Module as tree_module
use Rattle.fort_tree.specs.declared.unit.Unit as tree_unit
use Rattle.claw_meaning.specs.Syntax as bare_tree
use Rattle.claw_meaning.specs.Plain as plains
use Rattle.sound_programs.specs.Placed.{Expr, Subscripts, Stmt, Arms, Cases, bare, bare_subs, bare_option, bare_directive, bare_head, bare_range, bare_stmt, bare_stmts, bare_arms, bare_cases, bare_dimension, bare_decl, bare_unit, bare_module, bare_program, bare_item, bare_use}
use Rattle.sound_programs.specs.Placing.{Before, expr_step, sub_step, chained, placed_expr, placed_sub, placed_option, placed_head, placed_range, placed_directive, arms_of, cases_of, stmt_step, arm_step, case_step, placed_stmt, placed_stmts, placed_bound, placed_decl, placed_unit, placed_module, placed}

-- Expressions

abbrev IsBare : tree_expr.Expr → Type 0
IsBare e = bare (placed_expr e) ≡ plains.plain_expr e

abbrev IsBareSub : tree_sub.Sub → Type 0
IsBareSub s = (rest : Subscripts) → bare_subs (placed_sub s rest) ≡ plains.plain_sub s (bare_subs rest)

abbrev Known : Type 0
Known = (e : tree_expr.Expr) × IsBare e

abbrev KnownSub : Type 0
KnownSub = (s : tree_sub.Sub) × IsBareSub s

abbrev plain : Expr-F Known KnownSub → Expr-F tree_expr.Expr tree_sub.Sub
plain y = map-Expr Known KnownSub tree_expr.Expr tree_sub.Sub (λ e. e.0) (λ s. s.0) y

abbrev plain_sub : Sub-F Known KnownSub → Sub-F tree_expr.Expr tree_sub.Sub
plain_sub y = map-Sub Known KnownSub tree_expr.Expr tree_sub.Sub (λ e. e.0) (λ s. s.0) y

-- where the level's parts are bare, the level is
subs_bare : (subs : List KnownSub) → bare_subs (chained (map placed_sub (map (λ s. s.0) subs))) ≡ plains.chained (map plains.plain_sub (map (λ s. s.0) subs))
subs_bare [] = refl
subs_bare (s ∷ ss) = s.1 (chained (map placed_sub (map (λ s. s.0) ss))) ∙ ap (plains.plain_sub s.0) (subs_bare ss)

placed_level : (x : Expr-F tree_expr.Expr tree_sub.Sub) → placed_expr (roll-Expr x) ≡ expr_step (map-Expr tree_expr.Expr tree_sub.Sub Expr Before placed_expr placed_sub x)
placed_level x = fold-roll-Expr Expr Before expr_step sub_step x

plain_level : (x : Expr-F tree_expr.Expr tree_sub.Sub) → plains.plain_expr (roll-Expr x) ≡ plains.expr_step (map-Expr tree_expr.Expr tree_sub.Sub bare_tree.Expr plains.Before plains.plain_expr plains.plain_sub x)
plain_level x = fold-roll-Expr bare_tree.Expr plains.Before plains.expr_step plains.sub_step x

abbrev LevelIsBare : Expr-F tree_expr.Expr tree_sub.Sub → Type 0
LevelIsBare x =
    bare (expr_step (map-Expr tree_expr.Expr tree_sub.Sub Expr Before placed_expr placed_sub x))
    ≡ plains.expr_step (map-Expr tree_expr.Expr tree_sub.Sub bare_tree.Expr plains.Before plains.plain_expr plains.plain_sub x)

level_bare : (y : Expr-F Known KnownSub) → LevelIsBare (plain y)
level_bare (Expr-F.Number n kind at) = refl
level_bare (Expr-F.Truth b at) = refl
level_bare (Expr-F.Ref name None at) = refl
level_bare (Expr-F.Ref name (Some subs) at) = ap (bare_tree.Reference name) (subs_bare subs)
level_bare (Expr-F.«Expr::One» sign e at) = ap (bare_tree.Signed sign) e.1
level_bare (Expr-F.Two op a b) = λ t. bare_tree.Binary op (a.1 t) (b.1 t)
level_bare (Expr-F.Paren e at) = ap bare_tree.Paren e.1

rolled_bare : (x : Expr-F tree_expr.Expr tree_sub.Sub) → LevelIsBare x → IsBare (roll-Expr x)
rolled_bare x level = ap bare (placed_level x) ∙ (level ∙ sym (plain_level x))

abbrev SubLevelIsBare : Sub-F tree_expr.Expr tree_sub.Sub → Type 0
SubLevelIsBare x =
    (rest : Subscripts) → bare_subs (sub_step (map-Sub tree_expr.Expr tree_sub.Sub Expr Before placed_expr placed_sub x) rest)
    ≡ plains.sub_step (map-Sub tree_expr.Expr tree_sub.Sub bare_tree.Expr plains.Before plains.plain_expr plains.plain_sub x) (bare_subs rest)

sub_level_bare : (y : Sub-F Known KnownSub) → SubLevelIsBare (plain_sub y)
sub_level_bare (Sub-F.«Sub::One» e) rest = ap (λ a. bare_tree.At a (bare_subs rest)) e.1
sub_level_bare (Sub-F.Range None None at) rest = refl
sub_level_bare (Sub-F.Range None (Some b) at) rest = ap (λ c. bare_tree.Section bare_tree.Unbounded (bare_tree.Bounded c) (bare_subs rest)) b.1
sub_level_bare (Sub-F.Range (Some a) None at) rest = ap (λ c. bare_tree.Section (bare_tree.Bounded c) bare_tree.Unbounded (bare_subs rest)) a.1
sub_level_bare (Sub-F.Range (Some a) (Some b) at) rest = λ t. bare_tree.Section (bare_tree.Bounded (a.1 t)) (bare_tree.Bounded (b.1 t)) (bare_subs rest)

rolled_sub_bare : (x : Sub-F tree_expr.Expr tree_sub.Sub) → SubLevelIsBare x → IsBareSub (roll-Sub x)
rolled_sub_bare x level rest =
    ap (λ (f : Before). bare_subs (f rest)) (fold-roll-Sub Expr Before expr_step sub_step x)
    ∙ (level rest ∙ ap (λ (f : plains.Before). f (bare_subs rest)) (sym (fold-roll-Sub bare_tree.Expr plains.Before plains.expr_step plains.sub_step x)))

expr_bare : (e : tree_expr.Expr) → IsBare e
expr_bare =
    ind-Expr IsBare IsBareSub
    (λ x y is. subst (λ x. IsBare (roll-Expr x)) is (rolled_bare (plain y) (level_bare y)))
    (λ x y is. subst (λ x. IsBareSub (roll-Sub x)) is (rolled_sub_bare (plain_sub y) (sub_level_bare y)))

sub_bare : (s : tree_sub.Sub) → IsBareSub s
sub_bare =
    ind-Sub IsBare IsBareSub
    (λ x y is. subst (λ x. IsBare (roll-Expr x)) is (rolled_bare (plain y) (level_bare y)))
    (λ x y is. subst (λ x. IsBareSub (roll-Sub x)) is (rolled_sub_bare (plain_sub y) (sub_level_bare y)))

subs_are_bare : (subs : List tree_sub.Sub) → bare_subs (chained (map placed_sub subs)) ≡ plains.plain_subs subs
subs_are_bare [] = refl
subs_are_bare (s ∷ ss) = sub_bare s (chained (map placed_sub ss)) ∙ ap (plains.plain_sub s) (subs_are_bare ss)

option_bare : (e : Option tree_expr.Expr) → bare_option (placed_option e) ≡ plains.plain_option e
option_bare None = refl
option_bare (Some e) = ap Some (expr_bare e)

-- Parts of statements

head_bare : (h : tree_head.Head) → bare_head (placed_head h) ≡ plains.plain_head h
head_bare h = λ t. record { variable = h.var; from = expr_bare h.from t; to = expr_bare h.to t; step = option_bare h.step t }

range_bare : (r : tree_range.Range) → bare_range (placed_range r) ≡ plains.plain_range r
range_bare (range.One e) = ap bare_tree.Single (expr_bare e)
range_bare (range.Span lower upper) = λ t. bare_tree.Span (option_bare lower t) (option_bare upper t)

ranges_bare : (rs : List tree_range.Range) → map bare_range (map placed_range rs) ≡ map plains.plain_range rs
ranges_bare [] = refl
ranges_bare (r ∷ rs) = λ t. range_bare r t ∷ ranges_bare rs t

directive_bare : (d : tree_directive.Directive) → bare_directive (placed_directive d) ≡ plains.plain_directive d
directive_bare d = λ t. record {
  word = d.word;
  names = d.names;
  over = d.over;
  number = d.number;
  group = d.group;
  init = d.init;
  lower = option_bare d.lower t;
  upper = option_bare d.upper t;
}

mark_bare : (d : Option tree_directive.Directive) → option_map bare_directive (option_map placed_directive d) ≡ option_map plains.plain_directive d
mark_bare None = refl
mark_bare (Some d) = ap Some (directive_bare d)

directives_bare : (ds : List tree_directive.Directive) → map bare_directive (map placed_directive ds) ≡ map plains.plain_directive ds
directives_bare [] = refl
directives_bare (d ∷ ds) = λ t. directive_bare d t ∷ directives_bare ds t

-- Statements

abbrev PlacedArm : Type 0
PlacedArm = Arms → Arms

abbrev PlacedCase : Type 0
PlacedCase = Cases → Cases

abbrev PlainArm : Type 0
PlainArm = bare_tree.Arms → bare_tree.Arms

abbrev PlainCase : Type 0
PlainCase = bare_tree.Cases → bare_tree.Cases

abbrev placed_arm : tree_arm.Arm → PlacedArm
placed_arm = fold-Arm Stmt (Arms → Arms) (Cases → Cases) stmt_step arm_step case_step

abbrev placed_case : tree_case.Case → PlacedCase
placed_case = fold-Case Stmt (Arms → Arms) (Cases → Cases) stmt_step arm_step case_step

abbrev plain_arm : tree_arm.Arm → PlainArm
plain_arm = fold-Arm bare_tree.Stmt (bare_tree.Arms → bare_tree.Arms) (bare_tree.Cases → bare_tree.Cases) plains.stmt_step plains.arm_step plains.case_step

abbrev plain_case : tree_case.Case → PlainCase
plain_case = fold-Case bare_tree.Stmt (bare_tree.Arms → bare_tree.Arms) (bare_tree.Cases → bare_tree.Cases) plains.stmt_step plains.arm_step plains.case_step

abbrev StmtIsBare : tree_stmt.Stmt → Type 0
StmtIsBare s = bare_stmt (placed_stmt s) ≡ plains.plain_stmt s

abbrev ArmIsBare : tree_arm.Arm → Type 0
ArmIsBare a = (rest : Arms) → bare_arms (placed_arm a rest) ≡ plain_arm a (bare_arms rest)

abbrev CaseIsBare : tree_case.Case → Type 0
CaseIsBare c = (rest : Cases) → bare_cases (placed_case c rest) ≡ plain_case c (bare_cases rest)

abbrev KnownStmt : Type 0
KnownStmt = (s : tree_stmt.Stmt) × StmtIsBare s

abbrev KnownArm : Type 0
KnownArm = (a : tree_arm.Arm) × ArmIsBare a

abbrev KnownCase : Type 0
KnownCase = (c : tree_case.Case) × CaseIsBare c

abbrev its_stmts : List KnownStmt → List tree_stmt.Stmt
its_stmts ss = map (λ s. s.0) ss

abbrev its_arms : List KnownArm → List tree_arm.Arm
its_arms arms = map (λ a. a.0) arms

abbrev its_cases : List KnownCase → List tree_case.Case
its_cases cs = map (λ c. c.0) cs

known_stmts_bare : (ss : List KnownStmt) → bare_stmts (placed_stmts (its_stmts ss)) ≡ plains.plain_stmts (its_stmts ss)
known_stmts_bare [] = refl
known_stmts_bare (s ∷ ss) = λ t. bare_tree.Then (s.1 t) (known_stmts_bare ss t)

known_arms_bare : (arms : List KnownArm) → bare_arms (arms_of (map placed_arm (its_arms arms))) ≡ plains.arms_of (map plain_arm (its_arms arms))
known_arms_bare [] = refl
known_arms_bare (a ∷ more) = a.1 (arms_of (map placed_arm (its_arms more))) ∙ ap (plain_arm a.0) (known_arms_bare more)

known_cases_bare : (cases : List KnownCase) → bare_cases (cases_of (map placed_case (its_cases cases))) ≡ plains.cases_of (map plain_case (its_cases cases))
known_cases_bare [] = refl
known_cases_bare (c ∷ more) = c.1 (cases_of (map placed_case (its_cases more))) ∙ ap (plain_case c.0) (known_cases_bare more)

abbrev stmt_part : Stmt-F KnownStmt KnownArm KnownCase → Stmt-F tree_stmt.Stmt tree_arm.Arm tree_case.Case
stmt_part y = map-Stmt KnownStmt KnownArm KnownCase tree_stmt.Stmt tree_arm.Arm tree_case.Case (λ s. s.0) (λ a. a.0) (λ c. c.0) y

abbrev arm_part : Arm-F KnownStmt KnownArm KnownCase → Arm-F tree_stmt.Stmt tree_arm.Arm tree_case.Case
arm_part y = map-Arm KnownStmt KnownArm KnownCase tree_stmt.Stmt tree_arm.Arm tree_case.Case (λ s. s.0) (λ a. a.0) (λ c. c.0) y

abbrev case_part : Case-F KnownStmt KnownArm KnownCase → Case-F tree_stmt.Stmt tree_arm.Arm tree_case.Case
case_part y = map-Case KnownStmt KnownArm KnownCase tree_stmt.Stmt tree_arm.Arm tree_case.Case (λ s. s.0) (λ a. a.0) (λ c. c.0) y

abbrev StmtLevelIsBare : Stmt-F tree_stmt.Stmt tree_arm.Arm tree_case.Case → Type 0
StmtLevelIsBare x =
    bare_stmt (stmt_step (map-Stmt tree_stmt.Stmt tree_arm.Arm tree_case.Case Stmt PlacedArm PlacedCase placed_stmt placed_arm placed_case x))
    ≡ plains.stmt_step (map-Stmt tree_stmt.Stmt tree_arm.Arm tree_case.Case bare_tree.Stmt PlainArm PlainCase plains.plain_stmt plain_arm plain_case x)

stmt_level_bare : (y : Stmt-F KnownStmt KnownArm KnownCase) → StmtLevelIsBare (stmt_part y)
stmt_level_bare (Stmt-F.Assign at left right) = λ t. bare_tree.Assign (expr_bare left t) (expr_bare right t)
stmt_level_bare (Stmt-F.Call at name args forward) = ap (λ a. bare_tree.Call name.name a forward) (subs_are_bare args)
stmt_level_bare (Stmt-F.If at arms None) = ap (λ a. bare_tree.If a bare_tree.Nothing_else) (known_arms_bare arms)
stmt_level_bare (Stmt-F.If at arms (Some other)) = λ t. bare_tree.If (known_arms_bare arms t) (bare_tree.Else (known_stmts_bare other t))
stmt_level_bare (Stmt-F.Select at on cases None) = λ t. bare_tree.Select (expr_bare on t) (known_cases_bare cases t) bare_tree.Nothing_else
stmt_level_bare (Stmt-F.Select at on cases (Some other)) = λ t. bare_tree.Select (expr_bare on t) (known_cases_bare cases t) (bare_tree.Else (known_stmts_bare other t))
stmt_level_bare (Stmt-F.Loop at head body mark) = λ t. bare_tree.Do (head_bare head t) (known_stmts_bare body t) (mark_bare mark t)
stmt_level_bare (Stmt-F.Block at mark body) = λ t. bare_tree.Block (directive_bare mark t) (known_stmts_bare body t)
stmt_level_bare (Stmt-F.Piece body) = ap bare_tree.Piece (known_stmts_bare body)
stmt_level_bare (Stmt-F.Exit at) = refl
stmt_level_bare (Stmt-F.Cycle at) = refl
stmt_level_bare (Stmt-F.Return at) = refl

stmt_bare : (s : tree_stmt.Stmt) → StmtIsBare s
stmt_bare =
    ind-Stmt StmtIsBare ArmIsBare CaseIsBare
    (λ x y is. subst (λ x. StmtIsBare (roll-Stmt x)) is (rolled_stmt (stmt_part y) (stmt_level_bare y)))
    (λ x y is. subst (λ x. ArmIsBare (roll-Arm x)) is (rolled_arm y))
    (λ x y is. subst (λ x. CaseIsBare (roll-Case x)) is (rolled_case y))
  where
    rolled_stmt : (x : Stmt-F tree_stmt.Stmt tree_arm.Arm tree_case.Case) → StmtLevelIsBare x → StmtIsBare (roll-Stmt x)
    rolled_stmt x level =
        ap bare_stmt (fold-roll-Stmt Stmt PlacedArm PlacedCase stmt_step arm_step case_step x)
        ∙ (level ∙ sym (fold-roll-Stmt bare_tree.Stmt PlainArm PlainCase plains.stmt_step plains.arm_step plains.case_step x))

    rolled_arm : (y : Arm-F KnownStmt KnownArm KnownCase) → ArmIsBare (roll-Arm (arm_part y))
    rolled_arm y rest =
        ap (λ (f : PlacedArm). bare_arms (f rest)) (fold-roll-Arm Stmt PlacedArm PlacedCase stmt_step arm_step case_step (arm_part y))
        ∙ ((λ t. bare_tree.Arm (expr_bare y.test t) (known_stmts_bare y.body t) (bare_arms rest))
        ∙ ap (λ (f : PlainArm). f (bare_arms rest)) (sym (fold-roll-Arm bare_tree.Stmt PlainArm PlainCase plains.stmt_step plains.arm_step plains.case_step (arm_part y))))

    rolled_case : (y : Case-F KnownStmt KnownArm KnownCase) → CaseIsBare (roll-Case (case_part y))
    rolled_case y rest =
        ap (λ (f : PlacedCase). bare_cases (f rest)) (fold-roll-Case Stmt PlacedArm PlacedCase stmt_step arm_step case_step (case_part y))
        ∙ ((λ t. bare_tree.Case (ranges_bare y.ranges t) (known_stmts_bare y.body t) (bare_cases rest))
        ∙ ap (λ (f : PlainCase). f (bare_cases rest)) (sym (fold-roll-Case bare_tree.Stmt PlainArm PlainCase plains.stmt_step plains.arm_step plains.case_step (case_part y))))

stmts_bare : (ss : List tree_stmt.Stmt) → bare_stmts (placed_stmts ss) ≡ plains.plain_stmts ss
stmts_bare [] = refl
stmts_bare (s ∷ ss) = λ t. bare_tree.Then (stmt_bare s t) (stmts_bare ss t)

-- Units

bounds_bare : (bs : List Bound) → map bare_dimension (map placed_bound bs) ≡ map plains.plain_bound bs
bounds_bare [] = refl
bounds_bare (b ∷ bs) = λ t. record { lower = option_bare b.lower t; upper = option_bare b.upper t } ∷ bounds_bare bs t

decls_bare : (ds : List tree_decl.Decl) → map bare_decl (map placed_decl ds) ≡ map plains.plain_decl ds
decls_bare [] = refl
decls_bare (d ∷ ds) =
    λ t. record { name = d.name; kind = d.kind; intent = d.intent; shape = bounds_bare d.shape t; value = option_bare d.value t } ∷ decls_bare ds t

pub unit_bare : (u : tree_unit.Unit) → bare_unit (placed_unit u) ≡ plains.plain_unit u
unit_bare u = λ t. record {
  name = u.name;
  dummies = map (λ d. d.name) u.dummies;
  result = option_map (λ r. r.name) u.result;
  uses = map bare_use u.uses;
  decls = decls_bare u.decls t;
  marks = directives_bare u.marks t;
  body = stmts_bare u.body t;
  host = u.host;
}

units_bare : (us : List tree_unit.Unit) → map bare_unit (map placed_unit us) ≡ map plains.plain_unit us
units_bare [] = refl
units_bare (u ∷ us) = λ t. unit_bare u t ∷ units_bare us t

modules_bare : (ms : List tree_module.Module) → map bare_module (map placed_module ms) ≡ map plains.plain_module ms
modules_bare [] = refl
modules_bare (m ∷ ms) = λ t. record { name = m.name; uses = map bare_use m.uses; decls = decls_bare m.decls t } ∷ modules_bare ms t

items_bare : (is : List Item) → map bare_item is ≡ map plains.plain_item is
items_bare [] = refl
items_bare (item.Module n ∷ is) = ap (λ l. bare_tree.A_module n ∷ l) (items_bare is)
items_bare (item.Unit n ∷ is) = ap (λ l. bare_tree.A_unit n ∷ l) (items_bare is)

-- the placed tree of a file without its places is its plain tree
pub placed_is_plain : (f : File) → bare_program (placed f) ≡ plains.plain_file f
placed_is_plain f = λ t. record { modules = modules_bare f.modules t; units = units_bare f.units t; order = items_bare f.order t }
