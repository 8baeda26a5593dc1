-- How deep each form of a statement is, by its parts.
use Rattle.std.proofs.Common.{◌≡◌, ℕ, ◌+◌, List, [], ◌∷◌, Option, None, Some, Bool, max, map, option_map, sym, ap, ◌∙◌, arith}
use Rattle.fort_tree.specs.declared.place.Place.{Place}
use Rattle.fort_tree.specs.declared.expr.Expr.{Expr}
use Rattle.fort_tree.specs.declared.expr.Sub.{Sub}
use Rattle.fort_tree.specs.declared.statement.Statement.{Statement}
use Rattle.fort_tree.specs.declared.statement.Statement.TheOpen.{Statement-F}
use Rattle.fort_tree.specs.declared.stmt.Arm.{Arm}
use Rattle.fort_tree.specs.declared.stmt.Case.{Case}
use Rattle.fort_tree.specs.declared.stmt.Directive.{Directive}
use Rattle.fort_tree.specs.declared.stmt.Head.{Head}
use Rattle.fort_tree.specs.declared.stmt.Named.{Named}
use Rattle.fort_tree.specs.declared.stmt.Range.{Range}
use Rattle.fort_tree.specs.declared.stmt.Stmt.{Stmt}
use Rattle.fort_tree.specs.declared.stmt.Stmt.TheOpen.{Stmt-F}
use Rattle.fort_tree.specs.declared.stmt.Stmt.TheFolds.{fold-Arm, fold-Case, fold-roll-Stmt, fold-roll-Arm, fold-roll-Case}
use Rattle.fort_tree.specs.declared.stmt.Stmt.TheVariants as tree
use Rattle.claw_meaning.specs.Syntax as plain
use Rattle.claw_meaning.specs.Plain.{stmt_step, arm_step, case_step, plain_stmt, plain_stmts, arms_of, cases_of, otherwise}
use Rattle.sound_programs.specs.Nesting.{Inside, arm, case, Simple, assigns, calls, exits, cycles, returns}
use Rattle.fort_units.specs.Depth.{stmt_depth, stmts_depth, arms_depth, cases_depth, other_depth}

abbrev MoreArms : Type 0
MoreArms = plain.Arms → plain.Arms

abbrev MoreCases : Type 0
MoreCases = plain.Cases → plain.Cases

abbrev plain_arm : Arm → MoreArms
plain_arm = fold-Arm plain.Stmt (plain.Arms → plain.Arms) (plain.Cases → plain.Cases) stmt_step arm_step case_step

abbrev plain_case : Case → MoreCases
plain_case = fold-Case plain.Stmt (plain.Arms → plain.Arms) (plain.Cases → plain.Cases) stmt_step arm_step case_step

-- ---- Depths of the tree's parts

abbrev pub stmt_deep : Stmt → ℕ
stmt_deep s = stmt_depth (plain_stmt s)

abbrev pub stmts_deep : List Stmt → ℕ
stmts_deep ss = stmts_depth (plain_stmts ss)

abbrev pub arms_deep : List Arm → ℕ
arms_deep arms = arms_depth (arms_of (map plain_arm arms))

abbrev pub cases_deep : List Case → ℕ
cases_deep cases = cases_depth (cases_of (map plain_case cases))

abbrev pub other_deep : Option (List Stmt) → ℕ
other_deep other = other_depth (otherwise (option_map (map plain_stmt) other))

-- ---- Levels

pub if_deep : (at : Place) (arms : List Arm) (other : Option (List Stmt)) → stmt_deep (tree.If at arms other) ≡ max (arms_deep arms) (other_deep other) + 1
if_deep at arms None = ap stmt_deep (sym (tree.rolls-If at arms None)) ∙ ap stmt_depth (fold-roll-Stmt plain.Stmt MoreArms MoreCases stmt_step arm_step case_step (Stmt-F.If at arms None))
if_deep at arms (Some body) = ap stmt_deep (sym (tree.rolls-If at arms (Some body))) ∙ ap stmt_depth (fold-roll-Stmt plain.Stmt MoreArms MoreCases stmt_step arm_step case_step (Stmt-F.If at arms (Some body)))

pub select_deep : (at : Place) (on : Expr) (cases : List Case) (other : Option (List Stmt)) → stmt_deep (tree.Select at on cases other) ≡ max (cases_deep cases) (other_deep other) + 1
select_deep at on cases None = ap stmt_deep (sym (tree.rolls-Select at on cases None)) ∙ ap stmt_depth (fold-roll-Stmt plain.Stmt MoreArms MoreCases stmt_step arm_step case_step (Stmt-F.Select at on cases None))
select_deep at on cases (Some body) = ap stmt_deep (sym (tree.rolls-Select at on cases (Some body))) ∙ ap stmt_depth (fold-roll-Stmt plain.Stmt MoreArms MoreCases stmt_step arm_step case_step (Stmt-F.Select at on cases (Some body)))

pub loop_deep : (at : Place) (head : Head) (body : List Stmt) (mark : Option Directive) → stmt_deep (tree.Loop at head body mark) ≡ stmts_deep body + 1
loop_deep at head body None = ap stmt_deep (sym (tree.rolls-Loop at head body None)) ∙ ap stmt_depth (fold-roll-Stmt plain.Stmt MoreArms MoreCases stmt_step arm_step case_step (Stmt-F.Loop at head body None))
loop_deep at head body (Some d) = ap stmt_deep (sym (tree.rolls-Loop at head body (Some d))) ∙ ap stmt_depth (fold-roll-Stmt plain.Stmt MoreArms MoreCases stmt_step arm_step case_step (Stmt-F.Loop at head body (Some d)))

pub block_deep : (at : Place) (mark : Directive) (body : List Stmt) → stmt_deep (tree.Block at mark body) ≡ stmts_deep body + 1
block_deep at mark body = ap stmt_deep (sym (tree.rolls-Block at mark body)) ∙ ap stmt_depth (fold-roll-Stmt plain.Stmt MoreArms MoreCases stmt_step arm_step case_step (Stmt-F.Block at mark body))

pub call_deep : (at : Place) (name : Named) (args : List Sub) (forward : Bool) → stmt_deep (tree.Call at name args forward) ≡ 0
call_deep at name args forward = ap stmt_deep (sym (tree.rolls-Call at name args forward)) ∙ ap stmt_depth (fold-roll-Stmt plain.Stmt MoreArms MoreCases stmt_step arm_step case_step (Stmt-F.Call at name args forward))

pub simple_deep : {around : Inside} {at : Place} {said : Statement-F Statement} {s : Stmt} → Simple around at said s → stmt_deep s ≡ 0
simple_deep {at = at} (assigns left right h) = ap stmt_deep (sym (tree.rolls-Assign at left right)) ∙ ap stmt_depth (fold-roll-Stmt plain.Stmt MoreArms MoreCases stmt_step arm_step case_step (Stmt-F.Assign at left right))
simple_deep {at = at} (calls name args) = call_deep at name args _
simple_deep {at = at} (exits h) = ap stmt_deep (sym (tree.rolls-Exit at)) ∙ ap stmt_depth (fold-roll-Stmt plain.Stmt MoreArms MoreCases stmt_step arm_step case_step (Stmt-F.Exit at))
simple_deep {at = at} (cycles h) = ap stmt_deep (sym (tree.rolls-Cycle at)) ∙ ap stmt_depth (fold-roll-Stmt plain.Stmt MoreArms MoreCases stmt_step arm_step case_step (Stmt-F.Cycle at))
simple_deep {at = at} (returns h) = ap stmt_deep (sym (tree.rolls-Return at)) ∙ ap stmt_depth (fold-roll-Stmt plain.Stmt MoreArms MoreCases stmt_step arm_step case_step (Stmt-F.Return at))

pub arm_deep : (test : Expr) (body : List Stmt) (arms : List Arm) → arms_deep (arm test body ∷ arms) ≡ max (stmts_deep body) (arms_deep arms)
arm_deep test body arms = ap (λ (f : MoreArms). arms_depth (f (arms_of (map plain_arm arms)))) (fold-roll-Arm plain.Stmt MoreArms MoreCases stmt_step arm_step case_step (record { test = test; body = body }))

pub case_deep : (ranges : List Range) (body : List Stmt) (cases : List Case) → cases_deep (case ranges body ∷ cases) ≡ max (stmts_deep body) (cases_deep cases)
case_deep ranges body cases = ap (λ (f : MoreCases). cases_depth (f (cases_of (map plain_case cases)))) (fold-roll-Case plain.Stmt MoreArms MoreCases stmt_step arm_step case_step (record { ranges = ranges; body = body }))

-- ---- Constructs as they are gone through

-- an IF on one line
pub one_line_deep : (at : Place) (test : Expr) (s : Stmt) → stmt_deep s ≡ 0 → 1 ≡ stmt_deep (tree.If at (arm test (s ∷ []) ∷ []) None)
one_line_deep at test s e =
    let this = if_deep at (arm test (s ∷ []) ∷ []) None in
    let inner = arm_deep test (s ∷ []) [] in omega arith

pub else_then : (body : List Stmt) → stmts_deep body ≡ max (arms_deep []) (other_deep (Some body))
else_then body = omega arith

pub arms_then : (test : Expr) (body : List Stmt) (arms : List Arm) (other : Option (List Stmt)) → max (stmts_deep body) (max (arms_deep arms) (other_deep other)) ≡ max (arms_deep (arm test body ∷ arms)) (other_deep other)
arms_then test body arms other = let inner = arm_deep test body arms in omega arith

pub if_then_deep : (at : Place) (test : Expr) (body : List Stmt) (arms : List Arm) (other : Option (List Stmt)) →
    max (stmts_deep body) (max (arms_deep arms) (other_deep other)) + 1 ≡ stmt_deep (tree.If at (arm test body ∷ arms) other)
if_then_deep at test body arms other =
    let this = if_deep at (arm test body ∷ arms) other in
    let inner = arm_deep test body arms in omega arith

pub cases_then : (ranges : List Range) (body : List Stmt) (cases : List Case) (other : Option (List Stmt)) →
    max (stmts_deep body) (max (cases_deep cases) (other_deep other)) ≡ max (cases_deep (case ranges body ∷ cases)) (other_deep other)
cases_then ranges body cases other = let inner = case_deep ranges body cases in omega arith

pub default_then : (body : List Stmt) (cases : List Case) → max (stmts_deep body) (max (cases_deep cases) (other_deep None)) ≡ max (cases_deep cases) (other_deep (Some body))
default_then body cases = omega arith
