-- In a program into which forms nest each left side is a name, with subscripts or without.
use Rattle.std.proofs.Common.{◌≡◌, ℕ, List, [], ◌∷◌, ◌++◌, map, Option, None, Some, Bool, true, false, sym, ap, ◌∙◌, subst}
use Rattle.std.specs.Prelude.{⊤}
use Rattle.std.proofs.lemmas.Bool.{false≢true}
use Rattle.fort_tree.specs.declared.choice.Mode.{Mode}
use Rattle.fort_tree.specs.declared.place.Place.{Place}
use Rattle.fort_tree.specs.declared.expr.Expr as tree_expr
use Rattle.fort_tree.specs.declared.expr.Expr.TheOpen.{Expr-F}
use Rattle.fort_tree.specs.declared.expr.Expr.TheFolds.{fold-roll-Expr, map-Expr}
use Rattle.fort_tree.specs.declared.expr.Expr.TheViews.{out-Expr, roll-out-Expr}
use Rattle.fort_tree.specs.declared.expr.Sub as tree_sub
use Rattle.fort_tree.specs.declared.statement.Statement.{Statement}
use Rattle.fort_tree.specs.declared.statement.Statement.TheOpen.{Statement-F}
use Rattle.fort_tree.specs.declared.stmt.Arm as tree_arm
use Rattle.fort_tree.specs.declared.stmt.Case as tree_case
use Rattle.fort_tree.specs.declared.stmt.Directive as tree_directive
use Rattle.fort_tree.specs.declared.stmt.Head as tree_head
use Rattle.fort_tree.specs.declared.stmt.Named.{Named}
use Rattle.fort_tree.specs.declared.stmt.Range as tree_range
use Rattle.fort_tree.specs.declared.stmt.Stmt as tree_stmt
use Rattle.fort_tree.specs.declared.stmt.Stmt.TheOpen.{Stmt-F}
use Rattle.fort_tree.specs.declared.stmt.Stmt.TheFolds.{fold-Arm, fold-Case, fold-roll-Stmt, fold-roll-Arm, fold-roll-Case}
use Rattle.fort_tree.specs.declared.stmt.Stmt.TheVariants as stmt
use Rattle.fort_tree.specs.declared.unit.Item.{Item}
use Rattle.fort_tree.specs.declared.unit.Module.{Module}
use Rattle.fort_tree.specs.declared.unit.Unit as unit
use Rattle.sound_programs.specs.Forms.{Form, is_reference, is_reference_level}
use Rattle.sound_programs.specs.Laws.{Each}
use Rattle.sound_programs.specs.Nesting.{Inside, arm, case, Simple, assigns, calls, exits, cycles, returns, Body, done, more, One, simple, forwarded, if_action, if_then, selects, loops, directed, block, Arms as Nested_arms, end_if, else_last, else_if, Cases as Nested_cases, end_select, case_of, default, IsUnit, subroutine, function, AreUnits, no_more_units, a_unit, Contained, contains_none, contains, IsModule, a_module, Nests_from, no_more, module_first, unit_first}
use Rattle.sound_programs.specs.Placed.{Expr, Name, Reference, Stmt, Assign, Call, If, Select, Do, Block, Piece, Exit, Cycle, Return, Stmts, Done, Then, Arms, No_arm, Arm, Cases, No_case, Case, Otherwise, Nothing_else, Else}
use Rattle.sound_programs.specs.Placing.{Before, expr_step, sub_step, placed_expr, placed_sub, arms_of, cases_of, stmt_step, arm_step, case_step, placed_stmt, placed_stmts}

-- ---- Left sides

-- a name, with subscripts or without
abbrev pub IsLeft : Expr → Type 0
IsLeft (Name x at) = ⊤
IsLeft (Reference x subs at) = ⊤
IsLeft other = ⊥

abbrev mutual
  -- all in a statement
  pub HasLefts : Stmt → Type 0
  HasLefts (Assign at left right) = IsLeft left
  HasLefts (Call at name args forward) = ⊤
  HasLefts (If at arms other) = ArmsHaveLefts arms × OtherwiseHasLefts other
  HasLefts (Select at on cases other) = CasesHaveLefts cases × OtherwiseHasLefts other
  HasLefts (Do at head body mark) = HaveLefts body
  HasLefts (Block at mark body) = HaveLefts body
  HasLefts (Piece body) = HaveLefts body
  HasLefts (Exit at) = ⊤
  HasLefts (Cycle at) = ⊤
  HasLefts (Return at) = ⊤

  pub HaveLefts : Stmts → Type 0
  HaveLefts Done = ⊤
  HaveLefts (Then s rest) = HasLefts s × HaveLefts rest

  pub ArmsHaveLefts : Arms → Type 0
  ArmsHaveLefts No_arm = ⊤
  ArmsHaveLefts (Arm test body rest) = HaveLefts body × ArmsHaveLefts rest

  pub CasesHaveLefts : Cases → Type 0
  CasesHaveLefts No_case = ⊤
  CasesHaveLefts (Case ranges body rest) = HaveLefts body × CasesHaveLefts rest

  pub OtherwiseHasLefts : Otherwise → Type 0
  OtherwiseHasLefts Nothing_else = ⊤
  OtherwiseHasLefts (Else body) = HaveLefts body

left_level : (x : Expr-F tree_expr.Expr tree_sub.Sub) → is_reference_level x ≡ true → IsLeft (expr_step (map-Expr tree_expr.Expr tree_sub.Sub Expr Before placed_expr placed_sub x))
left_level (Expr-F.Number n kind at) e = absurd (false≢true e)
left_level (Expr-F.Truth b at) e = absurd (false≢true e)
left_level (Expr-F.Ref name None at) e = tt
left_level (Expr-F.Ref name (Some subs) at) e = tt
left_level (Expr-F.«Expr::One» sign a at) e = absurd (false≢true e)
left_level (Expr-F.Two op a b) e = absurd (false≢true e)
left_level (Expr-F.Paren a at) e = absurd (false≢true e)

is_left : (e : tree_expr.Expr) → is_reference e ≡ true → IsLeft (placed_expr e)
is_left e is =
    subst (λ a. IsLeft (placed_expr a)) (roll-out-Expr e)
    (subst IsLeft (sym (fold-roll-Expr Expr Before expr_step sub_step (out-Expr e))) (left_level (out-Expr e) is))

-- ---- Statements, one level at a time

abbrev More_arms : Type 0
More_arms = Arms → Arms

abbrev More_cases : Type 0
More_cases = Cases → Cases

abbrev placed_arm : tree_arm.Arm → Arms → Arms
placed_arm = fold-Arm Stmt (Arms → Arms) (Cases → Cases) stmt_step arm_step case_step

abbrev placed_case : tree_case.Case → Cases → Cases
placed_case = fold-Case Stmt (Arms → Arms) (Cases → Cases) stmt_step arm_step case_step

abbrev Lefts : tree_stmt.Stmt → Type 0
Lefts s = HasLefts (placed_stmt s)

abbrev pub LeftsIn : List tree_stmt.Stmt → Type 0
LeftsIn ss = HaveLefts (placed_stmts ss)

abbrev LeftsOther : Option (List tree_stmt.Stmt) → Type 0
LeftsOther None = ⊤
LeftsOther (Some body) = LeftsIn body

abbrev LeftsArms : List tree_arm.Arm → Type 0
LeftsArms arms = ArmsHaveLefts (arms_of (map placed_arm arms))

abbrev LeftsCases : List tree_case.Case → Type 0
LeftsCases cases = CasesHaveLefts (cases_of (map placed_case cases))

assign_lefts : (at : Place) (left right : tree_expr.Expr) → IsLeft (placed_expr left) → Lefts (stmt.Assign at left right)
assign_lefts at left right h =
    subst HasLefts (sym (ap placed_stmt (sym (stmt.rolls-Assign at left right)) ∙ fold-roll-Stmt Stmt More_arms More_cases stmt_step arm_step case_step (Stmt-F.Assign at left right))) h

call_lefts : (at : Place) (name : Named) (args : List tree_sub.Sub) (forward : Bool) → Lefts (stmt.Call at name args forward)
call_lefts at name args forward =
    subst HasLefts (sym (ap placed_stmt (sym (stmt.rolls-Call at name args forward)) ∙ fold-roll-Stmt Stmt More_arms More_cases stmt_step arm_step case_step (Stmt-F.Call at name args forward))) tt

if_lefts : (at : Place) (arms : List tree_arm.Arm) (other : Option (List tree_stmt.Stmt)) → LeftsArms arms → LeftsOther other → Lefts (stmt.If at arms other)
if_lefts at arms None h k =
    subst HasLefts (sym (ap placed_stmt (sym (stmt.rolls-If at arms None)) ∙ fold-roll-Stmt Stmt More_arms More_cases stmt_step arm_step case_step (Stmt-F.If at arms None))) (h, tt)
if_lefts at arms (Some body) h k =
    subst HasLefts (sym (ap placed_stmt (sym (stmt.rolls-If at arms (Some body))) ∙ fold-roll-Stmt Stmt More_arms More_cases stmt_step arm_step case_step (Stmt-F.If at arms (Some body)))) (h, k)

select_lefts : (at : Place) (on : tree_expr.Expr) (cases : List tree_case.Case) (other : Option (List tree_stmt.Stmt)) → LeftsCases cases → LeftsOther other → Lefts (stmt.Select at on cases other)
select_lefts at on cases None h k =
    subst HasLefts (sym (ap placed_stmt (sym (stmt.rolls-Select at on cases None)) ∙ fold-roll-Stmt Stmt More_arms More_cases stmt_step arm_step case_step (Stmt-F.Select at on cases None))) (h, tt)
select_lefts at on cases (Some body) h k =
    subst HasLefts (sym (ap placed_stmt (sym (stmt.rolls-Select at on cases (Some body))) ∙ fold-roll-Stmt Stmt More_arms More_cases stmt_step arm_step case_step (Stmt-F.Select at on cases (Some body)))) (h, k)

loop_lefts : (at : Place) (head : tree_head.Head) (body : List tree_stmt.Stmt) (mark : Option tree_directive.Directive) → LeftsIn body → Lefts (stmt.Loop at head body mark)
loop_lefts at head body mark h =
    subst HasLefts (sym (ap placed_stmt (sym (stmt.rolls-Loop at head body mark)) ∙ fold-roll-Stmt Stmt More_arms More_cases stmt_step arm_step case_step (Stmt-F.Loop at head body mark))) h

block_lefts : (at : Place) (mark : tree_directive.Directive) (body : List tree_stmt.Stmt) → LeftsIn body → Lefts (stmt.Block at mark body)
block_lefts at mark body h =
    subst HasLefts (sym (ap placed_stmt (sym (stmt.rolls-Block at mark body)) ∙ fold-roll-Stmt Stmt More_arms More_cases stmt_step arm_step case_step (Stmt-F.Block at mark body))) h

exit_lefts : (at : Place) → Lefts (stmt.Exit at)
exit_lefts at = subst HasLefts (sym (ap placed_stmt (sym (stmt.rolls-Exit at)) ∙ fold-roll-Stmt Stmt More_arms More_cases stmt_step arm_step case_step (Stmt-F.Exit at))) tt

cycle_lefts : (at : Place) → Lefts (stmt.Cycle at)
cycle_lefts at = subst HasLefts (sym (ap placed_stmt (sym (stmt.rolls-Cycle at)) ∙ fold-roll-Stmt Stmt More_arms More_cases stmt_step arm_step case_step (Stmt-F.Cycle at))) tt

return_lefts : (at : Place) → Lefts (stmt.Return at)
return_lefts at = subst HasLefts (sym (ap placed_stmt (sym (stmt.rolls-Return at)) ∙ fold-roll-Stmt Stmt More_arms More_cases stmt_step arm_step case_step (Stmt-F.Return at))) tt

arm_lefts : (test : tree_expr.Expr) (body : List tree_stmt.Stmt) (arms : List tree_arm.Arm) → LeftsIn body → LeftsArms arms → LeftsArms (arm test body ∷ arms)
arm_lefts test body arms h k =
    subst ArmsHaveLefts (sym (ap (λ (f : Arms → Arms). f (arms_of (map placed_arm arms))) (fold-roll-Arm Stmt More_arms More_cases stmt_step arm_step case_step (record { test = test; body = body })))) (h, k)

case_lefts : (ranges : List tree_range.Range) (body : List tree_stmt.Stmt) (cases : List tree_case.Case) → LeftsIn body → LeftsCases cases → LeftsCases (case ranges body ∷ cases)
case_lefts ranges body cases h k =
    subst CasesHaveLefts (sym (ap (λ (f : Cases → Cases). f (cases_of (map placed_case cases))) (fold-roll-Case Stmt More_arms More_cases stmt_step arm_step case_step (record { ranges = ranges; body = body })))) (h, k)

-- ---- What nests

simple_lefts : {around : Inside} {at : Place} {said : Statement-F Statement} {s : tree_stmt.Stmt} → Simple around at said s → Lefts s
simple_lefts {at = at} (assigns left right is) = assign_lefts at left right (is_left left is)
simple_lefts {at = at} (calls name args) = call_lefts at name args false
simple_lefts {at = at} (exits h) = exit_lefts at
simple_lefts {at = at} (cycles h) = cycle_lefts at
simple_lefts {at = at} (returns h) = return_lefts at

module _ (mode : Mode) where
  mutual
    body_lefts : {around : Inside} {forms rest : List Form} {ss : List tree_stmt.Stmt} → Body mode around forms ss rest → LeftsIn ss
    body_lefts done = tt
    body_lefts (more first next) = (one_lefts first, body_lefts next)

    one_lefts : {around : Inside} {forms rest : List Form} {s : tree_stmt.Stmt} → One mode around forms s rest → Lefts s
    one_lefts (simple h) = simple_lefts h
    one_lefts (forwarded {at = at} {name = name} {args = args} h) = call_lefts at name args true
    one_lefts (if_action {at = at} {test = test} {s = s} h) = if_lefts at (arm test (s ∷ []) ∷ []) None (arm_lefts test (s ∷ []) [] (simple_lefts h, tt) tt) tt
    one_lefts (if_then {at = at} {test = test} {body = body} {arms = arms} {other = other} inside next) =
        let l = arms_lefts next in if_lefts at (arm test body ∷ arms) other (arm_lefts test body arms (body_lefts inside) l.0) l.1
    one_lefts (selects {at = at} {on = on} {cases = cases} {other = other} inside) = let l = cases_lefts inside in select_lefts at on cases other l.0 l.1
    one_lefts (loops {at = at} {head = head} {body = body} inside) = loop_lefts at head body None (body_lefts inside)
    one_lefts (directed {d = d} {at = at} {head = head} {body = body} h inside) = loop_lefts at head body (Some d) (body_lefts inside)
    one_lefts (block {d = d} {body = body} h k inside) = block_lefts d.at d body (body_lefts inside)

    arms_lefts : {around : Inside} {forms rest : List Form} {arms : List tree_arm.Arm} {other : Option (List tree_stmt.Stmt)} → Nested_arms mode around forms arms other rest → LeftsArms arms × LeftsOther other
    arms_lefts end_if = (tt, tt)
    arms_lefts (else_last inside) = (tt, body_lefts inside)
    arms_lefts (else_if {test = test} {body = body} {arms = arms} inside next) = let l = arms_lefts next in (arm_lefts test body arms (body_lefts inside) l.0, l.1)

    cases_lefts : {around : Inside} {forms rest : List Form} {cases : List tree_case.Case} {other : Option (List tree_stmt.Stmt)} → Nested_cases mode around forms cases other rest → LeftsCases cases × LeftsOther other
    cases_lefts end_select = (tt, tt)
    cases_lefts (case_of {ranges = ranges} {body = body} {cases = cases} h inside next) = let l = cases_lefts next in (case_lefts ranges body cases (body_lefts inside) l.0, l.1)
    cases_lefts (default inside next) = let l = cases_lefts next in (l.0, body_lefts inside)

  unit_lefts : {host : Option ℕ} {forms rest : List Form} {u : unit.Unit} → IsUnit mode host forms u rest → LeftsIn u.body
  unit_lefts (subroutine head pair inside end) = body_lefts inside
  unit_lefts (function head inside end) = body_lefts inside

  abbrev AllLefts : List unit.Unit → Type 0
  AllLefts us = Each us (λ u. LeftsIn u.body)

  units_lefts : {host : Option ℕ} {forms rest : List Form} {us : List unit.Unit} → AreUnits mode host forms us rest → AllLefts us
  units_lefts no_more_units = tt
  units_lefts (a_unit first next) = (unit_lefts first, units_lefts next)

  contained_lefts : {number : ℕ} {forms rest : List Form} {us : List unit.Unit} → Contained mode number forms us rest → AllLefts us
  contained_lefts contains_none = tt
  contained_lefts (contains units) = units_lefts units

  module_lefts : {number : ℕ} {forms rest : List Form} {m : Module} {us : List unit.Unit} → IsModule mode number forms m us rest → AllLefts us
  module_lefts (a_module head units end) = contained_lefts units

  both : (us vs : List unit.Unit) → AllLefts us → AllLefts vs → AllLefts (us ++ vs)
  both [] vs h k = k
  both (u ∷ us) vs h k = (h.0, both us vs h.1 k)

  pub nested_lefts : {m u : ℕ} {forms : List Form} {ms : List Module} {us : List unit.Unit} {order : List Item} → Nests_from mode m u forms ms us order → AllLefts us
  nested_lefts no_more = tt
  nested_lefts (module_first {us = us} {vs = vs} first next) = both us vs (module_lefts first) (nested_lefts next)
  nested_lefts (unit_first first next) = (unit_lefts first, nested_lefts next)
