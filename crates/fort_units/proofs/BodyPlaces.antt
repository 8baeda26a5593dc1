-- All places of the statements that forms nest into are places of the forms.
use Rattle.std.proofs.Common.{◌≡◌, Bool, List, [], ◌∷◌, map, Option, None, Some, sym, subst}
use Rattle.std.specs.List.{AllByRecursion}
use Rattle.std.specs.Prelude.{true, false}
use Rattle.fort_tree.specs.declared.choice.Mode.{Mode}
use Rattle.fort_tree.specs.declared.expr.Expr as tree_expr
use Rattle.fort_tree.specs.declared.expr.Sub as tree_sub
use Rattle.fort_tree.specs.declared.place.Place.{Place}
use Rattle.fort_tree.specs.declared.statement.Statement.{Statement}
use Rattle.fort_tree.specs.declared.statement.Statement.TheOpen.{Statement-F}
use Rattle.fort_tree.specs.declared.stmt.Arm as tree_arm
use Rattle.fort_tree.specs.declared.stmt.Case as tree_case
use Rattle.fort_tree.specs.declared.stmt.Directive as tree_directive
use Rattle.fort_tree.specs.declared.stmt.Head as tree_head
use Rattle.fort_tree.specs.declared.stmt.Named.{Named}
use Rattle.fort_tree.specs.declared.stmt.Range as tree_range
use Rattle.fort_tree.specs.declared.stmt.Stmt as tree_stmt
use Rattle.fort_tree.specs.declared.stmt.Stmt.TheFolds.{fold-Arm, fold-Case, fold-roll-Stmt, fold-roll-Arm, fold-roll-Case, map-Stmt}
use Rattle.fort_tree.specs.declared.stmt.Stmt.TheOpen.{Stmt-F}
use Rattle.fort_tree.specs.declared.stmt.Stmt.TheVariants as stmt
use Rattle.fort_tree.specs.declared.stmt.Stmt.TheViews.{roll-Stmt}
use Rattle.sound_programs.specs.Forms.{Form, Says, Directs}
use Rattle.sound_programs.specs.Nesting.{Inside, arm, case, Simple, assigns, calls, exits, cycles, returns, Body, done, more, One, simple, forwarded, if_action, if_then, selects, loops, directed, block, Arms, end_if, else_last, else_if, Cases, end_select, case_of, default}
use Rattle.sound_programs.specs.Placed as placed_tree
use Rattle.sound_programs.specs.Placing.{placed_range, placed_directive, arms_of, cases_of, stmt_step, arm_step, case_step, placed_stmt, placed_stmts}
use Rattle.sound_programs.specs.Within.{InOption, AllInDirective, AllInRange, AllInStmt, AllInStmts, AllInArms, AllInCases}
use Rattle.fort_units.proofs.ExpressionPlaces.{all_map, AtExpr}
use Rattle.fort_units.proofs.StatementPlaces.{AtRange, AtHead, AtArguments, AtAction, AtLevel}

abbrev MoreArms : Type 0
MoreArms = placed_tree.Arms → placed_tree.Arms

abbrev MoreCases : Type 0
MoreCases = placed_tree.Cases → placed_tree.Cases

abbrev placed_arm : tree_arm.Arm → MoreArms
placed_arm = fold-Arm placed_tree.Stmt (placed_tree.Arms → placed_tree.Arms) (placed_tree.Cases → placed_tree.Cases) stmt_step arm_step case_step

abbrev placed_case : tree_case.Case → MoreCases
placed_case = fold-Case placed_tree.Stmt (placed_tree.Arms → placed_tree.Arms) (placed_tree.Cases → placed_tree.Cases) stmt_step arm_step case_step

module _ (P : Place → Type 0) where
  -- ---- places of forms and of statements

  abbrev pub AtDirective : tree_directive.Directive → Type 0
  AtDirective d = AllInDirective P (placed_directive d)

  abbrev pub AtForm : Form → Type 0
  AtForm (Says at level) = P at × AtLevel P level
  AtForm (Directs d) = AtDirective d

  abbrev pub AtForms : List Form → Type 0
  AtForms forms = AllByRecursion AtForm forms

  abbrev AtStmt : tree_stmt.Stmt → Type 0
  AtStmt s = AllInStmt P (placed_stmt s)

  abbrev pub AtStmts : List tree_stmt.Stmt → Type 0
  AtStmts ss = AllInStmts P (placed_stmts ss)

  abbrev AtArms : List tree_arm.Arm → Type 0
  AtArms arms = AllInArms P (arms_of (map placed_arm arms))

  abbrev AtCases : List tree_case.Case → Type 0
  AtCases cases = AllInCases P (cases_of (map placed_case cases))

  abbrev AtOther : Option (List tree_stmt.Stmt) → Type 0
  AtOther other = InOption AtStmts other

  -- ---- one level of a statement

  leveled : (s : tree_stmt.Stmt) (x : Stmt-F tree_stmt.Stmt tree_arm.Arm tree_case.Case) → roll-Stmt x ≡ s →
      AllInStmt P (stmt_step (map-Stmt tree_stmt.Stmt tree_arm.Arm tree_case.Case placed_tree.Stmt MoreArms MoreCases placed_stmt placed_arm placed_case x)) → AtStmt s
  leveled s x is h = subst AtStmt is (subst (AllInStmt P) (sym (fold-roll-Stmt placed_tree.Stmt MoreArms MoreCases stmt_step arm_step case_step x)) h)

  at_assign : (at : Place) (a b : tree_expr.Expr) → P at → AtExpr P a → AtExpr P b → AtStmt (stmt.Assign at a b)
  at_assign at a b h i j = leveled (stmt.Assign at a b) (Stmt-F.Assign at a b) (stmt.rolls-Assign at a b) (h, (i, j))

  at_call : (at : Place) (name : Named) (args : List tree_sub.Sub) (forward : Bool) → P at → P name.at → AtArguments P args → AtStmt (stmt.Call at name args forward)
  at_call at name args forward h i j = leveled (stmt.Call at name args forward) (Stmt-F.Call at name args forward) (stmt.rolls-Call at name args forward) (h, (i, j))

  at_if : (at : Place) (arms : List tree_arm.Arm) (other : Option (List tree_stmt.Stmt)) → P at → AtArms arms → AtOther other → AtStmt (stmt.If at arms other)
  at_if at arms None h i j = leveled (stmt.If at arms None) (Stmt-F.If at arms None) (stmt.rolls-If at arms None) (h, (i, j))
  at_if at arms (Some body) h i j = leveled (stmt.If at arms (Some body)) (Stmt-F.If at arms (Some body)) (stmt.rolls-If at arms (Some body)) (h, (i, j))

  at_select : (at : Place) (on : tree_expr.Expr) (cases : List tree_case.Case) (other : Option (List tree_stmt.Stmt)) → P at → AtExpr P on → AtCases cases → AtOther other →
      AtStmt (stmt.Select at on cases other)
  at_select at on cases None h i j k = leveled (stmt.Select at on cases None) (Stmt-F.Select at on cases None) (stmt.rolls-Select at on cases None) (h, (i, (j, k)))
  at_select at on cases (Some body) h i j k = leveled (stmt.Select at on cases (Some body)) (Stmt-F.Select at on cases (Some body)) (stmt.rolls-Select at on cases (Some body)) (h, (i, (j, k)))

  at_loop : (at : Place) (head : tree_head.Head) (body : List tree_stmt.Stmt) → P at → AtHead P head → AtStmts body → AtStmt (stmt.Loop at head body None)
  at_loop at head body h i j = leveled (stmt.Loop at head body None) (Stmt-F.Loop at head body None) (stmt.rolls-Loop at head body None) (h, (i, (j, tt)))

  at_directed : (at : Place) (head : tree_head.Head) (body : List tree_stmt.Stmt) (d : tree_directive.Directive) → P at → AtHead P head → AtStmts body → AtDirective d →
      AtStmt (stmt.Loop at head body (Some d))
  at_directed at head body d h i j k = leveled (stmt.Loop at head body (Some d)) (Stmt-F.Loop at head body (Some d)) (stmt.rolls-Loop at head body (Some d)) (h, (i, (j, k)))

  at_block : (at : Place) (d : tree_directive.Directive) (body : List tree_stmt.Stmt) → P at → AtDirective d → AtStmts body → AtStmt (stmt.Block at d body)
  at_block at d body h i j = leveled (stmt.Block at d body) (Stmt-F.Block at d body) (stmt.rolls-Block at d body) (h, (i, j))

  at_exit : (at : Place) → P at → AtStmt (stmt.Exit at)
  at_exit at h = leveled (stmt.Exit at) (Stmt-F.Exit at) (stmt.rolls-Exit at) h

  at_cycle : (at : Place) → P at → AtStmt (stmt.Cycle at)
  at_cycle at h = leveled (stmt.Cycle at) (Stmt-F.Cycle at) (stmt.rolls-Cycle at) h

  at_return : (at : Place) → P at → AtStmt (stmt.Return at)
  at_return at h = leveled (stmt.Return at) (Stmt-F.Return at) (stmt.rolls-Return at) h

  at_arm : (test : tree_expr.Expr) (body : List tree_stmt.Stmt) (arms : List tree_arm.Arm) → AtExpr P test → AtStmts body → AtArms arms → AtArms (arm test body ∷ arms)
  at_arm test body arms h i j =
      subst (λ (f : MoreArms). AllInArms P (f (arms_of (map placed_arm arms))))
      (sym (fold-roll-Arm placed_tree.Stmt MoreArms MoreCases stmt_step arm_step case_step (record { test = test; body = body }))) (h, (i, j))

  at_case : (ranges : List tree_range.Range) (body : List tree_stmt.Stmt) (cases : List tree_case.Case) → AllByRecursion (AtRange P) ranges → AtStmts body → AtCases cases →
      AtCases (case ranges body ∷ cases)
  at_case ranges body cases h i j =
      subst (λ (f : MoreCases). AllInCases P (f (cases_of (map placed_case cases))))
      (sym (fold-roll-Case placed_tree.Stmt MoreArms MoreCases stmt_step arm_step case_step (record { ranges = ranges; body = body }))) (all_map (AllInRange P) placed_range ranges h, (i, j))

  -- ---- what forms give

  -- something, and the places of the forms behind it
  pub record Leaves (A : Type 0) (rest : List Form) : Type 0 where
    pub it : A
    pub behind : AtForms rest

  simple_at : {around : Inside} {at : Place} {said : Statement-F Statement} {s : tree_stmt.Stmt} → P at → AtAction P said → Simple around at said s → AtStmt s
  simple_at {at = at} h k (assigns a b c) = at_assign at a b h k.0 k.1
  simple_at {at = at} h k (calls name args) = at_call at name args false h k.0 k.1
  simple_at {at = at} h k (exits c) = at_exit at h
  simple_at {at = at} h k (cycles c) = at_cycle at h
  simple_at {at = at} h k (returns c) = at_return at h

  -- an action as a statement has the same places
  action_of : (level : Statement-F Statement) → AtLevel P level → AtAction P level
  action_of (Statement-F.Assign a b) h = h
  action_of (Statement-F.Call name args) h = h
  action_of other h = tt

  module _ (mode : Mode) where
    mutual
      pub body_at : {around : Inside} {forms rest : List Form} {ss : List tree_stmt.Stmt} → AtForms forms → Body mode around forms ss rest → Leaves (AtStmts ss) rest
      body_at h done = record { it = tt; behind = h }
      body_at h (more a b) = let s = one_at h a in let ss = body_at s.behind b in record { it = (s.it, ss.it); behind = ss.behind }

      one_at : {around : Inside} {forms rest : List Form} {s : tree_stmt.Stmt} → AtForms forms → One mode around forms s rest → Leaves (AtStmt s) rest
      one_at h (simple {said = said} a) = record { it = simple_at h.0.0 (action_of said h.0.1) a; behind = h.1 }
      one_at h (forwarded {at = at} {name = name} {args = args} c) = record { it = at_call at name args true h.1.0.0 h.1.0.1.0 h.1.0.1.1; behind = h.1.1 }
      one_at h (if_action {at = at} {test = test} {s = s} a) =
          record { it = at_if at (arm test (s ∷ []) ∷ []) None h.0.0 (at_arm test (s ∷ []) [] h.0.1.0 (simple_at h.0.1.1.0 h.0.1.1.1 a, tt) tt) tt; behind = h.1 }
      one_at h (if_then {at = at} {test = test} {body = body} {arms = arms} {other = other} a b) =
          let first = body_at h.1 a in let next = arms_at first.behind b in
          record { it = at_if at (arm test body ∷ arms) other h.0.0 (at_arm test body arms h.0.1 first.it next.it.0) next.it.1; behind = next.behind }
      one_at h (selects {at = at} {on = on} {cases = cases} {other = other} a) =
          let next = cases_at h.1 a in record { it = at_select at on cases other h.0.0 h.0.1 next.it.0 next.it.1; behind = next.behind }
      one_at h (loops {at = at} {head = head} {body = body} a) = let b = body_at h.1 a in record { it = at_loop at head body h.0.0 h.0.1 b.it; behind = b.behind.1 }
      one_at h (directed {d = d} {at = at} {head = head} {body = body} c a) =
          let b = body_at h.1.1 a in record { it = at_directed at head body d h.1.0.0 h.1.0.1 b.it h.0; behind = b.behind.1 }
      one_at h (block {d = d} {body = body} c e a) = let b = body_at h.1 a in record { it = at_block d.at d body h.0.0 h.0 b.it; behind = b.behind.1 }

      arms_at : {around : Inside} {forms rest : List Form} {arms : List tree_arm.Arm} {other : Option (List tree_stmt.Stmt)} → AtForms forms → Arms mode around forms arms other rest →
          Leaves (AtArms arms × AtOther other) rest
      arms_at h end_if = record { it = (tt, tt); behind = h.1 }
      arms_at h (else_last a) = let b = body_at h.1 a in record { it = (tt, b.it); behind = b.behind.1 }
      arms_at h (else_if {test = test} {body = body} {arms = arms} a b) =
          let first = body_at h.1 a in let next = arms_at first.behind b in record { it = (at_arm test body arms h.0.1 first.it next.it.0, next.it.1); behind = next.behind }

      cases_at : {around : Inside} {forms rest : List Form} {cases : List tree_case.Case} {other : Option (List tree_stmt.Stmt)} → AtForms forms → Cases mode around forms cases other rest →
          Leaves (AtCases cases × AtOther other) rest
      cases_at h end_select = record { it = (tt, tt); behind = h.1 }
      cases_at h (case_of {ranges = ranges} {body = body} {cases = cases} c a b) =
          let first = body_at h.1 a in let next = cases_at first.behind b in record { it = (at_case ranges body cases h.0.1 first.it next.it.0, next.it.1); behind = next.behind }
      cases_at h (default a b) = let first = body_at h.1 a in let next = cases_at first.behind b in record { it = (next.it.0, first.it); behind = next.behind }
