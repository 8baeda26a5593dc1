-- Statements without directives nest in a target text by the same statements of tokens.
use Rattle.std.proofs.Common.{◌≡◌, List, [], ◌∷◌, Option, None, Some, true, false, map, option_map, refl, sym, ap, ◌∙◌, subst}
use Rattle.std.specs.Prelude.{IsTrue}
use Rattle.std.specs.List.{list_all}
use Rattle.std.proofs.lemmas.Bool.{true≢false}
use Rattle.fort_tree.specs.declared.choice.Mode.{Mode}
use Rattle.fort_tree.specs.declared.choice.Mode.TheVariants.{Target}
use Rattle.fort_tree.specs.declared.place.Place.{Place}
use Rattle.fort_tree.specs.declared.statement.Statement.{Statement, out-Statement}
use Rattle.fort_tree.specs.declared.statement.Statement.TheOpen.{Statement-F}
use Rattle.fort_tree.specs.declared.expr.Expr.{Expr}
use Rattle.fort_tree.specs.declared.stmt.Arm.{Arm}
use Rattle.fort_tree.specs.declared.stmt.Case.{Case}
use Rattle.fort_tree.specs.declared.stmt.Head.{Head}
use Rattle.fort_tree.specs.declared.stmt.Range.{Range}
use Rattle.fort_tree.specs.declared.stmt.Stmt.{Stmt}
use Rattle.fort_tree.specs.declared.stmt.Stmt.TheVariants as tree
use Rattle.claw_meaning.specs.Plain.{plain_expr, plain_stmt, plain_stmts, plain_directive, plain_head, plain_range, arms_of, cases_of, otherwise}
use Rattle.claw_meaning.specs.Syntax as plain
use Rattle.sound_programs.specs.Forms.{Form, Says, is_range}
use Rattle.sound_programs.specs.Nesting as nesting
use Rattle.sound_programs.specs.Nesting.{Inside, in_loop, arm, case, Simple, Body, One, Arms, Cases}
use Rattle.layout_reading.proofs.PrintedTrees
use Rattle.layout_reading.proofs.PrintedTrees.{plain_arm, plain_case}
use Rattle.written_programs.proofs.NoDirectives.{Undirected, StmtsAreUndirected, ArmsAreUndirected, CasesAreUndirected, OtherwiseIsUndirected}
use Rattle.written_programs.proofs.SaidForms.{IsSaid, place_said, AreSaid, Lined, say}

-- ---- Parts before other forms

record SimpleAgain (around : Inside) (at : Place) (said : Statement-F Statement) (s : Stmt) : Type 0 where
  stmt : Stmt
  is : Simple around at said stmt
  same : plain_stmt stmt ≡ plain_stmt s

record OneAgain (around : Inside) (s : Stmt) (rest : List Form) : Type 0 where
  stmt : Stmt
  forms : List Form
  nest : One Target around forms stmt rest
  lined : Lined rest → Lined forms
  same : plain_stmt stmt ≡ plain_stmt s

pub record BodyAgain (around : Inside) (ss : List Stmt) (rest : List Form) : Type 0 where
  pub stmts : List Stmt
  pub forms : List Form
  pub nest : Body Target around forms stmts rest
  pub lined : Lined rest → Lined forms
  pub same : plain_stmts stmts ≡ plain_stmts ss

record ArmsAgain (around : Inside) (arms : List Arm) (other : Option (List Stmt)) (rest : List Form) : Type 0 where
  some : List Arm
  last : Option (List Stmt)
  forms : List Form
  nest : Arms Target around forms some last rest
  lined : Lined rest → Lined forms
  same : arms_of (map plain_arm some) ≡ arms_of (map plain_arm arms)
  last_same : otherwise (option_map (map plain_stmt) last) ≡ otherwise (option_map (map plain_stmt) other)

record CasesAgain (around : Inside) (cases : List Case) (other : Option (List Stmt)) (rest : List Form) : Type 0 where
  some : List Case
  last : Option (List Stmt)
  forms : List Form
  nest : Cases Target around forms some last rest
  lined : Lined rest → Lined forms
  same : cases_of (map plain_case some) ≡ cases_of (map plain_case cases)
  last_same : otherwise (option_map (map plain_stmt) last) ≡ otherwise (option_map (map plain_stmt) other)
  none : other ≡ None → last ≡ None

-- ---- Simple statements

again : {around : Inside} {at : Place} {said : Statement-F Statement} {s : Stmt} (p : Place) → Simple around at said s → SimpleAgain around p said s
again {at = at} p (nesting.assigns l r e) = record { stmt = tree.Assign p l r; is = nesting.assigns l r e; same = PrintedTrees.plain_assign p l r ∙ sym (PrintedTrees.plain_assign at l r) }
again {at = at} p (nesting.calls name args) =
    record { stmt = tree.Call p name args false; is = nesting.calls name args; same = PrintedTrees.plain_call p name args false ∙ sym (PrintedTrees.plain_call at name args false) }
again {at = at} p (nesting.exits e) = record { stmt = tree.Exit p; is = nesting.exits e; same = PrintedTrees.plain_exit p ∙ sym (PrintedTrees.plain_exit at) }
again {at = at} p (nesting.cycles e) = record { stmt = tree.Cycle p; is = nesting.cycles e; same = PrintedTrees.plain_cycle p ∙ sym (PrintedTrees.plain_cycle at) }
again {at = at} p (nesting.returns e) = record { stmt = tree.Return p; is = nesting.returns e; same = PrintedTrees.plain_return p ∙ sym (PrintedTrees.plain_return at) }

-- ---- Statements

-- the forms behind are said, and the part can be written before any
abbrev Passed : List Form → (List Form → Type 0) → Type 0
Passed rest Again = AreSaid rest × ((t : List Form) → Again t)

undirected_if : (at : Place) (arms : List Arm) (other : Option (List Stmt)) → Undirected (plain_stmt (tree.If at arms other)) → ArmsAreUndirected (arms_of (map plain_arm arms)) × OtherwiseIsUndirected (otherwise (option_map (map plain_stmt) other))
undirected_if at arms other u = subst Undirected (PrintedTrees.plain_if at arms other) u

undirected_arm : (test : Expr) (body : List Stmt) (rest : plain.Arms) → ArmsAreUndirected (plain_arm (arm test body) rest) → StmtsAreUndirected (plain_stmts body) × ArmsAreUndirected rest
undirected_arm test body rest u = subst ArmsAreUndirected (PrintedTrees.plain_an_arm test body rest) u

undirected_case : (ranges : List Range) (body : List Stmt) (rest : plain.Cases) → CasesAreUndirected (plain_case (case ranges body) rest) → StmtsAreUndirected (plain_stmts body) × CasesAreUndirected rest
undirected_case ranges body rest u = subst CasesAreUndirected (PrintedTrees.plain_a_case ranges body rest) u

more_again : {around : Inside} {s : Stmt} {ss : List Stmt} {rest : List Form} (b : BodyAgain around ss rest) → OneAgain around s b.forms → BodyAgain around (s ∷ ss) rest
more_again {s = s} b a = record {
  stmts = a.stmt ∷ b.stmts;
  forms = a.forms;
  nest = nesting.more a.nest b.nest;
  lined = λ l. a.lined (b.lined l);
  same = ap (λ x. plain.Then x (plain_stmts b.stmts)) a.same ∙ ap (plain.Then (plain_stmt s)) b.same;
}

simple_again : {around : Inside} {at : Place} {level : Statement-F Statement} {s : Stmt} (said : IsSaid level) → Simple around at level s → (t : List Form) → OneAgain around s t
simple_again {level = level} said x t =
    let a = again (place_said said) x in
    record { stmt = a.stmt; forms = Says (place_said said) level ∷ t; nest = nesting.simple a.is; lined = say said; same = a.same }

action_again : {around : Inside} {at place : Place} {test : Expr} {action : Statement} {s : Stmt} → IsSaid (Statement-F.IfAction test place action) → Simple around place (out-Statement action) s → (t : List Form) →
    OneAgain around (tree.If at (arm test (s ∷ []) ∷ []) None) t
action_again {at = at} {place = place} {test = test} {action = action} {s = s} said x t =
    let arms = arm test (s ∷ []) ∷ [] in
    record {
      stmt = tree.If (place_said said) arms None;
      forms = Says (place_said said) (Statement-F.IfAction test place action) ∷ t;
      nest = nesting.if_action x;
      lined = say said;
      same = PrintedTrees.plain_if (place_said said) arms None ∙ sym (PrintedTrees.plain_if at arms None);
    }

same_if : (p q : Place) (arms some : List Arm) (other last : Option (List Stmt)) → arms_of (map plain_arm some) ≡ arms_of (map plain_arm arms) → otherwise (option_map (map plain_stmt) last) ≡ otherwise (option_map (map plain_stmt) other) →
    plain_stmt (tree.If p some last) ≡ plain_stmt (tree.If q arms other)
same_if p q arms some other last h k =
    PrintedTrees.plain_if p some last
    ∙ (ap (λ a. plain.If a (otherwise (option_map (map plain_stmt) last))) h
    ∙ (ap (plain.If (arms_of (map plain_arm arms))) k ∙ sym (PrintedTrees.plain_if q arms other)))

same_arms : (test : Expr) (body stmts : List Stmt) (arms some : List Arm) → plain_stmts stmts ≡ plain_stmts body → arms_of (map plain_arm some) ≡ arms_of (map plain_arm arms) →
    arms_of (map plain_arm (arm test stmts ∷ some)) ≡ arms_of (map plain_arm (arm test body ∷ arms))
same_arms test body stmts arms some h k =
    PrintedTrees.plain_an_arm test stmts (arms_of (map plain_arm some))
    ∙ (ap (λ b. plain.Arm (plain_expr test) b (arms_of (map plain_arm some))) h
    ∙ (ap (plain.Arm (plain_expr test) (plain_stmts body)) k ∙ sym (PrintedTrees.plain_an_arm test body (arms_of (map plain_arm arms)))))

same_cases : (ranges : List Range) (body stmts : List Stmt) (cases some : List Case) → plain_stmts stmts ≡ plain_stmts body → cases_of (map plain_case some) ≡ cases_of (map plain_case cases) →
    cases_of (map plain_case (case ranges stmts ∷ some)) ≡ cases_of (map plain_case (case ranges body ∷ cases))
same_cases ranges body stmts cases some h k =
    PrintedTrees.plain_a_case ranges stmts (cases_of (map plain_case some))
    ∙ (ap (λ b. plain.Case (map plain_range ranges) b (cases_of (map plain_case some))) h
    ∙ (ap (plain.Case (map plain_range ranges) (plain_stmts body)) k ∙ sym (PrintedTrees.plain_a_case ranges body (cases_of (map plain_case cases)))))

if_again : {around : Inside} (at : Place) {test : Expr} {body : List Stmt} {arms : List Arm} {other : Option (List Stmt)} {t : List Form} → IsSaid (Statement-F.IfThen test) → (a : ArmsAgain around arms other t) → BodyAgain around body a.forms →
    OneAgain around (tree.If at (arm test body ∷ arms) other) t
if_again at {test = test} {body = body} {arms = arms} {other = other} said a b = record {
  stmt = tree.If (place_said said) (arm test b.stmts ∷ a.some) a.last;
  forms = Says (place_said said) (Statement-F.IfThen test) ∷ b.forms;
  nest = nesting.if_then b.nest a.nest;
  lined = λ l. say said (b.lined (a.lined l));
  same = same_if (place_said said) at (arm test body ∷ arms) (arm test b.stmts ∷ a.some) other a.last (same_arms test body b.stmts arms a.some b.same a.same) a.last_same;
}

else_if_again : {around : Inside} {test : Expr} {body : List Stmt} {arms : List Arm} {other : Option (List Stmt)} {t : List Form} → IsSaid (Statement-F.ElseIf test) → (a : ArmsAgain around arms other t) → BodyAgain around body a.forms →
    ArmsAgain around (arm test body ∷ arms) other t
else_if_again {test = test} {body = body} {arms = arms} said a b = record {
  some = arm test b.stmts ∷ a.some;
  last = a.last;
  forms = Says (place_said said) (Statement-F.ElseIf test) ∷ b.forms;
  nest = nesting.else_if b.nest a.nest;
  lined = λ l. say said (b.lined (a.lined l));
  same = same_arms test body b.stmts arms a.some b.same a.same;
  last_same = a.last_same;
}

else_again : {around : Inside} {body : List Stmt} {t : List Form} → IsSaid Statement-F.Else → (e : IsSaid Statement-F.EndIf) → BodyAgain around body (Says (place_said e) Statement-F.EndIf ∷ t) → ArmsAgain around [] (Some body) t
else_again said e b = record {
  some = [];
  last = Some b.stmts;
  forms = Says (place_said said) Statement-F.Else ∷ b.forms;
  nest = nesting.else_last b.nest;
  lined = λ l. say said (b.lined (say e l));
  same = refl;
  last_same = ap plain.Else b.same;
}

end_if_again : {around : Inside} {t : List Form} → IsSaid Statement-F.EndIf → ArmsAgain around [] None t
end_if_again {t = t} e = record { some = []; last = None; forms = Says (place_said e) Statement-F.EndIf ∷ t; nest = nesting.end_if; lined = say e; same = refl; last_same = refl }

select_again : {around : Inside} (at : Place) {on : Expr} {cases : List Case} {other : Option (List Stmt)} {t : List Form} → IsSaid (Statement-F.Select on) → CasesAgain around cases other t → OneAgain around (tree.Select at on cases other) t
select_again at {on = on} {cases = cases} {other = other} said c = record {
  stmt = tree.Select (place_said said) on c.some c.last;
  forms = Says (place_said said) (Statement-F.Select on) ∷ c.forms;
  nest = nesting.selects c.nest;
  lined = λ l. say said (c.lined l);
  same = PrintedTrees.plain_select (place_said said) on c.some c.last
      ∙ (ap (λ x. plain.Select (plain_expr on) x (otherwise (option_map (map plain_stmt) c.last))) c.same
      ∙ (ap (plain.Select (plain_expr on) (cases_of (map plain_case cases))) c.last_same ∙ sym (PrintedTrees.plain_select at on cases other)));
}

case_again : {around : Inside} {ranges : List Range} {body : List Stmt} {cases : List Case} {other : Option (List Stmt)} {t : List Form} → IsSaid (Statement-F.Case ranges) → IsTrue (list_all is_range ranges) →
    (c : CasesAgain around cases other t) → BodyAgain around body c.forms → CasesAgain around (case ranges body ∷ cases) other t
case_again {ranges = ranges} {body = body} {cases = cases} said r c b = record {
  some = case ranges b.stmts ∷ c.some;
  last = c.last;
  forms = Says (place_said said) (Statement-F.Case ranges) ∷ b.forms;
  nest = nesting.case_of r b.nest c.nest;
  lined = λ l. say said (b.lined (c.lined l));
  same = same_cases ranges body b.stmts cases c.some b.same c.same;
  last_same = c.last_same;
  none = c.none;
}

default_again : {around : Inside} {body : List Stmt} {cases : List Case} {t : List Form} → IsSaid Statement-F.CaseDefault → (c : CasesAgain around cases None t) → BodyAgain around body c.forms → CasesAgain around cases (Some body) t
default_again {around = around} {t = t} said c b = record {
  some = c.some;
  last = Some b.stmts;
  forms = Says (place_said said) Statement-F.CaseDefault ∷ b.forms;
  nest = nesting.default b.nest (subst (λ x. Cases Target around c.forms c.some x t) (c.none refl) c.nest);
  lined = λ l. say said (b.lined (c.lined l));
  same = c.same;
  last_same = ap plain.Else b.same;
  none = λ e. absurd cc;
}

end_select_again : {around : Inside} {t : List Form} → IsSaid Statement-F.EndSelect → CasesAgain around [] None t
end_select_again {t = t} e = record { some = []; last = None; forms = Says (place_said e) Statement-F.EndSelect ∷ t; nest = nesting.end_select; lined = say e; same = refl; last_same = refl; none = λ e. refl }

loop_again : {around : Inside} (at : Place) {head : Head} {body : List Stmt} {t : List Form} → IsSaid (Statement-F.Do head) → (e : IsSaid Statement-F.EndDo) → BodyAgain (in_loop around) body (Says (place_said e) Statement-F.EndDo ∷ t) →
    OneAgain around (tree.Loop at head body None) t
loop_again at {head = head} {body = body} said e b = record {
  stmt = tree.Loop (place_said said) head b.stmts None;
  forms = Says (place_said said) (Statement-F.Do head) ∷ b.forms;
  nest = nesting.loops b.nest;
  lined = λ l. say said (b.lined (say e l));
  same = PrintedTrees.plain_loop (place_said said) head b.stmts None ∙ (ap (λ x. plain.Do (plain_head head) x None) b.same ∙ sym (PrintedTrees.plain_loop at head body None));
}

module _ (mode : Mode) where
  mutual
    pub body_again : {around : Inside} {forms rest : List Form} {ss : List Stmt} → Body mode around forms ss rest → StmtsAreUndirected (plain_stmts ss) → AreSaid forms → Passed rest (BodyAgain around ss)
    body_again nesting.done u h = (h, λ t. record { stmts = []; forms = t; nest = nesting.done; lined = λ l. l; same = refl })
    body_again (nesting.more one others) u h =
        let a = one_again one u.0 h in
        let b = body_again others u.1 a.0 in
        (b.0, λ t. more_again (b.1 t) (a.1 (b.1 t).forms))

    one_again : {around : Inside} {forms rest : List Form} {s : Stmt} → One mode around forms s rest → Undirected (plain_stmt s) → AreSaid forms → Passed rest (OneAgain around s)
    one_again (nesting.simple x) u h = (h.1, λ t. simple_again h.0 x t)
    one_again (nesting.forwarded {at = at} {name = name} {args = args} w) u h = absurd (true≢false (subst Undirected (PrintedTrees.plain_call at name args true) u))
    one_again (nesting.if_action x) u h = (h.1, λ t. action_again h.0 x t)
    one_again (nesting.if_then {at = at} {test = test} {body = body} {arms = arms} {other = other} inside others) u h =
        let v = undirected_if at (arm test body ∷ arms) other u in
        let w = undirected_arm test body (arms_of (map plain_arm arms)) v.0 in
        let b = body_again inside w.0 h.1 in
        let a = arms_again others w.1 v.1 b.0 in
        (a.0, λ t. if_again at h.0 (a.1 t) (b.1 (a.1 t).forms))
    one_again (nesting.selects {at = at} {on = on} {cases = cases} {other = other} inside) u h =
        let v : CasesAreUndirected (cases_of (map plain_case cases)) × OtherwiseIsUndirected (otherwise (option_map (map plain_stmt) other)) = subst Undirected (PrintedTrees.plain_select at on cases other) u in
        let c = cases_again inside v.0 v.1 h.1 in (c.0, λ t. select_again at h.0 (c.1 t))
    one_again (nesting.loops {at = at} {head = head} {body = body} inside) u h =
        let v : StmtsAreUndirected (plain_stmts body) × (None ≡ None) = subst Undirected (PrintedTrees.plain_loop at head body None) u in
        let b = body_again inside v.0 h.1 in
        (b.0.1, λ t. loop_again at h.0 b.0.0 (b.1 (Says (place_said b.0.0) Statement-F.EndDo ∷ t)))
    one_again (nesting.directed {d = d} {at = at} {head = head} {body = body} w inside) u h =
        let v : StmtsAreUndirected (plain_stmts body) × (Some (plain_directive d) ≡ None) = subst Undirected (PrintedTrees.plain_loop at head body (Some d)) u in
        let e = v.1 in absurd cc
    one_again (nesting.block {d = d} {body = body} w v inside) u h = absurd (subst Undirected (PrintedTrees.plain_block d.at d body) u)

    arms_again : {around : Inside} {forms rest : List Form} {arms : List Arm} {other : Option (List Stmt)} → Arms mode around forms arms other rest → ArmsAreUndirected (arms_of (map plain_arm arms)) →
        OtherwiseIsUndirected (otherwise (option_map (map plain_stmt) other)) → AreSaid forms → Passed rest (ArmsAgain around arms other)
    arms_again nesting.end_if u v h = (h.1, λ t. end_if_again h.0)
    arms_again (nesting.else_last inside) u v h = let b = body_again inside v h.1 in (b.0.1, λ t. else_again h.0 b.0.0 (b.1 (Says (place_said b.0.0) Statement-F.EndIf ∷ t)))
    arms_again (nesting.else_if {test = test} {body = body} {arms = arms} inside others) u v h =
        let w = undirected_arm test body (arms_of (map plain_arm arms)) u in
        let b = body_again inside w.0 h.1 in
        let a = arms_again others w.1 v b.0 in
        (a.0, λ t. else_if_again h.0 (a.1 t) (b.1 (a.1 t).forms))

    cases_again : {around : Inside} {forms rest : List Form} {cases : List Case} {other : Option (List Stmt)} → Cases mode around forms cases other rest → CasesAreUndirected (cases_of (map plain_case cases)) →
        OtherwiseIsUndirected (otherwise (option_map (map plain_stmt) other)) → AreSaid forms → Passed rest (CasesAgain around cases other)
    cases_again nesting.end_select u v h = (h.1, λ t. end_select_again h.0)
    cases_again (nesting.case_of {ranges = ranges} {body = body} {cases = cases} r inside others) u v h =
        let w = undirected_case ranges body (cases_of (map plain_case cases)) u in
        let b = body_again inside w.0 h.1 in
        let c = cases_again others w.1 v b.0 in
        (c.0, λ t. case_again h.0 r (c.1 t) (b.1 (c.1 t).forms))
    cases_again (nesting.default inside others) u v h =
        let b = body_again inside v h.1 in
        let c = cases_again others u tt b.0 in
        (c.0, λ t. default_again h.0 (c.1 t) (b.1 (c.1 t).forms))
