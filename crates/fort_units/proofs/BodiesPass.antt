-- Statements that nest bring no fault but that they are too deep.
use Rattle.std.proofs.Common.{◌≡◌, ℕ, List, [], ◌∷◌, ◌++◌, Bool, true, false, cond, not, max, Option, None, Some, refl, sym, ap, subst, ◌∙◌}
use Rattle.std.specs.Prelude.{is_some}
use Rattle.std.proofs.lemmas.Bool.{false≢true, and_from}
use Rattle.std.proofs.lemmas.List.{append-nil}
use Rattle.fort_tree.specs.declared.choice.Mode.{Mode}
use Rattle.fort_tree.specs.declared.choice.Mode.TheVariants.{Source, Target}
use Rattle.fort_tree.specs.declared.place.Place.{Place}
use Rattle.fort_tree.specs.declared.statement.Statement.{Statement, out-Statement}
use Rattle.fort_tree.specs.declared.statement.Statement.TheOpen.{Statement-F}
use Rattle.fort_tree.specs.declared.stmt.Arm.{Arm}
use Rattle.fort_tree.specs.declared.stmt.Case as tree_case
use Rattle.fort_tree.specs.declared.stmt.DirectiveWord.{DirectiveWord}
use Rattle.fort_tree.specs.declared.stmt.DirectiveWord.TheVariants as directive
use Rattle.fort_tree.specs.declared.stmt.Stmt.{Stmt}
use Rattle.sound_programs.specs.Forms.{Form, Says, is_forward, is_before_loop, is_loop_mark, begins_block, ends_block}
use Rattle.sound_programs.specs.Nesting.{Inside, in_loop_under, Simple, assigns, calls, exits, cycles, returns, Body, done, more, One, simple, forwarded, if_action, if_then, selects, loops, directed, block, Arms, end_if, else_last, else_if, Cases, end_select, case_of, default}
use Rattle.fort_units.specs.declared.around.Around.{Around}
use Rattle.fort_units.specs.declared.around.Construct.{Construct}
use Rattle.fort_units.specs.declared.around.Construct.TheVariants as construct
use Rattle.fort_units.specs.declared.around.Heading.{Heading}
use Rattle.fort_units.specs.declared.around.Listing.{Listing}
use Rattle.fort_units.specs.declared.around.Part.{Part}
use Rattle.fort_units.specs.declared.around.Part.TheVariants as part
use Rattle.fort_units.specs.declared.around.Waiting.{Waiting}
use Rattle.fort_units.specs.declared.item.Item.TheVariants as item
use Rattle.fort_stmt.specs.declared.sort.ActionSort.TheVariants as act
use Rattle.fort_stmt.specs.declared.sort.Sort.TheVariants as sort
use Rattle.fort_stmt.specs.Sort.{sort_of_level, action_of_level}
use Rattle.fort_units.specs.Opens.{in_head, holds_statements, goes_on, in_loop, action_stands, had_default, list_in, list_in_do, deeper, or_else}
use Rattle.fort_units.specs.Faults.{misplaced, misplaced_if, alone_of, stands_before, exits_marked, action_faults, deep_from, is_mark, at_directive}
use Rattle.fort_units.specs.Passing.{behind, waiting_first, with_block}
use Rattle.fort_units.proofs.Tails.{same, joined, past, behind as tail_behind, body_tail, one_tail, arms_tail, cases_tail, InFile, first_in, rest_in, front_in, back_in}
use Rattle.fort_units.proofs.Passes.{none_of_both, Passes, stays, then, inside, as_deep, quietly, and_quietly, says_quietly, says_deep, directs_quietly, directs_deep}
use Rattle.fort_units.proofs.Levels.{stmt_deep, stmts_deep, arms_deep, cases_deep, other_deep, select_deep, loop_deep, block_deep, call_deep, simple_deep, one_line_deep, else_then, arms_then, if_then_deep, cases_then, default_then}

-- ---- What is open

-- what changes from statement to statement
pub record Loose : Type 0 where
  pub line : ℕ
  pub part : Part
  pub define : Option Place
  pub parallelize : Option Place
  pub head_end : Option Place

-- behind a statement
abbrev pub behind_at : ℕ → Loose
behind_at line = record { line = line; part = part.Body; define = None; parallelize = None; head_end = None }

-- `define` and `parallelize` stand both, or neither
abbrev pub IsEven : Loose → Type 0
IsEven l = alone_of l.define l.parallelize ≡ []

-- the list of statements is one in which these may stand
pub record Suits (around : Inside) (ls : Listing) : Type 0 where
  pub holds : holds_statements ls.construct ≡ true
  pub exits : around.exits ≡ true → (in_loop ls.exits ≡ true) × (exits_marked ls.exits ≡ [])
  pub cycles : around.cycles ≡ true → in_loop ls.exits ≡ true
  pub returns : around.returns ≡ true → ls.returns ≡ None

suits_in : {around : Inside} {ls : Listing} (c : Construct) → holds_statements (Some c) ≡ true → Suits around ls → Suits around (list_in c ls)
suits_in c h s = record { holds = h; exits = s.exits; cycles = s.cycles; returns = s.returns }

suits_do : (b : Bool) (around : Inside) (ls : Listing) (at : Place) → Suits around ls → Suits (in_loop_under b around) (list_in_do (cond b (Some at) None) ls)
suits_do true around ls at s = record { holds = refl; exits = λ h. absurd (false≢true h); cycles = λ h. refl; returns = λ h. absurd (false≢true h) }
suits_do false around ls at s = record { holds = refl; exits = λ h. (refl, refl); cycles = λ h. refl; returns = λ h. ap (λ r. or_else r None) (s.returns h) }

-- ---- Actions

an_action : {around : Inside} {at : Place} {said : Statement-F Statement} {s : Stmt} → Simple around at said s → sort_of_level said ≡ sort.Act (action_of_level said)
an_action (assigns left right h) = refl
an_action (calls name args) = refl
an_action (exits h) = refl
an_action (cycles h) = refl
an_action (returns h) = refl

may_act : {around : Inside} {at : Place} {said : Statement-F Statement} {s : Stmt} {ls : Listing} → Suits around ls → Simple around at said s → action_stands ls.exits (action_of_level said) ≡ true
may_act u (assigns left right h) = refl
may_act u (calls name args) = refl
may_act u (exits h) = (u.exits h).0
may_act u (cycles h) = u.cycles h
may_act u (returns h) = refl

clean_act : {around : Inside} {at : Place} {said : Statement-F Statement} {s : Stmt} {ls : Listing} → Suits around ls → Simple around at said s → action_faults (action_of_level said) ls ≡ []
clean_act u (assigns left right h) = refl
clean_act u (calls name args) = refl
clean_act u (exits h) = (u.exits h).1
clean_act u (cycles h) = refl
clean_act u (returns h) = ap misplaced_if (u.returns h)

-- ---- Directives

abbrev waiting : Place → DirectiveWord → Waiting
waiting at w = record { at = at; word = w }

forward_loops : (mode : Mode) (w : DirectiveWord) → is_forward mode w ≡ true → is_before_loop mode w ≡ true
forward_loops Source directive.Forward h = refl
forward_loops mode w h = absurd (false≢true h)

forward_calls : (mode : Mode) (w : DirectiveWord) → is_forward mode w ≡ true → stands_before (sort.Act act.Call) w ≡ true
forward_calls Source directive.Forward h = refl
forward_calls mode w h = absurd (false≢true h)

one_mark : (mode : Mode) (w : DirectiveWord) → is_before_loop mode w ≡ true → is_loop_mark w ≡ is_mark w
one_mark Source directive.Forward h = refl
one_mark Source directive.Fusion h = refl
one_mark Source directive.Interchange h = refl
one_mark Source directive.Cache h = refl
one_mark Target directive.OpenMpLoop h = refl
one_mark Target directive.OpenAccLoop h = refl
one_mark mode w h = absurd (false≢true h)

-- a directive before a DO or a CALL, where none waits
before_clean : (mode : Mode) (o : Around) (at : Place) (w : DirectiveWord) → is_before_loop mode w ≡ true → o.waiting ≡ None → at_directive mode o at w false ≡ []
before_clean Source o at directive.Forward h e = ap (λ x. cond (is_some x) (misplaced at ∷ []) []) e
before_clean Source o at directive.Fusion h e = ap (λ x. cond (is_some x) (misplaced at ∷ []) []) e
before_clean Source o at directive.Interchange h e = ap (λ x. cond (is_some x) (misplaced at ∷ []) []) e
before_clean Source o at directive.Cache h e = ap (λ x. cond (is_some x) (misplaced at ∷ []) []) e
before_clean Target o at directive.OpenMpLoop h e = ap (λ x. cond (is_some x) (misplaced at ∷ []) []) e
before_clean Target o at directive.OpenAccLoop h e = ap (λ x. cond (is_some x) (misplaced at ∷ []) []) e
before_clean mode o at w h e = absurd (false≢true h)

abbrev waits : Around → Place → DirectiveWord → Around
waits o at w = record o { waiting = Some (waiting at w) }

before_waits : (mode : Mode) (o : Around) (at : Place) (w : DirectiveWord) → is_before_loop mode w ≡ true → o.waiting ≡ None → behind mode o (item.Directive at false w) ≡ waits o at w
before_waits Source o at directive.Forward h e = ap (λ x. record o { waiting = waiting_first x (waiting at directive.Forward) }) e
before_waits Source o at directive.Fusion h e = ap (λ x. record o { waiting = waiting_first x (waiting at directive.Fusion) }) e
before_waits Source o at directive.Interchange h e = ap (λ x. record o { waiting = waiting_first x (waiting at directive.Interchange) }) e
before_waits Source o at directive.Cache h e = ap (λ x. record o { waiting = waiting_first x (waiting at directive.Cache) }) e
before_waits Target o at directive.OpenMpLoop h e = ap (λ x. record o { waiting = waiting_first x (waiting at directive.OpenMpLoop) }) e
before_waits Target o at directive.OpenAccLoop h e = ap (λ x. record o { waiting = waiting_first x (waiting at directive.OpenAccLoop) }) e
before_waits mode o at w h e = absurd (false≢true h)

-- ---- Statements of one unit

module _ (mode : Mode) (file : ℕ) (host : Option (List ℕ)) (heading : Heading) where
  abbrev pub state : Listing → List Listing → Loose → Around
  state ls outside l = record {
    file = file;
    line = l.line;
    host = host;
    unit = Some heading;
    part = l.part;
    list = ls;
    outside = outside;
    define = l.define;
    parallelize = l.parallelize;
    head_end = l.head_end;
    waiting = None;
  }

  -- the block that begins in a list
  abbrev with_first : Place → DirectiveWord → Listing → Listing
  with_first at w ls = record ls { depth = deeper ls.depth; blocks = record { at = at; word = w; depth = ls.depth } ∷ ls.blocks }

  abbrev blocked : Place → Loose → Loose
  blocked at l = record l { head_end = cond (in_head l.part) (or_else l.head_end (Some at)) l.head_end }

  block_deepens : (ls : Listing) (outside : List Listing) (l : Loose) (at : Place) (w : DirectiveWord) → begins_block mode w ≡ true → holds_statements ls.construct ≡ true →
      at_directive mode (state ls outside l) at w false ≡ deep_from mode at ls.depth
  block_deepens ls outside l at w b h = in_mode mode w b
    where
      in_mode : (m : Mode) (w : DirectiveWord) → begins_block m w ≡ true → at_directive m (state ls outside l) at w false ≡ deep_from m at ls.depth
      in_mode Source directive.Hoist e = ap (λ x. cond x (deep_from Source at ls.depth) (misplaced at ∷ [])) h
      in_mode Source directive.Transform e = ap (λ x. cond x (deep_from Source at ls.depth) (misplaced at ∷ [])) h
      in_mode m w e = absurd (false≢true e)

  block_opens : (ls : Listing) (outside : List Listing) (l : Loose) (at : Place) (w : DirectiveWord) → begins_block mode w ≡ true → holds_statements ls.construct ≡ true →
      behind mode (state ls outside l) (item.Directive at false w) ≡ state (with_first at w ls) outside (blocked at l)
  block_opens ls outside l at w b h = in_mode mode w b
    where
      in_mode : (m : Mode) (w : DirectiveWord) → begins_block m w ≡ true → behind m (state ls outside l) (item.Directive at false w) ≡ state (with_first at w ls) outside (blocked at l)
      in_mode Source directive.Hoist e = ap (λ x. record (cond x (with_block at directive.Hoist (state ls outside l)) (state ls outside l)) { waiting = None }) h
      in_mode Source directive.Transform e = ap (λ x. record (cond x (with_block at directive.Transform (state ls outside l)) (state ls outside l)) { waiting = None }) h
      in_mode m w e = absurd (false≢true e)

  end_clean : (ls : Listing) (outside : List Listing) (l : Loose) (at end : Place) (w v : DirectiveWord) → begins_block mode w ≡ true → ends_block w v ≡ true →
      at_directive mode (state (with_first at w ls) outside l) end v false ≡ []
  end_clean ls outside l at end w v b e = in_mode mode w v b e
    where
      in_mode : (m : Mode) (w v : DirectiveWord) → begins_block m w ≡ true → ends_block w v ≡ true → at_directive m (state (with_first at w ls) outside l) end v false ≡ []
      in_mode Source directive.Hoist directive.EndHoist b e = refl
      in_mode Source directive.Transform directive.EndTransform b e = refl
      in_mode Source directive.Hoist v b e = absurd (false≢true e)
      in_mode Source directive.Transform v b e = absurd (false≢true e)
      in_mode m w v b e = absurd (false≢true b)

  end_closes : (ls : Listing) (outside : List Listing) (l : Loose) (at end : Place) (w v : DirectiveWord) → begins_block mode w ≡ true → ends_block w v ≡ true →
      behind mode (state (with_first at w ls) outside l) (item.Directive end false v) ≡ state ls outside l
  end_closes ls outside l at end w v b e = in_mode mode w v b e
    where
      in_mode : (m : Mode) (w v : DirectiveWord) → begins_block m w ≡ true → ends_block w v ≡ true → behind m (state (with_first at w ls) outside l) (item.Directive end false v) ≡ state ls outside l
      in_mode Source directive.Hoist directive.EndHoist b e = refl
      in_mode Source directive.Transform directive.EndTransform b e = refl
      in_mode Source directive.Hoist v b e = absurd (false≢true e)
      in_mode Source directive.Transform v b e = absurd (false≢true e)
      in_mode m w v b e = absurd (false≢true b)

  -- From what is open to a list of statements that goes on, whatever statements stood last.
  pub record Gone (d n : ℕ) (before : Around) (forms : List Form) (after : Loose → Around) (rest : List Form) : Type 0 where
    pub loose : Loose
    pub even : IsEven loose
    pub passes : Passes mode d n before forms (after loose) rest

  gone_so : {d n m : ℕ} {before : Around} {forms rest : List Form} {after : Loose → Around} → Gone d n before forms after rest → n ≡ m → Gone d m before forms after rest
  gone_so g e = record { loose = g.loose; even = g.even; passes = as_deep g.passes e }

  -- what CASE and END SELECT go on with
  record Chooses (c : Construct) (other : Option (List Stmt)) : Type 0 where
    case : goes_on sort.Case (Some c) ≡ true
    end : goes_on sort.EndSelect (Some c) ≡ true
    default : is_some other ≡ true → had_default (Some c) ≡ false

  default_stands : (c : Construct) → goes_on sort.Case (Some c) ≡ true → had_default (Some c) ≡ false → goes_on sort.CaseDefault (Some c) ≡ true
  default_stands construct.Select h e = refl
  default_stands (construct.Case had) h e = ap not e
  default_stands construct.If h e = absurd (false≢true h)
  default_stands construct.Else h e = absurd (false≢true h)
  default_stands construct.Do h e = absurd (false≢true h)

  -- behind the statements of a DO stands its END DO
  loop_ends : {d n : ℕ} {before : Around} {around : Inside} {forms rest : List Form} {ss : List Stmt} {end : Place} (mark : Option Place) (ls : Listing) (outside : List Listing) → InFile file forms rest →
      Body mode around forms ss (Says end Statement-F.EndDo ∷ rest) → Gone d n before forms (state (list_in_do mark ls) (ls ∷ outside)) (Says end Statement-F.EndDo ∷ rest) → Gone d n before forms (state ls outside) rest
  loop_ends {rest = rest} {end = end} mark ls outside f b p =
      let q = says_quietly mode (state (list_in_do mark ls) (ls ∷ outside) p.loose) end Statement-F.EndDo sort.EndDo rest (first_in (back_in f (body_tail mode b)) same) refl refl refl refl in
      let last = p.loose in record { loose = record last { line = end.line }; even = p.even; passes = and_quietly p.passes q }

  mutual
    pub body : {around : Inside} {forms rest : List Form} {ss : List Stmt} (ls : Listing) (outside : List Listing) (l : Loose) → Suits around ls → IsEven l → InFile file forms rest → Body mode around forms ss rest →
        Gone ls.depth (stmts_deep ss) (state ls outside l) forms (state ls outside) rest
    body ls outside l u e f done = record { loose = l; even = e; passes = stays }
    body ls outside l u e f (more one_statement others) =
        let a = one ls outside l u e (front_in f (body_tail mode others)) one_statement in
        let b = body ls outside a.loose u a.even (back_in f (one_tail mode one_statement)) others in
        record { loose = b.loose; even = b.even; passes = then a.passes b.passes }

    pub one : {around : Inside} {forms rest : List Form} {s : Stmt} (ls : Listing) (outside : List Listing) (l : Loose) → Suits around ls → IsEven l → InFile file forms rest → One mode around forms s rest →
        Gone ls.depth (stmt_deep s) (state ls outside l) forms (state ls outside) rest
    one ls outside l u e f (simple {at = at} {said = said} {rest = rest} a) =
        let p =
        says_quietly mode (state ls outside l) at said (sort.Act (action_of_level said)) rest (first_in f same) (an_action a) (and_from _ _ u.holds (may_act u a)) refl
        (none_of_both (clean_act u a) e) in
        record { loose = behind_at at.line; even = refl; passes = as_deep p (sym (simple_deep a)) }
    one ls outside l u e f (forwarded {d = d} {at = at} {name = name} {args = args} {rest = rest} w) =
        let o = state ls outside l in
        let loops = forward_loops mode d.word w in
        let p = directs_quietly mode o (waits o d.at d.word) d _ (first_in f (tail_behind same)) (before_clean mode o d.at d.word loops refl) (before_waits mode o d.at d.word loops refl) in
        let q =
        says_quietly mode (waits o d.at d.word) at (Statement-F.Call name args) (sort.Act act.Call) rest (first_in (rest_in f) same) refl (and_from _ _ u.holds refl)
        (ap (λ x. cond x [] (misplaced d.at ∷ [])) (forward_calls mode d.word w)) e in
        record { loose = behind_at at.line; even = refl; passes = as_deep (quietly p q) (sym (call_deep at name args true)) }
    one ls outside l u e f (if_action {at = at} {place = place} {test = test} {action = action} {s = s} {rest = rest} a) =
        let sorted = action_of_level (out-Statement action) in
        let p =
        says_deep mode ls.depth (state ls outside l) at (Statement-F.IfAction test place action) (sort.IfAct sorted) rest (first_in f same) refl (and_from _ _ u.holds (may_act u a)) refl
        (ap (λ x. (x ++ deep_from mode at ls.depth) ++ alone_of l.define l.parallelize) (clean_act u a) ∙ (ap (λ x. deep_from mode at ls.depth ++ x) e ∙ append-nil (deep_from mode at ls.depth))) in
        record { loose = behind_at at.line; even = refl; passes = as_deep p (one_line_deep at test s (simple_deep a)) }
    one ls outside l u e f (if_then {at = at} {test = test} {body = ss} {arms = more_arms} {other = other} {inside = inner} b a) =
        let p =
        says_deep mode ls.depth (state ls outside l) at (Statement-F.IfThen test) sort.IfThen inner (first_in f (joined (body_tail mode b) (arms_tail mode a))) refl u.holds refl
        (ap (λ x. deep_from mode at ls.depth ++ x) e ∙ append-nil (deep_from mode at ls.depth)) in
        let q = body (list_in construct.If ls) (ls ∷ outside) (behind_at at.line) (suits_in construct.If refl u) refl (front_in (rest_in f) (arms_tail mode a)) b in
        let r = arms ls outside q.loose u q.even (back_in (rest_in f) (body_tail mode b)) a in
        record { loose = r.loose; even = r.even; passes = as_deep (inside p (then q.passes r.passes)) (if_then_deep at test ss more_arms other) }
    one ls outside l u e f (selects {at = at} {on = on} {cases = some_cases} {other = other} {inside = inner} c) =
        let p =
        says_deep mode ls.depth (state ls outside l) at (Statement-F.Select on) sort.Select inner (first_in f (cases_tail mode c)) refl u.holds refl
        (ap (λ x. deep_from mode at ls.depth ++ x) e ∙ append-nil (deep_from mode at ls.depth)) in
        let q = cases construct.Select ls outside (behind_at at.line) u (record { case = refl; end = refl; default = λ h. refl }) refl (rest_in f) c in
        record { loose = q.loose; even = q.even; passes = as_deep (inside p q.passes) (sym (select_deep at on some_cases other)) }
    one ls outside l u e f (loops {around = around} {at = at} {end = end} {head = head} {body = ss} {inside = inner} {rest = rest} b) =
        let p =
        says_deep mode ls.depth (state ls outside l) at (Statement-F.Do head) sort.Do inner (first_in f (past (body_tail mode b))) refl u.holds refl
        (ap (λ x. deep_from mode at ls.depth ++ x) e ∙ append-nil (deep_from mode at ls.depth)) in
        let q = loop_ends None ls outside (rest_in f) b (body (list_in_do None ls) (ls ∷ outside) (behind_at at.line) (suits_do false around ls at u) refl (front_in (rest_in f) (tail_behind same)) b) in
        record { loose = q.loose; even = q.even; passes = as_deep (inside p q.passes) (sym (loop_deep at head ss None)) }
    one ls outside l u e f (directed {around = around} {d = d} {at = at} {end = end} {head = head} {body = ss} {inside = inner} {rest = rest} w b) =
        let o = state ls outside l in
        let t = past (body_tail mode b) in
        let p = directs_quietly mode o (waits o d.at d.word) d _ (first_in f (tail_behind t)) (before_clean mode o d.at d.word w refl) (before_waits mode o d.at d.word w refl) in
        let q =
        says_deep mode ls.depth (waits o d.at d.word) at (Statement-F.Do head) sort.Do inner (first_in (rest_in f) t) refl u.holds refl
        (ap (λ x. deep_from mode at ls.depth ++ x) e ∙ append-nil (deep_from mode at ls.depth)) in
        let mark : Option Place = cond (is_mark d.word) (Some d.at) None in
        let m : Suits (in_loop_under (is_loop_mark d.word) around) (list_in_do mark ls) =
        subst (λ x. Suits (in_loop_under x around) (list_in_do mark ls)) (sym (one_mark mode d.word w)) (suits_do (is_mark d.word) around ls d.at u) in
        let r = loop_ends mark ls outside (rest_in (rest_in f)) b (body (list_in_do mark ls) (ls ∷ outside) (behind_at at.line) m refl (front_in (rest_in (rest_in f)) (tail_behind same)) b) in
        record { loose = r.loose; even = r.even; passes = as_deep (quietly p (inside q r.passes)) (sym (loop_deep at head ss (Some d))) }
    one ls outside l u e f (block {d = d} {end = end} {body = ss} {inside = inner} {rest = rest} w v b) =
        let t = past (body_tail mode b) in
        let p = directs_deep mode ls.depth (state ls outside l) (state (with_first d.at d.word ls) outside (blocked d.at l)) d inner (first_in f t) (block_deepens ls outside l d.at d.word w u.holds) (block_opens ls outside l d.at d.word w u.holds) in
        let q = body (with_first d.at d.word ls) outside (blocked d.at l) (record { holds = u.holds; exits = u.exits; cycles = u.cycles; returns = u.returns }) e (front_in (rest_in f) (tail_behind same)) b in
        let r =
        directs_quietly mode (state (with_first d.at d.word ls) outside q.loose) (state ls outside q.loose) end rest (first_in (back_in (rest_in f) (body_tail mode b)) same)
        (end_clean ls outside q.loose d.at end.at d.word end.word w v) (end_closes ls outside q.loose d.at end.at d.word end.word w v) in
        record { loose = q.loose; even = q.even; passes = as_deep (inside p (and_quietly q.passes r)) (sym (block_deep d.at d ss)) }

    arms : {around : Inside} {forms rest : List Form} {more_arms : List Arm} {other : Option (List Stmt)} (ls : Listing) (outside : List Listing) (l : Loose) → Suits around ls → IsEven l → InFile file forms rest →
        Arms mode around forms more_arms other rest →
        Gone (deeper ls.depth) (max (arms_deep more_arms) (other_deep other)) (state (list_in construct.If ls) (ls ∷ outside) l) forms (state ls outside) rest
    arms ls outside l u e f (end_if {at = at} {rest = rest}) =
        let q = says_quietly mode (state (list_in construct.If ls) (ls ∷ outside) l) at Statement-F.EndIf sort.EndIf rest (first_in f same) refl refl refl refl in
        record { loose = record l { line = at.line }; even = e; passes = q }
    arms ls outside l u e f (else_last {at = at} {end = end} {body = ss} {inside = inner} {rest = rest} b) =
        let p = says_quietly mode (state (list_in construct.If ls) (ls ∷ outside) l) at Statement-F.Else sort.Else inner (first_in f (past (body_tail mode b))) refl refl refl refl in
        let q = body (list_in construct.Else ls) (ls ∷ outside) (record l { line = at.line }) (suits_in construct.Else refl u) e (front_in (rest_in f) (tail_behind same)) b in
        let r = says_quietly mode (state (list_in construct.Else ls) (ls ∷ outside) q.loose) end Statement-F.EndIf sort.EndIf rest (first_in (back_in (rest_in f) (body_tail mode b)) same) refl refl refl refl in
        let after = q.loose in
        record { loose = record after { line = end.line }; even = q.even; passes = as_deep (quietly p (and_quietly q.passes r)) (else_then ss) }
    arms ls outside l u e f (else_if {at = at} {test = test} {body = ss} {arms = next_arms} {other = other} {inside = inner} b a) =
        let p = says_quietly mode (state (list_in construct.If ls) (ls ∷ outside) l) at (Statement-F.ElseIf test) sort.ElseIf inner (first_in f (joined (body_tail mode b) (arms_tail mode a))) refl refl refl refl in
        let q = body (list_in construct.If ls) (ls ∷ outside) (record l { line = at.line }) (suits_in construct.If refl u) e (front_in (rest_in f) (arms_tail mode a)) b in
        let r = arms ls outside q.loose u q.even (back_in (rest_in f) (body_tail mode b)) a in
        record { loose = r.loose; even = r.even; passes = as_deep (quietly p (then q.passes r.passes)) (arms_then test ss next_arms other) }

    cases : {around : Inside} {forms rest : List Form} {some_cases : List tree_case.Case} {other : Option (List Stmt)} (c : Construct) (ls : Listing) (outside : List Listing) (l : Loose) → Suits around ls →
        Chooses c other → IsEven l → InFile file forms rest → Cases mode around forms some_cases other rest →
        Gone (deeper ls.depth) (max (cases_deep some_cases) (other_deep other)) (state (list_in c ls) (ls ∷ outside) l) forms (state ls outside) rest
    cases c ls outside l u k e f (end_select {at = at} {rest = rest}) =
        let q = says_quietly mode (state (list_in c ls) (ls ∷ outside) l) at Statement-F.EndSelect sort.EndSelect rest (first_in f same) refl k.end refl refl in
        record { loose = record l { line = at.line }; even = e; passes = q }
    cases c ls outside l u k e f (case_of {at = at} {ranges = ranges} {body = ss} {cases = next_cases} {other = other} {inside = inner} h b a) =
        let p = says_quietly mode (state (list_in c ls) (ls ∷ outside) l) at (Statement-F.Case ranges) sort.Case inner (first_in f (joined (body_tail mode b) (cases_tail mode a))) refl k.case refl refl in
        let v = construct.Case (had_default (Some c)) in
        let q = body (list_in v ls) (ls ∷ outside) (record l { line = at.line }) (suits_in v refl u) e (front_in (rest_in f) (cases_tail mode a)) b in
        let r = cases v ls outside q.loose u (record { case = refl; end = refl; default = k.default }) q.even (back_in (rest_in f) (body_tail mode b)) a in
        record { loose = r.loose; even = r.even; passes = as_deep (quietly p (then q.passes r.passes)) (cases_then ranges ss next_cases other) }
    cases c ls outside l u k e f (default {at = at} {body = ss} {cases = next_cases} {inside = inner} b a) =
        let p =
        says_quietly mode (state (list_in c ls) (ls ∷ outside) l) at Statement-F.CaseDefault sort.CaseDefault inner (first_in f (joined (body_tail mode b) (cases_tail mode a))) refl
        (default_stands c k.case (k.default refl)) refl refl in
        let v = construct.Case true in
        let q = body (list_in v ls) (ls ∷ outside) (record l { line = at.line }) (suits_in v refl u) e (front_in (rest_in f) (cases_tail mode a)) b in
        let r = cases v ls outside q.loose u (record { case = refl; end = refl; default = λ x. absurd (false≢true x) }) q.even (back_in (rest_in f) (body_tail mode b)) a in
        record { loose = r.loose; even = r.even; passes = as_deep (quietly p (then q.passes r.passes)) (default_then ss next_cases) }
