-- Each executable statement that may stand and brings no fault is a step on the way to a program.
use Rattle.std.proofs.Common.{◌≡◌, ℕ, List, [], ◌∷◌, ◌++◌, true, false, Option, None, Some, refl, subst, IsTrue}
use Rattle.std.specs.Prelude.{is_some}
use Rattle.std.proofs.lemmas.Bool.{false≢true, and_parts}
use Rattle.fort_tree.specs.declared.choice.Mode.{Mode}
use Rattle.fort_tree.specs.declared.expr.Expr.{Expr}
use Rattle.fort_tree.specs.declared.place.Place.{Place}
use Rattle.fort_tree.specs.declared.statement.Statement.{Statement, out-Statement}
use Rattle.fort_tree.specs.declared.statement.Statement.TheOpen.{Statement-F}
use Rattle.fort_tree.specs.declared.stmt.Head.{Head}
use Rattle.fort_tree.specs.declared.stmt.Stmt.{Stmt}
use Rattle.sound_programs.specs.Forms.{Form, Says}
use Rattle.sound_programs.specs.Nesting.{in_unit, in_loop_under, Simple, assigns, calls, exits, cycles, returns, Body, One, simple, if_action, if_then, selects, loops}
use Rattle.fort_units.specs.declared.around.Waiting.{Waiting}
use Rattle.fort_stmt.specs.declared.sort.Sort.TheVariants as sort
use Rattle.fort_stmt.specs.Sort.{action_of_level, action_of}
use Rattle.fort_units.specs.Opens.{action_stands, list_open, in_loop, holds_statements, or_else, in_statements, deeper}
use Rattle.fort_units.specs.Faults.{action_faults, alone, deep_at, misplaced_if, exits_marked}
use Rattle.fort_units.specs.Passing.{behind_sort, mark_of}
use Rattle.fort_units.specs.Shown.{is_action_level}
use Rattle.fort_units.proofs.Shapes.{nonempty, Nest, base, in_if, in_else, in_select, in_case, in_do, list_of, inside_of, Shape, unit_head, early, body, around_of, Filled, ArmsThen, CasesThen, SaysThen, InNest, Owed, UnitEnd, Nested, add_in, head_over, none_alone}
use Rattle.fort_units.proofs.Statements.{both_empty, Ahead, Stands, Clean}

-- ---- What an open list lets stand

not_before : (x : Option Place) → misplaced_if (or_else x None) ≡ [] → misplaced_if x ≡ []
not_before None h = refl
not_before (Some at) h = absurd (nonempty h)

never : (x : Option Place) (mark : Place) → misplaced_if (or_else x (Some mark)) ≡ [] → ⊥
never None mark h = nonempty h
never (Some at) mark h = nonempty h

can_exit : (n : Nest) → in_loop (list_of n).exits ≡ true → exits_marked (list_of n).exits ≡ [] → IsTrue (inside_of n).exits
can_exit (base d bs) l h = absurd (false≢true l)
can_exit (in_if d bs n) l h = can_exit n l h
can_exit (in_else d bs n) l h = can_exit n l h
can_exit (in_select d n) l h = can_exit n l h
can_exit (in_case had d bs n) l h = can_exit n l h
can_exit (in_do None d bs n) l h = refl
can_exit (in_do (Some mark) d bs n) l h = absurd (nonempty h)

can_cycle : (n : Nest) → in_loop (list_of n).exits ≡ true → IsTrue (inside_of n).cycles
can_cycle (base d bs) l = absurd (false≢true l)
can_cycle (in_if d bs n) l = can_cycle n l
can_cycle (in_else d bs n) l = can_cycle n l
can_cycle (in_select d n) l = can_cycle n l
can_cycle (in_case had d bs n) l = can_cycle n l
can_cycle (in_do None d bs n) l = refl
can_cycle (in_do (Some mark) d bs n) l = refl

can_return : (n : Nest) → misplaced_if (list_of n).returns ≡ [] → IsTrue (inside_of n).returns
can_return (base d bs) h = refl
can_return (in_if d bs n) h = can_return n h
can_return (in_else d bs n) h = can_return n h
can_return (in_select d n) h = can_return n h
can_return (in_case had d bs n) h = can_return n h
can_return (in_do None d bs n) h = can_return n (not_before (list_of n).returns h)
can_return (in_do (Some mark) d bs n) h = absurd (never (list_of n).returns mark h)

-- ---- Where statements are put

abbrev pub nest_at : Shape → Nest
nest_at (early host u sub name d p place depth bs) = base depth bs
nest_at (body host sub name n) = n
nest_at other = base 0 []

abbrev pub body_at : Shape → Nest → Shape
body_at (unit_head host u sub name d p) n = body host sub name n
body_at (early host u sub name d p place depth bs) n = body host sub name n
body_at (body host sub name old) n = body host sub name n
body_at other n = other

module _ (mode : Mode) where
  pub add_nest : (n : Nest) (K : List Form → Type 0) (forms next : List Form) (t : Stmt) → holds_statements (list_of n).construct ≡ true → One mode (inside_of n) forms t next →
      InNest mode n K next → InNest mode n K forms
  add_nest (base d bs) K forms next t h one k = add_in mode in_unit bs K one k
  add_nest (in_if d bs n) K forms next t h one k = add_in mode (inside_of n) bs (ArmsThen mode (inside_of n) (InNest mode n K)) one k
  add_nest (in_else d bs n) K forms next t h one k = add_in mode (inside_of n) bs (SaysThen mode Statement-F.EndIf (InNest mode n K)) one k
  add_nest (in_select d n) K forms next t h one k = absurd (false≢true h)
  add_nest (in_case had d bs n) K forms next t h one k = add_in mode (inside_of n) bs (CasesThen mode (inside_of n) had (InNest mode n K)) one k
  add_nest (in_do mark d bs n) K forms next t h one k = add_in mode (in_loop_under (is_some mark) (inside_of n)) bs (SaysThen mode Statement-F.EndDo (InNest mode n K)) one k

  -- the first executable statement ends the head
  pub executes : (file line : ℕ) (w : Option Waiting) (s : Shape) (forms next : List Form) (t : Stmt) → list_open (around_of file line w s) ≡ true → alone (around_of file line w s) ≡ [] →
      One mode (inside_of (nest_at s)) forms t next → Nested mode file (body_at s (nest_at s)) next → Nested mode file s forms
  executes file line w (unit_head host u sub name d p) forms next t l a one k =
      head_over mode u (Owed mode sub d p) (InNest mode (base 0 []) (UnitEnd mode file host sub name)) forms (none_alone mode sub d p a) (add_nest (base 0 []) (UnitEnd mode file host sub name) forms next t refl one k)
  executes file line w (early host u sub name d p place depth bs) forms next t l a one k =
      (none_alone mode sub d p a, add_nest (base depth bs) (UnitEnd mode file host sub name) forms next t refl one k)
  executes file line w (body host sub name n) forms next t l a one k = add_nest n (UnitEnd mode file host sub name) forms next t l one k
  executes file line w s forms next t l a one k = absurd (false≢true l)

  list_at : (file line : ℕ) (w : Option Waiting) (s : Shape) → list_open (around_of file line w s) ≡ true → (around_of file line w s).list ≡ list_of (nest_at s)
  list_at file line w (unit_head host u sub name d p) l = refl
  list_at file line w (early host u sub name d p place depth bs) l = refl
  list_at file line w (body host sub name n) l = refl
  list_at file line w s l = absurd (false≢true l)

  in_body : (file line : ℕ) (w : Option Waiting) (s : Shape) (after : ℕ) → list_open (around_of file line w s) ≡ true →
      record (in_statements (around_of file line w s)) { waiting = None; line = after } ≡ around_of file after None (body_at s (nest_at s))
  in_body file line w (unit_head host u sub name d p) after l = refl
  in_body file line w (early host u sub name d p place depth bs) after l = refl
  in_body file line w (body host sub name n) after l = refl
  in_body file line w s after l = absurd (false≢true l)

  -- ---- Actions

  record Whole (n : Nest) (at : Place) (level : Statement-F Statement) : Type 0 where
    stmt : Stmt
    is : Simple (inside_of n) at level stmt

  whole : (n : Nest) (at : Place) (level : Statement-F Statement) → is_action_level level ≡ true → action_stands (list_of n).exits (action_of_level level) ≡ true →
      action_faults (action_of_level level) (list_of n) ≡ [] → Whole n at level
  whole n at (Statement-F.Assign left right) e m c = record { stmt = _; is = assigns left right e }
  whole n at (Statement-F.Call name args) e m c = record { stmt = _; is = calls name args }
  whole n at Statement-F.Exit e m c = record { stmt = _; is = exits (can_exit n m c) }
  whole n at Statement-F.Cycle e m c = record { stmt = _; is = cycles (can_cycle n m) }
  whole n at Statement-F.Return e m c = record { stmt = _; is = returns (can_return n c) }
  whole n at level e m c = absurd (false≢true e)

  whole_at : (file line : ℕ) (w : Option Waiting) (s : Shape) (at : Place) (level : Statement-F Statement) → is_action_level level ≡ true → list_open (around_of file line w s) ≡ true →
      action_stands (around_of file line w s).list.exits (action_of_level level) ≡ true → action_faults (action_of_level level) (around_of file line w s).list ≡ [] → Whole (nest_at s) at level
  whole_at file line w s at level e l m c =
      let is = list_at file line w s l in
      whole (nest_at s) at level e (subst (λ list. action_stands list.exits (action_of_level level) ≡ true) is m) (subst (λ list. action_faults (action_of_level level) list ≡ []) is c)

  pub an_action : (file line : ℕ) (w : Option Waiting) (s : Shape) (at : Place) (level : Statement-F Statement) (forms : List Form) → is_action_level level ≡ true →
      Stands mode file line w s (sort.Act (action_of_level level)) → Clean mode file line w s at (sort.Act (action_of_level level)) →
      Ahead mode file line w s at (sort.Act (action_of_level level)) forms → Nested mode file s (Says at level ∷ forms)
  an_action file line w s at level forms e m c ahead =
      let o = around_of file line w s in
      let parts = and_parts (list_open o) (action_stands o.list.exits (action_of_level level)) m in
      let clean = both_empty (action_faults (action_of_level level) o.list) (alone o) c in
      let t = whole_at file line w s at level e parts.0 parts.1 clean.0 in
      executes file line w s (Says at level ∷ forms) forms t.stmt parts.0 clean.1 (simple t.is) (ahead (body_at s (nest_at s)) (in_body file line w s at.line parts.0))

  pub an_if_action : (file line : ℕ) (w : Option Waiting) (s : Shape) (at : Place) (test : Expr) (place : Place) (action : Statement) (forms : List Form) →
      is_action_level (out-Statement action) ≡ true → Stands mode file line w s (sort.IfAct (action_of action)) → Clean mode file line w s at (sort.IfAct (action_of action)) →
      Ahead mode file line w s at (sort.IfAct (action_of action)) forms → Nested mode file s (Says at (Statement-F.IfAction test place action) ∷ forms)
  an_if_action file line w s at test place action forms e m c ahead =
      let o = around_of file line w s in
      let parts = and_parts (list_open o) (action_stands o.list.exits (action_of action)) m in
      let clean = both_empty (action_faults (action_of action) o.list ++ deep_at mode at o) (alone o) c in
      let first = both_empty (action_faults (action_of action) o.list) (deep_at mode at o) clean.0 in
      let t = whole_at file line w s place (out-Statement action) e parts.0 parts.1 first.0 in
      executes file line w s (Says at (Statement-F.IfAction test place action) ∷ forms) forms _ parts.0 clean.1 (if_action t.is) (ahead (body_at s (nest_at s)) (in_body file line w s at.line parts.0))

  -- ---- Statements that begin a construct

  in_if_body : (file line : ℕ) (w : Option Waiting) (s : Shape) (after : ℕ) → list_open (around_of file line w s) ≡ true →
      record (behind_sort (around_of file line w s) sort.IfThen) { waiting = None; line = after }
      ≡ around_of file after None (body_at s (in_if (deeper (around_of file line w s).list.depth) [] (nest_at s)))
  in_if_body file line w (unit_head host u sub name d p) after l = refl
  in_if_body file line w (early host u sub name d p place depth bs) after l = refl
  in_if_body file line w (body host sub name n) after l = refl
  in_if_body file line w s after l = absurd (false≢true l)

  in_select_body : (file line : ℕ) (w : Option Waiting) (s : Shape) (after : ℕ) → list_open (around_of file line w s) ≡ true →
      record (behind_sort (around_of file line w s) sort.Select) { waiting = None; line = after }
      ≡ around_of file after None (body_at s (in_select (deeper (around_of file line w s).list.depth) (nest_at s)))
  in_select_body file line w (unit_head host u sub name d p) after l = refl
  in_select_body file line w (early host u sub name d p place depth bs) after l = refl
  in_select_body file line w (body host sub name n) after l = refl
  in_select_body file line w s after l = absurd (false≢true l)

  pub in_do_body : (file line : ℕ) (w : Option Waiting) (s : Shape) (after : ℕ) → list_open (around_of file line w s) ≡ true →
      record (behind_sort (around_of file line w s) sort.Do) { waiting = None; line = after }
      ≡ around_of file after None (body_at s (in_do (mark_of w) (deeper (around_of file line w s).list.depth) [] (nest_at s)))
  in_do_body file line w (unit_head host u sub name d p) after l = refl
  in_do_body file line w (early host u sub name d p place depth bs) after l = refl
  in_do_body file line w (body host sub name n) after l = refl
  in_do_body file line w s after l = absurd (false≢true l)

  -- the way from inside a construct to the list around it, in which the construct is a statement
  after_if : (file : ℕ) (s : Shape) (depth : ℕ) (forms : List Form) → Nested mode file (body_at s (in_if depth [] (nest_at s))) forms →
      list_open (around_of file 0 None s) ≡ true → Filled mode (inside_of (nest_at s)) (ArmsThen mode (inside_of (nest_at s)) (Nested mode file (body_at s (nest_at s)))) forms
  after_if file (unit_head host u sub name d p) depth forms h l = h
  after_if file (early host u sub name d p place n bs) depth forms h l = h
  after_if file (body host sub name n) depth forms h l = h
  after_if file s depth forms h l = absurd (false≢true l)

  after_select : (file : ℕ) (s : Shape) (depth : ℕ) (forms : List Form) → Nested mode file (body_at s (in_select depth (nest_at s))) forms → list_open (around_of file 0 None s) ≡ true →
      CasesThen mode (inside_of (nest_at s)) false (Nested mode file (body_at s (nest_at s))) forms
  after_select file (unit_head host u sub name d p) depth forms h l = h
  after_select file (early host u sub name d p place n bs) depth forms h l = h
  after_select file (body host sub name n) depth forms h l = h
  after_select file s depth forms h l = absurd (false≢true l)

  pub after_do : (file : ℕ) (s : Shape) (mark : Option Place) (depth : ℕ) (forms : List Form) → Nested mode file (body_at s (in_do mark depth [] (nest_at s))) forms →
      list_open (around_of file 0 None s) ≡ true →
      Filled mode (in_loop_under (is_some mark) (inside_of (nest_at s))) (SaysThen mode Statement-F.EndDo (Nested mode file (body_at s (nest_at s)))) forms
  after_do file (unit_head host u sub name d p) mark depth forms h l = h
  after_do file (early host u sub name d p place n bs) mark depth forms h l = h
  after_do file (body host sub name n) mark depth forms h l = h
  after_do file s mark depth forms h l = absurd (false≢true l)

  -- what is open doesn't depend on the line, nor on what waits
  pub still_open : (file line : ℕ) (w : Option Waiting) (s : Shape) → list_open (around_of file line w s) ≡ true → list_open (around_of file 0 None s) ≡ true
  still_open file line w (unit_head host u sub name d p) l = refl
  still_open file line w (early host u sub name d p place depth bs) l = refl
  still_open file line w (body host sub name n) l = l
  still_open file line w s l = absurd (false≢true l)

  pub begins_if : (file line : ℕ) (w : Option Waiting) (s : Shape) (at : Place) (test : Expr) (forms : List Form) → Stands mode file line w s sort.IfThen → Clean mode file line w s at sort.IfThen →
      Ahead mode file line w s at sort.IfThen forms → Nested mode file s (Says at (Statement-F.IfThen test) ∷ forms)
  begins_if file line w s at test forms l c ahead =
      let o = around_of file line w s in
      let clean = both_empty (deep_at mode at o) (alone o) c in
      let depth = deeper o.list.depth in
      let h = after_if file s depth forms (ahead (body_at s (in_if depth [] (nest_at s))) (in_if_body file line w s at.line l)) (still_open file line w s l) in
      let a = h.follows in
      executes file line w s (Says at (Statement-F.IfThen test) ∷ forms) a.rest _ l clean.1 (if_then h.filled a.are) a.follows

  pub begins_select : (file line : ℕ) (w : Option Waiting) (s : Shape) (at : Place) (on : Expr) (forms : List Form) → Stands mode file line w s sort.Select → Clean mode file line w s at sort.Select →
      Ahead mode file line w s at sort.Select forms → Nested mode file s (Says at (Statement-F.Select on) ∷ forms)
  begins_select file line w s at on forms l c ahead =
      let o = around_of file line w s in
      let clean = both_empty (deep_at mode at o) (alone o) c in
      let depth = deeper o.list.depth in
      let a = after_select file s depth forms (ahead (body_at s (in_select depth (nest_at s))) (in_select_body file line w s at.line l)) (still_open file line w s l) in
      executes file line w s (Says at (Statement-F.Select on) ∷ forms) a.rest _ l clean.1 (selects a.are) a.follows

  pub begins_do : (file line : ℕ) (s : Shape) (at : Place) (head : Head) (forms : List Form) → Stands mode file line None s sort.Do → Clean mode file line None s at sort.Do →
      Ahead mode file line None s at sort.Do forms → Nested mode file s (Says at (Statement-F.Do head) ∷ forms)
  begins_do file line s at head forms l c ahead =
      let o = around_of file line None s in
      let clean = both_empty (deep_at mode at o) (alone o) c in
      let depth = deeper o.list.depth in
      let h = after_do file s None depth forms (ahead (body_at s (in_do None depth [] (nest_at s))) (in_do_body file line None s at.line l)) (still_open file line None s l) in
      let e = h.follows in
      executes file line None s (Says at (Statement-F.Do head) ∷ forms) e.rest _ l clean.1 (loops (subst (λ next. Body mode (in_loop_under false (inside_of (nest_at s))) forms h.stmts next) e.is h.filled)) e.follows
