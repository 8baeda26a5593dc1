-- Where column loops stand: round each maximal run of inner statements.
use Rattle.std.specs.Prelude.{◌≡◌, ◌↔◌, ℕ, zero, suc, List, [], ◌∷◌, ◌++◌, map, Option, Some, None, Bool, true, false, ◌&&◌, ◌||◌, not, if◌then◌else◌, is_some, slice_get, ⊤}
use Rattle.std.specs.List.{filter, list_any, Contains}
use Rattle.std.specs.Str.{bytes_eq}
use Rattle.fort_tree.specs.declared.choice.Target.{Target}
use Rattle.fort_tree.specs.declared.choice.Target.TheVariants.{Cpu, Gpu}
use Rattle.fort_tree.specs.declared.choice.Directives.{Directives}
use Rattle.fort_tree.specs.declared.choice.Directives.TheVariants.{Plain, OpenMp, OpenAcc}
use Rattle.fort_tree.specs.declared.stmt.DirectiveWord.{DirectiveWord}
use Rattle.fort_tree.specs.declared.stmt.DirectiveWord.TheVariants.{OpenMpLoop, OpenAccLoop, Routine}
use Rattle.claw_meaning.specs.Syntax.{Text, Expr, Subscripts, Head, Directive, Stmt, Assign, Call, If, Select, Do, Block, Piece, Exit, Cycle, Return, Stmts, Done, Then, Arms, No_arm, Arm, Cases, No_case, Case, Otherwise, Nothing_else, Else, Unit, Program}
use Rattle.claw_meaning.specs.Scope.{visible}
use Rattle.claw_meaning.specs.Units.{is_column_unit, is_listed, directive_of, is_word_define}
use Rattle.claw_meaning.specs.Dependence.{names_in, names_in_all, names_in_head, tests_of, variable_of, leaving_all, called_in, is_column_called, do_variables_in, unit_called}
use Rattle.claw_meaning.specs.Interface.{Widening, widening_of, or_number, id_of, column_called}
use Rattle.claw_meaning.specs.Erasure.{Reading, erased_reading, read_stmt, behind_guard}

-- Inner statements, of the directed source

-- the wide variables, and the names of column units
pub record Columns : Type 0 where
  pub wide : Text → Bool
  pub is_column : Text → Bool

abbrev pub names_wide : Columns → List Text → Bool
names_wide k xs = list_any k.wide xs

-- control is varying where a test or a bound names a varying variable, and in a DO which an EXIT or a CYCLE under varying
-- control leaves
abbrev pub varying_control : Columns → Stmt → Bool
varying_control k (If arms other) = names_wide k (tests_of arms)
varying_control k (Select e cases other) = names_wide k (names_in e)
varying_control k (Do h body mark) = names_wide k (names_in_head h) || names_wide k (leaving_all body)
varying_control k other = false

-- an assignment to a wide variable, a plain call with a varying argument, or varying control
abbrev pub is_part : Columns → Stmt → Bool
is_part k (Assign left right) = names_wide k (variable_of left)
is_part k (Call x args forward) = not (k.is_column x) && names_wide k (names_in_all args)
is_part k other = varying_control k other

module _ (k : Columns) where
  abbrev mutual
    -- a column part stands here
    pub holds_part : Stmt → Bool
    holds_part (Assign left right) = is_part k (Assign left right)
    holds_part (Call x args forward) = is_part k (Call x args forward)
    holds_part (If arms other) = varying_control k (If arms other) || (arms_hold_part arms || otherwise_holds_part other)
    holds_part (Select e cases other) = varying_control k (Select e cases other) || (cases_hold_part cases || otherwise_holds_part other)
    holds_part (Do h body mark) = varying_control k (Do h body mark) || hold_part body
    holds_part (Block d body) = hold_part body
    holds_part (Piece body) = hold_part body
    holds_part Exit = false
    holds_part Cycle = false
    holds_part Return = false

    pub hold_part : Stmts → Bool
    hold_part Done = false
    hold_part (Then s rest) = holds_part s || hold_part rest

    pub arms_hold_part : Arms → Bool
    arms_hold_part No_arm = false
    arms_hold_part (Arm test body rest) = hold_part body || arms_hold_part rest

    pub cases_hold_part : Cases → Bool
    cases_hold_part No_case = false
    cases_hold_part (Case ranges body rest) = hold_part body || cases_hold_part rest

    pub otherwise_holds_part : Otherwise → Bool
    otherwise_holds_part Nothing_else = false
    otherwise_holds_part (Else body) = hold_part body

  abbrev mutual
    -- each simple statement is a column part, stands in one, or is an EXIT or CYCLE of a DO that stands here (`in_do`)
    pub is_covered : Bool → Stmt → Bool
    is_covered in_do (Assign left right) = is_part k (Assign left right)
    is_covered in_do (Call x args forward) = is_part k (Call x args forward)
    is_covered in_do (If arms other) = varying_control k (If arms other) || (arms_covered in_do arms && otherwise_covered in_do other)
    is_covered in_do (Select e cases other) = varying_control k (Select e cases other) || (cases_covered in_do cases && otherwise_covered in_do other)
    is_covered in_do (Do h body mark) = varying_control k (Do h body mark) || are_covered true body
    is_covered in_do (Block d body) = are_covered in_do body
    is_covered in_do (Piece body) = are_covered in_do body
    is_covered in_do Exit = in_do
    is_covered in_do Cycle = in_do
    is_covered in_do Return = false

    pub are_covered : Bool → Stmts → Bool
    are_covered in_do Done = true
    are_covered in_do (Then s rest) = is_covered in_do s && are_covered in_do rest

    pub arms_covered : Bool → Arms → Bool
    arms_covered in_do No_arm = true
    arms_covered in_do (Arm test body rest) = are_covered in_do body && arms_covered in_do rest

    pub cases_covered : Bool → Cases → Bool
    cases_covered in_do No_case = true
    cases_covered in_do (Case ranges body rest) = are_covered in_do body && cases_covered in_do rest

    pub otherwise_covered : Bool → Otherwise → Bool
    otherwise_covered in_do Nothing_else = true
    otherwise_covered in_do (Else body) = are_covered in_do body

  -- a compound statement that holds a column part and is covered
  abbrev pub is_clean : Stmt → Bool
  is_clean s = holds_part s && is_covered false s

  abbrev mutual
    -- a DO of uniform control stands here; in varying control no control is uniform
    pub holds_uniform_do : Stmt → Bool
    holds_uniform_do (Assign left right) = false
    holds_uniform_do (Call x args forward) = false
    holds_uniform_do (If arms other) = not (varying_control k (If arms other)) && (arms_hold_uniform_do arms || otherwise_holds_uniform_do other)
    holds_uniform_do (Select e cases other) = not (varying_control k (Select e cases other)) && (cases_hold_uniform_do cases || otherwise_holds_uniform_do other)
    holds_uniform_do (Do h body mark) = not (varying_control k (Do h body mark))
    holds_uniform_do (Block d body) = hold_uniform_do body
    holds_uniform_do (Piece body) = hold_uniform_do body
    holds_uniform_do Exit = false
    holds_uniform_do Cycle = false
    holds_uniform_do Return = false

    pub hold_uniform_do : Stmts → Bool
    hold_uniform_do Done = false
    hold_uniform_do (Then s rest) = holds_uniform_do s || hold_uniform_do rest

    pub arms_hold_uniform_do : Arms → Bool
    arms_hold_uniform_do No_arm = false
    arms_hold_uniform_do (Arm test body rest) = hold_uniform_do body || arms_hold_uniform_do rest

    pub cases_hold_uniform_do : Cases → Bool
    cases_hold_uniform_do No_case = false
    cases_hold_uniform_do (Case ranges body rest) = hold_uniform_do body || cases_hold_uniform_do rest

    pub otherwise_holds_uniform_do : Otherwise → Bool
    otherwise_holds_uniform_do Nothing_else = false
    otherwise_holds_uniform_do (Else body) = hold_uniform_do body

  -- A column part; on a cpu a clean IF or SELECT of uniform control that holds no DO of uniform control; on a gpu a clean IF,
  -- SELECT or DO of uniform control.
  abbrev pub is_inner : Target → Stmt → Bool
  is_inner how (Assign left right) = is_part k (Assign left right)
  is_inner how (Call x args forward) = is_part k (Call x args forward)
  is_inner Cpu (If arms other) = varying_control k (If arms other) || (is_clean (If arms other) && not (holds_uniform_do (If arms other)))
  is_inner Gpu (If arms other) = varying_control k (If arms other) || is_clean (If arms other)
  is_inner Cpu (Select e cases other) = varying_control k (Select e cases other) || (is_clean (Select e cases other) && not (holds_uniform_do (Select e cases other)))
  is_inner Gpu (Select e cases other) = varying_control k (Select e cases other) || is_clean (Select e cases other)
  is_inner Cpu (Do h body mark) = varying_control k (Do h body mark)
  is_inner Gpu (Do h body mark) = varying_control k (Do h body mark) || is_clean (Do h body mark)
  is_inner how other = false

-- Column loops of the target

pub record Spreading : Type 0 where
  pub columns : Columns
  pub how : Target
  pub kind : Directives
  pub widening : Widening
  pub reading : Reading
  pub is_private : Text → Bool  -- confined scalars, which are each iteration's own

abbrev pub is_loop_of : Text → Stmt → Bool
is_loop_of id (Do h body mark) = bytes_eq h.variable id
is_loop_of id other = false

abbrev pub all_inner : Spreading → Stmts → Bool
all_inner k Done = true
all_inner k (Then s rest) = is_inner k.columns k.how s && all_inner k rest

abbrev pub any_inner : Spreading → Stmts → Bool
any_inner k Done = false
any_inner k (Then s rest) = is_inner k.columns k.how s || any_inner k rest

abbrev mutual
  -- a column loop stands here
  pub holds_loop : Text → Stmt → Bool
  holds_loop id (Assign left right) = false
  holds_loop id (Call x args forward) = false
  holds_loop id (If arms other) = arms_hold_loop id arms || otherwise_holds_loop id other
  holds_loop id (Select e cases other) = cases_hold_loop id cases || otherwise_holds_loop id other
  holds_loop id (Do h body mark) = bytes_eq h.variable id || hold_loop id body
  holds_loop id (Block d body) = hold_loop id body
  holds_loop id (Piece body) = hold_loop id body
  holds_loop id Exit = false
  holds_loop id Cycle = false
  holds_loop id Return = false

  pub hold_loop : Text → Stmts → Bool
  hold_loop id Done = false
  hold_loop id (Then s rest) = holds_loop id s || hold_loop id rest

  pub arms_hold_loop : Text → Arms → Bool
  arms_hold_loop id No_arm = false
  arms_hold_loop id (Arm test body rest) = hold_loop id body || arms_hold_loop id rest

  pub cases_hold_loop : Text → Cases → Bool
  cases_hold_loop id No_case = false
  cases_hold_loop id (Case ranges body rest) = hold_loop id body || cases_hold_loop id rest

  pub otherwise_holds_loop : Text → Otherwise → Bool
  otherwise_holds_loop id Nothing_else = false
  otherwise_holds_loop id (Else body) = hold_loop id body

-- each name once, where it stands first
abbrev pub once : List Text → List Text → List Text
once seen [] = []
once seen (x ∷ xs) = if is_listed seen x then once seen xs else x ∷ once (x ∷ seen) xs

-- the names in statements in the order of the text: a DO's variable before the names of its bounds, a left side before its
-- right side
abbrev mutual
  pub names_of : Stmt → List Text
  names_of (Assign left right) = names_in left ++ names_in right
  names_of (Call x args forward) = names_in_all args
  names_of (If arms other) = names_of_arms arms ++ names_of_otherwise other
  names_of (Select e cases other) = names_in e ++ (names_of_cases cases ++ names_of_otherwise other)
  names_of (Do h body mark) = (h.variable ∷ names_in_head h) ++ names_of_all body
  names_of (Block d body) = names_of_all body
  names_of (Piece body) = names_of_all body
  names_of Exit = []
  names_of Cycle = []
  names_of Return = []

  pub names_of_all : Stmts → List Text
  names_of_all Done = []
  names_of_all (Then s rest) = names_of s ++ names_of_all rest

  pub names_of_arms : Arms → List Text
  names_of_arms No_arm = []
  names_of_arms (Arm test body rest) = names_in test ++ (names_of_all body ++ names_of_arms rest)

  pub names_of_cases : Cases → List Text
  names_of_cases No_case = []
  names_of_cases (Case ranges body rest) = names_of_all body ++ names_of_cases rest

  pub names_of_otherwise : Otherwise → List Text
  names_of_otherwise Nothing_else = []
  names_of_otherwise (Else body) = names_of_all body

-- the DO variables of the loops inside and the confined scalars that are named there, in order of first appearance
abbrev pub privates : Spreading → Stmts → List Text
privates k body = once [] (filter (λ x. is_listed (do_variables_in body) x || k.is_private x) (names_of_all body))

abbrev pub loop_word : Directives → Option DirectiveWord
loop_word Plain = None
loop_word OpenMp = Some OpenMpLoop
loop_word OpenAcc = Some OpenAccLoop

-- the mark of a column loop: none without directives, else the line of its kind with this list
abbrev pub HasMark : Option DirectiveWord → List Text → Option Directive → Type 0
HasMark None names None = ⊤
HasMark None names (Some d) = ⊥
HasMark (Some word) names None = ⊥
HasMark (Some word) names (Some d) = (d.word ≡ word) × (d.names ≡ names)

abbrev pub HasHead : Widening → Head → Type 0
HasHead w h = (h.variable ≡ w.id) × (h.from ≡ or_number w.lower) × (h.to ≡ or_number w.upper) × (h.step ≡ None)

-- all members erase to inner statements
abbrev pub AreInner : Spreading → Stmts → Type 0
AreInner k Done = ⊤
AreInner k (Then s rest) = (all_inner k (read_stmt k.reading s) ≡ true) × AreInner k rest

-- no loop in these statements has a mark
abbrev mutual
  pub is_unmarked : Stmt → Bool
  is_unmarked (Assign left right) = true
  is_unmarked (Call x args forward) = true
  is_unmarked (If arms other) = arms_unmarked arms && otherwise_unmarked other
  is_unmarked (Select e cases other) = cases_unmarked cases && otherwise_unmarked other
  is_unmarked (Do h body mark) = not (is_some mark) && are_unmarked body
  is_unmarked (Block d body) = are_unmarked body
  is_unmarked (Piece body) = are_unmarked body
  is_unmarked Exit = true
  is_unmarked Cycle = true
  is_unmarked Return = true

  pub are_unmarked : Stmts → Bool
  are_unmarked Done = true
  are_unmarked (Then s rest) = is_unmarked s && are_unmarked rest

  pub arms_unmarked : Arms → Bool
  arms_unmarked No_arm = true
  arms_unmarked (Arm test body rest) = are_unmarked body && arms_unmarked rest

  pub cases_unmarked : Cases → Bool
  cases_unmarked No_case = true
  cases_unmarked (Case ranges body rest) = are_unmarked body && cases_unmarked rest

  pub otherwise_unmarked : Otherwise → Bool
  otherwise_unmarked Nothing_else = true
  otherwise_unmarked (Else body) = are_unmarked body

-- a column loop: its head, its mark, a body whose members erase to inner statements, and inside it no column loop and no mark
abbrev pub IsColumnLoop : Spreading → Head → Stmts → Option Directive → Type 0
IsColumnLoop k h body mark =
    HasHead k.widening h
    × HasMark (loop_word k.kind) (privates k body) mark
    × AreInner k body
    × (hold_loop k.widening.id body ≡ false)
    × (are_unmarked body ≡ true)

abbrev pub begins_with_loop : Text → Stmts → Bool
begins_with_loop id Done = false
begins_with_loop id (Then s rest) = is_loop_of id s

abbrev pub is_unmarked_loop : Option Directive → Type 0
is_unmarked_loop None = ⊤
is_unmarked_loop (Some d) = ⊥

abbrev pub SpreadLoop : Spreading → Bool → Head → Stmts → Option Directive → Type 0 → Type 0
SpreadLoop k true h body mark Inside = IsColumnLoop k h body mark
SpreadLoop k false h body mark Inside = (any_inner k (read_stmt k.reading (Do h body mark)) ≡ false) × is_unmarked_loop mark × Inside

-- An inner statement that stands in no other one stands in a column loop; no two column loops are neighbours; no other loop
-- has a mark.
module _ (k : Spreading) where
  abbrev mutual
    pub SpreadStmt : Stmt → Type 0
    SpreadStmt (Assign left right) = any_inner k (read_stmt k.reading (Assign left right)) ≡ false
    SpreadStmt (Call x args forward) = any_inner k (read_stmt k.reading (Call x args forward)) ≡ false
    SpreadStmt (If arms other) = (any_inner k (read_stmt k.reading (If arms other)) ≡ false) × SpreadArms arms × SpreadOtherwise other
    SpreadStmt (Select e cases other) = (any_inner k (read_stmt k.reading (Select e cases other)) ≡ false) × SpreadCases cases × SpreadOtherwise other
    SpreadStmt (Do h body mark) = SpreadLoop k (bytes_eq h.variable k.widening.id) h body mark (SpreadStmts body)
    SpreadStmt (Block d body) = SpreadStmts body
    SpreadStmt (Piece body) = ⊥
    SpreadStmt Exit = ⊤
    SpreadStmt Cycle = ⊤
    SpreadStmt Return = ⊤

    pub SpreadStmts : Stmts → Type 0
    SpreadStmts Done = ⊤
    SpreadStmts (Then s rest) = SpreadStmt s × (is_loop_of k.widening.id s && begins_with_loop k.widening.id rest ≡ false) × SpreadStmts rest

    pub SpreadArms : Arms → Type 0
    SpreadArms No_arm = ⊤
    SpreadArms (Arm test body rest) = SpreadStmts body × SpreadArms rest

    pub SpreadCases : Cases → Type 0
    SpreadCases No_case = ⊤
    SpreadCases (Case ranges body rest) = SpreadStmts body × SpreadCases rest

    pub SpreadOtherwise : Otherwise → Type 0
    SpreadOtherwise Nothing_else = ⊤
    SpreadOtherwise (Else body) = SpreadStmts body

-- the names of the units that statements call or refer to, and of other names in them
abbrev mutual
  pub called_names : Stmt → List Text
  called_names (Assign left right) = names_in left ++ names_in right
  called_names (Call x args forward) = x ∷ names_in_all args
  called_names (If arms other) = called_names_arms arms ++ called_names_otherwise other
  called_names (Select e cases other) = names_in e ++ (called_names_cases cases ++ called_names_otherwise other)
  called_names (Do h body mark) = names_in_head h ++ called_names_all body
  called_names (Block d body) = called_names_all body
  called_names (Piece body) = called_names_all body
  called_names Exit = []
  called_names Cycle = []
  called_names Return = []

  pub called_names_all : Stmts → List Text
  called_names_all Done = []
  called_names_all (Then s rest) = called_names s ++ called_names_all rest

  pub called_names_arms : Arms → List Text
  called_names_arms No_arm = []
  called_names_arms (Arm test body rest) = names_in test ++ (called_names_all body ++ called_names_arms rest)

  pub called_names_cases : Cases → List Text
  called_names_cases No_case = []
  called_names_cases (Case ranges body rest) = called_names_all body ++ called_names_cases rest

  pub called_names_otherwise : Otherwise → List Text
  called_names_otherwise Nothing_else = []
  called_names_otherwise (Else body) = called_names_all body

-- Units that are called for one column: by a CALL or a function reference in a column loop, or by such a unit

abbrev mutual
  -- the units that the statements in column loops name
  pub named_in_loops : Text → Stmt → List Text
  named_in_loops id (Assign left right) = []
  named_in_loops id (Call x args forward) = []
  named_in_loops id (If arms other) = named_in_arms id arms ++ named_in_otherwise id other
  named_in_loops id (Select e cases other) = named_in_cases id cases ++ named_in_otherwise id other
  named_in_loops id (Do h body mark) = if bytes_eq h.variable id then called_names_all body else named_in_all id body
  named_in_loops id (Block d body) = named_in_all id body
  named_in_loops id (Piece body) = named_in_all id body
  named_in_loops id Exit = []
  named_in_loops id Cycle = []
  named_in_loops id Return = []

  pub named_in_all : Text → Stmts → List Text
  named_in_all id Done = []
  named_in_all id (Then s rest) = named_in_loops id s ++ named_in_all id rest

  pub named_in_arms : Text → Arms → List Text
  named_in_arms id No_arm = []
  named_in_arms id (Arm test body rest) = named_in_all id body ++ named_in_arms id rest

  pub named_in_cases : Text → Cases → List Text
  named_in_cases id No_case = []
  named_in_cases id (Case ranges body rest) = named_in_all id body ++ named_in_cases id rest

  pub named_in_otherwise : Text → Otherwise → List Text
  named_in_otherwise id Nothing_else = []
  named_in_otherwise id (Else body) = named_in_all id body

abbrev pub id_of_unit : Option Unit → Text
id_of_unit None = []
id_of_unit (Some u) = id_of (directive_of is_word_define u.marks)

-- the dimension of the unit of this number
abbrev pub dimension_of : Program → ℕ → Text
dimension_of p n = id_of_unit (slice_get p.units n)

-- a unit that is reached from the column loops of a program: named in one, or named by a unit that is reached
pub data ReachedFromLoops (source target : Program) (id_of : ℕ → Text) : Unit → Type 0 where
  here : {v : Unit} (i : ℕ) (u t : Unit) (x : Text) → slice_get source.units i ≡ Some u → slice_get target.units i ≡ Some t → is_column_unit u ≡ true → Contains (named_in_all (id_of i) t.body) x → unit_called (visible source u x) ≡ Some v → ReachedFromLoops source target id_of v
  through : {v : Unit} (w : Unit) (x : Text) → ReachedFromLoops source target id_of w → Contains (called_names_all w.body) x → unit_called (visible source w x) ≡ Some v → ReachedFromLoops source target id_of v

abbrev pub is_routine : DirectiveWord → Bool
is_routine Routine = true
is_routine other = false

abbrev pub has_routine : Unit → Bool
has_routine t = list_any (λ d. is_routine d.word) t.marks

abbrev pub is_acc : Directives → Bool
is_acc OpenAcc = true
is_acc other = false

abbrev pub spreading : Program → Unit → Widening → Target → Directives → (Text → Bool) → Spreading
spreading p u w how kind is_private = record {
  columns = record { wide = w.wide; is_column = column_called p u };
  how = how;
  kind = kind;
  widening = w;
  reading = erased_reading p u w;
  is_private = is_private;
}

-- Column loops in every column unit, marks on them alone, and `routine seq` in just the units reached from column loops,
-- with OpenACC alone. `wide` and `is_private` are by unit.
pub record Spread (source target : Program) (wide is_private : ℕ → Text → Bool) (how : Target) (kind : Directives) : Type 0 where
  pub columns : (i : ℕ) (u t : Unit) → slice_get source.units i ≡ Some u → slice_get target.units i ≡ Some t → is_column_unit u ≡ true → SpreadStmts (spreading source u (widening_of source u (wide i)) how kind (is_private i)) (behind_guard true t.body)
  pub others : (i : ℕ) (u t : Unit) → slice_get source.units i ≡ Some u → slice_get target.units i ≡ Some t → is_column_unit u ≡ false → are_unmarked t.body ≡ true
  pub routines : (i : ℕ) (u t : Unit) → slice_get source.units i ≡ Some u → slice_get target.units i ≡ Some t → (has_routine t ≡ true) ↔ ((is_acc kind ≡ true) × ReachedFromLoops source target (λ n. dimension_of source n) u)
