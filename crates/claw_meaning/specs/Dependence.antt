-- Which variables depend on the column: those that can be reached by pairs from the column dummies and from the actuals of
-- column dummies in calls of column units. Names inside SIZE don't count.
use Rattle.std.specs.Prelude.{◌≡◌, ◌↔◌, ℕ, List, [], ◌∷◌, ◌++◌, map, flat_map, Option, Some, None, Bool, true, false, ◌&&◌, ◌||◌, not, if◌then◌else◌}
use Rattle.std.specs.List.{Contains, filter, list_any}
use Rattle.std.specs.Str.{bytes_eq}
use Rattle.fort_arith.specs.declared.op.Intrinsic.{Intrinsic}
use Rattle.fort_arith.specs.declared.op.Intrinsic.TheVariants.{Abs, Int, Max, Min, Mod, Modulo, Sign, Size, Sum}
use Rattle.fort_tree.specs.Intrinsic.{intrinsic_named}
use Rattle.claw_meaning.specs.Syntax.{Text, Expr, Numeral, Boolean, Name, Reference, Signed, Binary, Paren, Subscripts, No_more, At, Section, Between, Limit, Unbounded, Bounded, Head, Directive, Stmt, Assign, Call, If, Select, Do, Block, Piece, Exit, Cycle, Return, Stmts, Done, Then, Arms, No_arm, Arm, Cases, No_case, Case, Otherwise, Nothing_else, Else, Unit, Program}
use Rattle.claw_meaning.specs.Scope.{Entity, Unknown, Variable, Constant, Procedure, visible}
use Rattle.claw_meaning.specs.Scene.{Dummy}
use Rattle.claw_meaning.specs.Evaluation.{is_in}
use Rattle.claw_meaning.specs.Units.{is_listed, is_column_unit, is_column_dummy, dummies_of}

-- Names outside SIZE

abbrev pub is_size : Option Intrinsic → Bool
is_size (Some Size) = true
is_size other = false

abbrev pub unless : Bool → List Text → List Text
unless true xs = []
unless false xs = xs

abbrev mutual
  pub names_in : Expr → List Text
  names_in (Numeral n suffix) = []
  names_in (Boolean b) = []
  names_in (Name x) = x ∷ []
  names_in (Reference x subs) = unless (is_size (intrinsic_named x)) (x ∷ names_in_all subs)
  names_in (Signed sign e) = names_in e
  names_in (Binary op a b) = names_in a ++ names_in b
  names_in (Paren e) = names_in e

  pub names_in_all : Subscripts → List Text
  names_in_all No_more = []
  names_in_all (At e rest) = names_in e ++ names_in_all rest
  names_in_all (Section lower upper rest) = names_in_limit lower ++ (names_in_limit upper ++ names_in_all rest)
  names_in_all (Between m n rest) = names_in_all rest

  pub names_in_limit : Limit → List Text
  names_in_limit Unbounded = []
  names_in_limit (Bounded e) = names_in e

abbrev pub names_in_option : Option Expr → List Text
names_in_option None = []
names_in_option (Some e) = names_in e

abbrev pub names_in_head : Head → List Text
names_in_head h = names_in h.from ++ (names_in h.to ++ names_in_option h.step)

-- the variable that a reference names
abbrev pub variable_of : Expr → List Text
variable_of (Name x) = x ∷ []
variable_of (Reference x subs) = x ∷ []
variable_of other = []

-- the names in the subscripts of a reference
abbrev pub names_beside : Expr → List Text
names_beside (Reference x subs) = names_in_all subs
names_beside other = []

abbrev pub tests_of : Arms → List Text
tests_of No_arm = []
tests_of (Arm test body rest) = names_in test ++ tests_of rest

-- EXIT and CYCLE of the DO that a statement stands in

abbrev mutual
  pub leaves : Stmt → Bool
  leaves (Assign left right) = false
  leaves (Call x args forward) = false
  leaves (If arms other) = leaves_arms arms || leaves_otherwise other
  leaves (Select e cases other) = leaves_cases cases || leaves_otherwise other
  leaves (Do h body mark) = false
  leaves (Block d body) = leaves_all body
  leaves (Piece body) = leaves_all body
  leaves Exit = true
  leaves Cycle = true
  leaves Return = false

  pub leaves_all : Stmts → Bool
  leaves_all Done = false
  leaves_all (Then s rest) = leaves s || leaves_all rest

  pub leaves_arms : Arms → Bool
  leaves_arms No_arm = false
  leaves_arms (Arm test body rest) = leaves_all body || leaves_arms rest

  pub leaves_cases : Cases → Bool
  leaves_cases No_case = false
  leaves_cases (Case ranges body rest) = leaves_all body || leaves_cases rest

  pub leaves_otherwise : Otherwise → Bool
  leaves_otherwise Nothing_else = false
  leaves_otherwise (Else body) = leaves_all body

abbrev pub where_true : Bool → List Text → List Text
where_true true xs = xs
where_true false xs = []

-- the names in the tests of the IF and SELECT in which an EXIT or CYCLE of the DO around them stands
abbrev mutual
  pub leaving_tests : Stmt → List Text
  leaving_tests (Assign left right) = []
  leaving_tests (Call x args forward) = []
  leaving_tests (If arms other) = where_true (leaves (If arms other)) (tests_of arms) ++ (leaving_arms arms ++ leaving_otherwise other)
  leaving_tests (Select e cases other) = where_true (leaves (Select e cases other)) (names_in e) ++ (leaving_cases cases ++ leaving_otherwise other)
  leaving_tests (Do h body mark) = []
  leaving_tests (Block d body) = leaving_all body
  leaving_tests (Piece body) = leaving_all body
  leaving_tests Exit = []
  leaving_tests Cycle = []
  leaving_tests Return = []

  pub leaving_all : Stmts → List Text
  leaving_all Done = []
  leaving_all (Then s rest) = leaving_tests s ++ leaving_all rest

  pub leaving_arms : Arms → List Text
  leaving_arms No_arm = []
  leaving_arms (Arm test body rest) = leaving_all body ++ leaving_arms rest

  pub leaving_cases : Cases → List Text
  leaving_cases No_case = []
  leaving_cases (Case ranges body rest) = leaving_all body ++ leaving_cases rest

  pub leaving_otherwise : Otherwise → List Text
  leaving_otherwise Nothing_else = []
  leaving_otherwise (Else body) = leaving_all body

-- Calls

-- what a program's units are for the unit that calls them
abbrev pub unit_called : Entity → Option Unit
unit_called (Procedure v) = Some v
unit_called other = None

abbrev pub is_column_called : Option Unit → Bool
is_column_called None = false
is_column_called (Some v) = is_column_unit v

-- the variables of the actuals of OUT and INOUT dummies
abbrev pub written_actuals : List Dummy → Subscripts → List Text
written_actuals [] args = []
written_actuals (d ∷ ds) No_more = []
written_actuals (d ∷ ds) (At e rest) = (if is_in d.intent then [] else variable_of e) ++ written_actuals ds rest
written_actuals (d ∷ ds) (Section lower upper rest) = written_actuals ds rest
written_actuals (d ∷ ds) (Between m n rest) = written_actuals ds rest

-- the variables of the actuals of column dummies
abbrev pub column_actuals : List Dummy → Subscripts → List Text
column_actuals [] args = []
column_actuals (d ∷ ds) No_more = []
column_actuals (d ∷ ds) (At e rest) = (if d.is_column then variable_of e else []) ++ column_actuals ds rest
column_actuals (d ∷ ds) (Section lower upper rest) = column_actuals ds rest
column_actuals (d ∷ ds) (Between m n rest) = column_actuals ds rest

abbrev pub dummies_called : Option Unit → List Dummy
dummies_called None = []
dummies_called (Some v) = dummies_of v

-- Pairs: from y to each of xs, for each y of ys
abbrev pub pairs_to : List Text → List Text → List (Text × Text)
pairs_to xs ys = flat_map (λ x. map (λ y. (y, x)) ys) xs

-- A plain call: of a unit that is no column unit
abbrev pub call_pairs : Option Unit → Subscripts → List Text → List (Text × Text)
call_pairs called args around = if is_column_called called then [] else pairs_to (written_actuals (dummies_called called) args) (names_in_all args ++ around)

-- the roots in a call of a column unit
abbrev pub call_roots : Option Unit → Subscripts → List Text
call_roots called args = if is_column_called called then column_actuals (dummies_called called) args else []

module _ (called : Text → Option Unit) where
  abbrev mutual
    -- `around` are the names in the tests and bounds of the control that a statement stands in
    pub pairs : List Text → Stmt → List (Text × Text)
    pairs around (Assign left right) = pairs_to (variable_of left) (names_in right ++ (names_beside left ++ around))
    pairs around (Call x args forward) = call_pairs (called x) args around
    pairs around (If arms other) = pairs_in_arms (tests_of arms ++ around) arms ++ pairs_in_otherwise (tests_of arms ++ around) other
    pairs around (Select e cases other) = pairs_in_cases (names_in e ++ around) cases ++ pairs_in_otherwise (names_in e ++ around) other
    pairs around (Do h body mark) = pairs_in (names_in_head h ++ (leaving_all body ++ around)) body
    pairs around (Block d body) = pairs_in around body
    pairs around (Piece body) = pairs_in around body
    pairs around Exit = []
    pairs around Cycle = []
    pairs around Return = []

    pub pairs_in : List Text → Stmts → List (Text × Text)
    pairs_in around Done = []
    pairs_in around (Then s rest) = pairs around s ++ pairs_in around rest

    pub pairs_in_arms : List Text → Arms → List (Text × Text)
    pairs_in_arms around No_arm = []
    pairs_in_arms around (Arm test body rest) = pairs_in around body ++ pairs_in_arms around rest

    pub pairs_in_cases : List Text → Cases → List (Text × Text)
    pairs_in_cases around No_case = []
    pairs_in_cases around (Case ranges body rest) = pairs_in around body ++ pairs_in_cases around rest

    pub pairs_in_otherwise : List Text → Otherwise → List (Text × Text)
    pairs_in_otherwise around Nothing_else = []
    pairs_in_otherwise around (Else body) = pairs_in around body

  abbrev mutual
    pub roots : Stmt → List Text
    roots (Assign left right) = []
    roots (Call x args forward) = if forward then call_roots (called x) args else []
    roots (If arms other) = roots_in_arms arms ++ roots_in_otherwise other
    roots (Select e cases other) = roots_in_cases cases ++ roots_in_otherwise other
    roots (Do h body mark) = roots_in body
    roots (Block d body) = roots_in body
    roots (Piece body) = roots_in body
    roots Exit = []
    roots Cycle = []
    roots Return = []

    pub roots_in : Stmts → List Text
    roots_in Done = []
    roots_in (Then s rest) = roots s ++ roots_in rest

    pub roots_in_arms : Arms → List Text
    roots_in_arms No_arm = []
    roots_in_arms (Arm test body rest) = roots_in body ++ roots_in_arms rest

    pub roots_in_cases : Cases → List Text
    roots_in_cases No_case = []
    roots_in_cases (Case ranges body rest) = roots_in body ++ roots_in_cases rest

    pub roots_in_otherwise : Otherwise → List Text
    roots_in_otherwise Nothing_else = []
    roots_in_otherwise (Else body) = roots_in body

-- the variables of the DOs in statements
abbrev mutual
  pub do_variables : Stmt → List Text
  do_variables (Assign left right) = []
  do_variables (Call x args forward) = []
  do_variables (If arms other) = do_variables_in_arms arms ++ do_variables_in_otherwise other
  do_variables (Select e cases other) = do_variables_in_cases cases ++ do_variables_in_otherwise other
  do_variables (Do h body mark) = h.variable ∷ do_variables_in body
  do_variables (Block d body) = do_variables_in body
  do_variables (Piece body) = do_variables_in body
  do_variables Exit = []
  do_variables Cycle = []
  do_variables Return = []

  pub do_variables_in : Stmts → List Text
  do_variables_in Done = []
  do_variables_in (Then s rest) = do_variables s ++ do_variables_in rest

  pub do_variables_in_arms : Arms → List Text
  do_variables_in_arms No_arm = []
  do_variables_in_arms (Arm test body rest) = do_variables_in body ++ do_variables_in_arms rest

  pub do_variables_in_cases : Cases → List Text
  do_variables_in_cases No_case = []
  do_variables_in_cases (Case ranges body rest) = do_variables_in body ++ do_variables_in_cases rest

  pub do_variables_in_otherwise : Otherwise → List Text
  do_variables_in_otherwise Nothing_else = []
  do_variables_in_otherwise (Else body) = do_variables_in body

-- what can be reached from the roots by pairs
pub data Reached (from : List Text) (by : List (Text × Text)) : Text → Type 0 where
  root : {x : Text} → Contains from x → Reached from by x
  led : {x : Text} (y : Text) → Contains by (y, x) → Reached from by y → Reached from by x

abbrev pub called_in : Program → Unit → Text → Option Unit
called_in p u x = unit_called (visible p u x)

-- a pair leads to no DO variable
abbrev pub pairs_of : Program → Unit → List (Text × Text)
pairs_of p u = filter (λ pair. not (is_listed (do_variables_in u.body) pair.1)) (pairs_in (called_in p u) [] u.body)

abbrev pub roots_of : Program → Unit → List Text
roots_of p u = filter (is_column_dummy u) u.dummies ++ roots_in (called_in p u) u.body

-- the variables of a column unit that depend on the column
abbrev pub Varies : Program → Unit → Text → Type 0
Varies p u x = Reached (roots_of p u) (pairs_of p u) x
