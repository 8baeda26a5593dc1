-- The steps of statements, without the DOs around each.
use Rattle.std.specs.Prelude.{List, [], ◌∷◌, ◌++◌, map}
use Rattle.fort_tree.specs.declared.stmt.Arm as tree_arm
use Rattle.fort_tree.specs.declared.stmt.Case as tree_case
use Rattle.fort_tree.specs.declared.stmt.Stmt.TheFolds.{fold-Arm, fold-Case}
use Rattle.sound_programs.specs.Placed.{Stmt, Assign, Call, If, Select, Do, Block, Piece, Exit, Cycle, Return, Stmts, Done, Then, Arms, No_arm, Arm, Cases, No_case, Case, Otherwise, Nothing_else, Else}
use Rattle.sound_programs.specs.Placing.{arm_step, arms_of, case_step, cases_of, stmt_step}
use Rattle.sound_programs.specs.Walks.{Step, Assigns, Calls, Tests, Chooses, Repeats, ranges_of}

abbrev pub arm_placed : tree_arm.Arm → Arms → Arms
arm_placed = fold-Arm Stmt (Arms → Arms) (Cases → Cases) stmt_step arm_step case_step

abbrev pub arms_placed : List tree_arm.Arm → Arms
arms_placed arms = arms_of (map arm_placed arms)

abbrev pub case_placed : tree_case.Case → Cases → Cases
case_placed = fold-Case Stmt (Arms → Arms) (Cases → Cases) stmt_step arm_step case_step

abbrev pub cases_placed : List tree_case.Case → Cases
cases_placed cases = cases_of (map case_placed cases)

abbrev mutual
  pub acts : Stmt → List Step
  acts (Assign at left right) = Assigns left right ∷ []
  acts (Call at name args forward) = Calls name args ∷ []
  acts (If at arms other) = acts_in_arms arms ++ acts_in_otherwise other
  acts (Select at on cases other) = Chooses on (ranges_of cases) ∷ (acts_in_cases cases ++ acts_in_otherwise other)
  acts (Do at head body mark) = Repeats head mark ∷ acts_in body
  acts (Block at mark body) = acts_in body
  acts (Piece body) = acts_in body
  acts (Exit at) = []
  acts (Cycle at) = []
  acts (Return at) = []

  pub acts_in : Stmts → List Step
  acts_in Done = []
  acts_in (Then s rest) = acts s ++ acts_in rest

  pub acts_in_arms : Arms → List Step
  acts_in_arms No_arm = []
  acts_in_arms (Arm test body rest) = Tests test ∷ (acts_in body ++ acts_in_arms rest)

  pub acts_in_cases : Cases → List Step
  acts_in_cases No_case = []
  acts_in_cases (Case ranges body rest) = acts_in body ++ acts_in_cases rest

  pub acts_in_otherwise : Otherwise → List Step
  acts_in_otherwise Nothing_else = []
  acts_in_otherwise (Else body) = acts_in body
