-- Units without directives: no line before the first statement, no CALL under `parallelize forward`, no loop with a
-- directive or mark, and no block or group of one.
use Rattle.std.specs.Prelude.{◌≡◌, [], Bool, true, false, ◌&&◌, not, is_none}
use Rattle.claw_meaning.specs.Syntax.{Stmt, Assign, Call, If, Select, Do, Block, Piece, Exit, Cycle, Return, Stmts, Done, Then, Arms, No_arm, Arm, Cases, No_case, Case, Otherwise, Nothing_else, Else, Unit}

abbrev mutual
  pub is_undirected : Stmt → Bool
  is_undirected (Assign left right) = true
  is_undirected (Call x args forward) = not forward
  is_undirected (If arms other) = arms_undirected arms && otherwise_undirected other
  is_undirected (Select e cases other) = cases_undirected cases && otherwise_undirected other
  is_undirected (Do h body mark) = is_none mark && are_undirected body
  is_undirected (Block d body) = false
  is_undirected (Piece body) = false
  is_undirected Exit = true
  is_undirected Cycle = true
  is_undirected Return = true

  pub are_undirected : Stmts → Bool
  are_undirected Done = true
  are_undirected (Then s rest) = is_undirected s && are_undirected rest

  pub arms_undirected : Arms → Bool
  arms_undirected No_arm = true
  arms_undirected (Arm test body rest) = are_undirected body && arms_undirected rest

  pub cases_undirected : Cases → Bool
  cases_undirected No_case = true
  cases_undirected (Case ranges body rest) = are_undirected body && cases_undirected rest

  pub otherwise_undirected : Otherwise → Bool
  otherwise_undirected Nothing_else = true
  otherwise_undirected (Else body) = are_undirected body

abbrev pub IsUndirected : Unit → Type 0
IsUndirected u = (u.marks ≡ []) × (are_undirected u.body ≡ true)
