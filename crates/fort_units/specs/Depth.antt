-- How deep constructs and blocks stand in one another.
use Rattle.std.specs.Prelude.{ℕ, ◌+◌, max, List, [], ◌∷◌}
use Rattle.claw_meaning.specs.Syntax as plain

abbrev mutual
  -- An IF with all its arms is one construct, on one line or on several, and so is a SELECT with all its cases.
  pub stmt_depth : plain.Stmt → ℕ
  stmt_depth (plain.If arms other) = max (arms_depth arms) (other_depth other) + 1
  stmt_depth (plain.Select on cases other) = max (cases_depth cases) (other_depth other) + 1
  stmt_depth (plain.Do head body mark) = stmts_depth body + 1
  stmt_depth (plain.Block mark body) = stmts_depth body + 1
  stmt_depth (plain.Piece body) = stmts_depth body
  stmt_depth simple = 0

  pub stmts_depth : plain.Stmts → ℕ
  stmts_depth plain.Done = 0
  stmts_depth (plain.Then s rest) = max (stmt_depth s) (stmts_depth rest)

  pub arms_depth : plain.Arms → ℕ
  arms_depth plain.No_arm = 0
  arms_depth (plain.Arm test body rest) = max (stmts_depth body) (arms_depth rest)

  pub cases_depth : plain.Cases → ℕ
  cases_depth plain.No_case = 0
  cases_depth (plain.Case ranges body rest) = max (stmts_depth body) (cases_depth rest)

  pub other_depth : plain.Otherwise → ℕ
  other_depth plain.Nothing_else = 0
  other_depth (plain.Else body) = stmts_depth body

-- that of the deepest unit
abbrev pub units_depth : List plain.Unit → ℕ
units_depth [] = 0
units_depth (u ∷ us) = max (stmts_depth u.body) (units_depth us)

abbrev pub program_depth : plain.Program → ℕ
program_depth program = units_depth program.units
