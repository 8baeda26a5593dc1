-- The arms of an IF and of a SELECT as plain trees.
use Rattle.std.specs.Prelude.{List, map}
use Rattle.fort_tree.specs.declared.stmt.Arm.{Arm}
use Rattle.fort_tree.specs.declared.stmt.Case.{Case}
use Rattle.fort_tree.specs.declared.stmt.Stmt.TheFolds.{fold-Arm, fold-Case}
use Rattle.claw_meaning.specs.Syntax as plain
use Rattle.claw_meaning.specs.Plain.{stmt_step, arm_step, case_step, arms_of, cases_of}

abbrev pub plain_arms : List Arm → plain.Arms
plain_arms arms = arms_of (map (fold-Arm plain.Stmt (plain.Arms → plain.Arms) (plain.Cases → plain.Cases) stmt_step arm_step case_step) arms)

abbrev pub plain_cases : List Case → plain.Cases
plain_cases cases = cases_of (map (fold-Case plain.Stmt (plain.Arms → plain.Arms) (plain.Cases → plain.Cases) stmt_step arm_step case_step) cases)
