use Rattle.std.proofs.Common.{◌≡◌, drop}
use Rattle.claw_meaning.specs.Plain.{plain_stmts}
use Rattle.plain_units.specs.PlainArms.{plain_arms, plain_cases}
use Rattle.plain_units.specs.Undirected.{are_undirected, arms_undirected, cases_undirected}
use Rattle.plain_units.proofs.undirected.«+undirected».Given as goal

abbrev pub invariant-are_undirected-loop-stmt : goal.invariant-are_undirected-loop-stmt
invariant-are_undirected-loop-stmt l = are_undirected (plain_stmts (drop l.stmt-index l.body)) ≡ are_undirected (plain_stmts l.body)

abbrev pub invariant-arms_are_free-loop-arm : goal.invariant-arms_are_free-loop-arm
invariant-arms_are_free-loop-arm l = arms_undirected (plain_arms (drop l.arm-index l.arms)) ≡ arms_undirected (plain_arms l.arms)

abbrev pub invariant-cases_are_free-loop-case : goal.invariant-cases_are_free-loop-case
invariant-cases_are_free-loop-case l = cases_undirected (plain_cases (drop l.case-index l.cases)) ≡ cases_undirected (plain_cases l.cases)
