use Rattle.std.proofs.Common.{◌≡◌, drop}
use Rattle.claw_meaning.specs.Plain.{plain_stmts}
use Rattle.plain_units.specs.PlainArms.{plain_arms, plain_cases}
use Rattle.column_rules.specs.Rules.{never_return, arms_never_return, cases_never_return}
use Rattle.column_rules.proofs.returns.«+returns».Given as goal

abbrev pub invariant-never_return-loop-stmt : goal.invariant-never_return-loop-stmt
invariant-never_return-loop-stmt l = never_return (plain_stmts (drop l.stmt-index l.body)) ≡ never_return (plain_stmts l.body)

abbrev pub invariant-arms_never_return-loop-arm : goal.invariant-arms_never_return-loop-arm
invariant-arms_never_return-loop-arm l = arms_never_return (plain_arms (drop l.arm-index l.arms)) ≡ arms_never_return (plain_arms l.arms)

abbrev pub invariant-cases_never_return-loop-case : goal.invariant-cases_never_return-loop-case
invariant-cases_never_return-loop-case l = cases_never_return (plain_cases (drop l.case-index l.cases)) ≡ cases_never_return (plain_cases l.cases)
