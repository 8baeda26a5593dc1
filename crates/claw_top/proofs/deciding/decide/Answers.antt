use Rattle.claw_top.proofs.deciding.decide.Goals as goal

-- src/deciding.rt
pub returns-in-Err-clause-cause : goal.returns-in-Err-clause-cause
returns-in-Err-clause-cause g c = c.in-Err.ensures.refused c.args.command
