use Rattle.checked_programs.proofs.RulesKept.{written_actuals_are_alone}
use Rattle.checked_programs.proofs.laws.written_actuals_are_alone.Goals as goal

-- src/laws.rt
pub returns : goal.returns
returns c = written_actuals_are_alone
