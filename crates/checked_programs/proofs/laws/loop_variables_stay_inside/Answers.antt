use Rattle.checked_programs.proofs.RulesKept.{loop_variables_stay_inside}
use Rattle.checked_programs.proofs.laws.loop_variables_stay_inside.Goals as goal

-- src/laws.rt
pub returns : goal.returns
returns c = loop_variables_stay_inside
