use Rattle.checked_programs.proofs.RulesKept.{arguments_match}
use Rattle.checked_programs.proofs.laws.arguments_match.Goals as goal

-- src/laws.rt
pub returns : goal.returns
returns c = arguments_match
