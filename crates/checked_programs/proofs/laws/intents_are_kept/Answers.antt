use Rattle.checked_programs.proofs.RulesKept.{intents_are_kept}
use Rattle.checked_programs.proofs.laws.intents_are_kept.Goals as goal

-- src/laws.rt
pub returns : goal.returns
returns c = intents_are_kept
