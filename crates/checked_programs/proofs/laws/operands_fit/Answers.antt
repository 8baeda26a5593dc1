use Rattle.checked_programs.proofs.KindsFit.{kinds_fit}
use Rattle.checked_programs.proofs.RanksFit.{ranks_fit}
use Rattle.checked_programs.proofs.laws.operands_fit.Goals as goal

-- src/laws.rt
pub returns-clause-kinds : goal.returns-clause-kinds
returns-clause-kinds c = kinds_fit

pub returns-clause-ranks : goal.returns-clause-ranks
returns-clause-ranks c = ranks_fit
