use Rattle.checked_programs.proofs.KindsFit.{kinds_are_known}
use Rattle.checked_programs.proofs.laws.kinds_are_known.Goals as goal

-- src/laws.rt
pub returns : goal.returns
returns c = kinds_are_known
