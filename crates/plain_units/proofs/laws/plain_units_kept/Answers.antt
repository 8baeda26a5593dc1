use Rattle.plain_units.proofs.Running.{plain_does}
use Rattle.plain_units.proofs.laws.plain_units_kept.Goals as goal

-- src/laws.rt
pub returns-clause-kept : goal.returns-clause-kept
returns-clause-kept c s t h are i u v a b k plan frame = (plain_does s t h are i u v a b k plan frame).0

pub returns-clause-apart : goal.returns-clause-apart
returns-clause-apart c s t h are i u v a b k plan frame = (plain_does s t h are i u v a b k plan frame).1
