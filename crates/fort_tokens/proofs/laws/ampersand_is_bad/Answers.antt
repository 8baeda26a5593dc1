use Rattle.fort_tokens.proofs.Holding.{amp-bad, bad-stays}
use Rattle.fort_tokens.proofs.laws.ampersand_is_bad.Goals as goal

pub returns-clause-bad : goal.returns-clause-bad
returns-clause-bad c reading d e = amp-bad reading d e

pub returns-clause-stays : goal.returns-clause-stays
returns-clause-stays c reading d h = bad-stays reading d h
