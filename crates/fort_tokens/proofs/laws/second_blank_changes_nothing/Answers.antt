use Rattle.fort_tokens.proofs.Holding.{blank-twice}
use Rattle.fort_tokens.proofs.laws.second_blank_changes_nothing.Goals as goal

pub returns : goal.returns
returns c reading first second e f = blank-twice reading first second e f
