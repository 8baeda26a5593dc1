use Rattle.fort_stmt.proofs.Nested.{parentheses-count}
use Rattle.fort_stmt.proofs.limits.parentheses_count.Goals as goal

pub returns : goal.returns
returns c = parentheses-count
