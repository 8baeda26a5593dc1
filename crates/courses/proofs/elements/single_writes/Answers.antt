use Rattle.courses.proofs.Stores.{put-same, put-other}
use Rattle.courses.proofs.elements.single_writes.Goals as goal

pub returns-clause-same : goal.returns-clause-same
returns-clause-same c = put-same

pub returns-clause-other : goal.returns-clause-other
returns-clause-other c = put-other
