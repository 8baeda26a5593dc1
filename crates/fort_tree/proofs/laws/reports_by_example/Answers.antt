use Rattle.std.proofs.Common.{refl}
use Rattle.std.specs.Fmt.{digits}
use Rattle.fort_tree.proofs.laws.reports_by_example.Goals as goal

pub returns-clause-plain : goal.returns-clause-plain
unfolding digits
returns-clause-plain c = refl

pub returns-clause-item : goal.returns-clause-item
unfolding digits
returns-clause-item c = refl

pub returns-clause-clash : goal.returns-clause-clash
unfolding digits
returns-clause-clash c = refl
