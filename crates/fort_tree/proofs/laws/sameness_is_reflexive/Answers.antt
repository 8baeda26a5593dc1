use Rattle.fort_tree.proofs.SameLaws.{same_expr-refl}
use Rattle.fort_tree.proofs.laws.sameness_is_reflexive.Goals as goal

pub returns : goal.returns
returns c = same_expr-refl
