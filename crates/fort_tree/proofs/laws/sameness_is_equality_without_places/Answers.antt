use Rattle.fort_tree.proofs.SameLaws.{same_expr-unplaced}
use Rattle.fort_tree.proofs.laws.sameness_is_equality_without_places.Goals as goal

pub returns : goal.returns
returns c = same_expr-unplaced
