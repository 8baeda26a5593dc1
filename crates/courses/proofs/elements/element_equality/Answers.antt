use Rattle.courses.proofs.Stores.{same_element-decides, same_element-equivalence}
use Rattle.courses.proofs.elements.element_equality.Goals as goal

pub returns-clause-decides : goal.returns-clause-decides
returns-clause-decides c = same_element-decides

pub returns-clause-equivalence : goal.returns-clause-equivalence
returns-clause-equivalence c = same_element-equivalence
