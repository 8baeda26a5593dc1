use Rattle.courses.proofs.Monad.{bind_done, bind_bind}
use Rattle.courses.proofs.trees.monad_laws.Goals as goal

pub returns-clause-unit : goal.returns-clause-unit
returns-clause-unit c = λ k r. bind_done r

pub returns-clause-associative : goal.returns-clause-associative
returns-clause-associative c = λ k l m r f g. bind_bind r f g
