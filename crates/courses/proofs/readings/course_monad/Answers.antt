use Rattle.courses.proofs.Sequences.{and_then_give, and_then_then}
use Rattle.courses.proofs.readings.course_monad.Goals as goal

pub returns-clause-unit : goal.returns-clause-unit
returns-clause-unit c = λ k q. and_then_give q

pub returns-clause-associative : goal.returns-clause-associative
returns-clause-associative c = λ k l m q f g. and_then_then q f g
