use Rattle.courses.proofs.Marked_columns.{lockstep_marked, marked_orderly}
use Rattle.courses.proofs.columns.marked_columns.Goals as goal

pub returns-clause-lockstep : goal.returns-clause-lockstep
returns-clause-lockstep c = λ vary id es low q r is know shared hidden n k m. lockstep_marked id es vary low q r is know shared hidden n k m

pub returns-clause-orderly : goal.returns-clause-orderly
returns-clause-orderly c = λ vary id es low q r is n h. marked_orderly id es vary low q r is n h
