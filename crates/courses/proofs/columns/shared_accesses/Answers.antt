use Rattle.courses.proofs.Lockstep_steps.{lockstep_read, lockstep_write}
use Rattle.courses.proofs.columns.shared_accesses.Goals as goal

pub returns-clause-read : goal.returns-clause-read
returns-clause-read c = λ k vary cols pre post e f g sh h. lockstep_read vary cols pre post e f g sh h

pub returns-clause-write : goal.returns-clause-write
returns-clause-write c = λ k vary cols pre mid post e v r q sh here other h. lockstep_write vary cols pre mid post e v r q sh here other h
