use Rattle.courses.proofs.Lockstep_laws.{lockstep_bind}
use Rattle.courses.proofs.columns.columns_in_sequence.Goals as goal

pub returns : goal.returns
returns c = λ k l vary cols pre mid post r q f g h t. lockstep_bind vary cols pre mid post r q f g h t
