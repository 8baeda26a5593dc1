use Rattle.courses.proofs.Column_calls.{lockstep_call}
use Rattle.courses.proofs.columns.column_calls.Goals as goal

pub returns : goal.returns
returns c = λ k l vary cols pre deep deep' mid post f f' vs xs es xs' es' m g g' h. lockstep_call vary cols pre deep deep' mid post f f' vs xs es xs' es' m g g' h
