use Rattle.courses.proofs.Column_loops.{lockstep_columns, steps_apart}
use Rattle.courses.proofs.columns.column_loops.Goals as goal

pub returns-clause-lockstep : goal.returns-clause-lockstep
returns-clause-lockstep c = λ k vary low own answer step r rest are. lockstep_columns vary low own answer step r rest are

pub returns-clause-apart : goal.returns-clause-apart
returns-clause-apart c = λ k vary low own answer step r rest are. steps_apart vary low own answer step r rest are
