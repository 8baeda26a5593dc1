use Rattle.column_scalars.proofs.Unmarked.{unmarked_runs, apart_runs}
use Rattle.column_scalars.proofs.units.runs_no_marked_loop.Goals as goal

-- src/units.rt
pub returns-clause-loops : goal.returns-clause-loops
returns-clause-loops c = unmarked_runs

pub returns-clause-apart : goal.returns-clause-apart
returns-clause-apart c = apart_runs
