use Rattle.courses.proofs.Sequences.{woven_line_then, loop_runs_then}
use Rattle.courses.proofs.readings.courses_in_sequence.Goals as goal

pub returns-clause-woven : goal.returns-clause-woven
returns-clause-woven c = λ k l q g ks. woven_line_then q g ks

pub returns-clause-loop_runs : goal.returns-clause-loop_runs
returns-clause-loop_runs c = λ k l q g o s j. loop_runs_then q g o s j
