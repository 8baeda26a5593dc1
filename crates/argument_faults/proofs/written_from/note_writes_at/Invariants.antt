use Rattle.std.proofs.Common.{◌≡◌, drop}
use Rattle.fort_names.specs.Leasts.{noted}
use Rattle.argument_faults.specs.Reaching.{faults_at}
use Rattle.argument_faults.proofs.written_from.note_writes_at.Given as goal

abbrev pub invariant-loop-number : goal.invariant-loop-number
invariant-loop-number l = noted (faults_at l.writes (drop l.number-index l.numbers)) l.least ≡ noted (faults_at l.fn.writes l.fn.numbers) l.fn.least
